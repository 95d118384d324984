use Rattle.std.proofs.Common.{◌≡◌, ℤ, true, false, [], take, refl, sym, ap, ◌∙◌, inl, inr, rules, w64, to_z, of_z}
use Rattle.nv_rpc.specs.MessageView.{sent_of}
use Rattle.nv_mirror.specs.Listings.{is_detach_of, is_lines_of}
use Rattle.nv_mirror.specs.inside.Steps.{known_of}
use Rattle.nv_mirror.proofs.Outs.{known_none}
use Rattle.nv_mirror.proofs.Values.{detach_stop, misfit_stop, fit_goes_on, mirror_then, known_then, none_due, text_then}
use Rattle.nv_mirror.proofs.lister.Lister.take_event.Goals as goal

pub returns-then-is_detach_of-clause-takes : goal.returns-then-is_detach_of-clause-takes
returns-then-is_detach_of-clause-takes g c =
    let k = known_of c.args.self.now in
    let sent = sent_of c.args.message.now in
    let e : to_z w64 (of_z w64 c.args.self.now.buffer) ≡ c.args.self.now.buffer = search rules in
    let there : is_detach_of c.args.self.now.buffer (sent_of c.args.message.now) ≡ true = ap (λ (b : ℤ). is_detach_of b sent) (sym e) ∙ sym c.is_detach_of.ensures ∙ c.if-is_detach_of.true in
    ([], known_none _, (detach_stop k sent c.requires.accepted there, refl))

pub returns-in_default-clause-takes : goal.returns-in_default-clause-takes
returns-in_default-clause-takes g c =
    ([], known_none _, inl refl)

pub returns-then-not-fits-clause-takes : goal.returns-then-not-fits-clause-takes
returns-then-not-fits-clause-takes g c =
    let k = known_of c.args.self.now in
    let sent = sent_of c.args.message.now in
    let e : to_z w64 (of_z w64 c.args.self.now.buffer) ≡ c.args.self.now.buffer = search rules in
    let away : is_detach_of c.args.self.now.buffer (sent_of c.args.message.now) ≡ false = ap (λ (b : ℤ). is_detach_of b sent) (sym e) ∙ sym c.is_detach_of.ensures ∙ c.if-is_detach_of.false in
    ([], known_none _, (misfit_stop k sent _ c.in-Ok.fits c.requires.accepted away c.requires.steady.follows c.in-Ok.ensures.fits c.if-not-fits.true, refl))

pub returns-then-not-is_lines_of-clause-takes : goal.returns-then-not-is_lines_of-clause-takes
returns-then-not-is_lines_of-clause-takes g c =
    let k = known_of c.args.self.now in
    let sent = sent_of c.args.message.now in
    let e : to_z w64 (of_z w64 c.args.self.now.buffer) ≡ c.args.self.now.buffer = search rules in
    let away : is_detach_of c.args.self.now.buffer (sent_of c.args.message.now) ≡ false = ap (λ (b : ℤ). is_detach_of b sent) (sym e) ∙ sym c.is_detach_of.ensures ∙ c.if-is_detach_of.false in
    let none : is_lines_of c.args.self.now.buffer (sent_of c.args.message.now) ≡ false = ap (λ (b : ℤ). is_lines_of b sent) (sym e) ∙ sym c.is_lines_of.ensures ∙ c.if-not-is_lines_of.true in
    let next = mirror_then k sent _ _ c.requires.steady.follows c.in-Ok.ensures.ok in (
      [],
      known_none _,
      (fit_goes_on k sent _ c.in-Ok.fits c.requires.accepted away c.requires.steady.follows c.in-Ok.ensures.fits c.if-not-fits.false, known_then k _ sent _ next refl, none_due k sent none),
    )

pub returns-then-not-list-clause-takes : goal.returns-then-not-list-clause-takes
returns-then-not-list-clause-takes g c =
    let k = known_of c.args.self.now in
    let sent = sent_of c.args.message.now in
    let e : to_z w64 (of_z w64 c.args.self.now.buffer) ≡ c.args.self.now.buffer = search rules in
    let away : is_detach_of c.args.self.now.buffer (sent_of c.args.message.now) ≡ false = ap (λ (b : ℤ). is_detach_of b sent) (sym e) ∙ sym c.is_detach_of.ensures ∙ c.if-is_detach_of.false in
    let there : is_lines_of c.args.self.now.buffer (sent_of c.args.message.now) ≡ true = ap (λ (b : ℤ). is_lines_of b sent) (sym e) ∙ sym c.is_lines_of.ensures ∙ c.if-not-is_lines_of.false in
    let text = text_then k sent _ (mirror_then k sent _ _ c.requires.steady.follows c.in-Ok.ensures.ok) there in
    let p = c.if-not-list.ensures.part in (
      _,
      p.2,
      inr (fit_goes_on k sent _ c.in-Ok.fits c.requires.accepted away c.requires.steady.follows c.in-Ok.ensures.fits c.if-not-fits.false, (p.0, ap (take p.0) text)),
    )

pub returns-clause-takes : goal.returns-clause-takes
returns-clause-takes g c =
    let k = known_of c.args.self.now in
    let sent = sent_of c.args.message.now in
    let e : to_z w64 (of_z w64 c.args.self.now.buffer) ≡ c.args.self.now.buffer = search rules in
    let away : is_detach_of c.args.self.now.buffer (sent_of c.args.message.now) ≡ false = ap (λ (b : ℤ). is_detach_of b sent) (sym e) ∙ sym c.is_detach_of.ensures ∙ c.if-is_detach_of.false in
    let there : is_lines_of c.args.self.now.buffer (sent_of c.args.message.now) ≡ true = ap (λ (b : ℤ). is_lines_of b sent) (sym e) ∙ sym c.is_lines_of.ensures ∙ c.if-not-is_lines_of.false in
    let next = mirror_then k sent _ _ c.requires.steady.follows c.in-Ok.ensures.ok in (
      _,
      c.if-not-list.ensures.all,
      (fit_goes_on k sent _ c.in-Ok.fits c.requires.accepted away c.requires.steady.follows c.in-Ok.ensures.fits c.if-not-fits.false, known_then k _ sent _ next refl, text_then k sent _ next there),
    )
