use Rattle.std.proofs.Common.{◌≡◌, ℕ, suc, ◌+◌, List, ◌∷◌, map, drop, ap, subst, ◌∙◌, arith}
use Rattle.std.specs.Prelude.{◌&&◌}
use Rattle.nv_rpc.specs.Messages.{Sent}
use Rattle.nv_rpc.specs.MessageView.{sent_of}
use Rattle.nv_rpc.specs.declared.message.Message.{Message}
use Rattle.nv_watch.specs.Folds.{do_fit}
use Rattle.nv_watch.specs.inside.Mirroring.{mirror_in, mirrors_for}
use Rattle.nv_watch.proofs.Handles.{rest_here}
use Rattle.nv_watch.proofs.Mirrored.{fits_more, after_more}
use Rattle.nv_watch.proofs.followed.take_each.Goals as goal

pub loop-message-preserved : goal.loop-message-preserved
loop-message-preserved c =
    let i : ℕ = c.loop-message.message-index in
    let old = c.loop-message.all.items in
    let new = c.take.new.all.items in
    let messages : List Message = c.args.messages.now in
    let message : Sent = sent_of c.message-item.result in
    let later : List Sent = map sent_of (drop (i + 1) messages) in
    let here : map sent_of (drop i messages) ≡ message ∷ later =
    ap (map sent_of) (rest_here messages i c.message-item.result (omega arith) c.message-item.is
    ∙ ap (λ (j : ℕ). c.message-item.result ∷ drop j messages) (let e : suc i ≡ i + 1 = omega arith in e)) in
    record {
      fits =
          fits_more old new c.args.session message later c.loop-message.fit c.in_ok-fits.fits c.both-fit.result _ c.in_ok-fits.ensures.fits c.in_ok-fits.ensures.after
          c.both-fit.ensures
          (subst (λ (ms : List Sent). (c.loop-message.fit && do_fit (mirror_in old c.args.session) ms) ≡ do_fit (mirror_in c.args.all.now.items c.args.session) (map sent_of messages))
          here c.loop-message.invariant.fits);
      after = λ s n.
          after_more old new c.args.session message later s n _ c.in_ok-fits.ensures.after
          (subst (λ (ms : List Sent). mirrors_for c.args.session s (mirror_in old s) ms n ≡ mirrors_for c.args.session s (mirror_in c.args.all.now.items s) (map sent_of messages) n)
          here (c.loop-message.invariant.after s n));
      apart = λ apart. c.in_ok-fits.ensures.apart (c.loop-message.invariant.apart apart);
      shares = λ texts h. c.in_ok-fits.ensures.shares texts (c.loop-message.invariant.shares texts h);
    }
