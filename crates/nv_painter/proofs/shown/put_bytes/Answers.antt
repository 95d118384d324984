use Rattle.std.proofs.Common.{◌≡◌, ◌≤◌, ◌<◌, ◌+◌, ◌∷◌, ◌∙◌, [], Some, ap, arith, drop, length, length-set, refl, sym, take}
use Rattle.nv_linegrid.specs.Client.{Shown, row_with, shown_of}
use Rattle.nv_painter.specs.inside.Plain.{byte_shown, plain_shown}
use Rattle.nv_painter.proofs.DueLemmas.{put_none, put_step}
use Rattle.nv_painter.proofs.PlainLemmas.{front_end, front_next, front_part}
use Rattle.nv_painter.proofs.shown.put_bytes.Goals as goal

pub loop-k-init : goal.loop-k-init
loop-k-init c width le fits = (fits, refl)

pub loop-k-preserved : goal.loop-k-preserved
loop-k-preserved c width le fits =
    let at = c.loop-k in
    let row = at.row.items in
    let bytes = c.args.bytes.now in
    let rest = drop (at.k + 1) (take c.args.end (plain_shown width bytes)) in
    let held = at.invariant width le fits in
    let shown : c.new.result ≡ byte_shown c.byte_at.result = c.new.ensures ∙ ap (λ t. shown_of t 0) c.from_byte.ensures in
    let next : drop at.k (take c.args.end (plain_shown width bytes)) ≡ c.new.result ∷ rest =
    front_next width bytes c.args.end at.k c.loop-k-test.true le ∙ ap (λ (s : Shown). s ∷ rest) (ap byte_shown (sym c.byte_at.ensures) ∙ sym shown) in (
      omega (arith, length-set row at.k (Some c.new.result), held.0),
      put_step row at.k c.new.result rest (omega (arith, c.loop-k-test.true, held.0)) ∙ ap (row_with row at.k) (sym next) ∙ held.1,
    )

pub returns : goal.returns
returns c width le fits =
    let at = c.loop-k in
    let row = at.row.items in
    let bytes = c.args.bytes.now in
    let past : c.args.end ≤ at.k = omega (arith, c.loop-k-test.false) in
    sym (put_none row at.k) ∙ ap (row_with row at.k) (sym (front_end width bytes c.args.end at.k past))
    ∙ (at.invariant width le fits).1
    ∙ ap (row_with c.args.row.now.items c.args.first) (front_part width bytes c.args.first c.args.end c.requires)
