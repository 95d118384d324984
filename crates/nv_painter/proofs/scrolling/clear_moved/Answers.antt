use Rattle.std.proofs.Common.{◌≡◌, ◌++◌, ◌∷◌, [], ◌&&◌, ◌∙◌, List, ap, false, leb, ltb, subst, sym, take}
use Rattle.std.proofs.lemmas.List.{take_more}
use Rattle.nv_linegrid.specs.Scrolls.{Shift}
use Rattle.nv_painter.specs.inside.Moving.{StaysIn}
use Rattle.nv_painter.proofs.MoveLemmas.{stays_push}
use Rattle.nv_painter.proofs.scrolling.clear_moved.Goals as goal

pub loop-shift-preserved : goal.loop-shift-preserved
loop-shift-preserved c j e =
    let at = c.loop-shift in
    let shifts = c.args.shifts.now in
    let k = at.shift-index in
    let shift = c.shift-item.result in
    let one = c.clear_rows.ensures j e in
    let was = at.invariant j one.0 in
    let more = take_more shifts k shift c.loop-shift-test.true ∙ ap (λ s. take k shifts ++ s ∷ []) (sym c.shift-item.is) in
    let out = subst (λ (s : Shift). (leb s.top j && ltb j s.bot) ≡ false) c.shift.view_is one.1 in
    (was.0, subst (λ (l : List Shift). StaysIn l j) (sym more) (stays_push (take k shifts) shift j was.1 out))
