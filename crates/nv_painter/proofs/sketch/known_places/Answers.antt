use Rattle.std.proofs.Common.{◌≡◌, length, rules, subst}
use Rattle.nv_screen.specs.Drawing.{drawn_rows}
use Rattle.std.proofs.lemmas.List.{nil_from_length}
use Rattle.nv_painter.specs.inside.Lent.{AreLike, lent_rows, placed_rows}
use Rattle.nv_painter.proofs.LastLemmas.{stay_but}
use Rattle.nv_painter.proofs.sketch.known_places.Goals as goal

pub returns : goal.returns
returns c =
    let shifts = c.args.shifts.now in
    let known = c.in_ok-known.known.items in
    let before = c.in_ok-before.before.items in
    let drawn = c.args.drawn.now in
    let none : length shifts ≡ 0 = search rules in
    let like : AreLike known (placed_rows before) (lent_rows drawn) =
    subst (λ l. AreLike known (placed_rows l) (lent_rows drawn)) c.as_slice.ensures.value c.in_ok-known.ensures in
    stay_but shifts known (placed_rows before) (drawn_rows c.args.last.now) (lent_rows drawn) (nil_from_length shifts none) c.in_ok-before.ensures.lent like
