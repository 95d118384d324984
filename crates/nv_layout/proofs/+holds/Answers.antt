use Rattle.std.proofs.Common.{◌≡◌, ◌∙◌, ap, sym, length, nat_lt, subst, take, get_or, true, false, w64, arith}
use Rattle.std.proofs.lemmas.Int.{to_z-of_z}
use mir.Val.{to_z, of_z}
use Rattle.nv_layout.specs.Content.{shape_of, shapes_of}
use Rattle.nv_layout.specs.Changes.{holds, holds_among}
use Rattle.nv_layout.proofs.Contents.{shape_of-Row, shape_of-Column}
use Rattle.nv_layout.proofs.Rebuilt.{none_before, holds_by_place}
use Rattle.nv_layout.proofs.+holds.Goals as goal

pub changes::place_of-loop-place-preserved : goal.changes::place_of-loop-place-preserved
changes::place_of-loop-place-preserved t c =
    none_before _ c.args.trees.now c.loop-place.place c.index-trees-place.result c.loop-place-test.true c.index-trees-place.is c.loop-place.invariant (sym c.holds.ensures ∙ c.if-holds.false)

pub nodes::Tree::holds-returns-in-Row : goal.nodes::Tree::holds-returns-in-Row
nodes::Tree::holds-returns-in-Row t c =
    let same : to_z w64 (of_z w64 c.args.window) ≡ c.args.window = to_z-of_z w64 c.args.window c.ranges.window in
    let count : c.len.result ≡ length c.deref.result.now = omega (arith, c.len.ensures, c.in-Row.trees.ok.0, ap length c.deref.ensures.value) in
    ap (nat_lt c.place_of.result) count
    ∙ holds_by_place c.args.window c.deref.result.now c.place_of.result
    (subst (λ w. holds_among w (shapes_of (take c.place_of.result c.deref.result.now)) ≡ false) same c.place_of.ensures.before)
    (λ d h. subst (λ w. holds w (shape_of (get_or c.deref.result.now c.place_of.result d)) ≡ true) same (c.place_of.ensures.here d h))
    ∙ ap (λ ts. holds_among c.args.window (shapes_of ts)) c.deref.ensures.value
    ∙ sym (ap (holds c.args.window) (ap shape_of c.in-Row.is ∙ shape_of-Row c.in-Row.trees))

pub nodes::Tree::holds-returns-in-Column : goal.nodes::Tree::holds-returns-in-Column
nodes::Tree::holds-returns-in-Column t c =
    let same : to_z w64 (of_z w64 c.args.window) ≡ c.args.window = to_z-of_z w64 c.args.window c.ranges.window in
    let count : c.len-in-Column.result ≡ length c.deref-in-Column.result.now = omega (arith, c.len-in-Column.ensures, c.in-Column.trees.ok.0, ap length c.deref-in-Column.ensures.value) in
    ap (nat_lt c.place_of-in-Column.result) count
    ∙ holds_by_place c.args.window c.deref-in-Column.result.now c.place_of-in-Column.result
    (subst (λ w. holds_among w (shapes_of (take c.place_of-in-Column.result c.deref-in-Column.result.now)) ≡ false) same c.place_of-in-Column.ensures.before)
    (λ d h. subst (λ w. holds w (shape_of (get_or c.deref-in-Column.result.now c.place_of-in-Column.result d)) ≡ true) same (c.place_of-in-Column.ensures.here d h))
    ∙ ap (λ ts. holds_among c.args.window (shapes_of ts)) c.deref-in-Column.ensures.value
    ∙ sym (ap (holds c.args.window) (ap shape_of c.in-Column.is ∙ shape_of-Column c.in-Column.trees))
