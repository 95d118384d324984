use Rattle.std.proofs.Common.{◌≡◌, ◌+◌, true, w64, ◌∙◌, ap, sym, subst}
use Rattle.std.proofs.lemmas.Int.{to_z-of_z}
use mir.Val.{to_z, of_z}
use Rattle.std.specs.Option.{option_map}
use Rattle.nv_layout.specs.Content.{shape_of, shapes_of}
use Rattle.nv_layout.specs.Changes.{holds, append, close}
use Rattle.nv_layout.specs.inside.Paths.{LeadsTo}
use Rattle.nv_layout.proofs.Rebuilt.{slice_rest, closed_all}
use Rattle.nv_layout.proofs.+closed.Goals as goal

pub changes::closed_among-returns : goal.changes::closed_among-returns
changes::closed_among-returns t c =
    let same : to_z w64 (of_z w64 c.args.window) ≡ c.args.window = to_z-of_z w64 c.args.window c.ranges.window in
    let way : LeadsTo c.args.window c.args.trees.now c.way_on-place.result.0 c.way_on-place.result.1.now = subst (λ w. LeadsTo w c.args.trees.now c.way_on-place.result.0 c.way_on-place.result.1.now) same c.way_on-place.ensures in
    closed_all c.args.axis c.args.window c.args.trees.now c.way_on-place.result.0 c.index-trees-place.result way.within c.index-trees-place.is way.before
    (subst (λ t. holds c.args.window (shape_of t) ≡ true) (sym c.index-trees-place.is) (way.here c.index-trees-place.result))
    (shapes_of c.in_ok-all.all.items) (shapes_of c.put_left.new.all.items) (shapes_of c.push_copies.new.all.items) c.in_ok-all.ensures (option_map shape_of c.in_ok-left.left) (subst (λ w. option_map shape_of c.in_ok-left.left ≡ close w (shape_of c.index-trees-place.result)) same c.in_ok-left.ensures)
    c.in_ok-put_left.ensures
    (c.in_ok-push_copies.ensures ∙ ap (λ ts. append (shapes_of c.put_left.new.all.items) (shapes_of ts)) (slice_rest c.args.trees.now (c.way_on-place.result.0 + 1)))
