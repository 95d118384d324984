use Rattle.std.proofs.Common.{◌≡◌, ◌+◌, true, w64, ◌∙◌, ap, sym, subst}
use Rattle.std.proofs.lemmas.Int.{to_z-of_z}
use mir.Val.{to_z, of_z}
use Rattle.nv_layout.specs.Content.{no_shapes, shape_of, shapes_of}
use Rattle.nv_layout.specs.Changes.{holds, append, put_opened, split}
use Rattle.nv_layout.specs.inside.Paths.{LeadsTo}
use Rattle.nv_layout.proofs.Rebuilt.{same_child, slice_rest, opened_all}
use Rattle.nv_layout.proofs.+opened.Goals as goal

pub changes::opened_among-returns : goal.changes::opened_among-returns
changes::opened_among-returns t c =
    let same : to_z w64 (of_z w64 c.args.window) ≡ c.args.window = to_z-of_z w64 c.args.window c.ranges.window in
    let way : LeadsTo c.args.window c.args.trees.now c.way_on-place.result.0 c.way_on-place.result.1.now = subst (λ w. LeadsTo w c.args.trees.now c.way_on-place.result.0 c.way_on-place.result.1.now) same c.way_on-place.ensures in
    opened_all c.args.axis c.args.window c.args.trees.now c.way_on-place.result.0 c.index-trees-place.result way.within c.index-trees-place.is way.before
    (subst (λ t. holds c.args.window (shape_of t) ≡ true) (sym c.index-trees-place.is) (way.here c.index-trees-place.result))
    (shapes_of c.in_ok-all.all.items) (shapes_of c.put_opened.new.all.items) (shapes_of c.push_copies.new.all.items) c.in_ok-all.ensures c.args.side c.args.new (shape_of c.in_ok-opened.opened) (subst (λ w. shape_of c.in_ok-opened.opened ≡ split c.args.side w c.args.new (shape_of c.index-trees-place.result)) same c.in_ok-opened.ensures)
    (c.in_ok-put_opened.ensures ∙ ap (λ t. append (shapes_of c.in_ok-all.all.items) (put_opened c.args.axis t (shape_of c.in_ok-opened.opened) no_shapes)) (same_child c.args.trees.now c.way_on-place.result.0 c.index-trees-place.result c.index-trees-place-2.result way.within c.index-trees-place.is c.index-trees-place-2.is))
    (c.in_ok-push_copies.ensures ∙ ap (λ ts. append (shapes_of c.put_opened.new.all.items) (shapes_of ts)) (slice_rest c.args.trees.now (c.way_on-place.result.0 + 1)))
