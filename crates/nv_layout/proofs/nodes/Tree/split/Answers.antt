use Rattle.std.proofs.Common.{◌≡◌, ◌∙◌, sym, subst, false, w64}
use Rattle.std.proofs.lemmas.Int.{to_z-of_z}
use Rattle.nv_layout.specs.Content.{shape_of}
use Rattle.nv_layout.specs.Changes.{holds}
use Rattle.nv_layout.proofs.Rebuilt.{split-missing}
use Rattle.nv_layout.proofs.nodes.Tree.split.Goals as goal

pub returns-then-not-holds-clause-ok : goal.returns-then-not-holds-clause-ok
returns-then-not-holds-clause-ok c =
    sym (split-missing c.args.side c.args.window c.args.new (shape_of c.args.self.now)
    (subst (λ w. holds w (shape_of c.args.self.now) ≡ false) (to_z-of_z w64 c.args.window c.ranges.window) (sym c.holds.ensures ∙ c.if-not-holds.true)))
