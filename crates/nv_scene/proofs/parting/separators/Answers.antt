use Rattle.std.proofs.Common.{◌++◌, ◌∙◌, List, ap, subst, sym}
use Rattle.nv_layout.specs.Content.{shape_of}
use Rattle.nv_layout.specs.Places.{separators}
use Rattle.nv_layout.specs.declared.nodes.Placed.{Placed}
use Rattle.nv_layout.specs.declared.nodes.Rect.{Rect}
use Rattle.nv_scene.specs.Separators.{AreWindowsOf, spanned_area}
use Rattle.nv_scene.specs.inside.Parting.{windows_within}
use Rattle.nv_scene.proofs.Parted.{all_within}
use Rattle.nv_scene.proofs.parting.separators.Goals as goal

pub push_separators-requires : goal.push_separators-requires
push_separators-requires c =
    subst (AreWindowsOf (shape_of c.args.tree.now)) (sym (all_within (shape_of c.args.tree.now) c.args.placed.now c.requires)) c.requires

pub returns : goal.returns
returns c =
    c.in_ok-push_separators.ensures.found
    ∙ ap (λ (rs : List Rect). rs ++ separators (shape_of c.args.tree.now) (spanned_area (windows_within (shape_of c.args.tree.now) c.args.placed.now))) c.new-found.ensures.items
    ∙ ap (λ (ps : List Placed). separators (shape_of c.args.tree.now) (spanned_area ps)) (all_within (shape_of c.args.tree.now) c.args.placed.now c.requires)
