use Rattle.std.proofs.Common.{◌∙◌, ap, sym, arith}
use Rattle.std.specs.Prelude.{Some}
use Rattle.nv_layout.specs.Content.{shapes_of}
use Rattle.nv_layout.specs.Changes.{group_left}
use Rattle.nv_layout.specs.declared.nodes.Axis.TheVariants.{Across, Down}
use Rattle.nv_layout.proofs.Contents.{shape_of-Row, shape_of-Column}
use Rattle.nv_layout.proofs.Rebuilt.{group_left-many}
use Rattle.nv_layout.proofs.changes.regrouped.Goals as goal

pub returns-in-Across : goal.returns-in-Across
returns-in-Across c =
    ap Some (shape_of-Row c.args.trees)
    ∙ sym (ap (λ a. group_left a (shapes_of c.args.trees.items)) c.in-Across.is ∙ group_left-many Across c.args.trees.items (omega (arith, c.len.ensures, c.args.trees.ok.0)))

pub returns-in-Down : goal.returns-in-Down
returns-in-Down c =
    ap Some (shape_of-Column c.args.trees)
    ∙ sym (ap (λ a. group_left a (shapes_of c.args.trees.items)) c.in-Down.is ∙ group_left-many Down c.args.trees.items (omega (arith, c.len.ensures, c.args.trees.ok.0)))
