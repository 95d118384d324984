use Rattle.std.proofs.Common.{◌≡◌, true, rules}
use Rattle.nv_hl.specs.Attributes.{same_attr}
use Rattle.nv_painter.proofs.SketchLemmas.{id_as_last}
use Rattle.nv_painter.proofs.ids.next_known_id.Goals as goal

pub returns-then-is_same_attr : goal.returns-then-is_same_attr
returns-then-is_same_attr c =
    let same : same_attr c.args.attr.now c.args.last.now ≡ true = search rules in
    id_as_last c.args.attrs.now c.args.attr.now c.args.last.now c.args.id same c.requires
