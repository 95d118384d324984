use Rattle.std.proofs.Common.{◌≡◌, true, sym, rules}
use Rattle.nv_hl.specs.Attributes.{same_attr}
use Rattle.nv_painter.proofs.IdLemmas.{same_as_last}
use Rattle.nv_painter.proofs.ids.add_next.Goals as goal

pub returns-then-is_same_attr : goal.returns-then-is_same_attr
returns-then-is_same_attr c =
    let same : same_attr c.args.attr.now c.args.last.now ≡ true = search rules in
    sym (same_as_last c.args.attrs.now.items c.args.attr.now c.args.last.now same c.requires)
