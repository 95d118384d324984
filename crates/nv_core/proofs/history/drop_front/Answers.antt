use Rattle.std.proofs.Common.{◌-◌, List, ap, ◌∙◌, take, arith}
use Rattle.nv_core.specs.declared.entry.Entry.{Entry}
use Rattle.nv_core.proofs.Shedding.{turned_front}
use Rattle.nv_core.proofs.history.drop_front.Goals as goal

pub returns-clause-items : goal.returns-clause-items
returns-clause-items c =
    c.truncate.ensures.items
    ∙ ap (λ (l : List Entry). take (c.len.result - c.args.count) l) c.rotate_left.ensures.items
    ∙ turned_front c.len.result c.args.count c.args.entries.now.items (omega (arith, c.len.ensures, c.args.entries.now.ok.0)) (omega (arith, c.len.ensures, c.requires))
