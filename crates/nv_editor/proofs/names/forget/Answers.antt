use Rattle.nv_editor.proofs.NamesKept.{number_taken}
use Rattle.nv_editor.proofs.names.forget.Goals as goal

pub returns : goal.returns
returns c x = number_taken c.args.counts.now c.remove.new.self c.args.name.now c.remove.ensures.entries c.remove.ensures.updates.1 x
