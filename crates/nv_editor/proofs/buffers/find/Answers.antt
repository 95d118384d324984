use Rattle.std.proofs.Common.{rules}
use Rattle.nv_editor.proofs.Putting.{found_is}
use Rattle.nv_editor.proofs.buffers.find.Goals as goal

pub returns : goal.returns
returns c = found_is c.args.buffers.now.entries c.args.handle c.get.result (search rules) c.get.ensures.value
