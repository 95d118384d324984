use Rattle.std.proofs.Common.{◌∙◌}
use Rattle.nv_buffer.proofs.Reaches.{counted}
use Rattle.nv_buffer.proofs.reaching.flat_len_of.Goals as goal

pub returns : goal.returns
returns c = c.unwrap_or.ensures ∙ counted c.flat_len.result c.args.lines.now c.flat_len.ensures c.requires.count c.requires.columns
