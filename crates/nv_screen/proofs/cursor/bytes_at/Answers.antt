use Rattle.std.proofs.Common.{◌∙◌, arith}
use Rattle.nv_screen.proofs.CursorLemmas.{bytes_past, bytes_there}
use Rattle.nv_screen.proofs.cursor.bytes_at.Goals as goal

pub returns-then-at-lines : goal.returns-then-at-lines
returns-then-at-lines c = bytes_past c.args.lines.now c.args.at (omega (arith, c.if-at-lines.true))

pub returns : goal.returns
returns c = c.as_slice.ensures.value ∙ bytes_there c.args.lines.now c.args.at c.index-lines-at.result c.if-at-lines.false
