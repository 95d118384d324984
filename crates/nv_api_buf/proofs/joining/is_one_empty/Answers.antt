use Rattle.std.proofs.Common.{◌∙◌, sym}
use Rattle.nv_buffer.proofs.Between.{one_empty}
use Rattle.nv_api_buf.proofs.joining.is_one_empty.Goals as goal

pub returns-then-len-eq1 : goal.returns-then-len-eq1
returns-then-len-eq1 c =
    one_empty c.args.lines.now c.in-Some.line.now _ c.in-Some.ensures (sym c.len.ensures.value ∙ c.if-len-eq1.true) c.is_empty.ensures
