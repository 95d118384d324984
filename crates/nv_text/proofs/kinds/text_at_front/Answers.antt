use Rattle.std.proofs.Common.{arith}
use Rattle.std.proofs.lemmas.Str.{utf8_valid_len_le}
use Rattle.nv_text.proofs.kinds.text_at_front.Goals as goal

pub returns-in-None-clause-len : goal.returns-in-None-clause-len
returns-in-None-clause-len c = omega (arith, utf8_valid_len_le c.args.bytes.now, c.in-None.ensures.steps.0, c.utf8_chunks.ensures.len)
