use Rattle.std.proofs.Common.{sym, arith}
use Rattle.nv_buffer.proofs.Costs.{cost_ahead_open}
use Rattle.nv_buffer.proofs.buffer.Buffer.cost_ahead.Goals as goal

pub returns-then-unsealed_len-gt0 : goal.returns-then-unsealed_len-gt0
returns-then-unsealed_len-gt0 c =
    sym (cost_ahead_open c.args.self.now c.known.ensures.buffer.tree (λ none. omega (arith, c.unsealed_len.ensures, none)))
