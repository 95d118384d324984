use Rattle.std.proofs.Common.{ℕ, ◌-◌, ◌∙◌, ap}
use Rattle.nv_buffer.proofs.Reaches.{reach_joined}
use Rattle.nv_buffer.proofs.reaching.joined_reach.Goals as goal

pub returns : goal.returns
returns c =
    reach_joined c.args.lines.now (c.len.result - 1) c.last_len-cols.result c.requires.some c.len.ensures.lines
    (ap (λ (n : ℕ). n - 1) c.len.ensures.value) c.last_len-cols.ensures
