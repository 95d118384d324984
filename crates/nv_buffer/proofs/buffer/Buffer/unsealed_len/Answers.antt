use Rattle.std.proofs.Common.{◌∙◌, length, ap, arith}
use Rattle.nv_buffer.specs.Changes.{text_at}
use Rattle.nv_buffer.specs.Content.{Content}
use Rattle.nv_buffer.specs.Steps.{tree_ahead}
use Rattle.nv_buffer.proofs.StepsAhead.{length-edits_ahead}
use Rattle.nv_buffer.proofs.buffer.Buffer.unsealed_len.Goals as goal

pub returns : goal.returns
returns c =
    let inside = c.self.inside in
    let count = length-edits_ahead (text_at (tree_ahead inside.tree) inside.tree.current) inside.unsealed.items in
    let seen = ap (λ (b : Content). length b.unsealed) c.self.view_is in
    omega (arith, c.len.ensures, count, seen)
