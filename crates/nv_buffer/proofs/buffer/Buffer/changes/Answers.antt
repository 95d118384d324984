use Rattle.std.proofs.Common.{◌∙◌, ap, sym}
use Rattle.nv_undo.specs.Tree.{last}
use Rattle.nv_buffer.specs.Content.{Content}
use Rattle.nv_buffer.proofs.TreeAhead.{last-ahead}
use Rattle.nv_buffer.proofs.buffer.Buffer.changes.Goals as goal

pub returns : goal.returns
returns c = c.last.ensures.number ∙ sym (last-ahead c.self.inside.tree) ∙ ap (λ (b : Content). last b.undo) c.self.view_is
