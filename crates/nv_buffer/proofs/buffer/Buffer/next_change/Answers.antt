use Rattle.std.proofs.Common.{ℕ, suc, ◌∙◌, ap, sym}
use Rattle.nv_undo.specs.Tree.{last}
use Rattle.nv_buffer.specs.Content.{Content}
use Rattle.nv_buffer.proofs.TreeAhead.{last-ahead}
use Rattle.nv_buffer.proofs.buffer.Buffer.next_change.Goals as goal

pub returns : goal.returns
returns c =
    c.next.ensures
    ∙ ap (λ (n : ℕ). suc n) (sym (last-ahead c.self.inside.tree) ∙ ap (λ (b : Content). last b.undo) c.self.view_is)
