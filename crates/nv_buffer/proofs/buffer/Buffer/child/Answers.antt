use Rattle.std.proofs.Common.{◌≡◌, ℕ, Some, IfSome, subst}
use Rattle.nv_undo.specs.Tree.{parent_of}
use Rattle.nv_buffer.specs.Content.{Content}
use Rattle.nv_buffer.proofs.TreeAhead.{child_seen}
use Rattle.nv_buffer.proofs.buffer.Buffer.child.Goals as goal

pub returns-clause-child : goal.returns-clause-child
returns-clause-child c =
    subst (λ (b : Content). IfSome c.child.result (λ n. parent_of b.undo n ≡ Some b.undo.current)) c.self.view_is
    (child_seen c.child.result c.self.inside.tree c.child.ensures.child)
