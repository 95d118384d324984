-- inside: what is known of the changes of a buffer.
use Rattle.std.specs.Prelude.{◌≡◌, ℕ, List, Some}
use Rattle.nv_undo.specs.Tree.{change_of}
use Rattle.nv_undo.specs.Ways.{origin}
use Rattle.nv_buffer.specs.Content.{Content}
use Rattle.nv_buffer.specs.Changes.{text_at}
use Rattle.nv_buffer.specs.declared.edit.Edit.{Edit}
use Rattle.nv_model.specs.Standing.{AreEditsOf, IsChangeOf}

-- each change that is kept, and the open one, is made of edits of its text
pub record AreKeptEdits (b : Content) : Type 0 where
  pub changes :
      (n : ℕ) (made : List Edit) → change_of b.undo n ≡ Some made
      → IsChangeOf (text_at b.undo (origin b.undo n)) made
  pub edits : AreEditsOf (text_at b.undo b.undo.current) b.unsealed
