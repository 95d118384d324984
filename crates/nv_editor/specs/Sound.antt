-- What an editor is at every moment.
use Rattle.std.specs.Prelude.{◌≡◌, ℕ, ℤ, pos, ◌-◌, ◌<◌, ◌≤◌, ◌≤ℤ◌, ◌<ℤ◌, ◌+ℤ◌, List, [], length, map, All, IfSome, Option, Some, None, is_some, Bool, true}
use Rattle.nv_places.specs.Flat.{line_at}
use Rattle.nv_places.specs.declared.place.Pos.{Pos}
use Rattle.nv_marks.specs.declared.extmark.Mark.{Mark}
use Rattle.nv_buffer.specs.Content.{Content, fresh_content}
use Rattle.nv_hl.specs.Groups.{NamedGroup, HasGroup}
use Rattle.nv_windows.specs.Sound.{IsRisingFrom, IsSoundWorkspace}
use Rattle.nv_windows.specs.Rooms.{last_handle}
use Rattle.nv_windows.specs.declared.window.Window.{Window}
use Rattle.nv_model.specs.Editors.{at_handle, handles_of}
use Rattle.nv_model.specs.Standing.{PresentEditor}
use Rattle.nv_editor.specs.Uis.{AreSoundUis}

-- whether a buffer of a handle is live
abbrev pub is_live_buffer : PresentEditor → ℤ → Bool
is_live_buffer e n = is_some (at_handle e.buffers n)

-- the buffer of a handle, and a fresh one where none is live
abbrev pub content_of : ℤ → Option Content → Content
content_of n (Some b) = b
content_of n None = fresh_content n true

abbrev pub content_at : PresentEditor → ℤ → Content
content_at e n = content_of n (at_handle e.buffers n)

-- a place of a cursor in a text: in one of its rows, at most at the last byte of the line
pub record IsCursorIn (lines : List (List ℕ)) (p : Pos) : Type 0 where
  pub row : p.row < length lines
  pub col : p.col ≤ length (line_at lines p.row) - 1

-- a window shows a text: its cursor stands in it, and its first row is one of it
pub record ShowsText (lines : List (List ℕ)) (w : Window) : Type 0 where
  pub cursor : IsCursorIn lines w.cursor
  pub top : w.top < length lines

abbrev pub ShowsBuffer : Option Content → Window → Type 0
ShowsBuffer None w = ⊥
ShowsBuffer (Some b) w = ShowsText b.text w

-- the group of a mark is there
abbrev pub IsOfGroups : List NamedGroup → Mark → Type 0
IsOfGroups groups k = IfSome k.paint (λ p. HasGroup groups p.group)

-- Buffers stand by rising handles below the next one; each window shows a live one; the groups of
-- marks are there; the screen has the least size of the UIs. (The windows, the groups, the virtual
-- texts, whose groups are there, and each buffer keep to rules of their own.)
pub record IsSoundEditor (e : PresentEditor) : Type 0 where
  pub workspace : IsSoundWorkspace e.stage.workspace
  pub rising : IsRisingFrom (pos 1) (handles_of e.buffers)
  pub below : All (λ n. n <ℤ e.stage.next_buffer) (handles_of e.buffers)
  pub next_buffer : (pos 1 ≤ℤ e.stage.next_buffer)
      × (e.stage.next_buffer ≤ℤ (last_handle +ℤ pos 1))
  pub shown :
      All (λ w. ShowsBuffer (at_handle e.buffers w.buffer) w) e.stage.workspace.windows
  pub painted :
      All (λ (b : ℤ × Content). All (IsOfGroups e.stage.groups) b.1.marks.marks) e.buffers
  pub uis : AreSoundUis e.stage.uis e.stage.workspace.width e.stage.workspace.height

-- no buffer has an open change
abbrev pub AllSealed : PresentEditor → Type 0
AllSealed e = All (λ (b : ℤ × Content). b.1.unsealed ≡ []) e.buffers
