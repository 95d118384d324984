-- What facts tell of each buffer, moment by moment, and the soundness of model editors under which
-- calls tell so.
use Rattle.std.specs.Prelude.{◌≡◌, ℕ, ℤ, ◌+◌, ◌≤◌, Bool, true, false, List, [], ◌∷◌, ◌++◌, length, fold, Option, Some, None, is_some, IfSome}
use Rattle.std.specs.List.{splice}
use Rattle.std.specs.Option.{option_or}
use Rattle.std.specs.Ordering.{int_eq}
use Rattle.nv_places.specs.Flat.{lines_of}
use Rattle.nv_places.specs.Places.{place_of}
use Rattle.nv_buffer.specs.Content.{Content}
use Rattle.nv_buffer.specs.declared.buffer.Spliced.{Spliced}
use Rattle.nv_model.specs.Buffers.{Splice, ModelBuffer, text_after, row_behind, lines_in_place, splice_event}
use Rattle.nv_model.specs.Editors.{ModelEditor, at_handle}
use Rattle.nv_model.specs.Answers.{Fact, attached, detached, edited, deleted, quit}
use Rattle.nv_model.specs.Laws.{IsNumbered}
use Rattle.nv_model.specs.Standing.{IsWithin, StandsFor}

-- ---- what became of the buffer of a handle

-- what became of the buffer of a handle up to a moment: its splices, and whether it was deleted. A
-- handle that no buffer had yet has none and isn't deleted (help: api-buffer)
pub record Past : Type 0 where
  pub splices : List Splice
  pub is_deleted : Bool

abbrev pub splices_had : Option ModelBuffer → List Splice
splices_had None = []
splices_had (Some b) = b.splices

abbrev pub past_at : ModelEditor → ℤ → Past
past_at m n = record {
  splices = splices_had (option_or (at_handle m.buffers n) (at_handle m.deleted n));
  is_deleted = is_some (at_handle m.deleted n);
}

-- the flat text of a buffer with these splices: at first it is one empty line (own rule)
abbrev pub text_then : List Splice → List ℕ
text_then splices = fold text_after (10 ∷ []) splices

-- its changedtick (help: changetick)
abbrev pub tick_then : List Splice → ℕ
tick_then splices = 2 + length splices

-- ---- what a fact tells

-- what is told of a splice of a text fits its lines: the rows that it names stand in them, and with
-- its lines in the place of those they are the lines of the text after it (help:
-- nvim_buf_lines_event)
pub record FitsLines (text : List ℕ) (s : Splice) : Type 0 where
  pub within : IsWithin text s
  pub order : (place_of text s.from).row ≤ row_behind text s
  pub rows : row_behind text s ≤ length (lines_of text)
  pub lines : splice (lines_of text) (place_of text s.from).row (row_behind text s)
      (lines_in_place text s)
      ≡ lines_of (text_after text s)

-- an event tells of one more splice of a buffer, in the text of that moment
pub record IsSpliceTold (past : Past) (event : Spliced) (later : Past) : Type 0 where
  pub made : Splice
  pub told : event ≡ splice_event (text_then past.splices) (tick_then past.splices + 1) made
  pub fits : FitsLines (text_then past.splices) made
  pub becomes : later ≡ record past { splices = past.splices ++ made ∷ [] }

-- attaching tells the changedtick of that moment, and its lines where they are sent
pub record IsAttachTold (past : Past) (tick : ℕ) (whole : Option (List (List ℕ)))
    (later : Past) : Type 0 where
  pub tick_is : tick ≡ tick_then past.splices
  pub lines_are : IfSome whole (λ lines. lines ≡ lines_of (text_then past.splices))
  pub stays : later ≡ past

-- what is told of a buffer is told of one that isn't deleted, and of another one nothing
abbrev pub ToldOfLive : Bool → Past → Past → Type 0 → Type 0
ToldOfLive true past later R = (past.is_deleted ≡ false) × R
ToldOfLive false past later R = later ≡ past

-- what a fact tells of the buffer of a handle
abbrev pub FactTells : ℤ → Fact → Past → Past → Type 0
FactTells n (attached k tick whole) past later =
    ToldOfLive (int_eq k n) past later (IsAttachTold past tick whole later)
FactTells n (detached k) past later = ToldOfLive (int_eq k n) past later (later ≡ past)
FactTells n (edited k event) past later =
    ToldOfLive (int_eq k n) past later (IsSpliceTold past event later)
FactTells n (deleted k) past later =
    ToldOfLive (int_eq k n) past later (later ≡ record past { is_deleted = true })
FactTells n quit past later = later ≡ past

-- facts one after another, each at its own moment
abbrev pub FactsTell : ℤ → List Fact → Past → Past → Type 0
FactsTell n [] past later = later ≡ past
FactsTell n (fact ∷ facts) past later =
    (between : Past) × FactTells n fact past between × FactsTell n facts between later

-- ---- soundness

-- a buffer without its marks
abbrev pub without_marks : ModelBuffer → ModelBuffer
without_marks b = record b { marks = []; settings = 0; greatest = [] }

-- text, changes and open change of a buffer can be kept as lines and as edits of lines
abbrev pub IsSoundBuffer : ModelBuffer → Type 0
IsSoundBuffer b = (kept : Content) × StandsFor kept (without_marks b)

-- Handles are numbered, no live buffer has the handle of a deleted one, and the texts of the live
-- ones can be kept.
pub record IsSoundModel (m : ModelEditor) : Type 0 where
  pub numbered : IsNumbered m
  pub apart : (n : ℤ) (b : ModelBuffer) → at_handle m.buffers n ≡ Some b
      → at_handle m.deleted n ≡ None
  pub buffers : (n : ℤ) (b : ModelBuffer) → at_handle m.buffers n ≡ Some b → IsSoundBuffer b
