-- How what is kept of an editor stands for a model editor.
use Rattle.std.specs.Prelude.{◌≡◌, ◌⊎◌, true, ℕ, suc, ℤ, pos, nat_abs, ◌+◌, ◌<◌, ◌≤◌, ◌==◌, ◌&&◌, Bool, false, if◌then◌else◌, List, [], ◌∷◌, length, map, take, drop, filter, fold, All, Option, Some, None, IfSome, option_map, option_to_list}
use Rattle.std.specs.List.{IsDistinct, list_any}
use Rattle.nv_places.specs.Flat.{flat, IsLine}
use Rattle.nv_places.specs.Places.{place_of}
use Rattle.nv_marks.specs.Marks.{greatest_id}
use Rattle.nv_marks.specs.Order.{IsInOrder}
use Rattle.nv_undo.specs.Tree.{Undo, last, tree_of, IsTree, numbered, change_of, has, ancestors}
use Rattle.nv_buffer.specs.Content.{Content, next_part}
use Rattle.nv_buffer.specs.Changes.{text_at, first_text, Replaces, IsPlaced, lines_after}
use Rattle.nv_undo.specs.Ways.{origin}
use Rattle.nv_buffer.specs.declared.edit.Edit.{Edit}
use Rattle.nv_buffer.specs.KeptMarks.{kept_at}
use Rattle.nv_buffer.specs.declared.edit.ChangePart.{ChangePart}
use Rattle.nv_marks.specs.declared.keeping.Kept.{Kept as KeptMark}
use Rattle.nv_model.specs.Buffers.{Splice, SetMark, KeptState, Kept, ModelBuffer, text_after, row_behind, text_of, tick_of, state_behind, state_now, marks_there, mark_of, kept_text, is_same_part, last_kept}
use Rattle.nv_model.specs.Undoing.{splices_at}
use Rattle.nv_model.specs.Stage.{Stage}
use Rattle.nv_model.specs.Editors.{ModelEditor, at_handle, handles_of}
use Rattle.nv_model.specs.Seen.{Seen, SeenBuffer}

-- an editor as it is kept
pub record PresentEditor : Type 0 where
  pub buffers : List (ℤ × Content)
  pub stage : Stage

-- the splice that an edit of this text is: its bytes, and whether it is of whole lines
abbrev pub splice_of : List (List ℕ) → Edit → Splice
splice_of text edit = record {
  from = edit.at;
  until = edit.at + edit.old;
  bytes = take edit.new (drop edit.at (flat (lines_after text edit)));
  rows = edit.rows;
  part = edit.part;
}

-- and those that edits made one after another are
abbrev pub splices_of : List (List ℕ) → List Edit → List Splice
splices_of text [] = []
splices_of text (edit ∷ edits) = splice_of text edit ∷ splices_of (lines_after text edit) edits

-- a change of a number, as the model keeps it
abbrev pub kept_change : Undo (List Edit) → ℕ → ℕ × List Edit → ℕ × Kept
kept_change undo n change = (
  change.0,
  record {
    splices = splices_of (text_at undo change.0) change.1;
    text = flat (text_at undo n);
  },
)

-- changes numbered from this number on
abbrev pub kept_changes : Undo (List Edit) → ℕ → List (ℕ × List Edit) → List (ℕ × Kept)
kept_changes undo n [] = []
kept_changes undo n (change ∷ changes) =
    kept_change undo n change ∷ kept_changes undo (suc n) changes

-- the tree of changes as the model keeps it
abbrev pub kept_undo : Undo (List Edit) → Undo Kept
kept_undo undo = tree_of (kept_changes undo 1 undo.changes) undo.current undo.entered

-- what is seen of a buffer as it is kept
abbrev pub seen_buffer_now : Content → SeenBuffer
seen_buffer_now b = record {
  lines = b.text;
  tick = nat_abs b.tick;
  marks = b.marks.marks;
  settings = b.marks.settings;
  greatest = greatest_id b.marks.greatest;
  first = flat first_text;
  undo = kept_undo b.undo;
  unsealed = splices_of (text_at b.undo b.undo.current) b.unsealed;
  next = next_part b;
  name = b.name;
  modifiable = b.modifiable;
  modified = b.modified;
  listed = b.listed;
  tabstop = b.tabstop;
}

-- what is seen of an editor as it is kept
abbrev pub seen_now : PresentEditor → Seen
seen_now e = record {
  buffer = λ n. option_map seen_buffer_now (at_handle e.buffers n);
  handles = handles_of e.buffers;
  stage = e.stage;
}

-- a splice lies in a text
pub record IsWithin (text : List ℕ) (s : Splice) : Type 0 where
  pub order : s.from ≤ s.until
  pub within : s.until ≤ length text

-- each of some splices lies in the text that those before it make
abbrev pub AreWithin : List ℕ → List Splice → Type 0
AreWithin text [] = Unit {0}
AreWithin text (s ∷ ss) = IsWithin text s × AreWithin (text_after text s) ss

-- splices made one after another lead from one text to another
pub record LeadTo (text : List ℕ) (splices : List Splice) (later : List ℕ) : Type 0 where
  pub within : AreWithin text splices
  pub makes : fold text_after text splices ≡ later

-- a mark was set after some of these splices, and its start and its end stand in the text
pub record IsSetIn (text : List ℕ) (splices : List Splice) (k : SetMark) : Type 0 where
  pub since : k.since ≤ length splices
  pub start : (state_behind k (drop k.since splices)).start ≤ length text
  pub stop : IfSome (state_behind k (drop k.since splices)).stop (λ p. p ≤ length text)

-- two marks as set have one namespace and id
abbrev pub same_set : SetMark → SetMark → Bool
same_set k l = k.ns == l.ns && k.id == l.id

-- edits made one after another are the parts of a change, from this part on
abbrev pub AreNumbered : ℕ → ℕ → List Edit → Type 0
AreNumbered n i [] = Unit {0}
AreNumbered n i (edit ∷ edits) =
    (edit.part ≡ record { change = n; part = i; back = false }) × AreNumbered n (suc i) edits

-- the text before the last splice of a part, among splices made one after another from a text on;
-- `met` where there is none
abbrev pub text_met : ChangePart → List ℕ → List ℕ → List Splice → List ℕ
text_met part met text [] = met
text_met part met text (s ∷ ss) =
    text_met part (if is_same_part part s.part then text else met) (text_after text s) ss

-- a mark that was kept is that of a setting
abbrev pub is_kept_of : SetMark → KeptMark → Bool
is_kept_of k x = (x.ns == k.ns && x.id == k.id) && x.set == k.set

-- what was kept of a mark, as its places in the text that it was kept in
abbrev pub kept_mark_of : List ℕ → SetMark → KeptState → KeptMark
kept_mark_of text k x = record {
  ns = k.ns;
  id = k.id;
  set = k.set;
  start = option_map (place_of text) x.start;
  stop = option_map (place_of text) x.stop;
  hidden = x.hidden;
}

-- what the last step of a part kept of each mark that is there stands among what is kept of it
abbrev pub IsKeptFor : Content → ModelBuffer → ChangePart → SetMark → Type 0
IsKeptFor b m part k =
    filter (is_kept_of k) (kept_at b.kept part)
    ≡ option_to_list
    (option_map (kept_mark_of (text_met part [] m.first m.splices) k)
    (last_kept part (state_now m k).kept))

-- and nothing is kept of a setting that wasn't made yet
pub record IsKeptBy (b : Content) (m : ModelBuffer) (part : ChangePart) : Type 0 where
  pub each : All (IsKeptFor b m part) (marks_there m)
  pub made : All (λ (x : KeptMark). x.set ≤ m.settings) (kept_at b.kept part)

-- a splice of a part was made
abbrev pub is_made : ChangePart → List Splice → Bool
is_made part splices = list_any (λ s. is_same_part part s.part) splices

-- the text before a part of a change, counted from 0, where its splices are made once more
abbrev pub text_before : List ℕ → Undo Kept → ℕ → ℕ → List ℕ
text_before first undo n i =
    fold text_after (kept_text first undo (origin undo n)) (take i (splices_at undo n))

-- a part is one of a change, or of the one that is open
abbrev pub IsPartIn : ModelBuffer → ChangePart → Type 0
IsPartIn m part =
    (part.part < length (splices_at m.undo part.change))
    ⊎ ((part.change ≡ suc (last m.undo)) × (part.part < length m.unsealed))

-- Each splice is of a part that is there. A change that the text has, that of the current number or
-- of one that it was made at, was made last, and any other was taken back last: so the next splice
-- of a part, which goes the other way, leads to the text before the last one.
pub record ArePartsMet (m : ModelBuffer) : Type 0 where
  pub known : All (λ (s : Splice). IsPartIn m s.part) m.splices
  pub changes :
      (part : ChangePart) → part.part < length (splices_at m.undo part.change)
      → is_made part m.splices ≡ true
      → text_met part [] m.first m.splices
      ≡ text_before m.first m.undo part.change
      (if has (ancestors m.undo m.undo.current) part.change then part.part else suc part.part)
  pub since :
      (part : ChangePart) → part.change ≡ suc (last m.undo) → part.part < length m.unsealed
      → text_met part [] m.first m.splices
      ≡ fold text_after (kept_text m.first m.undo m.undo.current) (take part.part m.unsealed)

-- What holds of each buffer that a history makes, after each call: its splices lie in their texts,
-- each change leads from its parent's text to its own, the open splices from the current number's
-- text to the buffer's, the marks stand in it, each was set under a number of its own, and the
-- parts of its changes are gone by turns.
pub record IsValid (m : ModelBuffer) : Type 0 where
  pub splices : AreWithin m.first m.splices
  pub tree : IsTree m.undo
  pub changes :
      (n : ℕ) (change : ℕ × Kept) → numbered m.undo n ≡ Some change
      → LeadTo (kept_text m.first m.undo change.0) change.1.splices change.1.text
  pub since : LeadTo (kept_text m.first m.undo m.undo.current) m.unsealed (text_of m)
  pub named : IsDistinct same_set m.marks
  pub marks : All (IsSetIn (text_of m) m.splices) m.marks
  pub settings : All (λ (k : SetMark). k.set ≤ m.settings) m.marks
  pub parts : ArePartsMet m

-- an edit as it is kept can be made of this text, and tells the rows of the bytes that it replaces
pub record IsEditOf (text : List (List ℕ)) (edit : Edit) : Type 0 where
  pub order : edit.first ≤ edit.last
  pub within : edit.last ≤ length text
  pub lines : All IsLine edit.lines
  pub bytes : Replaces (flat text) (flat (lines_after text edit)) edit.at edit.old edit.new
  pub first : edit.first ≡ (place_of (flat text) edit.at).row
  pub last : edit.last ≡ row_behind (flat text) (splice_of text edit)
  pub placed : IsPlaced text edit

-- each of some edits can be made of the text that those before it make
abbrev pub AreEditsOf : List (List ℕ) → List Edit → Type 0
AreEditsOf text [] = Unit {0}
AreEditsOf text (edit ∷ edits) = IsEditOf text edit × AreEditsOf (lines_after text edit) edits

-- a change as it is kept has an edit at least, and each can be made
pub record IsChangeOf (text : List (List ℕ)) (made : List Edit) : Type 0 where
  pub some : 0 < length made
  pub edits : AreEditsOf text made

-- a buffer as it is kept stands for one of the model: its text is the first text with all splices,
-- its changedtick 2 and their number, its marks are those set that are there, at the places and
-- hidden as the splices left them, what is kept of marks is what the last splice of each part kept,
-- its changes are the model's, and all else is equal
pub record StandsFor (b : Content) (m : ModelBuffer) : Type 0 where
  pub first : m.first ≡ flat first_text
  pub text : flat b.text ≡ text_of m
  pub lines : All IsLine b.text
  pub tick : b.tick ≡ pos (tick_of m)
  pub marks : IsInOrder (map (mark_of m) (marks_there m)) b.marks.marks
  pub settings : b.marks.settings ≡ m.settings
  pub kept : (part : ChangePart) → IsKeptBy b m part
  pub greatest : (ns : ℕ) → greatest_id b.marks.greatest ns ≡ greatest_id m.greatest ns
  pub tree : IsTree b.undo
  pub undo : kept_undo b.undo ≡ m.undo
  pub unsealed : splices_of (text_at b.undo b.undo.current) b.unsealed ≡ m.unsealed
  pub since : b.text ≡ fold lines_after (text_at b.undo b.undo.current) b.unsealed
  pub edits : AreEditsOf (text_at b.undo b.undo.current) b.unsealed
  pub parts : AreNumbered (suc (last b.undo)) 0 b.unsealed
  pub changes :
      (n : ℕ) (made : List Edit) → change_of b.undo n ≡ Some made
      → IsChangeOf (text_at b.undo (origin b.undo n)) made
  pub numbered : (n : ℕ) (made : List Edit) → change_of b.undo n ≡ Some made → AreNumbered n 0 made
  pub name : b.name ≡ m.name
  pub modifiable : b.modifiable ≡ m.modifiable
  pub modified : b.modified ≡ m.modified
  pub listed : b.listed ≡ m.listed
  pub tabstop : b.tabstop ≡ m.tabstop
  pub valid : IsValid m

-- of two things that may be there, neither is, or both are and the relation holds of them
abbrev pub Both : {A B : Type 0} → (A → B → Type 0) → Option A → Option B → Type 0
Both R None None = Unit {0}
Both R None (Some b) = ⊥
Both R (Some a) None = ⊥
Both R (Some a) (Some b) = R a b

-- an editor as it is kept stands for a model editor: under each handle a buffer stands for the
-- model's, and all else is equal
pub record Stands (e : PresentEditor) (m : ModelEditor) : Type 0 where
  pub buffers : (n : ℤ) → Both StandsFor (at_handle e.buffers n) (at_handle m.buffers n)
  pub handles : handles_of e.buffers ≡ handles_of m.buffers
  pub stage : e.stage ≡ m.stage
