-- inside: what is known of each buffer, and how its changes are kept: each edit with what it took.
use Rattle.std.specs.Prelude.{◌≡◌, ℕ, ℤ, pos, ◌+◌, ◌≤◌, ◌≤ℤ◌, List, [], ◌∷◌, ◌++◌, Option, Some, None, length, flat_map, fold, slice_range}
use Rattle.nv_undo.specs.Tree.{Undo, tree_of, IsTree, change_of}
use Rattle.nv_buffer.specs.Splices.{IsBufferText}
use Rattle.nv_buffer.specs.Changes.{lines_after, turned_part, AllFit, text_at}
use Rattle.nv_buffer.specs.Patches.{IsPatch, patch_back, patch_edit}
use Rattle.nv_undo.specs.Ways.{origin}
use Rattle.nv_buffer.specs.declared.edit.Edit.{Edit}
use Rattle.nv_buffer.specs.declared.patch.Patch.{Patch}
use Rattle.nv_buffer.specs.declared.step.Step.{Step}
use Rattle.nv_buffer.specs.declared.step.Step.TheVariants.{Rows, Bytes}
use Rattle.nv_buffer.specs.declared.step.Swap.{Swap}

-- how many edits are kept in all
abbrev pub kept_count : Undo (List Edit) → List Edit → ℕ
kept_count undo unsealed = length (flat_map (λ c. c.1) undo.changes) + length unsealed

-- what holds of each buffer: its text is that of the current number with the edits made since, the
-- edits of each change can be made of the text of its parent, and each of the edits that are kept
-- has raised the changedtick, from 2 on
pub record IsBuffer (text : List (List ℕ)) (tick : ℤ) (undo : Undo (List Edit))
    (unsealed : List Edit) : Type 0 where
  pub tree : IsTree undo
  pub texts : (n : ℕ) → IsBufferText (text_at undo n)
  pub changes : (n : ℕ) (edits : List Edit) → change_of undo n ≡ Some edits
      → AllFit (text_at undo (origin undo n)) edits
  pub since : AllFit (text_at undo undo.current) unsealed
  pub now : text ≡ fold lines_after (text_at undo undo.current) unsealed
  pub counted : pos (2 + kept_count undo unsealed) ≤ℤ tick

-- what is kept of an edit: its patch where there is one, and else the rows that it put and took
abbrev pub kept_step : Option Patch → Edit → List (List ℕ) → Step
kept_step (Some patch) ahead taken = Bytes patch
kept_step None ahead taken = Rows (record { ahead = ahead; taken = taken })

-- the edit of a step, of the text before it
abbrev pub edit_ahead : List (List ℕ) → Step → Edit
edit_ahead text (Rows swap) = swap.ahead
edit_ahead text (Bytes patch) = patch_edit text patch

-- the edit that takes rows back: those that were put give way to those that were taken
abbrev pub swap_back : Swap → Edit
swap_back swap = record {
  first = swap.ahead.first;
  last = swap.ahead.first + length swap.ahead.lines;
  lines = swap.taken;
  at = swap.ahead.at;
  old = swap.ahead.new;
  new = swap.ahead.old;
  start = swap.ahead.start;
  removed = swap.ahead.put;
  put = swap.ahead.removed;
  rows = swap.ahead.rows;
  part = turned_part swap.ahead.part;
}

-- the edit that takes a step back, of the text after it
abbrev pub edit_back : List (List ℕ) → Step → Edit
edit_back text (Rows swap) = swap_back swap
edit_back text (Bytes patch) = patch_edit text (patch_back patch)

-- a step has what its edit takes of this text
abbrev pub IsKept : List (List ℕ) → Step → Type 0
IsKept text (Rows swap) = swap.taken ≡ slice_range text swap.ahead.first swap.ahead.last
IsKept text (Bytes patch) = IsPatch text patch

-- a step has what its edit put into this text
abbrev pub IsPutIn : List (List ℕ) → Step → Type 0
IsPutIn text (Rows swap) = swap.ahead.first + length swap.ahead.lines ≤ length text
IsPutIn text (Bytes patch) = IsPatch text (patch_back patch)

-- the edits of steps that are made of a text one after another
abbrev pub edits_ahead : List (List ℕ) → List Step → List Edit
edits_ahead text [] = []
edits_ahead text (step ∷ steps) =
    edit_ahead text step ∷ edits_ahead (lines_after text (edit_ahead text step)) steps

-- the changes as edits, once one more is kept as steps
abbrev pub with_change : List (ℕ × List Edit) → ℕ × List Step → List (ℕ × List Edit)
with_change changes change =
    changes
    ++ (change.0, edits_ahead (text_at (tree_of changes 0 []) change.0) change.1) ∷ []

-- changes that are kept as steps, as edits
unfoldable pub changes_ahead : List (ℕ × List Step) → List (ℕ × List Edit)
changes_ahead changes = fold with_change [] changes

-- the tree of the edits, where steps are kept
abbrev pub tree_ahead : Undo (List Step) → Undo (List Edit)
tree_ahead tree = tree_of (changes_ahead tree.changes) tree.current tree.entered

-- the edits of steps that were made since the current number was
abbrev pub edits_since : Undo (List Step) → List Step → List Edit
edits_since tree steps = edits_ahead (text_at (tree_ahead tree) tree.current) steps

-- steps of a text have what their edits take
abbrev pub LeadBack : List (List ℕ) → List Step → Type 0
LeadBack text [] = Unit {0}
LeadBack text (step ∷ steps) =
    IsKept text step × LeadBack (lines_after text (edit_ahead text step)) steps

-- so it is with the steps of each change, and with those made since
pub record AllLeadBack (tree : Undo (List Step)) (unsealed : List Step) : Type 0 where
  pub changes :
      (n : ℕ) (steps : List Step) → change_of tree n ≡ Some steps
      → LeadBack (text_at (tree_ahead tree) (origin tree n)) steps
  pub since : LeadBack (text_at (tree_ahead tree) tree.current) unsealed
