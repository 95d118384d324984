-- What each row makes.
use Rattle.std.proofs.Common.{◌≡◌, inl, inr, refl, ℕ, ℤ, Bool, true, false, List, [], ◌∷◌, ◌++◌, Option, Some, None}
use Rattle.std.specs.Prelude.{is_some, if◌then◌else◌}
use Rattle.nv_value.specs.Content.{Tree, nil, truth}
use Rattle.nv_args.specs.declared.methods.MarkMethod.{MarkMethod}
use Rattle.nv_args.specs.declared.methods.MarkMethod.TheVariants.{CreateNamespace, BufSetExtmark, BufDelExtmark, BufGetExtmarkById, BufGetExtmarks, BufClearNamespace, SetHl, GetHlIdByName}
use Rattle.nv_hl.specs.Groups.{NamedGroup, known_id}
use Rattle.nv_hl.specs.declared.linking.Group.{Group}
use Rattle.nv_marks.specs.declared.extmark.Mark.{Mark}
use Rattle.nv_model.specs.Stage.{Stage}
use Rattle.nv_model.specs.Operations.{namespace_made, group_made, group_put, mark_set, mark_removed, note_put}
use Rattle.nv_model.specs.Answers.{replied}
use Rattle.nv_model.specs.Answering.{removal_operations}
use Rattle.nv_model.specs.Kinds.{Effects, makes_groups, IsKindAmong, AreMade, MakesOnly, HasEffects}
use Rattle.nv_model.proofs.Making.{making_words, makes_one, makes_done, makes_either, made-append, makes_no_splice, silent_tells}
use Rattle.nv_api_mark.specs.Namespaces.{namespace_answer}
use Rattle.nv_notes.specs.Notes.{NoteText}
use Rattle.nv_api_mark.specs.Groups.{group_operations, groups_of_names, groups_with, names_operations}
use Rattle.nv_api_mark.specs.Setting.{group_names, has_text, note_with}
use Rattle.nv_api_mark.specs.MarkRows.{note_operations, removal_answer, setting_operations}
use Rattle.nv_api_mark.specs.GroupRows.{link_operations, groups_operations as all_made}
use Rattle.nv_api_mark.specs.Rows.{mark_row, mark_effects}
use Rattle.nv_api_mark.specs.Laws.{MarkRowsHaveEffects, MarkRowsTell}

-- ---- the operations that the rows make

makes : (t : Tree) (name : List ℕ) → MakesOnly (mark_effects CreateNamespace) (replied t (namespace_made name ∷ []) [])
makes t name = makes_one (mark_effects CreateNamespace) t (namespace_made name) (inl refl)

known_or : (stage : Stage) (name : List ℕ) (known : Option ℕ) → MakesOnly (mark_effects CreateNamespace) (namespace_answer stage name known)
known_or stage name (Some ns) = search making_words
known_or stage name None = search (making_words, makes)

-- groups that are made
module _ (e : Effects) (may : IsKindAmong makes_groups e.makes) where
  made_if_new : (known : Bool) (name : List ℕ) → AreMade e (if known then [] else group_made name ∷ [])
  made_if_new true name = tt
  made_if_new false name = (may, tt)

  pub made_in_group : (groups : List NamedGroup) (name : List ℕ) → AreMade e (group_operations groups name)
  made_in_group groups name = made_if_new (is_some (known_id groups name)) name

  pub made_in_names : (groups : List NamedGroup) (names : List (List ℕ)) → AreMade e (names_operations groups names)
  made_in_names groups [] = tt
  made_in_names groups (name ∷ names) =
      made-append e (group_operations groups name) (names_operations (groups_with groups name) names) (made_in_group groups name)
      (made_in_names (groups_with groups name) names)

  made_in_link : (groups : List NamedGroup) (link : Option (List ℕ)) → AreMade e (link_operations groups link)
  made_in_link groups None = tt
  made_in_link groups (Some link) = made_in_group groups link

  pub made_in_all : (groups : List NamedGroup) (name : List ℕ) (link : Option (List ℕ)) → AreMade e (all_made groups name link)
  made_in_all groups name link =
      made-append e (group_operations groups name) (link_operations (groups_with groups name) link) (made_in_group groups name) (made_in_link (groups_with groups name) link)

made_text : (b : Bool) (n : ℤ) (set : ℕ) (note : NoteText) → AreMade (mark_effects BufSetExtmark) (if b then note_put n set note ∷ [] else [])
made_text true n set note = (inr (inr (inl refl)), tt)
made_text false n set note = tt

sets : (t : Tree) (stage : Stage) (n : ℤ) (set : ℕ) (m : Mark) (pairs : List (Tree × Tree))
    → MakesOnly (mark_effects BufSetExtmark) (replied t (setting_operations stage n set m pairs) [])
sets t stage n set m pairs =
    let e = mark_effects BufSetExtmark in
    let names = group_names pairs in
    let later = groups_of_names stage.groups names in
    makes_done e t (setting_operations stage n set m pairs)
    (made-append e (names_operations stage.groups names) (mark_set n m ∷ note_operations n set later pairs) (made_in_names e (inl refl) stage.groups names)
    (inr (inl refl), made_text (has_text pairs) n set (note_with later pairs)))

removes : (n : ℤ) (found : Option Mark) → MakesOnly (mark_effects BufDelExtmark) (removal_answer n found)
removes n None = search making_words
removes n (Some m) = makes_one (mark_effects BufDelExtmark) (truth true) (mark_removed n m.ns m.id) (inl refl)

made_in_removed : (n : ℤ) (marks : List Mark) → AreMade (mark_effects BufClearNamespace) (removal_operations n marks)
made_in_removed n [] = tt
made_in_removed n (m ∷ ms) = (inl refl, made_in_removed n ms)

clears : (n : ℤ) (marks : List Mark) → MakesOnly (mark_effects BufClearNamespace) (replied nil (removal_operations n marks) [])
clears n marks = makes_done (mark_effects BufClearNamespace) nil (removal_operations n marks) (made_in_removed n marks)

puts : (groups : List NamedGroup) (name : List ℕ) (link : Option (List ℕ)) (id : ℕ) (g : Group)
    → MakesOnly (mark_effects SetHl) (replied nil (all_made groups name link ++ group_put id g ∷ []) [])
puts groups name link id g =
    let e = mark_effects SetHl in
    makes_done e nil (all_made groups name link ++ group_put id g ∷ [])
    (made-append e (all_made groups name link) (group_put id g ∷ []) (made_in_all e (inl refl) groups name link) (inr (inl refl), tt))

makes_group : (t : Tree) (groups : List NamedGroup) (name : List ℕ) → MakesOnly (mark_effects GetHlIdByName) (replied t (group_operations groups name) [])
makes_group t groups name = makes_done (mark_effects GetHlIdByName) t (group_operations groups name) (made_in_group (mark_effects GetHlIdByName) (inl refl) groups name)

ruleset words = (making_words, makes_either)

-- ---- row by row; the others make nothing
pub mark_rows_make : MarkRowsHaveEffects
unfolding MarkRowsHaveEffects
mark_rows_make CreateNamespace s session args = search (words, known_or)
mark_rows_make BufSetExtmark s session args = search (words, sets) depth 14
mark_rows_make BufDelExtmark s session args = search (words, removes)
mark_rows_make BufGetExtmarkById s session args = search words depth 9
mark_rows_make BufGetExtmarks s session args = search words depth 9
mark_rows_make BufClearNamespace s session args = search (words, clears) depth 9
mark_rows_make SetHl s session args = search (words, puts) depth 9
mark_rows_make GetHlIdByName s session args = search (words, makes_group)
mark_rows_make method s session args = search words

pub mark_makes : (method : MarkMethod) → HasEffects (mark_effects method) (mark_row method)
unfolding MarkRowsHaveEffects
mark_makes = mark_rows_make

-- ---- no row makes a splice
makes_none : (method : MarkMethod) → makes_no_splice (mark_effects method) ≡ true
makes_none SetHl = refl
makes_none method = refl

pub no_splice_is_told : MarkRowsTell
no_splice_is_told method = silent_tells (mark_effects method) (mark_row method) (makes_none method) (mark_makes method)
