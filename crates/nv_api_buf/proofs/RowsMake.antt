-- What each row makes and tells.
use Rattle.std.proofs.Common.{◌≡◌, inl, inr, refl, subst, ℕ, ℤ, Bool, true, false, List, [], ◌∷◌, map, Option, Some, None}
use Rattle.std.specs.Prelude.{if◌then◌else◌, bytes_eq, flat_map, option_map, option_and_then}
use Rattle.std.proofs.lemmas.Option.{none-some, same_Some}
use Rattle.std.specs.List.{AllByRecursion}
use Rattle.nv_value.specs.Content.{Tree, nil, truth}
use Rattle.nv_msgpack.specs.Handle.{integer_of}
use Rattle.nv_args.specs.Arguments.{truth_in}
use Rattle.nv_args.specs.declared.methods.BufferMethod.{BufferMethod}
use Rattle.nv_args.specs.declared.methods.BufferMethod.TheVariants.{Command, SetOptionValue, SetCurrentBuf, CreateBuf, BufDelete, BufSetName, BufSetLines, BufGetText, BufSetText, BufAttach, BufDetach}
use Rattle.nv_buffer.specs.declared.buffer.Spliced.{Spliced}
use Rattle.nv_undo.specs.Tree.{Undo}
use Rattle.nv_undo.specs.declared.legs.Leg.{Leg}
use Rattle.nv_windows.specs.Workspace.{showing}
use Rattle.nv_windows.specs.declared.window.Window.{Window}
use Rattle.nv_model.specs.Buffers.{Splice, Kept, is_empty_splice, splice_events}
use Rattle.nv_model.specs.Undoing.{leg_splices}
use Rattle.nv_places.specs.Flat.{flat}
use Rattle.nv_model.specs.Stage.{Stage}
use Rattle.nv_model.specs.Seen.{Seen, SeenBuffer, sealed_undo}
use Rattle.nv_model.specs.Operations.{Operation, spliced, spliced_back, stepped, name_put, shown, buffer_dropped, buffer_made, tab_made, tab_closed, modifiable_put, modified_put, listed_put, tabstop_put}
use Rattle.nv_model.specs.Answers.{replied, edited, deleted, attached, detached, quit, leg_operations, undo_operations, undo_splices, edits}
use Rattle.nv_model.specs.Answering.{reply_of, splice_answer, event_of_splice}
use Rattle.nv_model.specs.Deleting.{dropping_operations, showing_operations}
use Rattle.nv_model.specs.Kinds.{Effects, undoes_changes, splicings, IsKindAmong, AreMade, AreTold, MakesOnly, HasEffects, kind_of_operation}
use Rattle.nv_model.proofs.Making.{making_words, makes_one, makes_done, makes_all, makes_answers, makes_either, made-append}
use Rattle.nv_api_buf.specs.OptionRows.{BufferOption, buffer_options, option_among, option_named, tabstop_of}
use Rattle.nv_api_buf.specs.Commands.{Command as Order, undo, redo, undo_to, tabnew, tabclose, quit_all}
use Rattle.nv_api_buf.specs.CommandRows.{command_answer, legs_answer}
use Rattle.nv_api_buf.specs.Rows.{buffer_row, buffer_effects}
use Rattle.nv_api_buf.specs.Laws.{BufferRowsHaveEffects}

-- ---- splices, and steps of undo commands

told_splices : (e : Effects) → IsKindAmong splicings e.tells → (n : ℤ) (es : List Spliced) → AreTold e (map (edited n) es)
told_splices e may n [] = tt
told_splices e may n (event ∷ es) = (may, told_splices e may n es)

splices_one : (n : ℤ) (b : SeenBuffer) (p : Splice) → MakesOnly (buffer_effects BufSetLines) (splice_answer n b p)
splices_one n b p =
    let e = buffer_effects BufSetLines in
    makes_either e (is_empty_splice p) (reply_of nil) (replied nil (spliced n p ∷ []) (edited n (event_of_splice b p) ∷ []))
    (makes_answers e nil)
    (makes_all e nil (spliced n p ∷ []) (edited n (event_of_splice b p) ∷ []) (inl refl, tt) (inl refl, tt))

-- for whatever may undo
module _ (e : Effects) (may : IsKindAmong undoes_changes e.makes) (tells : IsKindAmong splicings e.tells) where
  made_back : (n : ℤ) (ss : List Splice) → AreMade e (map (spliced_back n) ss)
  made_back n [] = tt
  made_back n (s ∷ ss) = (may, made_back n ss)

  made_in_legs : (n : ℤ) (first : List ℕ) (tree : Undo Kept) (legs : List Leg) → AreMade e (flat_map (leg_operations n first tree) legs)
  made_in_legs n first tree [] = tt
  made_in_legs n first tree (leg ∷ legs) =
      made-append e (leg_operations n first tree leg) (flat_map (leg_operations n first tree) legs)
      (made-append e (map (spliced_back n) (leg_splices first tree leg)) (stepped n leg ∷ []) (made_back n (leg_splices first tree leg)) (may, tt))
      (made_in_legs n first tree legs)

  undoes_by : (t : Tree) (n : ℤ) (b : SeenBuffer) (legs : List Leg) → MakesOnly e (replied t (undo_operations n b legs) (edits n b (undo_splices b legs)))
  undoes_by t n b legs =
      makes_all e t (undo_operations n b legs) (edits n b (undo_splices b legs)) (may, made_in_legs n b.first (sealed_undo b) legs)
      (told_splices e tells n (splice_events (flat b.lines) b.tick (undo_splices b legs)))

  pub makes_legs : (s : Seen) (n : ℤ) (b : SeenBuffer) (legs : List Leg) → MakesOnly e (legs_answer s n b legs)
  makes_legs s n b legs = search (making_words, undoes_by)

-- the undo commands alone
abbrev pub undoing : Effects
undoing = record { makes = undoes_changes ∷ []; tells = splicings ∷ [] }

undoing_legs : (s : Seen) (n : ℤ) (b : SeenBuffer) (legs : List Leg) → MakesOnly undoing (legs_answer s n b legs)
undoing_legs s n b legs = makes_legs undoing (inl refl) (inl refl) s n b legs

pub undo_makes : (s : Seen) → MakesOnly undoing (command_answer s undo)
undo_makes s = search (making_words, undoing_legs)

pub redo_makes : (s : Seen) → MakesOnly undoing (command_answer s redo)
redo_makes s = search (making_words, undoing_legs)

pub undo_to_makes : (s : Seen) (k : ℕ) → MakesOnly undoing (command_answer s (undo_to k))
undo_to_makes s k = search (making_words, undoing_legs)

-- ---- commands
command_undoes : (s : Seen) (n : ℤ) (b : SeenBuffer) (legs : List Leg) → MakesOnly (buffer_effects Command) (legs_answer s n b legs)
command_undoes s n b legs = makes_legs (buffer_effects Command) (inl refl) (inl refl) s n b legs

makes_tab : (n : ℤ) → MakesOnly (buffer_effects Command) (replied nil (buffer_made true ∷ tab_made n ∷ []) [])
makes_tab n = makes_done (buffer_effects Command) nil (buffer_made true ∷ tab_made n ∷ []) (inr (inl refl), (inr (inr (inl refl)), tt))

closes_tab : (t : ℤ) → MakesOnly (buffer_effects Command) (replied nil (tab_closed t ∷ []) [])
closes_tab t = makes_one (buffer_effects Command) nil (tab_closed t) (inr (inr (inr (inl refl))))

ends : MakesOnly (buffer_effects Command) (replied nil [] (quit ∷ []))
ends = makes_all (buffer_effects Command) nil [] (quit ∷ []) tt (inr (inl refl), tt)

commands_make : (s : Seen) (c : Order) → MakesOnly (buffer_effects Command) (command_answer s c)
commands_make s undo = search (making_words, command_undoes)
commands_make s redo = search (making_words, command_undoes)
commands_make s (undo_to k) = search (making_words, command_undoes)
commands_make s tabnew = search (making_words, makes_tab)
commands_make s tabclose = search (making_words, closes_tab)
commands_make s quit_all = ends

-- ---- what is put for an option
abbrev IsOption : Option Operation → Type 0
IsOption None = Unit {0}
IsOption (Some c) = IsKindAmong (kind_of_operation c) (buffer_effects SetOptionValue).makes

abbrev PutsOption : BufferOption → Type 0
PutsOption o = (n : ℤ) (t : Tree) → IsOption (o.put n t)

option-map : {A : Type 0} (f : A → Operation) → ((a : A) → IsKindAmong (kind_of_operation (f a)) (buffer_effects SetOptionValue).makes) → (x : Option A) → IsOption (option_map f x)
option-map f is None = tt
option-map f is (Some a) = is a

options_put : AllByRecursion PutsOption buffer_options
options_put = (
  λ n t. option-map (modifiable_put n) (λ a. inl refl) (truth_in t),
  (
    λ n t. option-map (modified_put n) (λ a. inl refl) (truth_in t),
    (
      λ n t. option-map (listed_put n) (λ a. inl refl) (truth_in t),
      (
        λ n t. option-map (tabstop_put n) (λ a. inl refl) (option_and_then tabstop_of (integer_of t)),
        tt,
      ),
    ),
  ),
)

found_by : (P : BufferOption → Type 0) (p o : BufferOption) (rest : Option BufferOption) (b : Bool) → P p → (rest ≡ Some o → P o) → (if b then Some p else rest) ≡ Some o → P o
found_by P p o rest true h more e = subst P (same_Some p o e) h
found_by P p o rest false h more e = more e

found : (P : BufferOption → Type 0) (os : List BufferOption) (name : List ℕ) (o : BufferOption) → AllByRecursion P os → option_among os name ≡ Some o → P o
found P [] name o all is = absurd (none-some o is)
found P (p ∷ ps) name o all is = found_by P p o (option_among ps name) (bytes_eq p.name name) all.0 (found P ps name o all.1) is

puts_option : (name : List ℕ) (o : BufferOption) (n : ℤ) (t : Tree) (c : Operation) → option_named name ≡ Some o → o.put n t ≡ Some c
    → MakesOnly (buffer_effects SetOptionValue) (replied nil (c ∷ []) [])
puts_option name o n t c known is =
    makes_one (buffer_effects SetOptionValue) nil c (subst IsOption is (found PutsOption buffer_options name o options_put known n t))

-- ---- buffers made, shown and dropped
shows : (w n : ℤ) → MakesOnly (buffer_effects SetCurrentBuf) (replied nil (shown w n ∷ []) [])
shows w n = makes_one (buffer_effects SetCurrentBuf) nil (shown w n) (inl refl)

makes_buffer : (t : Tree) (listed : Bool) → MakesOnly (buffer_effects CreateBuf) (replied t (buffer_made listed ∷ []) [])
makes_buffer t listed = makes_one (buffer_effects CreateBuf) t (buffer_made listed) (inl refl)

made_in_shown : (n : ℤ) (ws : List Window) → AreMade (buffer_effects BufDelete) (showing_operations n ws)
made_in_shown n [] = tt
made_in_shown n (w ∷ ws) = (inr (inl refl), made_in_shown n ws)

made_in_dropped : (stage : Stage) (n : ℤ) (o : Option ℤ) → AreMade (buffer_effects BufDelete) (dropping_operations stage n o)
made_in_dropped stage n (Some other) =
    let windows : List Window = showing n stage.workspace.windows in
    made-append (buffer_effects BufDelete) (showing_operations other windows) (buffer_dropped n ∷ []) (made_in_shown other windows) (inr (inr (inl refl)), tt)
made_in_dropped stage n None =
    let windows : List Window = showing n stage.workspace.windows in
    (inl refl, made-append (buffer_effects BufDelete) (showing_operations stage.next_buffer windows) (buffer_dropped n ∷ []) (made_in_shown stage.next_buffer windows) (inr (inr (inl refl)), tt))

drops : (stage : Stage) (n : ℤ) (other : Option ℤ) → MakesOnly (buffer_effects BufDelete) (replied nil (dropping_operations stage n other) (deleted n ∷ []))
drops stage n other = makes_all (buffer_effects BufDelete) nil (dropping_operations stage n other) (deleted n ∷ []) (made_in_dropped stage n other) (inl refl, tt)

names : (n : ℤ) (name : List ℕ) → MakesOnly (buffer_effects BufSetName) (replied nil (name_put n name ∷ []) [])
names n name = makes_one (buffer_effects BufSetName) nil (name_put n name) (inl refl)

-- ---- sessions that follow a buffer
attaches : (n : ℤ) (tick : ℕ) (lines : Option (List (List ℕ))) → MakesOnly (buffer_effects BufAttach) (replied (truth true) [] (attached n tick lines ∷ []))
attaches n tick lines = makes_all (buffer_effects BufAttach) (truth true) [] (attached n tick lines ∷ []) tt (inl refl, tt)

detaches : (n : ℤ) → MakesOnly (buffer_effects BufDetach) (replied (truth true) [] (detached n ∷ []))
detaches n = makes_all (buffer_effects BufDetach) (truth true) [] (detached n ∷ []) tt (inl refl, tt)

-- ---- row by row; the others make nothing
pub buffer_rows_make : BufferRowsHaveEffects
unfolding BufferRowsHaveEffects
buffer_rows_make Command s session args = search (making_words, commands_make)
buffer_rows_make SetOptionValue s session args = search (making_words, puts_option) depth 9
buffer_rows_make SetCurrentBuf s session args = search (making_words, shows)
buffer_rows_make CreateBuf s session args = search (making_words, makes_buffer)
buffer_rows_make BufDelete s session args = search (making_words, drops)
buffer_rows_make BufSetName s session args = search (making_words, names)
buffer_rows_make BufSetLines s session args = search (making_words, splices_one)
buffer_rows_make BufGetText s session args = search making_words depth 9
buffer_rows_make BufSetText s session args = search (making_words, splices_one) depth 9
buffer_rows_make BufAttach s session args = search (making_words, attaches)
buffer_rows_make BufDetach s session args = search (making_words, detaches)
buffer_rows_make method s session args = search making_words

pub buffer_makes : (method : BufferMethod) → HasEffects (buffer_effects method) (buffer_row method)
unfolding BufferRowsHaveEffects
buffer_makes = buffer_rows_make
