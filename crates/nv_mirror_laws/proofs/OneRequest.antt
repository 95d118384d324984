-- What the one call of a client that follows a buffer comes to.
use Rattle.std.proofs.Common.{◌≡◌, ℕ, ◌≤◌, ℤ, pos, List, [], ◌∷◌, refl, sym, ap, subst, ◌∙◌, arith, cond, Bool, true, false, Option, Some, None, Result, Ok, Err}
use Rattle.std.specs.Ordering.{int_eq}
use Rattle.std.proofs.lemmas.Int.{ints}
use Rattle.std.specs.Prelude.{codes}
use Rattle.nv_value.specs.Content.{Tree, Trees, trees_of, no_more, truth, integer, pairs}
use Rattle.nv_value.specs.declared.fault.ApiFault.{ApiFault}
use Rattle.nv_args.specs.Faults.{no_buffer}
use Rattle.nv_windows.specs.Workspace.{current_buffer}
use Rattle.nv_model.specs.Answers.{Answer, attached, refused, replied, or_refused}
use Rattle.nv_model.specs.Editors.{ModelEditor, handles_of}
use Rattle.nv_model.specs.Seen.{SeenBuffer, seen_of}
use Rattle.nv_model.specs.Stage.{or_current}
use Rattle.nv_dispatch.specs.Calls.{CallOutcome, row_of, outcome_of_answer, sealed_outcome}
use Rattle.nv_history.specs.Worlds.{outcome_of_frame}
use Rattle.nv_mirror_laws.specs.Laws.{attach_call}
use Rattle.nv_mirror_laws.proofs.Unshown.{OutcomeSpares, CallSpares, seals_spare}

-- the parts of the call
abbrev pub attach_name : List ℕ
attach_name = codes "nvim_buf_attach"

abbrev pub attach_given : ℤ → Trees
attach_given buffer = trees_of (integer buffer ∷ truth true ∷ pairs no_more ∷ [])

-- the answer, by the buffer that is there under a number
abbrev pub attach_answer : ℤ → ℤ → Option SeenBuffer → Answer
attach_answer asked n found = or_refused found (no_buffer asked) (λ b. replied (truth true) [] (attached n b.tick (Some b.lines) ∷ []))

abbrev pub attach_outcome : ModelEditor → ℕ → Option SeenBuffer → CallOutcome
attach_outcome m n found = sealed_outcome m (outcome_of_answer false (attach_answer (pos n) (pos n) found))

by_row : (m : ModelEditor) (s n : ℕ) → outcome_of_frame m s (attach_call (pos n))
    ≡ sealed_outcome m (outcome_of_answer false
    (attach_answer (pos n) (or_current (current_buffer m.stage.workspace) (pos n)) ((seen_of m).buffer (or_current (current_buffer m.stage.workspace) (pos n)))))
unfolding row_of
by_row m s n = refl

named : (current : ℤ) (n : ℕ) → 1 ≤ n → or_current current (pos n) ≡ pos n
named current n some =
    let other : int_eq (pos n) (pos 0) ≡ false = grind (arith, ints) in
    ap (λ (b : Bool). cond b current (pos n)) other

pub comes_to : (m : ModelEditor) (s n : ℕ) → 1 ≤ n → outcome_of_frame m s (attach_call (pos n)) ≡ attach_outcome m n ((seen_of m).buffer (pos n))
comes_to m s n some =
    by_row m s n
    ∙ ap (λ (k : ℤ). sealed_outcome m (outcome_of_answer false (attach_answer (pos n) k ((seen_of m).buffer k)))) (named (current_buffer m.stage.workspace) n some)

-- it puts no UI
outcome_spares : (m : ModelEditor) (s n : ℕ) (found : Option SeenBuffer) → OutcomeSpares s (attach_outcome m n found)
outcome_spares m s n None = tt
outcome_spares m s n (Some b) = seals_spare s (handles_of m.buffers)

pub attach_spares : (s n : ℕ) → 1 ≤ n → CallSpares s (attach_call (pos n))
attach_spares s n some = λ m.
    subst (λ (o : CallOutcome). OutcomeSpares s o) (sym (comes_to m s n some)) (outcome_spares m s n ((seen_of m).buffer (pos n)))

-- it is refused where there is no such buffer
found_fault : (m : ModelEditor) (n : ℕ) (fault : ApiFault) (found : Option SeenBuffer) → (attach_outcome m n found).result ≡ Err fault → fault ≡ no_buffer (pos n)
found_fault m n fault None e = same_fault (no_buffer (pos n)) e
  where
    same_fault : (f : ApiFault) → ◌≡◌ {A = Result Tree ApiFault} (Err f) (Err fault) → fault ≡ f
    same_fault f e = cc
found_fault m n fault (Some b) e = absurd (not_refused e)
  where
    not_refused : ◌≡◌ {A = Result Tree ApiFault} (Ok (truth true)) (Err fault) → ⊥
    not_refused e = cc

pub refusing_fault : (m : ModelEditor) (s n : ℕ) (fault : ApiFault) → 1 ≤ n → (outcome_of_frame m s (attach_call (pos n))).result ≡ Err fault → fault ≡ no_buffer (pos n)
refusing_fault m s n fault some e =
    found_fault m n fault ((seen_of m).buffer (pos n)) (ap (λ (o : CallOutcome). o.result) (sym (comes_to m s n some)) ∙ e)
