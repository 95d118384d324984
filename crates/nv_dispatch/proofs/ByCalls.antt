-- What holds of each whole call, where it holds of what each row answers, of calls one after another,
-- and of closing the open changes.
use Rattle.std.proofs.Common.{◌≡◌, refl, subst, ℕ, suc, Bool, true, false, List, [], ◌∷◌, ◌++◌, append-nil, Option, Some, None, Result, Ok, Err}
use Rattle.std.specs.Prelude.{◌||◌, if◌then◌else◌, bytes_eq, IfSome}
use Rattle.nv_value.specs.Content.{Tree}
use Rattle.nv_value.specs.declared.fault.ApiFault.{ApiFault}
use Rattle.nv_args.specs.Arguments.{tree_list}
use Rattle.nv_args.specs.Table.{Signature, method_named}
use Rattle.nv_args.specs.Reading.{Arg, read, values_at, name_of_call, arguments_of_call}
use Rattle.nv_model.specs.Editors.{ModelEditor}
use Rattle.nv_model.specs.Seen.{seen_of}
use Rattle.nv_model.specs.Operations.{Operation, after_operations}
use Rattle.nv_model.specs.Answers.{Answer, Fact, refused, replied}
use Rattle.nv_model.specs.Rows.{Row}
use Rattle.nv_dispatch.specs.Calls.{CallOutcome, Batch, row_of, editor_after, outcome_of_answer, arguments_for, answer_to_args, answer_by_row, outcome_of_found, outcome_of_name, outcome_of_value, batch_from_result, batch_of_values, atomic_outcome, atomic_name, nvim_call_atomic, outcome_before_seal, seal_operations, outcome_with_seal, outcome_of_call}

-- what is said of the operations and the facts of an answer, and of each answer of a row
abbrev pub OfAnswer : (ModelEditor → List Operation → List Fact → Bool → Type 0) → ModelEditor → Bool → Answer → Type 0
OfAnswer Holds m is_seen (refused fault) = Unit {0}
OfAnswer Holds m is_seen (replied t operations facts) = Holds m operations facts is_seen

abbrev pub OfRow : (ModelEditor → Type 0) → (ModelEditor → List Operation → List Fact → Bool → Type 0) → Bool → Row → Type 0
OfRow Sound Holds is_seen row = (m : ModelEditor) → Sound m → (session : ℕ) (args : List Arg) → OfAnswer Holds m is_seen (row (seen_of m) session args)

-- and of the outcome of a call, and of calls one after another
abbrev pub OfOutcome : (ModelEditor → List Operation → List Fact → Bool → Type 0) → ModelEditor → CallOutcome → Type 0
OfOutcome Holds m o = Holds m o.operations o.facts o.is_seen

abbrev OfBatch : (ModelEditor → List Operation → List Fact → Bool → Type 0) → ModelEditor → Batch → Type 0
OfBatch Holds m b = Holds m b.operations b.facts b.is_seen

-- what is to be shown of operations and facts of sound editors, and whether they may be seen
pub record HoldsByCalls (Sound : ModelEditor → Type 0) (Holds : ModelEditor → List Operation → List Fact → Bool → Type 0) : Type 0 where
  pub none : (m : ModelEditor) (is_seen : Bool) → Sound m → Holds m [] [] is_seen
  pub both : (m : ModelEditor) (cs ds : List Operation) (fs gs : List Fact) (a b : Bool) → Sound m → Holds m cs fs a
      → (Sound (after_operations cs m) → Holds (after_operations cs m) ds gs b) → Holds m (cs ++ ds) (fs ++ gs) (a || b)
  pub rows : (name : List ℕ) (s : Signature) → method_named name ≡ Some s → IfSome (row_of s.method) (OfRow Sound Holds s.is_seen)
  pub seals : (m : ModelEditor) → Sound m → Holds m (seal_operations m) [] false

-- either outcome
of_both : (P : CallOutcome → Type 0) (b : Bool) (x y : CallOutcome) → P x → P y → P (if b then x else y)
of_both P true x y p q = p
of_both P false x y p q = q

or_false : (a : Bool) → a || false ≡ a
or_false true = refl
or_false false = refl

module _ (Sound : ModelEditor → Type 0) (Holds : ModelEditor → List Operation → List Fact → Bool → Type 0) (laws : HoldsByCalls Sound Holds) where
  answer_holds : (m : ModelEditor) → Sound m → (is_seen : Bool) (a : Answer) → OfAnswer Holds m is_seen a → OfOutcome Holds m (outcome_of_answer is_seen a)
  answer_holds m sound is_seen (refused f) h = laws.none m false sound
  answer_holds m sound is_seen (replied t cs fs) h = h

  args_hold : (m : ModelEditor) → Sound m → (session : ℕ) (row : Row) (is_seen : Bool) (args : Result (List Arg) ApiFault) → OfRow Sound Holds is_seen row
      → OfOutcome Holds m (outcome_of_answer is_seen (answer_to_args (seen_of m) session row args))
  args_hold m sound session row is_seen (Ok args) h = answer_holds m sound is_seen (row (seen_of m) session args) (h m sound session args)
  args_hold m sound session row is_seen (Err f) h = laws.none m false sound

  row_holds : (m : ModelEditor) → Sound m → (session : ℕ) (s : Signature) (given : List Tree) (row : Option Row) → IfSome row (OfRow Sound Holds s.is_seen)
      → OfOutcome Holds m (outcome_of_answer s.is_seen (answer_by_row (seen_of m) session s given row))
  row_holds m sound session s given (Some row) h = args_hold m sound session row s.is_seen (arguments_for s.method s given) h
  row_holds m sound session s given None h = laws.none m false sound

  found_holds : (m : ModelEditor) → Sound m → (session : ℕ) (name : List ℕ) (given : List Tree) (found : Option Signature) → method_named name ≡ found
      → OfOutcome Holds m (outcome_of_found m session name found given)
  found_holds m sound session name given (Some s) is = row_holds m sound session s given (row_of s.method) (laws.rows name s is)
  found_holds m sound session name given None is = laws.none m false sound

  name_holds : (m : ModelEditor) → Sound m → (session : ℕ) (name : List ℕ) (given : List Tree) → OfOutcome Holds m (outcome_of_name m session name given)
  name_holds m sound session name given = found_holds m sound session name given (method_named name) refl

  then_holds : (number : ℕ) (m : ModelEditor) (o : CallOutcome) (next : ModelEditor → Batch) (r : Result Tree ApiFault) → Sound m → OfOutcome Holds m o
      → ((after : ModelEditor) → Sound after → OfBatch Holds after (next after)) → OfBatch Holds m (batch_from_result number m o next r)
  then_holds number m o next (Ok t) sound first more =
      laws.both m o.operations (next (editor_after m o)).operations o.facts (next (editor_after m o)).facts o.is_seen (next (editor_after m o)).is_seen sound first
      (λ later. more (editor_after m o) later)
  then_holds number m o next (Err f) sound first more = laws.none m false sound

  values_hold : (number : ℕ) (m : ModelEditor) → Sound m → (session : ℕ) (values : List Tree) → OfBatch Holds m (batch_of_values number m session values)
  values_hold number m sound session [] = laws.none m false sound
  values_hold number m sound session (v ∷ vs) =
      then_holds number m (outcome_of_value m session v) (λ after. batch_of_values (suc number) after session vs) (outcome_of_value m session v).result sound
      (name_holds m sound session (name_of_call v) (arguments_of_call v)) (λ after is. values_hold (suc number) after is session vs)

  read_holds : (m : ModelEditor) → Sound m → (session : ℕ) (args : Result (List Arg) ApiFault) → OfOutcome Holds m (atomic_outcome m session args)
  read_holds m sound session (Ok args) = values_hold 0 m sound session (tree_list (values_at args 0))
  read_holds m sound session (Err f) = laws.none m false sound

  atomic_holds : (m : ModelEditor) → Sound m → (session : ℕ) (given : List Tree) (found : Option Signature) → OfOutcome Holds m (nvim_call_atomic m session given found)
  atomic_holds m sound session given (Some s) = read_holds m sound session (read s given)
  atomic_holds m sound session given None = laws.none m false sound

  unsealed_holds : (m : ModelEditor) → Sound m → (session : ℕ) (name : List ℕ) (given : List Tree) → OfOutcome Holds m (outcome_before_seal m session name given)
  unsealed_holds m sound session name given =
      of_both (λ (o : CallOutcome). OfOutcome Holds m o) (bytes_eq name atomic_name) (nvim_call_atomic m session given (method_named name)) (outcome_of_name m session name given)
      (atomic_holds m sound session given (method_named name))
      (name_holds m sound session name given)

  sealed_holds : (m : ModelEditor) → Sound m → (o : CallOutcome) (r : Result Tree ApiFault) → OfOutcome Holds m o → OfOutcome Holds m (outcome_with_seal m o r)
  sealed_holds m sound o (Ok t) h =
      let seals : List Operation = seal_operations (editor_after m o) in
      subst (λ (b : Bool). Holds m (o.operations ++ seals) o.facts b) (or_false o.is_seen)
      (subst (λ (fs : List Fact). Holds m (o.operations ++ seals) fs (o.is_seen || false)) (append-nil o.facts)
      (laws.both m o.operations seals o.facts [] o.is_seen false sound h (λ later. laws.seals (editor_after m o) later)))
  sealed_holds m sound o (Err f) h = h

  pub call_holds : (m : ModelEditor) → Sound m → (session : ℕ) (name : List ℕ) (given : List Tree) → OfOutcome Holds m (outcome_of_call m session name given)
  call_holds m sound session name given =
      sealed_holds m sound (outcome_before_seal m session name given) (outcome_before_seal m session name given).result (unsealed_holds m sound session name given)
