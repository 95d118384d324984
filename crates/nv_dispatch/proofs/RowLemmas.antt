-- What a method gave by its row is what a call of it comes to.
use Rattle.std.proofs.Common.{◌≡◌, ◌≢◌, ℕ, List, [], refl, sym, ap, ◌∙◌, subst, append-nil, Bool, true, false, Option, Some, None, Result, Ok, Err}
use Rattle.std.specs.Prelude.{bytes_eq, if◌then◌else◌, not}
use Rattle.std.specs.List.{list_all}
use Rattle.std.specs.Result.{IsErrAnd}
use Rattle.std.proofs.lemmas.Option.{none-some}
use Rattle.std.proofs.lemmas.Slice.Eq.{bytes_eq-Decides}
use Rattle.nv_value.specs.Content.{Tree, nil}
use Rattle.nv_value.specs.declared.fault.ApiFault.{ApiFault}
use Rattle.nv_rpc.specs.Outcomes.{outcome_content}
use Rattle.nv_rpc.specs.declared.outcome.Outcome.{Outcome}
use Rattle.nv_args.specs.Faults.{unknown_method}
use Rattle.nv_args.specs.Reading.{Arg, read}
use Rattle.nv_args.specs.Refusals.{Refuses, Meets}
use Rattle.nv_args.specs.Args.{typed_arguments}
use Rattle.nv_args.specs.Table.{Signature, method_named, other_names, table}
use Rattle.nv_args.specs.declared.faults.Fail.{Fail}
use Rattle.nv_args.specs.declared.faults.Fail.TheVariants.{Api, NoMemory}
use Rattle.nv_args.specs.declared.methods.Method.{Method}
use Rattle.nv_args.specs.declared.methods.Method.TheVariants.{Atomic, PassedOver}
use Rattle.nv_args.proofs.NameLookup.{named_passes, named_same}
use Rattle.nv_model.specs.Editors.{ModelEditor}
use Rattle.nv_model.specs.Seen.{Seen, seen_of}
use Rattle.nv_model.specs.Answers.{Answer, Fact, refused}
use Rattle.nv_model.specs.Rows.{Row}
use Rattle.nv_model.specs.Standing.{PresentEditor, Stands, seen_now}
use Rattle.nv_model.proofs.Seeing.{seen_is_same}
use Rattle.nv_editor.specs.Doing.{GivesResult, Replies}
use Rattle.nv_dispatch.specs.Calls.{CallOutcome, outcome_of_answer, passed_over, arguments_for, answer_to_args, answer_by_row, answer_of_method, row_of, outcome_of_name, outcome_of_found, outcome_of_method, atomic_name, atomic_outcome, nvim_call_atomic, outcome_before_seal}
use Rattle.nv_dispatch.specs.Outcomes.{IsOutcome, GaveOutcome}
use Rattle.nv_dispatch.proofs.OutcomeLemmas.{replies_outcome, refused_outcome}

-- a refused call, whose fault may have found no memory
pub refuses_outcome :
    (answer : Answer) (fault : ApiFault) (fail : Fail) (is_seen : Bool) (m : ModelEditor) (before after : PresentEditor) (told now : List Fact)
    → Refuses fail fault → Stands before m → answer ≡ refused fault → after ≡ before → now ≡ told
    → GaveOutcome (outcome_of_answer is_seen answer) m (Err fail) after told now
refuses_outcome answer fault NoMemory is_seen m before after told now r is e f g = tt
refuses_outcome answer fault (Api given) is_seen m before after told now r is e f g =
    refused_outcome answer given is_seen m before after told now is (e ∙ ap refused (sym r.0)) f g

-- ---- from what is seen now to each model editor

answer_seen : (f : Seen → Answer) (e : PresentEditor) (m : ModelEditor) → Stands e m → f (seen_now e) ≡ f (seen_of m)
answer_seen f e m is = ap f (seen_is_same e m is)

pub gave_ok :
    (f : Seen → Answer) (is_seen : Bool) (outcome : Outcome) (before after : PresentEditor) (told now : List Fact)
    → GivesResult (f (seen_now before)) (Ok outcome) before after told now → (m : ModelEditor) → Stands before m
    → IsOutcome (outcome_of_answer is_seen (f (seen_of m))) m (Ok (outcome_content outcome)) is_seen after told now
gave_ok f is_seen outcome before after told now h m is =
    replies_outcome (f (seen_of m)) (outcome_content outcome) is_seen m before after told now is
    (subst (λ (a : Answer). Replies a (outcome_content outcome) before after told now) (answer_seen f before m is) h)

pub gave_err :
    (f : Seen → Answer) (is_seen : Bool) (fail : Fail) (before after : PresentEditor) (told now : List Fact)
    → GivesResult (f (seen_now before)) (Err fail) before after told now → (m : ModelEditor) → Stands before m
    → GaveOutcome (outcome_of_answer is_seen (f (seen_of m))) m (Err fail) after told now
gave_err f is_seen NoMemory before after told now h m is = tt
gave_err f is_seen (Api fault) before after told now h m is =
    refused_outcome (f (seen_of m)) fault is_seen m before after told now is (sym (answer_seen f before m is) ∙ h.0) h.2 h.3

-- ---- a method by its row

answer_is :
    (s : Seen) (session : ℕ) (signature : Signature) (given : List Tree) (method : Method) (row : Row) (args : Result (List Arg) ApiFault)
    → signature.method ≡ method → row_of method ≡ Some row → arguments_for method signature given ≡ args
    → answer_of_method s session signature given ≡ answer_to_args s session row args
answer_is s session signature given method row args is has are =
    ap (answer_by_row s session signature given) (ap row_of is ∙ has)
    ∙ ap (λ (v : Method). answer_to_args s session row (arguments_for v signature given)) is
    ∙ ap (answer_to_args s session row) are

-- what a method's row gave to arguments that were read
pub by_row :
    (s : Seen) (session : ℕ) (signature : Signature) (given : List Tree) (method : Method) (row : Row) (args : List Arg) (result : Result Outcome Fail)
    (before after : PresentEditor) (told now : List Fact)
    → signature.method ≡ method → row_of method ≡ Some row → arguments_for method signature given ≡ Ok args
    → GivesResult (row s session args) result before after told now
    → GivesResult (answer_of_method s session signature given) result before after told now
by_row s session signature given method row args result before after told now is has are gives =
    subst (λ (a : Answer). GivesResult a result before after told now) (sym (answer_is s session signature given method row (Ok args) is has are)) gives

-- the arguments couldn't be read
pub by_fault :
    (s : Seen) (session : ℕ) (signature : Signature) (given : List Tree) (method : Method) (row : Row) (fail : Fail) (result : Result Outcome Fail) (e : PresentEditor) (told : List Fact)
    → signature.method ≡ method → row_of method ≡ Some row → arguments_for method signature given ≡ read signature given
    → Meets typed_arguments (Err fail) (read signature given) → IsErrAnd result (λ y. y ≡ fail)
    → GivesResult (answer_of_method s session signature given) result e e told told
by_fault s session signature given method row fail (Ok outcome) e told is has are unread same = absurd same
by_fault s session signature given method row NoMemory (Err other) e told is has are unread same =
    subst (λ (f : Fail). GivesResult (answer_of_method s session signature given) (Err f) e e told told) (sym same) tt
by_fault s session signature given method row (Api fault) (Err other) e told is has are unread same =
    subst (λ (f : Fail). GivesResult (answer_of_method s session signature given) (Err f) e e told told) (sym same)
    (answer_is s session signature given method row (Err fault) is has (are ∙ unread.0), unread.1, refl, refl)

-- a method that has no row
pub by_none :
    (s : Seen) (session : ℕ) (signature : Signature) (given : List Tree) (fail : Fail) (e : PresentEditor) (told : List Fact)
    → signature.method ≡ Atomic → Refuses fail (unknown_method signature.name)
    → GivesResult (answer_of_method s session signature given) (Err fail) e e told told
unfolding row_of
by_none s session signature given NoMemory e told is refuses = tt
by_none s session signature given (Api fault) e told is refuses =
    (ap (λ (v : Method). answer_by_row s session signature given (row_of v)) is ∙ ap refused (sym refuses.0), refuses.1, refl, refl)

-- a method that is passed over
pub by_nothing :
    (s : Seen) (session : ℕ) (signature : Signature) (given : List Tree) (outcome : Outcome) (e : PresentEditor) (told : List Fact)
    → signature.method ≡ PassedOver → outcome_content outcome ≡ nil
    → GivesResult (answer_of_method s session signature given) (Ok outcome) e e told told
unfolding row_of
by_nothing s session signature given outcome e told is none =
    by_row s session signature given PassedOver passed_over [] (Ok outcome) e e told told is refl refl (none, (λ n stands. stands), sym (append-nil told))

-- ---- a call by its name

-- a method was found
pub found_outcome :
    (m : ModelEditor) (session : ℕ) (name : List ℕ) (given : List Tree) (signature : Signature) → method_named name ≡ Some signature
    → outcome_of_name m session name given ≡ outcome_of_method m session signature given
found_outcome m session name given signature e = ap (λ (o : Option Signature). outcome_of_found m session name o given) e

-- there is none
pub unknown_outcome :
    (session : ℕ) (name : List ℕ) (given : List Tree) (fail : Fail) (e : PresentEditor) (told : List Fact)
    → method_named name ≡ None → Refuses fail (unknown_method name) → (m : ModelEditor) → Stands e m
    → GaveOutcome (outcome_of_name m session name given) m (Err fail) e told told
unknown_outcome session name given fail e told none r m is =
    subst (λ (o : CallOutcome). GaveOutcome o m (Err fail) e told told) (sym (ap (λ (o : Option Signature). outcome_of_found m session name o given) none))
    (refuses_outcome (refused (unknown_method name)) (unknown_method name) fail false m e e told told r is refl refl refl)

-- calls in one have a name of their own
abbrev pub is_atomic : Method → Bool
is_atomic Atomic = true
is_atomic _ = false

pub not_atomic : (method : Method) → method ≢ Atomic → is_atomic method ≡ false
not_atomic Atomic apart = absurd (apart refl)
not_atomic method apart = refl

-- two tests that agree
abbrev agree : Bool → Bool → Bool
agree true b = b
agree false b = not b

agrees : (a b : Bool) → agree a b ≡ true → a ≡ b
agrees true true e = refl
agrees true false e = cc
agrees false true e = cc
agrees false false e = refl

abbrev names_atomic : Signature → Bool
names_atomic s = agree (bytes_eq s.name atomic_name) (is_atomic s.method)

one_named : list_all names_atomic table ≡ true
one_named = refl

none_else : list_all names_atomic other_names ≡ true
none_else = refl

pub atomic_by : (name : List ℕ) (s : Signature) → method_named name ≡ Some s → bytes_eq name atomic_name ≡ is_atomic s.method
atomic_by name s e =
    ap (λ (n : List ℕ). bytes_eq n atomic_name) (named_same name s e)
    ∙ agrees (bytes_eq s.name atomic_name) (is_atomic s.method) (named_passes names_atomic name s one_named none_else e)

-- a call of calls, and one of another method
pub atomic_found :
    (m : ModelEditor) (session : ℕ) (name : List ℕ) (given : List Tree) (s : Signature) → method_named name ≡ Some s → s.method ≡ Atomic
    → outcome_before_seal m session name given ≡ atomic_outcome m session (read s given)
atomic_found m session name given s e is =
    ap (λ (b : Bool). if b then nvim_call_atomic m session given (method_named name) else outcome_of_name m session name given)
    (atomic_by name s e ∙ ap is_atomic is)
    ∙ ap (nvim_call_atomic m session given) e

pub other_found :
    (m : ModelEditor) (session : ℕ) (name : List ℕ) (given : List Tree) (s : Signature) → method_named name ≡ Some s → s.method ≢ Atomic
    → outcome_before_seal m session name given ≡ outcome_of_method m session s given
other_found m session name given s e apart =
    ap (λ (b : Bool). if b then nvim_call_atomic m session given (method_named name) else outcome_of_name m session name given)
    (atomic_by name s e ∙ not_atomic s.method apart)
    ∙ found_outcome m session name given s e

-- a name that no method has isn't that of calls in one
atomic_is_there : method_named atomic_name ≡ None → ⊥
atomic_is_there e = none-some _ (sym e)

pub unknown_found :
    (session : ℕ) (name : List ℕ) (given : List Tree) (fail : Fail) (e : PresentEditor) (told : List Fact)
    → method_named name ≡ None → Refuses fail (unknown_method name) → (m : ModelEditor) → Stands e m
    → GaveOutcome (outcome_before_seal m session name given) m (Err fail) e told told
unknown_found session name given fail e told none r m is = by (bytes_eq name atomic_name) refl
  where
    by : (b : Bool) → bytes_eq name atomic_name ≡ b
        → GaveOutcome (if b then nvim_call_atomic m session given (method_named name) else outcome_of_name m session name given) m (Err fail) e told told
    by false same = unknown_outcome session name given fail e told none r m is
    by true same = absurd (atomic_is_there (ap method_named (sym ((bytes_eq-Decides name atomic_name).0 same)) ∙ none))
