-- Laws of calls.
use Rattle.std.proofs.Common.{◌≡◌, ◌∙◌, refl, sym, ap, subst, ℕ, suc, ◌+◌, ℤ, Bool, true, false, List, [], ◌∷◌, ◌++◌, map, length, length-append, arith, Option, Some, None, Result, Ok, Err}
use Rattle.std.specs.Prelude.{if◌then◌else◌, bytes_eq, IsTrue, IfSome, option_map, codes}
use Rattle.std.specs.List.{list_all}
use Rattle.std.proofs.lemmas.List.Concat.{flat_map-append}
use Rattle.nv_value.specs.Content.{Tree, Trees, nil, trees_of}
use Rattle.nv_value.specs.declared.fault.ApiFault.{ApiFault}
use Rattle.nv_args.specs.Arguments.{tree_list, require, answer_after}
use Rattle.nv_args.specs.Faults.{wrong_type}
use Rattle.nv_args.specs.Table.{Signature, method_named}
use Rattle.nv_args.specs.Reading.{Arg, list_arg, read, values_passing, is_call}
use Rattle.nv_args.specs.declared.methods.Method.{Method}
use Rattle.nv_args.specs.declared.methods.Method.TheVariants.{Atomic, PassedOver, Buffer, Mark, Window, Ui}
use Rattle.nv_model.specs.Buffers.{tick_of, Splice, text_after, splice_events}
use Rattle.nv_model.specs.Editors.{ModelEditor, handles_of}
use Rattle.nv_model.specs.Seen.{seen_of}
use Rattle.nv_model.specs.Operations.{Operation, sealed_in, after_operation, after_operations}
use Rattle.nv_model.specs.Answers.{Answer, Fact, refused, replied}
use Rattle.nv_model.specs.Laws.{splices_in, splices_among}
use Rattle.nv_model.specs.Answering.{array_of}
use Rattle.nv_model.specs.Kinds.{no_effects}
use Rattle.nv_model.specs.Rows.{Row, TellsSplices, RowTells, edits_in, edits_among, text_seen, tick_seen}
use Rattle.nv_model.proofs.Making.{silent_tells}
use Rattle.nv_model.proofs.Texts.{operations_make_texts}
use Rattle.nv_api_buf.specs.Laws.{EachSpliceIsTold}
use Rattle.nv_api_buf.proofs.RowsTell.{each_splice_is_told}
use Rattle.nv_api_mark.proofs.RowsMake.{no_splice_is_told as marks_tell}
use Rattle.nv_api_ui.proofs.RowsMake.{no_splice_is_told as uis_tell}
use Rattle.nv_api_win.proofs.RowsMake.{no_splice_is_told as windows_tell}
use Rattle.nv_dispatch.specs.Calls.{CallOutcome, Batch, passed_over, row_of, editor_after, outcome_of_answer, answer_of_method, outcome_of_found, outcome_of_value, batch_with_first, batch_from_result, batch_of_values, outcome_of_batch, atomic_outcome, atomic_name, nvim_call_atomic, outcome_before_seal, outcome_with_seal, stop_value, outcome_of_call}
use Rattle.nv_dispatch.specs.Laws.{NamesStandOnce, MethodsHaveRows, RefusedLeavesAll, EachSpliceIsOneFact, TicksCountFacts, IsFirst, OneByOne, outcome_of_calls, ComesTo, AtomicIsOneByOne, AtomicStops}
use Rattle.nv_dispatch.proofs.ByCalls.{OfAnswer, OfRow, HoldsByCalls, call_holds}
use Rattle.nv_dispatch.proofs.RowsMake.{passed_over_makes, if_some}

-- ---- the table

pub names_stand_once : NamesStandOnce
unfolding NamesStandOnce
names_stand_once = refl

pub methods_have_rows : MethodsHaveRows
unfolding MethodsHaveRows row_of
methods_have_rows = refl

-- ---- refused calls

-- a refused call makes no operation and tells nothing
abbrev IsQuiet : CallOutcome → Type 0
IsQuiet o = (fault : ApiFault) → o.result ≡ Err fault → (o.operations ≡ []) × (o.facts ≡ [])

quiet_answer : (is_seen : Bool) (a : Answer) → IsQuiet (outcome_of_answer is_seen a)
quiet_answer is_seen (refused f) fault is = (refl, refl)
quiet_answer is_seen (replied t cs fs) fault is = absurd (grind arith)

quiet_found : (m : ModelEditor) (session : ℕ) (name : List ℕ) (given : List Tree) (found : Option Signature) → IsQuiet (outcome_of_found m session name found given)
quiet_found m session name given (Some s) = quiet_answer s.is_seen (answer_of_method (seen_of m) session s given)
quiet_found m session name given None = quiet_answer false (refused _)

quiet_read : (m : ModelEditor) (session : ℕ) (args : Result (List Arg) ApiFault) → IsQuiet (atomic_outcome m session args)
quiet_read m session (Ok args) fault is = absurd (grind arith)
quiet_read m session (Err f) fault is = quiet_answer false (refused f) fault is

quiet_atomic : (m : ModelEditor) (session : ℕ) (given : List Tree) (method : Option Signature) → IsQuiet (nvim_call_atomic m session given method)
quiet_atomic m session given (Some method) = quiet_read m session (read method given)
quiet_atomic m session given None = quiet_answer false (refused _)

-- either outcome
of_both : (P : CallOutcome → Type 0) (b : Bool) (x y : CallOutcome) → P x → P y → P (if b then x else y)
of_both P true x y p q = p
of_both P false x y p q = q

quiet_called : (m : ModelEditor) (session : ℕ) (name : List ℕ) (given : List Tree) → IsQuiet (outcome_before_seal m session name given)
quiet_called m session name given =
    of_both IsQuiet (bytes_eq name atomic_name) _ _
    (quiet_atomic m session given (method_named name))
    (quiet_found m session name given (method_named name))

quiet_whole : (m : ModelEditor) (o : CallOutcome) (r : Result Tree ApiFault) → o.result ≡ r → IsQuiet o → IsQuiet (outcome_with_seal m o r)
quiet_whole m o (Ok t) e q fault is = absurd (let told : Ok t ≡ Err fault = sym e ∙ is in grind arith)
quiet_whole m o (Err f) e q fault is = q fault is

pub refused_leaves_all : RefusedLeavesAll
unfolding RefusedLeavesAll
refused_leaves_all m session name given fault is =
    let q = quiet_whole m (outcome_before_seal m session name given) (outcome_before_seal m session name given).result refl (quiet_called m session name given) fault is in
    (ap (λ (cs : List Operation). after_operations cs m) q.0, q.1)

-- ---- each splice is one fact

length-events : (text : List ℕ) (tick : ℕ) (ss : List Splice) → length (splice_events text tick ss) ≡ length ss
length-events text tick [] = refl
length-events text tick (s ∷ ss) = ap suc (length-events (text_after text s) (tick + 1) ss)

-- as many facts as splices, in the buffer of a handle
abbrev Counts : ℤ → List Operation → List Fact → Type 0
Counts n operations facts = length (edits_among n facts) ≡ length (splices_among n operations)

counts-append : (n : ℤ) (cs ds : List Operation) (fs gs : List Fact) → Counts n cs fs → Counts n ds gs → Counts n (cs ++ ds) (fs ++ gs)
counts-append n cs ds fs gs c d =
    ap length (flat_map-append (edits_in n) fs gs)
    ∙ length-append (edits_among n fs) (edits_among n gs)
    ∙ ap (λ (k : ℕ). k + length (edits_among n gs)) c
    ∙ ap (λ (k : ℕ). length (splices_among n cs) + k) d
    ∙ sym (length-append (splices_among n cs) (splices_among n ds))
    ∙ sym (ap length (flat_map-append (splices_in n) cs ds))

-- and in each buffer, of any editor
abbrev IsAny : ModelEditor → Type 0
IsAny m = Unit {0}

abbrev AllCount : ModelEditor → List Operation → List Fact → Bool → Type 0
AllCount m operations facts is_seen = (n : ℤ) → Counts n operations facts

answer_counts : (m : ModelEditor) (is_seen : Bool) (a : Answer) → TellsSplices (seen_of m) a → OfAnswer AllCount m is_seen a
unfolding TellsSplices
answer_counts m is_seen (refused f) tells = tt
answer_counts m is_seen (replied t cs fs) tells = λ n.
    ap length (tells n) ∙ length-events (text_seen (seen_of m) n) (tick_seen (seen_of m) n) (splices_among n cs)

row_counts : (is_seen : Bool) (row : Row) → RowTells row → OfRow IsAny AllCount is_seen row
row_counts is_seen row tells m any session args = answer_counts m is_seen (row (seen_of m) session args) (tells (seen_of m) session args)

rows_tell : (method : Method) → IfSome (row_of method) RowTells
unfolding row_of EachSpliceIsTold
rows_tell Atomic = tt
rows_tell PassedOver = silent_tells no_effects passed_over refl passed_over_makes
rows_tell (Buffer method) = each_splice_is_told method
rows_tell (Mark method) = marks_tell method
rows_tell (Window method) = windows_tell method
rows_tell (Ui method) = uis_tell method

rows_count : (name : List ℕ) (s : Signature) → method_named name ≡ Some s → IfSome (row_of s.method) (OfRow IsAny AllCount s.is_seen)
rows_count name s is = if_some RowTells (OfRow IsAny AllCount s.is_seen) (row_counts s.is_seen) (row_of s.method) (rows_tell s.method)

none_sealed : (n : ℤ) (handles : List ℤ) → splices_among n (map sealed_in handles) ≡ []
none_sealed n [] = refl
none_sealed n (k ∷ ks) = none_sealed n ks

calls_count : HoldsByCalls IsAny AllCount
calls_count = record {
  none = λ m is_seen any n. refl;
  both = λ m cs ds fs gs a b any first more n. counts-append n cs ds fs gs (first n) (more tt n);
  rows = rows_count;
  seals = λ m any n. sym (ap length (none_sealed n (handles_of m.buffers)));
}

counts_whole : (n : ℤ) (m : ModelEditor) (session : ℕ) (name : List ℕ) (given : List Tree)
    → Counts n (outcome_of_call m session name given).operations (outcome_of_call m session name given).facts
counts_whole n m session name given = call_holds IsAny AllCount calls_count m tt session name given n

pub each_splice_is_one_fact : EachSpliceIsOneFact
unfolding EachSpliceIsOneFact
each_splice_is_one_fact m session name given n = counts_whole n m session name given

pub ticks_count_facts : TicksCountFacts
unfolding TicksCountFacts
ticks_count_facts m session name given n numbered b later before after =
    (operations_make_texts (outcome_of_call m session name given).operations m n numbered b later before after).tick
    ∙ ap (λ (k : ℕ). tick_of b + k) (sym (counts_whole n m session name given))

-- ---- calls in one

tree_list-trees_of : (ts : List Tree) → tree_list (trees_of ts) ≡ ts
tree_list-trees_of [] = refl
tree_list-trees_of (t ∷ ts) = ap (λ (us : List Tree). t ∷ us) (tree_list-trees_of ts)

-- what a batch is
pub record BatchIs (b : Batch) (results : List Tree) (stop : Option (ℕ × ApiFault)) (operations : List Operation) (facts : List Fact) : Type 0 where
  pub same_results : b.results ≡ results
  pub same_stop : b.stopped ≡ stop
  pub same_operations : b.operations ≡ operations
  pub same_facts : b.facts ≡ facts

in_front_is :
    (t : Tree) (o : CallOutcome) (b : Batch) (rs : List Tree) (stop : Option (ℕ × ApiFault)) (cs : List Operation) (fs : List Fact)
    → BatchIs b rs stop cs fs → BatchIs (batch_with_first t o b) (t ∷ rs) stop (o.operations ++ cs) (o.facts ++ fs)
in_front_is t o b rs stop cs fs is = record {
  same_results = ap (λ (ts : List Tree). t ∷ ts) is.same_results;
  same_stop = is.same_stop;
  same_operations = ap (λ (ds : List Operation). o.operations ++ ds) is.same_operations;
  same_facts = ap (λ (gs : List Fact). o.facts ++ gs) is.same_facts;
}

-- the same by results, operations and facts that are equal
batch_by :
    (b : Batch) (rs ss : List Tree) (stop : Option (ℕ × ApiFault)) (cs ds : List Operation) (fs gs : List Fact)
    → ss ≡ rs → ds ≡ cs → gs ≡ fs → BatchIs b rs stop cs fs → BatchIs b ss stop ds gs
batch_by b rs ss stop cs ds fs gs e f g is = record {
  same_results = is.same_results ∙ sym e;
  same_stop = is.same_stop;
  same_operations = is.same_operations ∙ sym f;
  same_facts = is.same_facts ∙ sym g;
}

-- a call that succeeds in front
goes_on :
    (number : ℕ) (m : ModelEditor) (o : CallOutcome) (next : ModelEditor → Batch) (others : List Tree → List Operation → List Fact → Type 0)
    (rs : List Tree) (cs : List Operation) (fs : List Fact) (stop : Option (ℕ × ApiFault))
    (h : IsFirst o others rs cs fs)
    → BatchIs (next (editor_after m o)) h.later_results stop h.later_operations h.later_facts
    → BatchIs (batch_from_result number m o next o.result) rs stop cs fs
goes_on number m o next others rs cs fs stop h is =
    subst (λ (r : Result Tree ApiFault). BatchIs (batch_from_result number m o next r) rs stop cs fs) (sym h.succeeds)
    (batch_by (batch_with_first h.result o (next (editor_after m o))) (h.result ∷ h.later_results) rs stop (o.operations ++ h.later_operations) cs (o.facts ++ h.later_facts) fs
    h.all_results h.all_operations h.all_facts
    (in_front_is h.result o (next (editor_after m o)) h.later_results stop h.later_operations h.later_facts is))

all_made :
    (number : ℕ) (m : ModelEditor) (session : ℕ) (values rs : List Tree) (cs : List Operation) (fs : List Fact)
    → OneByOne m session values rs cs fs → BatchIs (batch_of_values number m session values) rs None cs fs
all_made number m session [] rs cs fs h = record { same_results = sym h.0; same_stop = refl; same_operations = sym h.1; same_facts = sym h.2 }
all_made number m session (v ∷ vs) rs cs fs h =
    goes_on number m (outcome_of_value m session v) (λ after. batch_of_values (suc number) after session vs)
    (OneByOne (editor_after m (outcome_of_value m session v)) session vs) rs cs fs None h
    (all_made (suc number) (editor_after m (outcome_of_value m session v)) session vs h.later_results h.later_operations h.later_facts h.later)

pub after_operations-append : (cs ds : List Operation) (m : ModelEditor) → after_operations (cs ++ ds) m ≡ after_operations ds (after_operations cs m)
after_operations-append [] ds m = refl
after_operations-append (c ∷ cs) ds m = after_operations-append cs ds (after_operation c m)

-- a batch that stops, by a number that is equal
stops_at : (b : Batch) (rs : List Tree) (j k : ℕ) (fault : ApiFault) (cs : List Operation) (fs : List Fact) → j ≡ k → BatchIs b rs (Some (j, fault)) cs fs → BatchIs b rs (Some (k, fault)) cs fs
stops_at b rs j k fault cs fs e is = subst (λ (n : ℕ). BatchIs b rs (Some (n, fault)) cs fs) e is

stopped_there :
    (number : ℕ) (m : ModelEditor) (o : CallOutcome) (next : ModelEditor → Batch) (rs : List Tree) (cs : List Operation) (fs : List Fact) (fault : ApiFault)
    → (rs ≡ []) × (cs ≡ []) × (fs ≡ []) → o.result ≡ Err fault → BatchIs (batch_from_result number m o next o.result) rs (Some (number + 0, fault)) cs fs
stopped_there number m o next rs cs fs fault h is =
    subst (λ (r : Result Tree ApiFault). BatchIs (batch_from_result number m o next r) rs (Some (number + 0, fault)) cs fs) (sym is)
    (record { same_results = sym h.0; same_stop = ap (λ (n : ℕ). Some (n, fault)) (omega arith); same_operations = sym h.1; same_facts = sym h.2 })

stops :
    (number : ℕ) (m : ModelEditor) (session : ℕ) (before : List Tree) (value : Tree) (behind rs : List Tree) (cs : List Operation) (fs : List Fact) (fault : ApiFault)
    → OneByOne m session before rs cs fs → (outcome_of_value (after_operations cs m) session value).result ≡ Err fault
    → BatchIs (batch_of_values number m session (before ++ value ∷ behind)) rs (Some (number + length before, fault)) cs fs
stops number m session [] value behind rs cs fs fault h is =
    stopped_there number m (outcome_of_value m session value) (λ after. batch_of_values (suc number) after session behind) rs cs fs fault h
    (ap (λ (ds : List Operation). (outcome_of_value (after_operations ds m) session value).result) (sym h.1) ∙ is)
stops number m session (v ∷ vs) value behind rs cs fs fault h is =
    let o = outcome_of_value m session v in
    let there : (outcome_of_value (after_operations h.later_operations (editor_after m o)) session value).result ≡ Err fault =
    ap (λ (e : ModelEditor). (outcome_of_value e session value).result) (sym (after_operations-append o.operations h.later_operations m))
    ∙ ap (λ (ds : List Operation). (outcome_of_value (after_operations ds m) session value).result) (sym h.all_operations) ∙ is in
    goes_on number m o (λ after. batch_of_values (suc number) after session (vs ++ value ∷ behind))
    (OneByOne (editor_after m o) session vs) rs cs fs (Some (number + length (v ∷ vs), fault)) h
    (stops_at (batch_of_values (suc number) (editor_after m o) session (vs ++ value ∷ behind)) h.later_results (suc number + length vs) (number + length (v ∷ vs)) fault
    h.later_operations h.later_facts (omega arith)
    (stops (suc number) (editor_after m o) session vs value behind h.later_results h.later_operations h.later_facts fault h.later there))

calls_pass : (values : List Tree) → IsTrue (list_all is_call values) → values_passing (list_all is_call) (trees_of values) ≡ Some (trees_of values)
calls_pass values are =
    ap (λ (ts : List Tree). if list_all is_call ts then Some (trees_of values) else None) (tree_list-trees_of values)
    ∙ ap (λ (b : Bool). if b then Some (trees_of values) else None) are

-- the arguments of calls in one are read
read_calls : (m : ModelEditor) (session : ℕ) (values : List Tree) → IsTrue (list_all is_call values) → outcome_of_calls m session values ≡ outcome_of_batch (batch_of_values 0 m session values)
read_calls m session values are =
    ap (λ (o : Option Trees). atomic_outcome m session (require (option_map list_arg o) (wrong_type 1 atomic_name (codes "Array")) (λ (arg : Arg). answer_after (Ok []) (λ (args : List Arg). Ok (arg ∷ args)))))
    (calls_pass values are)
    ∙ ap (λ (ts : List Tree). outcome_of_batch (batch_of_values 0 m session ts)) (tree_list-trees_of values)

of_batch_is : (b : Batch) (rs : List Tree) (stop : Option (ℕ × ApiFault)) (cs : List Operation) (fs : List Fact) → BatchIs b rs stop cs fs
    → ComesTo (outcome_of_batch b) (Ok (array_of (array_of rs ∷ stop_value stop ∷ []))) cs fs
of_batch_is b rs stop cs fs is = record {
  same_result = ap (λ (ts : List Tree). Ok (array_of (array_of ts ∷ stop_value b.stopped ∷ []))) is.same_results ∙ ap (λ (p : Option (ℕ × ApiFault)). Ok (array_of (array_of rs ∷ stop_value p ∷ []))) is.same_stop;
  same_operations = is.same_operations;
  same_facts = is.same_facts;
}

pub atomic_is_one_by_one : AtomicIsOneByOne
unfolding AtomicIsOneByOne
atomic_is_one_by_one m session values rs cs fs are h =
    subst (λ (o : CallOutcome). ComesTo o (Ok (array_of (array_of rs ∷ nil ∷ []))) cs fs) (sym (read_calls m session values are))
    (of_batch_is (batch_of_values 0 m session values) rs None cs fs (all_made 0 m session values rs cs fs h))

pub atomic_stops : AtomicStops
unfolding AtomicStops
atomic_stops m session before value behind rs cs fs fault are h is =
    let values = before ++ value ∷ behind in
    subst (λ (o : CallOutcome). ComesTo o (Ok (array_of (array_of rs ∷ stop_value (Some (length before, fault)) ∷ []))) cs fs) (sym (read_calls m session values are))
    (of_batch_is (batch_of_values 0 m session values) rs (Some (length before, fault)) cs fs
    (stops_at (batch_of_values 0 m session values) rs (0 + length before) (length before) fault cs fs (omega arith)
    (stops 0 m session before value behind rs cs fs fault h is)))
