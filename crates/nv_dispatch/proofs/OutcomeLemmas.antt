-- What calls gave, joined to what they come to.
use Rattle.std.proofs.Common.{◌≡◌, ℕ, List, [], ◌∷◌, ◌++◌, map, length, refl, sym, ap, ◌∙◌, subst, append-nil, append_assoc, length-append, arith, ◌<◌, ◌^◌, OnOk, Bool, true, false, Option, Some, None, Result, Ok, Err}
use Rattle.std.specs.Prelude.{◌||◌, suc, ◌+◌, is_some, option_map}
use Rattle.std.proofs.lemmas.List.{length-map}
use Rattle.nv_value.specs.Content.{Tree}
use Rattle.nv_value.specs.declared.fault.ApiFault.{ApiFault}
use Rattle.nv_rpc.specs.Outcomes.{call_result_content, outcome_content}
use Rattle.nv_args.specs.Args.{typed_arguments}
use Rattle.nv_args.specs.Arguments.{tree_list}
use Rattle.nv_args.specs.Reading.{Arg, values_at}
use Rattle.nv_args.specs.Refusals.{Meets, RefusedKeeps}
use Rattle.nv_args.specs.Weight.{weight}
use Rattle.nv_args.specs.declared.faults.Fail.{Fail}
use Rattle.nv_args.specs.declared.faults.Fail.TheVariants.{Api, NoMemory}
use Rattle.nv_model.specs.Editors.{ModelEditor, handles_of}
use Rattle.nv_model.specs.Operations.{Operation, sealed_in, after_operations}
use Rattle.nv_model.specs.Answers.{Answer, Fact, refused, replied}
use Rattle.nv_model.specs.Answering.{array_of}
use Rattle.nv_model.specs.Standing.{PresentEditor, Stands}
use Rattle.nv_editor.specs.Doing.{Does, Replies}
use Rattle.nv_dispatch.specs.Calls.{CallOutcome, Batch, editor_after, outcome_of_answer, outcome_of_value, batch_of_values, batch_with_first, batch_from_result, outcome_of_batch, atomic_outcome, stop_value, no_calls, seal_operations, outcome_with_seal, sealed_outcome}
use Rattle.nv_dispatch.specs.Outcomes.{IsOutcome, GaveOutcome}
use Rattle.nv_dispatch.specs.inside.Batches.{batch_behind, IsBatch, IsMadeSoFar, TakesResult, stop_of}
use Rattle.nv_dispatch.specs.declared.batch.Results.{Results}
use Rattle.nv_dispatch.specs.declared.batch.Stop.{Stop}
use Rattle.nv_dispatch.specs.declared.done.Done.{Done}
use Rattle.nv_dispatch.specs.inside.Weights.{list_weight}
use Rattle.nv_dispatch.proofs.CallLaws.{after_operations-append}

-- ---- a row

pub replies_outcome :
    (answer : Answer) (reply : Tree) (is_seen : Bool) (m : ModelEditor) (before after : PresentEditor) (told now : List Fact)
    → Stands before m → Replies answer reply before after told now
    → IsOutcome (outcome_of_answer is_seen answer) m (Ok reply) is_seen after told now
replies_outcome (refused fault) reply is_seen m before after told now is h = absurd h
replies_outcome (replied t operations facts) reply is_seen m before after told now is h =
    record { result_is = ap Ok (sym h.0); seen_is = refl; stands = h.1 m is; facts = h.2 }

pub refused_outcome :
    (answer : Answer) (fault : ApiFault) (is_seen : Bool) (m : ModelEditor) (before after : PresentEditor) (told now : List Fact)
    → Stands before m → answer ≡ refused fault → after ≡ before → now ≡ told
    → IsOutcome (outcome_of_answer is_seen answer) m (Err fault) false after told now
refused_outcome answer fault is_seen m before after told now is e f g =
    subst (λ (a : Answer). IsOutcome (outcome_of_answer is_seen a) m (Err fault) false after told now) (sym e)
    (record { result_is = refl; seen_is = refl; stands = subst (λ (k : PresentEditor). Stands k m) (sym f) is; facts = g ∙ sym (append-nil told) })

-- ---- the end of a whole call

sealed_by :
    (wanted : CallOutcome) (m : ModelEditor) (result : Tree) (r : Result Tree ApiFault) (is_seen : Bool) (middle after : PresentEditor) (told now : List Fact)
    → r ≡ Ok result → IsOutcome wanted m (Ok result) is_seen middle told now
    → Does (map sealed_in (handles_of middle.buffers)) middle after
    → IsOutcome (outcome_with_seal m wanted r) m (Ok result) is_seen after told now
sealed_by wanted m result r is_seen middle after told now e is does =
    subst (λ (x : Result Tree ApiFault). IsOutcome (outcome_with_seal m wanted x) m (Ok result) is_seen after told now) (sym e)
    (record {
      result_is = is.result_is;
      seen_is = is.seen_is;
      stands =
          subst (λ (k : ModelEditor). Stands after k) (sym (after_operations-append wanted.operations (seal_operations (editor_after m wanted)) m))
          (subst (λ (cs : List Operation). Stands after (after_operations cs (editor_after m wanted))) (ap (map sealed_in) is.stands.handles) (does (editor_after m wanted) is.stands));
      facts = is.facts;
    })

-- where a call succeeded, its open changes are closed
pub sealed_is :
    (wanted : CallOutcome) (m : ModelEditor) (result : Tree) (is_seen : Bool) (middle after : PresentEditor) (told now : List Fact)
    → IsOutcome wanted m (Ok result) is_seen middle told now
    → Does (map sealed_in (handles_of middle.buffers)) middle after
    → IsOutcome (sealed_outcome m wanted) m (Ok result) is_seen after told now
sealed_is wanted m result is_seen middle after told now is does =
    sealed_by wanted m result wanted.result is_seen middle after told now is.result_is is does

unsealed_by :
    (wanted : CallOutcome) (m : ModelEditor) (fault : ApiFault) (r : Result Tree ApiFault) (after : PresentEditor) (told now : List Fact)
    → r ≡ Err fault → IsOutcome wanted m (Err fault) false after told now
    → IsOutcome (outcome_with_seal m wanted r) m (Err fault) false after told now
unsealed_by wanted m fault r after told now e is =
    subst (λ (x : Result Tree ApiFault). IsOutcome (outcome_with_seal m wanted x) m (Err fault) false after told now) (sym e) is

-- a refused call closes nothing
refused_is :
    (wanted : CallOutcome) (m : ModelEditor) (fault : ApiFault) (after : PresentEditor) (told now : List Fact)
    → IsOutcome wanted m (Err fault) false after told now
    → IsOutcome (sealed_outcome m wanted) m (Err fault) false after told now
refused_is wanted m fault after told now is = unsealed_by wanted m fault wanted.result after told now is.result_is is

pub refused_gave :
    (wanted : CallOutcome) (m : ModelEditor) (fail : Fail) (after : PresentEditor) (told now : List Fact)
    → GaveOutcome wanted m (Err fail) after told now → GaveOutcome (sealed_outcome m wanted) m (Err fail) after told now
refused_gave wanted m NoMemory after told now h = tt
refused_gave wanted m (Api fault) after told now h = refused_is wanted m fault after told now h

-- ---- calls one after another

or_assoc : (a b c : Bool) → a || (b || c) ≡ (a || b) || c
or_assoc true b c = refl
or_assoc false b c = refl

or_false : (a : Bool) → a || false ≡ a
or_false true = refl
or_false false = refl

-- none was made yet
pub none_made :
    (m : ModelEditor) (session : ℕ) (values : List Tree) (e : PresentEditor) (told : List Fact) → Stands e m
    → IsMadeSoFar (batch_of_values 0 m session values) m session [] false values e told told
none_made m session values e told is =
    record { operations = []; facts = []; stands = is; facts_are = sym (append-nil told); wanted_is = refl }

-- what calls that succeeded came to, a call more, and then others
behind_more :
    (results : List Tree) (operations : List Operation) (facts : List Fact) (is_seen : Bool) (result : Tree) (o : CallOutcome) (rest : Batch)
    → batch_behind results operations facts is_seen (batch_with_first result o rest)
    ≡ batch_behind (results ++ result ∷ []) (operations ++ o.operations) (facts ++ o.facts) (is_seen || o.is_seen) rest
behind_more results operations facts is_seen result o rest =
    let rs : results ++ result ∷ rest.results ≡ (results ++ result ∷ []) ++ rest.results = sym (append_assoc results (result ∷ []) rest.results) in
    let cs : operations ++ (o.operations ++ rest.operations) ≡ (operations ++ o.operations) ++ rest.operations = sym (append_assoc operations o.operations rest.operations) in
    let fs : facts ++ (o.facts ++ rest.facts) ≡ (facts ++ o.facts) ++ rest.facts = sym (append_assoc facts o.facts rest.facts) in
    let seen : is_seen || (o.is_seen || rest.is_seen) ≡ (is_seen || o.is_seen) || rest.is_seen = or_assoc is_seen o.is_seen rest.is_seen in
    λ i. record { results = rs i; stopped = rest.stopped; operations = cs i; facts = fs i; is_seen = seen i }

-- a call succeeded in front
succeeds_first :
    (number : ℕ) (m : ModelEditor) (o : CallOutcome) (next : ModelEditor → Batch) (result : Tree) (r : Result Tree ApiFault) → r ≡ Ok result
    → batch_from_result number m o next r ≡ batch_with_first result o (next (editor_after m o))
succeeds_first number m o next result r e = ap (batch_from_result number m o next) e

-- one more call succeeded
pub one_made :
    (wanted : Batch) (m : ModelEditor) (session : ℕ) (results : List Tree) (is_seen : Bool) (value : Tree) (left : List Tree) (middle after : PresentEditor) (told between now : List Fact)
    (made : IsMadeSoFar wanted m session results is_seen (value ∷ left) middle told between) (result : Tree) (more : Bool)
    → IsOutcome (outcome_of_value (after_operations made.operations m) session value) (after_operations made.operations m) (Ok result) more after between now
    → IsMadeSoFar wanted m session (results ++ result ∷ []) (is_seen || more) left after told now
one_made wanted m session results is_seen value left middle after told between now made result more is =
    let reached = after_operations made.operations m in
    let o = outcome_of_value reached session value in
    let next : ModelEditor → Batch = λ k. batch_of_values (suc (length results)) k session left in
    let later = after_operations (made.operations ++ o.operations) m in
    let step : editor_after reached o ≡ later = sym (after_operations-append made.operations o.operations m) in
    let count : suc (length results) ≡ length (results ++ result ∷ []) = omega (arith, length-append results (result ∷ [])) in
    record {
      operations = made.operations ++ o.operations;
      facts = made.facts ++ o.facts;
      stands = subst (λ (k : ModelEditor). Stands after k) step is.stands;
      facts_are = is.facts ∙ ap (λ (fs : List Fact). fs ++ o.facts) made.facts_are ∙ append_assoc told made.facts o.facts;
      wanted_is =
          made.wanted_is
          ∙ ap (batch_behind results made.operations made.facts is_seen) (succeeds_first (length results) reached o next result o.result is.result_is)
          ∙ behind_more results made.operations made.facts is_seen result o (next (editor_after reached o))
          ∙ ap (λ (b : Bool). batch_behind (results ++ result ∷ []) (made.operations ++ o.operations) (made.facts ++ o.facts) (is_seen || b) (next (editor_after reached o))) is.seen_is
          ∙ ap (λ (k : ModelEditor). batch_behind (results ++ result ∷ []) (made.operations ++ o.operations) (made.facts ++ o.facts) (is_seen || more) (next k)) step
          ∙ ap (λ (n : ℕ). batch_behind (results ++ result ∷ []) (made.operations ++ o.operations) (made.facts ++ o.facts) (is_seen || more) (batch_of_values n later session left)) count;
    }

-- what the calls came to where none is left
pub record BatchComes (wanted : Batch) (m : ModelEditor) (results : List Tree) (stopped : Option (ℕ × ApiFault)) (is_seen : Bool) (after : PresentEditor) (told now : List Fact) : Type 0 where
  pub results_are : wanted.results ≡ results
  pub stopped_is : wanted.stopped ≡ stopped
  pub seen_is : wanted.is_seen ≡ is_seen
  pub stands : Stands after (after_operations wanted.operations m)
  pub facts_are : now ≡ told ++ wanted.facts

-- and where what is left makes no operation and tells nothing
quiet_rest :
    (wanted : Batch) (m : ModelEditor) (results : List Tree) (operations : List Operation) (facts : List Fact) (is_seen : Bool) (stopped : Option (ℕ × ApiFault)) (after : PresentEditor) (told now : List Fact)
    → wanted ≡ batch_behind results operations facts is_seen (record no_calls { stopped = stopped })
    → Stands after (after_operations operations m) → now ≡ told ++ facts
    → BatchComes wanted m results stopped is_seen after told now
quiet_rest wanted m results operations facts is_seen stopped after told now e stands f = record {
  results_are = ap (λ (b : Batch). b.results) e ∙ append-nil results;
  stopped_is = ap (λ (b : Batch). b.stopped) e;
  seen_is = ap (λ (b : Batch). b.is_seen) e ∙ or_false is_seen;
  stands = subst (λ (cs : List Operation). Stands after (after_operations cs m)) (sym (ap (λ (b : Batch). b.operations) e ∙ append-nil operations)) stands;
  facts_are = f ∙ ap (λ (fs : List Fact). told ++ fs) (sym (ap (λ (b : Batch). b.facts) e ∙ append-nil facts));
}

pub all_made :
    (wanted : Batch) (m : ModelEditor) (session : ℕ) (results : List Tree) (is_seen : Bool) (after : PresentEditor) (told now : List Fact)
    → IsMadeSoFar wanted m session results is_seen [] after told now → BatchComes wanted m results None is_seen after told now
all_made wanted m session results is_seen after told now made =
    quiet_rest wanted m results made.operations made.facts is_seen None after told now made.wanted_is made.stands made.facts_are

-- a call was refused
pub one_refused :
    (wanted : Batch) (m : ModelEditor) (session : ℕ) (results : List Tree) (is_seen : Bool) (value : Tree) (left : List Tree) (middle after : PresentEditor) (told between now : List Fact)
    (made : IsMadeSoFar wanted m session results is_seen (value ∷ left) middle told between) (fault : ApiFault)
    → after ≡ middle → now ≡ between
    → (outcome_of_value (after_operations made.operations m) session value).result ≡ Err fault
    → BatchComes wanted m results (Some (length results, fault)) is_seen after told now
one_refused wanted m session results is_seen value left middle after told between now made fault e f r =
    let reached = after_operations made.operations m in
    let o = outcome_of_value reached session value in
    let next : ModelEditor → Batch = λ k. batch_of_values (suc (length results)) k session left in
    quiet_rest wanted m results made.operations made.facts is_seen (Some (length results, fault)) after told now
    (made.wanted_is ∙ ap (λ (x : Result Tree ApiFault). batch_behind results made.operations made.facts is_seen (batch_from_result (length results) reached o next x)) r)
    (subst (λ (k : PresentEditor). Stands k reached) (sym e) made.stands)
    (f ∙ made.facts_are)

-- ---- calls one after another, as the code has them

-- one more result was taken
pub goes_on :
    (wanted : Batch) (m : ModelEditor) (session : ℕ) (given : Result Done Fail) (made later : Results) (value : Tree) (left : List Tree) (middle after : PresentEditor) (told between now : List Fact)
    → TakesResult given made later → later.stopped ≡ None
    → IsMadeSoFar wanted m session (map call_result_content made.values.items) made.is_seen (value ∷ left) middle told between
    → ((k : ModelEditor) → Stands middle k → GaveOutcome (outcome_of_value k session value) k given after between now)
    → IsMadeSoFar wanted m session (map call_result_content later.values.items) later.is_seen left after told now
goes_on wanted m session (Ok done) made later value left middle after told between now t going so_far gave =
    let more = one_made wanted m session (map call_result_content made.values.items) made.is_seen value left middle after told between now so_far (outcome_content done.result) done.is_seen
    (gave (after_operations so_far.operations m) so_far.stands) in
    subst (λ (b : Bool). IsMadeSoFar wanted m session (map call_result_content later.values.items) b left after told now) (sym t.2)
    (subst (λ (rs : List Tree). IsMadeSoFar wanted m session rs (made.is_seen || done.is_seen) left after told now) (sym t.0) more)
goes_on wanted m session (Err (Api fault)) made later value left middle after told between now t going so_far gave =
    absurd (let e : None ≡ Some (length made.values.items, fault) = ap (option_map stop_of) (sym going) ∙ t.1 in cc)
goes_on wanted m session (Err NoMemory) made later value left middle after told between now t going so_far gave = absurd t

batch_is :
    (wanted : Batch) (m : ModelEditor) (made : Results) (after : PresentEditor) (told now : List Fact)
    → BatchComes wanted m (map call_result_content made.values.items) (option_map stop_of made.stopped) made.is_seen after told now
    → IsBatch wanted m made after told now
batch_is wanted m made after told now h =
    record { results = h.results_are; stopped = h.stopped_is; seen = h.seen_is; stands = h.stands; facts = h.facts_are }

-- all were made
pub ends_all :
    (wanted : Batch) (m : ModelEditor) (session : ℕ) (made : Results) (after : PresentEditor) (told now : List Fact)
    → made.stopped ≡ None → IsMadeSoFar wanted m session (map call_result_content made.values.items) made.is_seen [] after told now
    → IsBatch wanted m made after told now
ends_all wanted m session made after told now going so_far =
    batch_is wanted m made after told now
    (subst (λ (s : Option (ℕ × ApiFault)). BatchComes wanted m (map call_result_content made.values.items) s made.is_seen after told now) (sym (ap (option_map stop_of) going))
    (all_made wanted m session (map call_result_content made.values.items) made.is_seen after told now so_far))

-- a call was refused, and none is made behind it
pub ends_refused :
    (wanted : Batch) (m : ModelEditor) (session : ℕ) (given : Result Done Fail) (made later : Results) (value : Tree) (left : List Tree) (middle after : PresentEditor) (told between now : List Fact)
    → TakesResult given made later → is_some later.stopped ≡ true
    → RefusedKeeps given after middle → RefusedKeeps given now between
    → IsMadeSoFar wanted m session (map call_result_content made.values.items) made.is_seen (value ∷ left) middle told between
    → ((k : ModelEditor) → Stands middle k → GaveOutcome (outcome_of_value k session value) k given after between now)
    → IsBatch wanted m later after told now
ends_refused wanted m session (Ok done) made later value left middle after told between now t stops same quiet so_far gave =
    absurd (let e : false ≡ true = ap is_some (sym t.1) ∙ stops in cc)
ends_refused wanted m session (Err (Api fault)) made later value left middle after told between now t stops same quiet so_far gave =
    let is = gave (after_operations so_far.operations m) so_far.stands in
    let results = map call_result_content made.values.items in
    let count : length results ≡ length made.values.items = length-map made.values.items call_result_content in
    let comes = one_refused wanted m session results made.is_seen value left middle after told between now so_far fault same quiet is.result_is in
    batch_is wanted m later after told now
    (subst (λ (b : Bool). BatchComes wanted m (map call_result_content later.values.items) (option_map stop_of later.stopped) b after told now) (sym t.2)
    (subst (λ (s : Option (ℕ × ApiFault)). BatchComes wanted m (map call_result_content later.values.items) s made.is_seen after told now) (ap (λ (n : ℕ). Some (n, fault)) count ∙ sym t.1)
    (subst (λ (rs : List Tree). BatchComes wanted m rs (Some (length results, fault)) made.is_seen after told now) (sym t.0) comes)))
ends_refused wanted m session (Err NoMemory) made later value left middle after told between now t stops same quiet so_far gave = absurd t

pub stays : (o : Option Stop) → is_some o ≡ false → o ≡ None
stays None e = refl
stays (Some stop) e = absurd (let f : true ≡ false = e in cc)

-- each call that succeeds has a name, and so weighs something
pub taken_light :
    (given : Result Done Fail) (made later : Results) (value : Tree) (left : List Tree) → TakesResult given made later → OnOk given (0 < weight value)
    → length made.values.items + (weight value + list_weight left) < 2 ^ 31 → length later.values.items + list_weight left < 2 ^ 31
taken_light (Ok done) made later value left t some few =
    omega (
      arith,
      some,
      few,
      ap (length {A = Tree}) t.0,
      length-map later.values.items call_result_content,
      length-map made.values.items call_result_content,
      length-append (map call_result_content made.values.items) (outcome_content done.result ∷ []),
    )
taken_light (Err (Api fault)) made later value left t some few =
    omega (arith, few, ap (length {A = Tree}) t.0, length-map later.values.items call_result_content, length-map made.values.items call_result_content)
taken_light (Err NoMemory) made later value left t some few = absurd t

-- ---- calls in one call

-- what calls one after another came to, as one value
pub atomic_is :
    (wanted : Batch) (m : ModelEditor) (made : Results) (value : Tree) (after : PresentEditor) (told now : List Fact)
    → IsBatch wanted m made after told now
    → value ≡ array_of (array_of (map call_result_content made.values.items) ∷ stop_value (option_map stop_of made.stopped) ∷ [])
    → IsOutcome (outcome_of_batch wanted) m (Ok value) made.is_seen after told now
atomic_is wanted m made value after told now is e = record {
  result_is =
      ap (λ (rs : List Tree). Ok (array_of (array_of rs ∷ stop_value wanted.stopped ∷ []))) is.results
      ∙ ap (λ (s : Option (ℕ × ApiFault)). Ok (array_of (array_of (map call_result_content made.values.items) ∷ stop_value s ∷ []))) is.stopped
      ∙ ap Ok (sym e);
  seen_is = is.seen;
  stands = is.stands;
  facts = is.facts;
}

-- the values were read
pub atomic_read :
    (m : ModelEditor) (session : ℕ) (args : Result (List Arg) ApiFault) (given : List Arg) (calls : List Tree) (made : Results) (value : Tree) (after : PresentEditor) (told now : List Fact)
    → args ≡ Ok given → calls ≡ tree_list (values_at given 0)
    → IsBatch (batch_of_values 0 m session calls) m made after told now
    → value ≡ array_of (array_of (map call_result_content made.values.items) ∷ stop_value (option_map stop_of made.stopped) ∷ [])
    → IsOutcome (atomic_outcome m session args) m (Ok value) made.is_seen after told now
atomic_read m session args given calls made value after told now e f is v =
    subst (λ (r : Result (List Arg) ApiFault). IsOutcome (atomic_outcome m session r) m (Ok value) made.is_seen after told now) (sym e)
    (subst (λ (ts : List Tree). IsOutcome (outcome_of_batch (batch_of_values 0 m session ts)) m (Ok value) made.is_seen after told now) f
    (atomic_is (batch_of_values 0 m session calls) m made value after told now is v))

-- the values couldn't be read
pub atomic_unread :
    (m : ModelEditor) (session : ℕ) (args : Result (List Arg) ApiFault) (fail : Fail) (e : PresentEditor) (told : List Fact)
    → Meets typed_arguments (Err fail) args → Stands e m
    → GaveOutcome (atomic_outcome m session args) m (Err fail) e told told
atomic_unread m session args NoMemory e told r is = tt
atomic_unread m session args (Api fault) e told r is =
    subst (λ (x : Result (List Arg) ApiFault). GaveOutcome (atomic_outcome m session x) m (Err (Api fault)) e told told) (sym r.0)
    (refused_outcome (refused fault) fault false m e e told told is refl refl refl)
