-- Steps of a call that decide what it answers.
use Rattle.std.proofs.Common.{◌≡◌, ℤ, List, [], refl, sym, ap, subst, ◌∙◌, Ok, Err, Result, Option, Some, append-nil}
use Rattle.std.specs.Prelude.{option_map}
use Rattle.std.specs.Result.{IsErrAnd}
use Rattle.nv_value.specs.Content.{Tree}
use Rattle.nv_value.specs.View.{content}
use Rattle.nv_value.specs.declared.fault.ApiFault.{ApiFault}
use Rattle.nv_value.specs.declared.value.Value.{Value}
use Rattle.nv_rpc.specs.Outcomes.{outcome_content}
use Rattle.nv_rpc.specs.declared.outcome.Outcome.{Outcome}
use Rattle.nv_args.specs.Faults.{no_buffer}
use Rattle.nv_args.specs.Refusals.{Finds, Refuses}
use Rattle.nv_args.specs.declared.faults.Fail.{Fail}
use Rattle.nv_args.specs.declared.faults.Fail.TheVariants.{Api, NoMemory}
use Rattle.nv_buffer.specs.Content.{Content}
use Rattle.nv_windows.specs.Workspace.{current_buffer}
use Rattle.nv_model.specs.Answers.{Answer, Fact, refused, replied, or_refused, on_buffer}
use Rattle.nv_model.specs.Answering.{fault_or}
use Rattle.nv_model.specs.Editors.{at_handle}
use Rattle.nv_model.specs.Operations.{Operation}
use Rattle.nv_model.specs.Seen.{SeenBuffer}
use Rattle.nv_model.specs.Stage.{or_current}
use Rattle.nv_model.specs.Standing.{PresentEditor, seen_now, seen_buffer_now}
use Rattle.nv_editor.specs.Doing.{Does, GivesAnswer, GivesResult, ReadsAnswer, Replies}
use Rattle.nv_api_mark.specs.Outcomes.{ReadsOutcome}
use Rattle.nv_api_mark.specs.inside.Steps.{Decides}

-- the buffer that a call names is live
pub on_found : (e : PresentEditor) (n : ℤ) (b : Content) (next : ℤ → SeenBuffer → Answer)
    → at_handle e.buffers (or_current (current_buffer e.stage.workspace) n) ≡ Some b
    → on_buffer (seen_now e) n next ≡ next (or_current (current_buffer e.stage.workspace) n) (seen_buffer_now b)
on_found e n b next is =
    ap (λ (o : Option Content). or_refused (option_map seen_buffer_now o) (no_buffer n) (next (or_current (current_buffer e.stage.workspace) n))) is

-- ---- steps that refuse

-- a look for a fault found one
pub fault_stops : {B : Type 0} (A : Type 0) (wanted : Option ApiFault) (a : Answer) (rest : B → Answer) (fail : Fail) → Finds {A = A} (Err fail) wanted
    → Decides (fault_or wanted a) rest (Err fail)
fault_stops A wanted a rest (Api fault) finds = (ap (λ (w : Option ApiFault). fault_or w a) finds.0, finds.1)
fault_stops A wanted a rest NoMemory finds = tt

-- what a `?` passes on
pub decides_stop : {A B : Type 0} (answer between : Answer) (rest : A → Answer) (later : B → Answer) (fail : Fail) (result : Result B Fail) → answer ≡ between
    → Decides between rest (Err fail) → IsErrAnd result (λ y. y ≡ fail) → Decides answer later result
decides_stop answer between rest later fail (Ok value) is d e = absurd e
decides_stop {A} {B} answer between rest later (Api fault) (Err given) is d e =
    subst (λ (f : Fail). Decides answer later (Err f)) (sym e) (is ∙ d.0, d.1)
decides_stop {A} {B} answer between rest later NoMemory (Err given) is d e = subst (λ (f : Fail). Decides answer later (Err f)) (sym e) tt

pub reads_stop : {A : Type 0} (answer between : Answer) (rest : A → Answer) (fail : Fail) (result : Result Value Fail) → answer ≡ between → Decides between rest (Err fail)
    → IsErrAnd result (λ y. y ≡ fail) → ReadsAnswer answer result
reads_stop answer between rest fail (Ok value) is d e = absurd e
reads_stop {A} answer between rest (Api fault) (Err given) is d e = subst (λ (f : Fail). ReadsAnswer answer (Err f)) (sym e) (is ∙ d.0, d.1)
reads_stop {A} answer between rest NoMemory (Err given) is d e = subst (λ (f : Fail). ReadsAnswer answer (Err f)) (sym e) tt

pub outcome_stop : {A : Type 0} (answer between : Answer) (rest : A → Answer) (fail : Fail) (result : Result Outcome Fail) → answer ≡ between → Decides between rest (Err fail)
    → IsErrAnd result (λ y. y ≡ fail) → ReadsOutcome answer result
outcome_stop answer between rest fail (Ok outcome) is d e = absurd e
outcome_stop {A} answer between rest (Api fault) (Err given) is d e = subst (λ (f : Fail). ReadsOutcome answer (Err f)) (sym e) (is ∙ d.0, d.1)
outcome_stop {A} answer between rest NoMemory (Err given) is d e = subst (λ (f : Fail). ReadsOutcome answer (Err f)) (sym e) tt

pub gives_stop : {A : Type 0} (answer between : Answer) (rest : A → Answer) (fail : Fail) (result : Result Value Fail) (e : PresentEditor) (told : List Fact)
    → answer ≡ between → Decides between rest (Err fail) → IsErrAnd result (λ y. y ≡ fail) → GivesAnswer answer result e e told told
gives_stop answer between rest fail (Ok value) e told is d err = absurd err
gives_stop {A} answer between rest (Api fault) (Err given) e told is d err =
    subst (λ (f : Fail). GivesAnswer answer (Err f) e e told told) (sym err) (is ∙ d.0, d.1, refl, refl)
gives_stop {A} answer between rest NoMemory (Err given) e told is d err = subst (λ (f : Fail). GivesAnswer answer (Err f) e e told told) (sym err) tt

-- a refusal
pub gives_refusal : (answer : Answer) (fault : ApiFault) (fail : Fail) (e : PresentEditor) (told : List Fact) → answer ≡ refused fault → Refuses fail fault
    → GivesAnswer answer (Err fail) e e told told
gives_refusal answer fault (Api given) e told is h = (is ∙ ap refused (sym h.0), h.1, refl, refl)
gives_refusal answer fault NoMemory e told is h = tt

-- ---- steps that go on

pub decides_on : {A : Type 0} (answer between : Answer) (rest : A → Answer) (result : Result A Fail) → answer ≡ between → Decides between rest result
    → Decides answer rest result
decides_on {A} answer between rest result is d = subst (λ (a : Answer). Decides a rest result) (sym is) d

pub reads_on : (answer between : Answer) (result : Result Value Fail) → answer ≡ between → ReadsAnswer between result → ReadsAnswer answer result
reads_on answer between result is reads = subst (λ (a : Answer). ReadsAnswer a result) (sym is) reads

pub outcome_on : (answer between : Answer) (result : Result Outcome Fail) → answer ≡ between → ReadsOutcome between result → ReadsOutcome answer result
outcome_on answer between result is reads = subst (λ (a : Answer). ReadsOutcome a result) (sym is) reads

-- operations were made, and there is nothing to tell
pub gives_done : (answer : Answer) (t : Tree) (operations : List Operation) (value : Value) (before after : PresentEditor) (told : List Fact)
    → answer ≡ replied t operations [] → content value ≡ t → Does operations before after → GivesAnswer answer (Ok value) before after told told
gives_done answer t operations value before after told is e h =
    subst (λ (a : Answer). GivesAnswer a (Ok value) before after told told) (sym is) (e, h, sym (append-nil told))

-- a listing gave its answer
pub listing_gives : (answer : Answer) (result : Result Outcome Fail) (e : PresentEditor) (told : List Fact) → ReadsOutcome answer result → GivesResult answer result e e told told
listing_gives answer (Ok outcome) e told h =
    subst (λ (a : Answer). Replies a (outcome_content outcome) e e told told) (sym h) (refl, (λ m stands. stands), sym (append-nil told))
listing_gives answer (Err (Api fault)) e told h = (h.0, h.1, refl, refl)
listing_gives answer (Err NoMemory) e told h = tt
