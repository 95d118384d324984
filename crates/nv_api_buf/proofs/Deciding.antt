-- Steps of a call that decide what it answers.
use Rattle.std.proofs.Common.{◌≡◌, ℕ, true, false, not, ◌&&◌, cond, List, length, refl, sym, ap, subst, ◌∙◌, Ok, Err, Result, Option, None, append-nil, []}
use Rattle.nv_places.specs.Flat.{flat, lines_of}
use Rattle.nv_rpc.specs.Outcomes.{call_result_content}
use Rattle.nv_rpc.specs.declared.outcome.CallResult.TheVariants.{Lines}
use Rattle.nv_rpc.specs.declared.outcome.Outcome.TheVariants.{One}
use Rattle.nv_args.specs.Faults.{not_modifiable, limit_reached}
use Rattle.nv_args.specs.Refusals.{Finds, Refuses}
use Rattle.nv_args.specs.declared.faults.Fail.{Fail}
use Rattle.nv_args.specs.declared.faults.Fail.TheVariants.{Api, NoMemory}
use Rattle.nv_value.specs.declared.fault.ApiFault.{ApiFault}
use Rattle.nv_model.specs.Answering.{event_of_splice, fault_or, reply_of}
use Rattle.nv_model.specs.Buffers.{Splice, is_empty_splice, text_after}
use Rattle.nv_model.specs.Operations.{Operation}
use Rattle.nv_model.specs.Seen.{SeenBuffer}
use Rattle.nv_value.specs.Content.{Tree, Trees, nil, list}
use Rattle.nv_value.specs.declared.value.Value.{Value, Nil}
use Rattle.nv_value.proofs.Contents.{content-Nil}
use Rattle.nv_model.specs.Answers.{Answer, Fact, refused, replied}
use Rattle.nv_model.specs.Standing.{PresentEditor}
use Rattle.nv_editor.specs.Doing.{Does, GivesAnswer, GivesResult, ReadsAnswer, Replies}
use Rattle.nv_model.specs.declared.parts.Limits.{Limits}
use Rattle.nv_api_buf.specs.Excerpts.{ReadsLines}
use Rattle.nv_api_buf.specs.Texts.{event_passes}
use Rattle.nv_api_buf.specs.inside.Deciding.{IsRefused, Leaves, unless_barred}
use Rattle.nv_api_buf.proofs.TextLemmas.{strings_are}

-- a refusal as is answered
pub refused_by : (answer : Answer) (fail : Fail) (fault : ApiFault) → Refuses fail fault → answer ≡ refused fault → IsRefused answer fail
refused_by answer (Api told) fault refuses is = (is ∙ ap refused (sym refuses.0), refuses.1)
refused_by answer NoMemory fault refuses is = tt

pub barred_locked : (limits : Limits) (b : SeenBuffer) (s : Splice) (a : Answer) → is_empty_splice s ≡ false → b.modifiable ≡ false
    → unless_barred limits b s a ≡ refused not_modifiable
barred_locked limits b s a e m =
    (λ i. cond (not (e i) && not (m i)) (refused not_modifiable)
    (cond (not (e i) && event_passes limits (length (lines_of (text_after (flat b.lines) s))) (event_of_splice b s)) (refused limit_reached) a))

pub barred_limit : (limits : Limits) (b : SeenBuffer) (s : Splice) (a : Answer) → is_empty_splice s ≡ false → b.modifiable ≡ true
    → event_passes limits (length (lines_of (text_after (flat b.lines) s))) (event_of_splice b s) ≡ true
    → unless_barred limits b s a ≡ refused limit_reached
barred_limit limits b s a e m p =
    (λ i. cond (not (e i) && not (m i)) (refused not_modifiable) (cond (not (e i) && p i) (refused limit_reached) a))

-- a step that refused
pub leaves_refused : {A : Type 0} (answer between : Answer) (rest : A → Answer) (fail : Fail) → answer ≡ between → IsRefused between fail → Leaves answer rest (Err fail)
leaves_refused answer between rest (Api fault) is refuses = (is ∙ refuses.0, refuses.1)
leaves_refused answer between rest NoMemory is refuses = tt

-- what was answered of a call that reads
pub reads_refused : (answer between : Answer) (fail : Fail) → answer ≡ between → IsRefused between fail → ReadsAnswer answer (Err fail)
reads_refused answer between (Api fault) is refuses = (is ∙ refuses.0, refuses.1)
reads_refused answer between NoMemory is refuses = tt

pub reads_on : (answer between : Answer) (result : Result Value Fail) → answer ≡ between → ReadsAnswer between result → ReadsAnswer answer result
reads_on answer between result is reads = subst (λ (a : Answer). ReadsAnswer a result) (sym is) reads

-- the same of a call that reads lines
pub lines_refused : (answer between : Answer) (fail : Fail) → answer ≡ between → IsRefused between fail → ReadsLines answer (Err fail)
lines_refused answer between (Api fault) is refuses = (is ∙ refuses.0, refuses.1)
lines_refused answer between NoMemory is refuses = tt

pub lines_on : (answer between : Answer) (result : Result (List (List ℕ)) Fail) → answer ≡ between → ReadsLines between result → ReadsLines answer result
lines_on answer between result is reads = subst (λ (a : Answer). ReadsLines a result) (sym is) reads

-- lines that were read are what the call gives
pub lines_give : (answer : Answer) (lines : List (List ℕ)) (e : PresentEditor) (told : List Fact) → ReadsLines answer (Ok lines)
    → GivesResult answer (Ok (One (Lines lines))) e e told told
lines_give answer lines e told reads =
    subst (λ (a : Answer). Replies a (call_result_content (Lines lines)) e e told told)
    (sym (reads ∙ ap (λ (ts : Trees). reply_of (list ts)) (strings_are lines))) (refl, (λ m stands. stands), sym (append-nil told))

pub lines_fault : (answer : Answer) (fail : Fail) (e : PresentEditor) (told : List Fact) → ReadsLines answer (Err fail)
    → GivesResult answer (Err fail) e e told told
lines_fault answer (Api fault) e told reads = (reads.0, reads.1, refl, refl)
lines_fault answer NoMemory e told reads = tt

-- and of one that changes the editor
pub gives_refused : (answer between : Answer) (fail : Fail) (e : PresentEditor) (told : List Fact) → answer ≡ between → IsRefused between fail
    → GivesAnswer answer (Err fail) e e told told
gives_refused answer between (Api fault) e told is refuses = (is ∙ refuses.0, refuses.1, refl, refl)
gives_refused answer between NoMemory e told is refuses = tt

-- a call that gave nil did what is answered
pub gives_done : (answer between : Answer) (e later : PresentEditor) (told now : List Fact) → answer ≡ between
    → Replies between nil e later told now → GivesAnswer answer (Ok Nil) e later told now
gives_done answer between e later told now is replies =
    subst (λ (t : Tree). Replies answer t e later told now) (sym content-Nil) (subst (λ (a : Answer). Replies a nil e later told now) (sym is) replies)

-- a step that was done as is answered
pub replies_on : (answer between : Answer) (reply : Tree) (e later : PresentEditor) (told now : List Fact) → answer ≡ between
    → Replies between reply e later told now → Replies answer reply e later told now
replies_on answer between reply e later told now is replies = subst (λ (a : Answer). Replies a reply e later told now) (sym is) replies

-- a look for a fault that found none, and one that found one
pub finds_none : (wanted : Option ApiFault) (a : Answer) → wanted ≡ None → fault_or wanted a ≡ a
finds_none wanted a is = ap (λ (w : Option ApiFault). fault_or w a) is

pub finds_fault : (A : Type 0) (wanted : Option ApiFault) (a : Answer) (fail : Fail) → Finds {A = A} (Err fail) wanted → IsRefused (fault_or wanted a) fail
finds_fault A wanted a (Api fault) finds = (ap (λ (w : Option ApiFault). fault_or w a) finds.0, finds.1)
finds_fault A wanted a NoMemory finds = tt

-- a call that gave nil made these operations and told nothing
pub gives_quiet : (answer : Answer) (operations : List Operation) (e later : PresentEditor) (told : List Fact) → answer ≡ replied nil operations []
    → Does operations e later → GivesAnswer answer (Ok Nil) e later told told
gives_quiet answer operations e later told is does = gives_done answer (replied nil operations []) e later told told is (refl, does, sym (append-nil told))
