-- A history decides the outputs of its takes.
use Rattle.std.proofs.Common.{◌≡◌, ℕ, List, [], ◌∷◌, refl, sym, ◌∙◌, subst, append-nil, Bool, true, false, Option, Some, None}
use Rattle.std.specs.Prelude.{IfSome, ⊤}
use Rattle.nv_rpc.specs.Calls.{Call}
use Rattle.nv_model.specs.Editors.{ModelEditor}
use Rattle.nv_linegrid.specs.declared.event.Redraw.{Redraw}
use Rattle.nv_linegrid.specs.Told.{Told}
use Rattle.nv_history.specs.Events.{Event, open_session, request_of, take_of, close_of, Entry, Cause, opened, done, gives, nothing, over, closes}
use Rattle.nv_history.specs.Sessions.{Session}
use Rattle.nv_history.specs.Worlds.{World, fresh_world, Outcome, refuses, idles, becomes, session_of, opening_outcome, held_outcome, live_request_outcome, request_outcome, editor_due, empty_take_outcome, some_take_outcome, is_scene_due, is_nothing_due, take_outcome, live_close_outcome, close_outcome, step, world_made}
use Rattle.nv_history.specs.Runs.{TakenBatch}
use Rattle.nv_history.specs.Spoken.{IsSpoken, AreSpoken}
use Rattle.nv_history.proofs.Makings.{step_makes}
use Rattle.nv_history.proofs.MarksApart.{MarksApart, makes_apart, fresh_apart}
use Rattle.nv_history.proofs.OneBytes.{spoken_same}
use Rattle.nv_book.specs.Books.{Recorded, entries_of_records}
use Rattle.nv_book.specs.Outputs.{ToldBy, nobody_told, told_once_more, session_named, GoesOut, Enters, Plays}
use Rattle.nv_book_laws.specs.Laws.{OutputsAreOne}

-- ---- the editor that an outcome gives
abbrev ApartIn : Outcome → Type 0
ApartIn (becomes v (gives messages editor)) = IfSome editor MarksApart
ApartIn (becomes v (opened s)) = Unit {0}
ApartIn (becomes v done) = Unit {0}
ApartIn (becomes v nothing) = Unit {0}
ApartIn (becomes v (over cause)) = Unit {0}
ApartIn (becomes v closes) = Unit {0}
ApartIn (refuses stop) = Unit {0}
ApartIn (idles effect) = Unit {0}

opening_apart : (o : Option ℕ) (w : World) → ApartIn (opening_outcome o w)
opening_apart None w = tt
opening_apart (Some entry) w = tt

held_apart : (b : Bool) (w : World) (s : ℕ) (x : Session) (call : Call) → ApartIn (held_outcome b w s x call)
held_apart true w s x call = tt
held_apart false w s x call = tt

live_apart : (o : Option Cause) (w : World) (s : ℕ) (x : Session) (call : Call) → ApartIn (live_request_outcome o w s x call)
live_apart (Some cause) w s x call = tt
live_apart None w s x call = held_apart _ w s x call

request_apart : (o : Option Session) (w : World) (s : ℕ) (call : Call) → ApartIn (request_outcome o w s call)
request_apart None w s call = tt
request_apart (Some x) w s call = live_apart x.closed w s x call

due_apart : (scene : Bool) (m : ModelEditor) → MarksApart m → IfSome (editor_due scene m) MarksApart
due_apart true m h = h
due_apart false m h = tt

empty_apart : (o : Option Cause) → ApartIn (empty_take_outcome o)
empty_apart None = tt
empty_apart (Some cause) = tt

some_apart : (none scene : Bool) (w : World) (s : ℕ) (x : Session) → MarksApart w.editor → ApartIn (some_take_outcome none scene w s x)
some_apart true scene w s x h = empty_apart x.closed
some_apart false scene w s x h = due_apart scene w.editor h

take_apart : (o : Option Session) (w : World) (s : ℕ) → MarksApart w.editor → ApartIn (take_outcome o w s)
take_apart None w s h = tt
take_apart (Some x) w s h = some_apart (is_nothing_due x.waiting (is_scene_due w s x)) (is_scene_due w s x) w s x h

live_close_apart : (o : Option Cause) (w : World) (s : ℕ) (x : Session) → ApartIn (live_close_outcome o w s x)
live_close_apart (Some cause) w s x = tt
live_close_apart None w s x = tt

close_apart : (o : Option Session) (w : World) (s : ℕ) → ApartIn (close_outcome o w s)
close_apart None w s = tt
close_apart (Some x) w s = live_close_apart x.closed w s x

step_apart : (w : World) (event : Event) → MarksApart w.editor → ApartIn (step w event)
step_apart w open_session h = opening_apart w.ended w
step_apart w (request_of s call) h = request_apart (session_of w s) w s call
step_apart w (take_of s) h = take_apart (session_of w s) w s h
step_apart w (close_of s) h = close_apart (session_of w s) w s

-- ---- one entry
as_list : (told later : Told) (b : TakenBatch) (bytes : List ℕ) (events : List Redraw) → IsSpoken told b bytes events later → AreSpoken told (b ∷ []) bytes events later
as_list told later b bytes events is = record {
  between = later;
  first_bytes = bytes;
  other_bytes = [];
  first_events = events;
  other_events = [];
  first = is;
  rest = (refl, refl, refl);
  bytes_are = sym (append-nil bytes);
  events_are = sym (append-nil events);
}

-- an entry has one output, and what then is is so of one world and of what the clients were told
record GoesOnce (o : Outcome) (output other : List ℕ) (Then Else : World → ToldBy → Type 0) : Type 0 where
  same : output ≡ other
  world : World
  told : ToldBy
  made : world_made o ≡ Some world
  one : Then world told
  two : Else world told

gives_once : (v : World) (told : ToldBy) (s : ℕ) (b : TakenBatch) (output other : List ℕ) (Then Else : World → ToldBy → Type 0) → IfSome b.editor MarksApart
    → GoesOut told s (gives b.messages b.editor) output (Then v) → GoesOut told s (gives b.messages b.editor) other (Else v)
    → GoesOnce (becomes v (gives b.messages b.editor)) output other Then Else
gives_once v told s b output other Then Else apart is also =
    let same =
    spoken_same (told s) is.1 also.1 (b ∷ []) output other is.0 also.0 (apart, tt)
    (as_list (told s) is.1 b output is.0 is.2) (as_list (told s) also.1 b other also.0 also.2) in record {
      same = same.bytes_are;
      world = v;
      told = told_once_more told s is.1;
      made = refl;
      one = is.3;
      two = subst (λ (t : Told). Else v (told_once_more told s t)) (sym same.later_is) also.3;
    }

enters_once : (o : Outcome) (told : ToldBy) (s : ℕ) (output other : List ℕ) (Then Else : World → ToldBy → Type 0) → ApartIn o
    → Enters told s o output Then → Enters told s o other Else → GoesOnce o output other Then Else
enters_once (refuses stop) told s output other Then Else apart is also = absurd is
enters_once (idles effect) told s output other Then Else apart is also = absurd is
enters_once (becomes v (gives messages editor)) told s output other Then Else apart is also =
    gives_once v told s (record { messages = messages; editor = editor }) output other Then Else apart is also
enters_once (becomes v (opened n)) told s output other Then Else apart is also =
    record { same = is.0 ∙ sym also.0; world = v; told = told; made = refl; one = is.1; two = also.1 }
enters_once (becomes v done) told s output other Then Else apart is also =
    record { same = is.0 ∙ sym also.0; world = v; told = told; made = refl; one = is.1; two = also.1 }
enters_once (becomes v nothing) told s output other Then Else apart is also =
    record { same = is.0 ∙ sym also.0; world = v; told = told; made = refl; one = is.1; two = also.1 }
enters_once (becomes v (over cause)) told s output other Then Else apart is also =
    record { same = is.0 ∙ sym also.0; world = v; told = told; made = refl; one = is.1; two = also.1 }
enters_once (becomes v closes) told s output other Then Else apart is also =
    record { same = is.0 ∙ sym also.0; world = v; told = told; made = refl; one = is.1; two = also.1 }

-- ---- all entries
plays_once : (w : World) (told : ToldBy) (rs ps : List Recorded) (Then Else : World → ToldBy → Type 0) → MarksApart w.editor
    → entries_of_records rs ≡ entries_of_records ps → Plays w told rs Then → Plays w told ps Else → rs ≡ ps
plays_once w told [] [] Then Else apart same is also = refl
plays_once w told [] (p ∷ ps) Then Else apart same is also = absurd cc
plays_once w told (r ∷ rs) [] Then Else apart same is also = absurd cc
plays_once w told (r ∷ rs) (p ∷ ps) Then Else apart same is also =
    let entry : r.entry ≡ p.entry = cc in
    let rest : entries_of_records rs ≡ entries_of_records ps = cc in
    let there : Enters told (session_named r.entry.event) (step w r.entry.event) p.output (λ v later. Plays v later ps Else) =
    subst (λ (e : Entry). Enters told (session_named e.event) (step w e.event) p.output (λ v later. Plays v later ps Else)) (sym entry) also in
    let goes =
    enters_once (step w r.entry.event) told (session_named r.entry.event) r.output p.output (λ v later. Plays v later rs Then) (λ v later. Plays v later ps Else)
    (step_apart w r.entry.event apart) is there in
    let more =
    plays_once goes.world goes.told rs ps Then Else (makes_apart w goes.world r.entry.event apart (step_makes w goes.world r.entry.event goes.made)) rest goes.one goes.two in
    let output = goes.same in
    λ i. record { entry = entry i; output = output i } ∷ more i

pub outputs_are_one : OutputsAreOne
unfolding OutputsAreOne
outputs_are_one start rs others same is also =
    plays_once (fresh_world start.outbox start.limits) nobody_told rs others (λ w told. ⊤) (λ w told. ⊤) (fresh_apart start.outbox start.limits) same is also
