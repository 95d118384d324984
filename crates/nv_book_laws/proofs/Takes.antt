-- Takes alone have outputs.
use Rattle.std.proofs.Common.{◌≡◌, ℕ, List, [], ◌∷◌, Bool, true, false, Option, Some, None}
use Rattle.std.specs.Prelude.{⊤}
use Rattle.nv_rpc.specs.Calls.{Call}
use Rattle.nv_history.specs.Events.{Event, open_session, request_of, take_of, close_of, Cause, opened, done, gives, nothing, over, closes}
use Rattle.nv_history.specs.Sessions.{Session}
use Rattle.nv_history.specs.Worlds.{World, fresh_world, Outcome, refuses, idles, becomes, session_of, opening_outcome, held_outcome, live_request_outcome, request_outcome, live_close_outcome, close_outcome, step}
use Rattle.nv_book.specs.Books.{Recorded, IsOutputOf}
use Rattle.nv_book.specs.Outputs.{ToldBy, nobody_told, told_once_more, session_named, Enters, Plays}
use Rattle.nv_book_laws.specs.Laws.{HaveOutputsByTakes, OutputsAreOfTakes}

-- ---- an outcome that gives nothing
abbrev GivesNone : Outcome → Type 0
GivesNone (becomes v (gives messages editor)) = ⊥
GivesNone (becomes v (opened s)) = Unit {0}
GivesNone (becomes v done) = Unit {0}
GivesNone (becomes v nothing) = Unit {0}
GivesNone (becomes v (over cause)) = Unit {0}
GivesNone (becomes v closes) = Unit {0}
GivesNone (refuses stop) = Unit {0}
GivesNone (idles effect) = Unit {0}

opening_none : (o : Option ℕ) (w : World) → GivesNone (opening_outcome o w)
opening_none None w = tt
opening_none (Some entry) w = tt

held_none : (b : Bool) (w : World) (s : ℕ) (x : Session) (call : Call) → GivesNone (held_outcome b w s x call)
held_none true w s x call = tt
held_none false w s x call = tt

live_none : (o : Option Cause) (w : World) (s : ℕ) (x : Session) (call : Call) → GivesNone (live_request_outcome o w s x call)
live_none (Some cause) w s x call = tt
live_none None w s x call = held_none _ w s x call

request_none : (o : Option Session) (w : World) (s : ℕ) (call : Call) → GivesNone (request_outcome o w s call)
request_none None w s call = tt
request_none (Some x) w s call = live_none x.closed w s x call

live_close_none : (o : Option Cause) (w : World) (s : ℕ) (x : Session) → GivesNone (live_close_outcome o w s x)
live_close_none (Some cause) w s x = tt
live_close_none None w s x = tt

close_none : (o : Option Session) (w : World) (s : ℕ) → GivesNone (close_outcome o w s)
close_none None w s = tt
close_none (Some x) w s = live_close_none x.closed w s x

-- ---- one entry
none_out : (o : Outcome) (told : ToldBy) (s : ℕ) (output : List ℕ) (Then : World → ToldBy → Type 0) → GivesNone o → Enters told s o output Then → output ≡ []
none_out (refuses stop) told s output Then none is = absurd is
none_out (idles effect) told s output Then none is = absurd is
none_out (becomes v (gives messages editor)) told s output Then none is = absurd none
none_out (becomes v (opened n)) told s output Then none is = is.0
none_out (becomes v done) told s output Then none is = is.0
none_out (becomes v nothing) told s output Then none is = is.0
none_out (becomes v (over cause)) told s output Then none is = is.0
none_out (becomes v closes) told s output Then none is = is.0

one_output : (w : World) (told : ToldBy) (event : Event) (output : List ℕ) (Then : World → ToldBy → Type 0) → Enters told (session_named event) (step w event) output Then → IsOutputOf event output
one_output w told open_session output Then is = none_out (opening_outcome w.ended w) told 0 output Then (opening_none w.ended w) is
one_output w told (request_of s call) output Then is = none_out (request_outcome (session_of w s) w s call) told s output Then (request_none (session_of w s) w s call) is
one_output w told (take_of s) output Then is = tt
one_output w told (close_of s) output Then is = none_out (close_outcome (session_of w s) w s) told s output Then (close_none (session_of w s) w s) is

-- what then is
record GoesOn (Then : World → ToldBy → Type 0) : Type 0 where
  world : World
  told : ToldBy
  then_is : Then world told

enters_on : (o : Outcome) (told : ToldBy) (s : ℕ) (output : List ℕ) (Then : World → ToldBy → Type 0) → Enters told s o output Then → GoesOn Then
enters_on (refuses stop) told s output Then is = absurd is
enters_on (idles effect) told s output Then is = absurd is
enters_on (becomes v (gives messages editor)) told s output Then is = record { world = v; told = told_once_more told s is.1; then_is = is.3 }
enters_on (becomes v (opened n)) told s output Then is = record { world = v; told = told; then_is = is.1 }
enters_on (becomes v done) told s output Then is = record { world = v; told = told; then_is = is.1 }
enters_on (becomes v nothing) told s output Then is = record { world = v; told = told; then_is = is.1 }
enters_on (becomes v (over cause)) told s output Then is = record { world = v; told = told; then_is = is.1 }
enters_on (becomes v closes) told s output Then is = record { world = v; told = told; then_is = is.1 }

-- ---- all entries
plays_takes : (w : World) (told : ToldBy) (rs : List Recorded) (Then : World → ToldBy → Type 0) → Plays w told rs Then → HaveOutputsByTakes rs
plays_takes w told [] Then is = tt
plays_takes w told (r ∷ rs) Then is =
    let goes = enters_on (step w r.entry.event) told (session_named r.entry.event) r.output (λ v later. Plays v later rs Then) is in
    (one_output w told r.entry.event r.output (λ v later. Plays v later rs Then) is, plays_takes goes.world goes.told rs Then goes.then_is)

pub outputs_are_of_takes : OutputsAreOfTakes
unfolding OutputsAreOfTakes
outputs_are_of_takes start rs is = plays_takes (fresh_world start.outbox start.limits) nobody_told rs (λ w told. ⊤) is
