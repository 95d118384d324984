-- What the takes of a history give in bytes (MessagePack-RPC specification; help: ui-events).
use Rattle.std.specs.Prelude.{◌≡◌, ℕ, ◌+◌, ◌==◌, ⊤, if◌then◌else◌, List, [], ◌∷◌, ◌++◌, map}
use Rattle.nv_value.specs.Content.{Tree, bin, list, trees_of}
use Rattle.nv_msgpack.specs.Spelling.{unsigned_number}
use Rattle.nv_linegrid.specs.declared.event.Redraw.{Redraw}
use Rattle.nv_linegrid.specs.Told.{Told, nothing_told}
use Rattle.nv_history.specs.Events.{Event, open_session, request_of, take_of, close_of, Effect, opened, done, gives, nothing, over, closes}
use Rattle.nv_history.specs.Worlds.{World, Outcome, refuses, idles, becomes, fresh_world, step}
use Rattle.nv_history.specs.Spoken.{IsSpoken}
use Rattle.nv_core.specs.declared.start.Start.{Start}
use Rattle.nv_book.specs.Books.{Recorded, output_pieces}

-- what the client of each session was told, by the session's number
abbrev pub ToldBy : Type 0
ToldBy = ℕ → Told

abbrev pub nobody_told : ToldBy
nobody_told s = nothing_told

-- the same once a session was told more
abbrev pub told_once_more : ToldBy → ℕ → Told → ToldBy
told_once_more told s later t = if t == s then later else told t

-- the session that an event names; an opening names none
abbrev pub session_named : Event → ℕ
session_named open_session = 0
session_named (request_of s call) = s
session_named (take_of s) = s
session_named (close_of s) = s

-- what an effect gives goes out to a session as these bytes, and this is so of what its client and
-- the others were told then
abbrev pub GoesOut : ToldBy → ℕ → Effect → List ℕ → (ToldBy → Type 0) → Type 0
GoesOut told s (gives messages editor) output Then =
    (events : List Redraw) × (later : Told)
    × IsSpoken (told s) (record { messages = messages; editor = editor }) output events later
    × Then (told_once_more told s later)
GoesOut told s (opened n) output Then = (output ≡ []) × Then told
GoesOut told s done output Then = (output ≡ []) × Then told
GoesOut told s nothing output Then = (output ≡ []) × Then told
GoesOut told s (over cause) output Then = (output ≡ []) × Then told
GoesOut told s closes output Then = (output ≡ []) × Then told

-- an event that comes to this enters, its output is these bytes, and this is so of what then is
abbrev pub Enters : ToldBy → ℕ → Outcome → List ℕ → (World → ToldBy → Type 0) → Type 0
Enters told s (refuses stop) output Then = ⊥
Enters told s (idles effect) output Then = ⊥
Enters told s (becomes w effect) output Then = GoesOut told s effect output (Then w)

-- entries enter one after another, each with its output, and this is so of what then is
abbrev pub Plays : World → ToldBy → List Recorded → (World → ToldBy → Type 0) → Type 0
Plays w told [] Then = Then w told
Plays w told (r ∷ rs) Then =
    Enters told (session_named r.entry.event) (step w r.entry.event) r.output
    (λ v later. Plays v later rs Then)

-- each entry of a history has its output
abbrev pub AreOutputs : Start → List Recorded → Type 0
AreOutputs start rs = Plays (fresh_world start.outbox start.limits) nobody_told rs (λ w told. ⊤)

-- a piece of an output as a replay tells it: with the number of its entry and its session
abbrev pub numbered_piece : ℕ → ℕ → List ℕ → Tree
numbered_piece at s bytes =
    list (trees_of (unsigned_number at ∷ unsigned_number s ∷ bin bytes ∷ []))

-- the outputs of entries from this number on, in pieces
abbrev pub replay_values : ℕ → List Recorded → List Tree
replay_values at [] = []
replay_values at (r ∷ rs) =
    map (numbered_piece at (session_named r.entry.event)) (output_pieces r.output)
    ++ replay_values (at + 1) rs

-- the session of an entry that has this effect: for an opening the new one
abbrev pub session_of_effect : ℕ → Effect → ℕ
session_of_effect s (opened n) = n
session_of_effect s (gives messages editor) = s
session_of_effect s done = s
session_of_effect s nothing = s
session_of_effect s (over cause) = s
session_of_effect s closes = s

abbrev pub IsSessionOf : Event → Outcome → ℕ → Type 0
IsSessionOf event (becomes w effect) s = s ≡ session_of_effect (session_named event) effect
IsSessionOf event (idles effect) s = ⊥
IsSessionOf event (refuses stop) s = ⊥
