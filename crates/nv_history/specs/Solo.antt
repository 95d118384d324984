-- One session alone: its history, by its calls (own rule).
use Rattle.std.specs.Prelude.{ℕ, Bool, true, false, List, [], ◌∷◌}
use Rattle.nv_rpc.specs.Calls.{Call}
use Rattle.nv_model.specs.declared.parts.Limits.{Limits}
use Rattle.nv_history.specs.Events.{Event, open_session, request_of, take_of, close_of, Entry}
use Rattle.nv_history.specs.Worlds.{World, fresh_world, Outcome, refuses, idles, becomes, session_of, is_live, step}

-- an entry of the one caller, whose number is 0
abbrev pub entry_alone : Event → Entry
entry_alone event = record { caller = 0; event = event }

abbrev pub entries_if : Bool → List Entry → List Entry
entries_if true entries = entries
entries_if false entries = []

-- what follows where the session isn't closed
abbrev pub solo_rest : (World → List Entry) → World → List Entry
solo_rest rest w = entries_if (is_live (session_of w 1)) (rest w)

-- a take where it gives something
abbrev pub solo_with_take : (World → List Entry) → World → Outcome → List Entry
solo_with_take rest v (becomes u effect) = entry_alone (take_of 1) ∷ solo_rest rest u
solo_with_take rest v (idles effect) = solo_rest rest v
solo_with_take rest v (refuses stop) = solo_rest rest v

abbrev pub solo_with_request : Call → (World → List Entry) → Outcome → List Entry
solo_with_request call rest (becomes v effect) =
    entry_alone (request_of 1 call) ∷ solo_with_take rest v (step v (take_of 1))
solo_with_request call rest (idles effect) = []
solo_with_request call rest (refuses stop) = []

abbrev pub solo_with_close : Outcome → List Entry
solo_with_close (becomes v effect) = entry_alone (close_of 1) ∷ []
solo_with_close (idles effect) = []
solo_with_close (refuses stop) = []

-- for each call a request, and a take where that gives something; then the close
abbrev pub solo_from : World → List Call → List Entry
solo_from w [] = solo_with_close (step w (close_of 1))
solo_from w (call ∷ calls) =
    solo_with_request call (λ v. solo_from v calls) (step w (request_of 1 call))

abbrev pub solo_with_opening : (World → List Entry) → Outcome → List Entry
solo_with_opening rest (becomes v effect) = entry_alone open_session ∷ solo_rest rest v
solo_with_opening rest (idles effect) = []
solo_with_opening rest (refuses stop) = []

-- the history of a session that makes these calls and takes after each; where an entry has closed
-- it, the take of what waits is the last one
abbrev pub solo : ℕ → Limits → List Call → List Entry
solo capacity limits calls =
    solo_with_opening (λ v. solo_from v calls) (step (fresh_world capacity limits) open_session)
