-- The script of a number: what three sessions do, as entries offered to a world (own rule).
use Rattle.std.specs.Prelude.{ℕ, suc, List, [], ◌∷◌, ◌++◌}
use Rattle.nv_rpc.specs.Calls.{request}
use Rattle.nv_history.specs.Events.{Event, Entry, open_session, request_of, take_of, close_of}
use Rattle.nv_core.specs.Bounds.{IsLightEvent}
use Rattle.nv_gen.specs.Draws.{several}
use Rattle.nv_gen.specs.Questions.{Question, first_questions, drawn_round}

-- an event of a session, by the caller of its number
abbrev pub entry_by : ℕ → Event → Entry
entry_by s event = record { caller = s; event = event }

-- what is asked, as the request of a msgid
abbrev pub request_for : ℕ → Question → Entry
request_for msgid q = entry_by q.session (request_of q.session (request msgid q.method q.arguments))

-- three sessions open, take, and close
abbrev pub three_opens : List Entry
three_opens =
    entry_by 1 open_session ∷ entry_by 2 open_session ∷ entry_by 3 open_session ∷ []

abbrev pub three_takes : List Entry
three_takes = entry_by 1 (take_of 1) ∷ entry_by 2 (take_of 2) ∷ entry_by 3 (take_of 3) ∷ []

abbrev pub three_closes : List Entry
three_closes = entry_by 1 (close_of 1) ∷ entry_by 2 (close_of 2) ∷ entry_by 3 (close_of 3) ∷ []

-- requests, with msgids that count on from one, and takes after each of them
abbrev pub turns_from : ℕ → List Question → List Entry
turns_from msgid [] = []
turns_from msgid (q ∷ qs) = request_for msgid q ∷ three_takes ++ turns_from (suc msgid) qs

-- what is asked in so many rounds that are drawn from a number
unfoldable pub questions_in : ℕ → ℕ → List Question
questions_in rounds seed = (several rounds drawn_round seed).0

-- The script of a number: three sessions open, ask what begins every script and then 2,000 rounds,
-- with msgids from 1 on, and close. A take that finds nothing doesn't enter a world's history.
unfoldable pub script_of : ℕ → List Entry
script_of seed =
    three_opens ++ turns_from 1 first_questions ++ turns_from 4 (questions_in 2000 seed)
    ++ three_closes

-- an entry whose event is light enough for a world
abbrev pub IsLightEntry : Entry → Type 0
IsLightEntry e = IsLightEvent e.event
