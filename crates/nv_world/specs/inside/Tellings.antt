-- inside: what the sessions become that are told of one fact.
use Rattle.std.specs.Prelude.{ℕ, zero, suc, ◌+◌, ◌==◌, ℤ, Bool, false, List, [], ◌∷◌, Option, slice_get, is_some}
use Rattle.std.specs.Option.{option_map_or}
use Rattle.nv_rpc.specs.Messages.{Sent}
use Rattle.nv_model.specs.Answers.{Fact}
use Rattle.nv_history.specs.Sessions.{Session, session_hears, session_hears_all, session_replied, session_told, unless_closed}
use Rattle.nv_world.specs.declared.session.Session.{Session as KeptSession}

-- each session is made anew by its number, the first of them of number `k`
abbrev pub map_by_number : (ℕ → Session → Session) → ℕ → List Session → List Session
map_by_number f k [] = []
map_by_number f k (y ∷ ys) = f k y ∷ map_by_number f (k + 1) ys

-- the sessions once each has heard a fact of a call of the session of number `caller`, and several
abbrev pub sessions_hear : ℕ → ℕ → ℕ → Fact → List Session → List Session
sessions_hear at capacity caller fact ys =
    map_by_number (λ k y. session_hears at capacity (k == caller) fact y) 1 ys

abbrev pub sessions_hear_all : ℕ → ℕ → ℕ → List Fact → List Session → List Session
sessions_hear_all at capacity caller [] ys = ys
sessions_hear_all at capacity caller (fact ∷ facts) ys =
    sessions_hear_all at capacity caller facts (sessions_hear at capacity caller fact ys)

-- the sessions once the one of number `caller` is told what answers its call
abbrev pub sessions_replied : ℕ → ℕ → ℕ → Option Sent → List Session → List Session
sessions_replied at capacity caller answer ys =
    map_by_number (λ k y. session_replied (k == caller) at capacity answer y) 1 ys

-- the sessions with the one at a place made anew, where there is one; and that of a number
abbrev pub updated_place : (Session → Session) → ℕ → List Session → List Session
updated_place f place [] = []
updated_place f zero (y ∷ ys) = f y ∷ ys
updated_place f (suc place) (y ∷ ys) = y ∷ updated_place f place ys

abbrev pub session_updated : (Session → Session) → ℕ → List Session → List Session
session_updated f zero ys = ys
session_updated f (suc place) ys = updated_place f place ys

-- those of several numbers, one after another
abbrev pub sessions_updated : (Session → Session) → List ℕ → List Session → List Session
sessions_updated f [] ys = ys
sessions_updated f (s ∷ ss) ys = sessions_updated f ss (session_updated f s ys)

-- a session that isn't closed is told a message, and from then on is attached to these buffers
abbrev pub session_put : ℕ → ℕ → Sent → (Session → List ℤ) → Session → Session
session_put at capacity message following y =
    unless_closed y.closed
    (session_told at capacity message (record y { following = following y })) y

-- whether the session of a number is closed, as it is kept
abbrev pub is_closed_at : List KeptSession → ℕ → Bool
is_closed_at xs zero = false
is_closed_at xs (suc place) = option_map_or (λ x. is_some x.closed) (slice_get xs place) false
