-- Laws of the definitions.
use Rattle.std.specs.Prelude.{◌≡◌, ℕ, ◌==◌, not, ◌&&◌, ◌||◌, ℤ, List, ◌++◌, map, All, Some, option_and_then}
use Rattle.nv_places.specs.Flat.{IsLine}
use Rattle.nv_value.specs.Content.{text, trees_of}
use Rattle.nv_rpc.specs.Messages.{Sent}
use Rattle.nv_subs.specs.Attachments.{AreRising, is_session_of, with_session, without_session, without_sessions}
use Rattle.nv_subs.specs.Mirrors.{Mirror, event_lines, mirror_after_all}

-- Lines that are sent as strings are read as those lines.
abbrev pub SentLinesAreRead : Type 0
SentLinesAreRead =
    (lines : List (List ℕ)) → All IsLine lines
    → event_lines (trees_of (map text lines)) ≡ Some lines

-- Messages may be taken in parts.
abbrev pub MessagesAreTakenInParts : Type 0
MessagesAreTakenInParts =
    (buffer : ℤ) (mirror : Mirror) (front back : List Sent)
    → mirror_after_all buffer mirror (front ++ back)
    ≡ option_and_then (λ next. mirror_after_all buffer next back)
    (mirror_after_all buffer mirror front)

-- One session more: it, and those that were there.
abbrev pub WithSessionAddsOne : Type 0
WithSessionAddsOne =
    (added session : ℕ) (sessions : List ℕ)
    → is_session_of (with_session added sessions) session
    ≡ (added == session || is_session_of sessions session)

-- One session less: those that were there, but for it.
abbrev pub WithoutSessionRemovesOne : Type 0
WithoutSessionRemovesOne =
    (removed session : ℕ) (sessions : List ℕ)
    → is_session_of (without_session removed sessions) session
    ≡ (not (removed == session) && is_session_of sessions session)

-- Several sessions less: those that were there, but for them.
abbrev pub WithoutSessionsRemovesThem : Type 0
WithoutSessionsRemovesThem =
    (several sessions : List ℕ) (session : ℕ)
    → is_session_of (without_sessions several sessions) session
    ≡ (not (is_session_of several session) && is_session_of sessions session)

-- Sessions stay in rising order.
abbrev pub OrderStaysWith : Type 0
OrderStaysWith =
    (session : ℕ) (sessions : List ℕ) → AreRising sessions
    → AreRising (with_session session sessions)

abbrev pub OrderStaysWithout : Type 0
OrderStaysWithout =
    (several sessions : List ℕ) → AreRising sessions
    → AreRising (without_sessions several sessions)

-- In rising order there is one list of the same sessions.
abbrev pub RisingListIsOne : Type 0
RisingListIsOne =
    (sessions others : List ℕ) → AreRising sessions → AreRising others
    → ((session : ℕ) → is_session_of sessions session ≡ is_session_of others session)
    → sessions ≡ others
