-- Who is told of which buffer (Neovim help `nvim_buf_attach`).
use Rattle.std.specs.Prelude.{◌≡◌, ℕ, ◌==◌, nat_lt, not, Bool, if◌then◌else◌, ℤ, List, [], ◌∷◌, filter, unwrap_or}
use Rattle.std.specs.List.{list_any}
use Rattle.std.specs.List.Sorted.{IsStrictlySortedBy}
use Rattle.std.specs.Map.{lookup}
use Rattle.std.specs.Ordering.{int_eq, nat_cmp}

-- The buffers that sessions are attached to, each with its sessions.
abbrev pub Attachments : Type 0
Attachments = List (ℤ × List ℕ)

-- The sessions that are attached to a buffer.
abbrev pub sessions_of : Attachments → ℤ → List ℕ
sessions_of attachments buffer = unwrap_or (lookup (int_eq buffer) attachments) []

-- Sessions stand in rising order, each once (own rule).
abbrev pub AreRising : List ℕ → Type 0
AreRising = IsStrictlySortedBy nat_cmp

-- Whether a session is one of these.
abbrev pub is_session_of : List ℕ → ℕ → Bool
is_session_of sessions session = list_any (λ s. s == session) sessions

-- The sessions with one more at its place in their order.
abbrev pub with_session : ℕ → List ℕ → List ℕ
with_session session [] = session ∷ []
with_session session (s ∷ ss) =
    if nat_lt session s then session ∷ s ∷ ss else
    if s == session then s ∷ ss else
    s ∷ with_session session ss

-- The sessions but for one.
abbrev pub without_session : ℕ → List ℕ → List ℕ
without_session session sessions = filter (λ s. not (s == session)) sessions

-- The sessions but for several.
abbrev pub without_sessions : List ℕ → List ℕ → List ℕ
without_sessions several sessions = filter (λ s. not (is_session_of several s)) sessions

-- One buffer has these sessions now, and each other one has those that it had.
abbrev pub HasSessions : Attachments → Attachments → ℤ → List ℕ → Type 0
HasSessions old new buffer sessions =
    (b : ℤ) → sessions_of new b ≡ (if int_eq buffer b then sessions else sessions_of old b)
