-- inside: a session as it is kept.
use Rattle.std.specs.Prelude.{◌≡◌, ℕ, suc, zero, ℤ, ⊤, Bool, true, false, List, [], ◌∷◌, length, map, All, Option, Some, None, IfSome, option_map, slice_get, is_some, if◌then◌else◌}
use Rattle.std.specs.Option.{option_map_or}
use Rattle.std.specs.List.{AllZip}
use Rattle.circular_buffer.specs.Buffer.{Buffer}
use Rattle.nv_rpc.specs.Messages.{Sent, IsSendable}
use Rattle.nv_subs.specs.Attachments.{Attachments, sessions_of, is_session_of}
use Rattle.nv_history.specs.Sessions.{follows}
use Rattle.nv_history.specs.Sessions as model
use Rattle.nv_core.specs.Contents.{plain_cause, sent_of_shared}
use Rattle.nv_core.specs.Sizes.{memory_of_waiting}
use Rattle.nv_core.specs.declared.effect.Cause.{Cause}
use Rattle.nv_core.specs.declared.shared.SharedMessage.{SharedMessage}
use Rattle.nv_world.specs.declared.session.Session.{Session}

-- what waits in an outbox; nothing waits where it was given up
abbrev pub messages_waiting : Option (Buffer SharedMessage) → List Sent
messages_waiting None = []
messages_waiting (Some outbox) = map sent_of_shared outbox.items

-- an outbox has this capacity, and it isn't given up before its session is closed
abbrev pub IsOutbox : ℕ → Option (Buffer SharedMessage) → Option Cause → Type 0
IsOutbox capacity (Some outbox) closed = outbox.capacity ≡ capacity
IsOutbox capacity None None = ⊥
IsOutbox capacity None (Some cause) = ⊤

-- a session as it is kept stands for one of the model: what waits can be told, and its bytes are
-- counted; a closed one is attached to nothing
pub record IsSession (capacity : ℕ) (x : Session) (y : model.Session) : Type 0 where
  pub waiting : messages_waiting x.outbox ≡ y.waiting
  pub closed : option_map plain_cause x.closed ≡ y.closed
  pub shown : x.shown ≡ y.shown
  pub outbox : IsOutbox capacity x.outbox x.closed
  pub sendable : All IsSendable y.waiting
  pub quiet : IfSome y.closed (λ cause. y.following ≡ [])
  pub counted : x.bytes ≡ memory_of_waiting 0 y.waiting

-- whether the session of a number is attached to a buffer
abbrev pub follows_at : ℤ → List model.Session → ℕ → Bool
follows_at n ys zero = false
follows_at n ys (suc place) = option_map_or (follows n) (slice_get ys place) false

-- the sessions, and who is told of which buffer, stand for those of the model
pub record AreSessions (capacity : ℕ) (subs : Attachments) (xs : List Session)
    (ys : List model.Session) : Type 0 where
  pub pairs : AllZip (IsSession capacity) xs ys
  pub told : (n : ℤ) (s : ℕ) → is_session_of (sessions_of subs n) s ≡ follows_at n ys s
