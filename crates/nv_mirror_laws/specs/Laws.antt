-- What a client that follows a buffer makes of what a server sends it (own rule; help:
-- api-buffer-updates).
use Rattle.std.specs.Prelude.{◌≡◌, ◌⊎◌, ℕ, ◌^◌, ◌<◌, ◌≤◌, ⊤, true, FitsSigned, ℤ, pos, nat_abs, List, [], ◌∷◌, ◌++◌, length, take, codes, Option, Some, Err}
use Rattle.std.specs.Int.{w64}
use Rattle.nv_places.specs.Flat.{flat}
use Rattle.nv_value.specs.Content.{trees_of, no_more, truth, integer, pairs}
use Rattle.nv_value.specs.declared.fault.ApiFault.{ApiFault}
use Rattle.nv_msgpack.specs.Shortest.{shortest}
use Rattle.nv_rpc.specs.Calls.{Call, request, call_in}
use Rattle.nv_rpc.specs.Messages.{Sent, message_tree}
use Rattle.nv_io.specs.declared.lanes.Flaw.{Flaw}
use Rattle.nv_io.specs.declared.lanes.Flaw.TheVariants.{Bad, TooDeep, TooLong, Inside, NoCall}
use Rattle.nv_model.specs.Editors.{ModelEditor}
use Rattle.nv_model.specs.declared.parts.Limits.{Limits}
use Rattle.nv_history.specs.Asking.{calls_of}
use Rattle.nv_history.specs.Events.{request_of, Entry}
use Rattle.nv_history.specs.Worlds.{World, outcome_of_frame}
use Rattle.nv_history.specs.Runs.{run, out, all_messages}
use Rattle.nv_history.specs.Spoken.{AreBytesOf}
use Rattle.nv_history.specs.Texts.{lines_at_tick}
use Rattle.nv_mirror.specs.Asking.{attach_request}
use Rattle.nv_mirror.specs.Listings.{refusal_in, text_heading}
use Rattle.nv_mirror.specs.Ends.{most_spelled, FollowsTo, IsReadToEnd}
use Rattle.nv_mirror.specs.Laws.{IsByBytes}
use Rattle.nv_mirror.specs.declared.followed.Followed.{Followed}
use Rattle.nv_mirror.specs.declared.followed.Followed.TheVariants.{Malformed, Refused, Unfit}

-- limits that are numbers of their types
pub record AreTyped (limits : Limits) : Type 0 where
  pub lines : limits.lines < 2 ^ 32
  pub line_bytes : limits.line_bytes < 2 ^ 32
  pub ticks : FitsSigned w64 limits.ticks

-- one of the messages is spelled in more bytes than a client reads
abbrev pub HasLong : List Sent → Type 0
HasLong [] = ⊥
HasLong (m ∷ ms) = (most_spelled < length (shortest (message_tree m))) ⊎ HasLong ms

-- one of the messages refuses the request of a client, with these words
abbrev pub HasRefusal : List ℕ → List Sent → Type 0
HasRefusal words [] = ⊥
HasRefusal words (m ∷ ms) = (refusal_in m ≡ Some words) ⊎ HasRefusal words ms

-- ---- the one call of a client
-- the call of a client that follows a buffer, as a server reads it
abbrev pub attach_call : ℤ → Call
attach_call buffer =
    request 1 (codes "nvim_buf_attach")
    (trees_of (integer buffer ∷ truth true ∷ pairs no_more ∷ []))

-- The request of a client is that call.
abbrev pub RequestIsCall : Type 0
RequestIsCall = (buffer : ℤ) → call_in (attach_request buffer) ≡ Some (attach_call buffer)

-- an entry of a history makes a call of a session, and the editor refuses it with this error
pub record IsRefusedIn (capacity : ℕ) (limits : Limits) (history : List Entry) (s : ℕ) (call : Call)
    (fault : ApiFault) : Type 0 where
  pub before : List Entry
  pub entry : Entry
  pub after : List Entry
  pub split : history ≡ before ++ entry ∷ after
  pub asks : entry.event ≡ request_of s call
  pub world : World
  pub runs : run capacity limits before ≡ Some world
  pub refuses : (outcome_of_frame world.editor s call).result ≡ Err fault

-- a session makes this call and no other
abbrev pub CallsOnly : ℕ → Call → List Entry → Type 0
CallsOnly s call history = calls_of s history ≡ call ∷ []

-- the bytes are those that were sent of a history to a session whose one call follows the buffer of
-- this number
pub record IsSentTo (capacity : ℕ) (limits : Limits) (history : List Entry) (s buffer : ℕ)
    (w : World) (sent : List ℕ) : Type 0 where
  pub typed : AreTyped limits
  pub runs : run capacity limits history ≡ Some w
  pub some : 1 ≤ buffer
  pub most : buffer ≤ 2 ^ 62
  pub only : CallsOnly s (attach_call (pos buffer)) history
  pub bytes : AreBytesOf (out capacity limits s history) sent

-- ---- what a client makes of them

-- the text of a buffer at a changedtick, as it is listed
abbrev pub listed_at : List (List ℕ) → ℤ → List ℕ
listed_at lines tick = text_heading tick (length lines) ++ flat lines

abbrev pub text_at_tick : ModelEditor → ℤ → ℤ → List ℕ
text_at_tick m buffer tick = listed_at (lines_at_tick m buffer (nat_abs tick)) tick

-- the texts at changedticks, one after another
abbrev pub texts_at_ticks : ModelEditor → ℤ → List ℤ → List ℕ
texts_at_ticks m buffer [] = []
texts_at_ticks m buffer (tick ∷ ticks) = text_at_tick m buffer tick ++ texts_at_ticks m buffer ticks

-- how the bytes of a server may be malformed: they were cut inside a value, or a message is too
-- long
abbrev pub MayComeOf : List Sent → Flaw → Type 0
MayComeOf messages (Inside n) = ⊤
MayComeOf messages (TooLong n) = HasLong messages
MayComeOf messages (Bad n) = ⊥
MayComeOf messages (TooDeep n) = ⊥
MayComeOf messages (NoCall n) = ⊥

-- what a client comes to that read of messages: each text listed is the buffer's at its
-- changedtick, no event is one that doesn't fit, and where it was refused, that was sent
pub record FollowsServer (m : ModelEditor) (buffer : ℤ) (messages : List Sent)
    (followed : Followed) (listed : List ℕ) : Type 0 where
  pub ticks : List ℤ
  pub count : ℕ
  pub lists : listed ≡ take count (texts_at_ticks m buffer ticks)
  pub whole : IsByBytes followed → listed ≡ texts_at_ticks m buffer ticks
  pub fits : (n : ℕ) → followed ≡ Unfit n → ⊥
  pub flawed : (f : Flaw) → followed ≡ Malformed f → MayComeOf messages f
  pub refused : (words : List ℕ) → followed ≡ Refused words → HasRefusal words messages

-- A client that reads a front of what it was sent follows the server.
unfoldable pub ServedBytesAreFollowed : Type 0
ServedBytesAreFollowed =
    (capacity : ℕ) (limits : Limits) (history : List Entry) (s buffer : ℕ) (w : World)
    (left : Option (List ℕ)) (sent bytes rest listed : List ℕ) (followed : Followed)
    → IsSentTo capacity limits history s buffer w sent → sent ≡ bytes ++ rest
    → FollowsTo (IsReadToEnd left bytes) (pos buffer) followed bytes listed
    → FollowsServer w.editor (pos buffer) (all_messages (out capacity limits s history)) followed
    listed

-- It is refused only as the server refused its call.
unfoldable pub RefusalsAreOfTheCall : Type 0
RefusalsAreOfTheCall =
    (capacity : ℕ) (limits : Limits) (history : List Entry) (s buffer : ℕ) (w : World)
    (left : Option (List ℕ)) (sent bytes rest listed words : List ℕ)
    → IsSentTo capacity limits history s buffer w sent → sent ≡ bytes ++ rest
    → FollowsTo (IsReadToEnd left bytes) (pos buffer) (Refused words) bytes listed
    → (fault : ApiFault)
    × IsRefusedIn capacity limits history s (attach_call (pos buffer)) fault × (fault.words ≡ words)

-- And where the server refused the call, and the client read what it was sent of that, it is
-- refused, with that error, unless a device failed or memory was wanting.
unfoldable pub RefusedCallsAreTold : Type 0
RefusedCallsAreTold =
    (capacity : ℕ) (limits : Limits) (history : List Entry) (s buffer : ℕ) (w : World)
    (left : Option (List ℕ)) (sent listed : List ℕ) (fault : ApiFault) (followed : Followed)
    → IsSentTo capacity limits history s buffer w sent
    → IsRefusedIn capacity limits history s (attach_call (pos buffer)) fault
    → 0 < length sent → IsByBytes followed
    → FollowsTo (IsReadToEnd left sent) (pos buffer) followed sent listed
    → followed ≡ Refused fault.words
