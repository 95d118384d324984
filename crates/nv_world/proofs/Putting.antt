-- A message that is put into the outbox of a session.
use Rattle.std.proofs.Common.{◌≡◌, ℕ, ℤ, Bool, true, false, List, [], ◌∷◌, ◌++◌, length, map, refl, sym, ap, ◌∙◌, subst, Option, Some, None, option_map, is_some}
use Rattle.std.specs.Prelude.{◌==◌, not, IfSome}
use Rattle.std.proofs.lemmas.List.{length-map}
use Rattle.std.proofs.lemmas.List.Elements.{All-push}
use Rattle.circular_buffer.specs.Buffer.{Buffer}
use Rattle.nv_rpc.specs.Messages.{Sent, IsSendable}
use Rattle.nv_history.specs.Events.{Cause}
use Rattle.nv_history.specs.Sessions.{Session, session_told, session_with_message, unless_closed}
use Rattle.nv_core.specs.Contents.{plain_cause, sent_of_shared}
use Rattle.nv_core.specs.Sizes.{plus, memory_of_sent}
use Rattle.nv_core.specs.declared.effect.Cause.{Cause as KeptCause}
use Rattle.nv_world.specs.declared.session.Session.{Session as Kept}
use Rattle.nv_core.specs.declared.shared.SharedMessage.{SharedMessage}
use Rattle.nv_world.specs.inside.Sessions.{IsOutbox, IsSession, messages_waiting}
use Rattle.nv_world.specs.inside.Tellings.{session_put}
use Rattle.nv_core.proofs.Sizing.{counted_push}

-- a session that isn't closed and has room is told a message
abbrev with_more : Sent → (Session → List ℤ) → Session → Session
with_more message following y =
    record { following = following y; waiting = y.waiting ++ message ∷ []; closed = y.closed; shown = y.shown }

put_with_room : (at capacity : ℕ) (message : Sent) (following : Session → List ℤ) (y : Session)
    → y.closed ≡ None → (length y.waiting == capacity) ≡ false
    → with_more message following y ≡ session_put at capacity message following y
put_with_room at capacity message following y live room = sym (
    ap (λ (o : Option Cause). unless_closed o (session_told at capacity message (record y { following = following y })) y) live
    ∙ ap (λ (b : Bool). session_with_message b at message (record y { following = following y })) room
    )

none_closed : (closed : Option KeptCause) → is_some closed ≡ false → closed ≡ None
none_closed None e = refl
none_closed (Some cause) e = absurd (cc)

not_full : (full : Bool) → true ≡ not full → full ≡ false
not_full true e = absurd (cc)
not_full false e = refl

has_room : (items : List SharedMessage) (waiting : List Sent) (k capacity : ℕ)
    → map sent_of_shared items ≡ waiting → k ≡ capacity → true ≡ not (length items == k)
    → (length waiting == capacity) ≡ false
has_room items waiting k capacity was same room =
    not_full (length waiting == capacity) (
    room
    ∙ ap (λ (n : ℕ). not (n == k)) (sym (length-map items sent_of_shared) ∙ ap (λ (l : List Sent). length l) was)
    ∙ ap (λ (n : ℕ). not (length waiting == n)) same
    )

pub put_more : (capacity at bytes size : ℕ) (x : Kept) (y : Session) (old new : Buffer SharedMessage)
    (message : Sent) (following : Session → List ℤ) → IsSession capacity x y
    → is_some x.closed ≡ false → x.outbox ≡ Some old → true ≡ not (length old.items == old.capacity)
    → map sent_of_shared new.items ≡ map sent_of_shared old.items ++ message ∷ []
    → new.capacity ≡ old.capacity → IsSendable message → size ≡ memory_of_sent message
    → bytes ≡ plus x.bytes size
    → IsSession capacity (record { outbox = Some new; closed = x.closed; shown = x.shown; bytes = bytes })
    (session_put at capacity message following y)
put_more capacity at bytes size x y old new message following is shut there room put same sendable counts so =
    let live : y.closed ≡ None = sym is.closed ∙ ap (λ (o : Option KeptCause). option_map plain_cause o) (none_closed x.closed shut) in
    let was : map sent_of_shared old.items ≡ y.waiting =
    sym (ap (λ (o : Option (Buffer SharedMessage)). messages_waiting o) there) ∙ is.waiting in
    let fits : old.capacity ≡ capacity =
    subst (λ (o : Option (Buffer SharedMessage)). IsOutbox capacity o x.closed) there is.outbox in
    let later : Kept = record { outbox = Some new; closed = x.closed; shown = x.shown; bytes = bytes } in
    subst (λ (z : Session). IsSession capacity later z)
    (put_with_room at capacity message following y live (has_room old.items y.waiting old.capacity capacity was fits room))
    (record {
      waiting = put ∙ ap (λ (l : List Sent). l ++ message ∷ []) was;
      closed = is.closed;
      shown = is.shown;
      outbox = same ∙ fits;
      sendable = All-push IsSendable y.waiting message is.sendable sendable;
      quiet = subst (λ (o : Option Cause). IfSome o (λ cause. following y ≡ [])) (sym live) tt;
      counted = counted_push x.bytes bytes size y.waiting message is.counted counts so;
    })
