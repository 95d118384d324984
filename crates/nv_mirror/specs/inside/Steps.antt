-- inside: what the steps of a client do.
use Rattle.std.specs.Prelude.{◌≡◌, ◌⊎◌, ℕ, ◌+◌, ◌<◌, ◌≤◌, ℤ, List, [], ◌++◌, length, take, Option, Some, None, Result, Ok, Err}
use Rattle.nv_value.specs.Content.{Tree}
use Rattle.nv_rpc.specs.Messages.{Sent}
use Rattle.nv_io.specs.declared.lanes.Flaw.{Flaw}
use Rattle.nv_io.specs.declared.lanes.Flaw.TheVariants.{NoCall}
use Rattle.nv_stream.specs.State.{State, empty_state}
use Rattle.nv_subs.specs.Mirrors.{Mirror, absent}
use Rattle.nv_mirror.specs.Listings.{Received, StopReason, buffer_detached, request_refused, unfit, strange, messages_with, messages_in, listing, listing_from, stop_at, stop_by, stop_in, stop_from, next_mirror, listed_by}
use Rattle.nv_mirror.specs.Ends.{most_levels, most_spelled, BeginWith, FollowsTo}
use Rattle.nv_mirror.specs.declared.followed.Followed.{Followed}
use Rattle.nv_mirror.specs.declared.followed.Followed.TheVariants.{Ended, Detached, Malformed, Refused, Unfit, OutputFault, NoMemory}
use Rattle.nv_mirror.specs.declared.lister.Lister.{Lister}
use Rattle.nv_mirror.specs.declared.client.Client.{Client}
use Rattle.nv_mirror.specs.declared.client.TheConstants.{PIECE}

-- what a client knows: its buffer, how many values it looked at, and its mirror of the buffer
pub record Known : Type 0 where
  pub buffer : ℤ
  pub number : ℕ
  pub mirror : Mirror

abbrev pub known_of : Lister → Known
known_of l = record { buffer = l.buffer; number = l.number; mirror = l.follower.mirror }

-- it follows its buffer, and nothing waits to be written
pub record IsSteady (l : Lister) : Type 0 where
  pub follows : l.follower.buffer ≡ l.buffer
  pub nothing_waits : l.page ≡ []

-- it looked at no value
pub record IsFreshLister (buffer : ℤ) (l : Lister) : Type 0 where
  pub steady : IsSteady l
  pub known : known_of l ≡ record { buffer = buffer; number = 0; mirror = absent }

-- where a client stops at a message, its mirror after it, and what it lists of it
abbrev pub stop_due : Known → Sent → Option StopReason
stop_due k sent = stop_at k.buffer k.number k.mirror sent

abbrev pub mirror_past : Known → Sent → Mirror
mirror_past k sent = next_mirror k.buffer k.mirror sent

abbrev pub text_due : Known → Sent → List ℕ
text_due k sent = listed_by k.buffer sent (mirror_past k sent)

-- the end of following that a stop is
abbrev pub EndsBy : Followed → Option StopReason → Type 0
EndsBy Detached stop = stop ≡ Some buffer_detached
EndsBy (Refused words) stop = stop ≡ Some (request_refused words)
EndsBy (Unfit n) stop = stop ≡ Some (unfit n)
EndsBy (Malformed (NoCall n)) stop = stop ≡ Some (strange n)
EndsBy _ stop = ⊥

-- nothing was listed, or a part of the text that was due
abbrev pub ListsPart : Option StopReason → List ℕ → List ℕ → Type 0
ListsPart stop text out = (out ≡ []) ⊎ ((stop ≡ None) × ((n : ℕ) × (out ≡ take n text)))

-- how it ends at a message, where this stop and this text are due
abbrev pub EndsAtMessage : Followed → Option StopReason → List ℕ → List ℕ → Type 0
EndsAtMessage OutputFault stop text out = ListsPart stop text out
EndsAtMessage NoMemory stop text out = ListsPart stop text out
EndsAtMessage followed stop text out = EndsBy followed stop × (out ≡ [])

-- what a message came to: it was listed, or following ends
abbrev pub TakesMessage : {A : Type 0} → Result A Followed → Known → Sent → Known → List ℕ → Type 0
TakesMessage (Ok done) old sent new out =
    (stop_due old sent ≡ None) × (new ≡ record old { mirror = mirror_past old sent })
    × (out ≡ text_due old sent)
TakesMessage (Err followed) old sent new out =
    EndsAtMessage followed (stop_due old sent) (text_due old sent) out

-- a client goes on past a value, of which it listed this
pub record GoesPast (received : Received) (old new : Known) (out : List ℕ) : Type 0 where
  pub buffer : new.buffer ≡ old.buffer
  pub number : new.number ≡ old.number + 1
  pub stops : (later : Mirror → Option StopReason)
      → stop_by old.buffer old.number old.mirror received later ≡ later new.mirror
  pub lists : (later : List Sent)
      → listing_from old.buffer old.mirror (messages_with received later)
      ≡ out ++ listing_from old.buffer new.mirror later

-- where a client stops at a value alone, and what it lists of it
abbrev pub stop_alone : Known → Received → Option StopReason
stop_alone k received = stop_by k.buffer k.number k.mirror received (λ next. None)

abbrev pub listing_alone : Known → Received → List ℕ
listing_alone k received = listing_from k.buffer k.mirror (messages_with received [])

-- how it ends at a value
abbrev pub EndsAtValue : Followed → Known → Received → List ℕ → Type 0
EndsAtValue OutputFault old received out = (n : ℕ) × (out ≡ take n (listing_alone old received))
EndsAtValue NoMemory old received out = (n : ℕ) × (out ≡ take n (listing_alone old received))
EndsAtValue followed old received out =
    EndsBy followed (stop_alone old received) × (out ≡ listing_alone old received)

-- what a value came to
abbrev pub TakesReceived : {A : Type 0} → Result A Followed → Known → Received → Known → List ℕ
    → Type 0
TakesReceived (Ok done) old received new out = GoesPast received old new out
TakesReceived (Err followed) old received new out = EndsAtValue followed old received out

-- where a client stands: its stream, and what it knows
pub record Standing : Type 0 where
  pub stream : State
  pub known : Known

abbrev pub standing_of : Client → Standing
standing_of c = record { stream = c.stream; known = known_of c.lister }

-- it can go on, and has looked at no more values than bytes
pub record CanGoOn (c : Client) : Type 0 where
  pub steady : IsSteady c.lister
  pub counted : c.lister.number ≤ c.stream.start

-- no byte came to it
pub record IsFreshClient (buffer : ℤ) (c : Client) : Type 0 where
  pub ready : CanGoOn c
  pub standing : standing_of c ≡ record {
    stream = empty_state most_levels most_spelled;
    known = record { buffer = buffer; number = 0; mirror = absent };
  }

-- the bytes read begin with values that a client looked at, of which it listed this; and what later
-- values come to is what they come to from where it stands
pub record IsOn (buffer : ℤ) (bytes listed : List ℕ) (s : Standing) : Type 0 where
  pub about : s.known.buffer ≡ buffer
  pub depth : s.stream.depth ≡ most_levels
  pub most : s.stream.most ≡ most_spelled
  pub no_flaw : s.stream.flaw ≡ None
  pub values : List Tree
  pub front : BeginWith bytes values s.stream.start s.stream.held
  pub stops : (later : List Tree) → stop_in buffer (values ++ later)
      ≡ stop_from buffer s.known.number s.known.mirror later
  pub lists : (later : List Tree) → listing buffer (messages_in (values ++ later))
      ≡ listed ++ listing_from buffer s.known.mirror (messages_in later)

-- what steps came to over the bytes read, of which this was listed
abbrev pub StepsTo : {A : Type 0} → Type 0 → Result A Followed → ℤ → (List ℕ × List ℕ) → Standing
    → Type 0
StepsTo over (Ok done) buffer told new = IsOn buffer told.0 told.1 new
StepsTo over (Err followed) buffer told new = FollowsTo over buffer followed told.0 told.1

-- what steps come to wherever they begin, if they list this and these bytes come
abbrev pub StepsFromAny : {A : Type 0} → Type 0 → Result A Followed → (List ℕ × List ℕ) → Standing
    → Standing → Type 0
StepsFromAny over result more old new =
    (buffer : ℤ) (bytes listed : List ℕ) → IsOn buffer bytes listed old
    → StepsTo over result buffer (bytes ++ more.0, listed ++ more.1) new

-- a piece came, and a client holds it or gave values of it
abbrev pub Grows : List ℕ → Standing → Standing → Type 0
Grows piece old new =
    (0 < length piece) × (length piece ≤ PIECE)
    × (new.stream.start + length new.stream.held
    ≡ old.stream.start + length old.stream.held + length piece)

-- the end of following to which no more bytes come
abbrev pub followed_of_flaw : Option Flaw → Followed
followed_of_flaw None = Ended
followed_of_flaw (Some flaw) = Malformed flaw
