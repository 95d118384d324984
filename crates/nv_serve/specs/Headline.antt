-- What a server did: each connection of each lane in the one history that was kept, and how the
-- lanes ended (own rule; MessagePack-RPC specification).
use Rattle.std.specs.Prelude.{◌≡◌, ◌≢◌, ◌⊎◌, Bool, true, false, ℕ, suc, ◌<◌, ◌≤◌, List, ◌∷◌, ◌++◌, length, map, slice_get, Some}
use mathlib.Core.List.{IsPrefix}
use Rattle.nv_io.specs.Faults.{Rose}
use Rattle.nv_io.specs.Known.{IsNoItem}
use Rattle.nv_io.specs.Streams.{Gave}
use Rattle.nv_io.specs.declared.lanes.Ended.TheVariants.{ReadFault, WriteFault, Quit}
use Rattle.nv_history.specs.Events.{Event, open_session, request_of, take_of, close_of, Entry}
use Rattle.nv_history.specs.Sessions.{Session}
use Rattle.nv_history.specs.Worlds.{World, session_of}
use Rattle.nv_history.specs.Asking.{opened_in, asked, calls_of}
use Rattle.nv_core.specs.declared.start.Start.{Start}
use Rattle.nv_core.specs.Starts.{world_of_run}
use Rattle.nv_halves.specs.Laws.{own_close}
use Rattle.nv_session.specs.Openings.{IsWhyUnopened}
use Rattle.nv_session.specs.Connections.{ConnectionEnds, traffic_of}
use Rattle.nv_serve.specs.Links.{LanesWords, Link, ServesInOrder, IsAtEnd, halves_of}

-- the session of an event behind which so many sessions were opened before
abbrev pub session_in : ℕ → Event → ℕ
session_in before open_session = suc before
session_in before (request_of s call) = s
session_in before (take_of s) = s
session_in before (close_of s) = s

module _ {L I S : Type 0} (t : LanesWords L I S) (start : Start) (kept : List Entry) where
  -- A connection never was a session: nothing was read, and nothing went out. Memory was wanting,
  -- or an entry had ended the world before.
  pub record WasNoSession (x : Link I S) : Type 0 where
    pub session_is : x.over.session ≡ 0
    pub read : x.over.input ≡ x.input
    pub sent : (t.output x.over.output).taken ≡ (t.output x.output).taken
    pub seen : List Entry
    pub begins : IsPrefix seen kept
    pub why : IsWhyUnopened x.over.how (Some start) seen

  -- A connection was a session of the world. In the history that was kept it asks, in order, its
  -- opening, its calls, and then its close where that is what closed it; its calls are of the bytes
  -- read, and what went out is what it is sent there, as its end says.
  pub record WasSession (world : World) (x : Link I S) : Type 0 where
    pub some : x.over.session ≢ 0
    pub session : Session
    pub there : session_of world x.over.session ≡ Some session
    pub asks : map (λ e. e.event) (asked x.over.session kept)
        ≡ open_session ∷ (map (request_of x.over.session) (calls_of x.over.session kept)
        ++ own_close x.over.session session.closed)
    pub bytes : List ℕ
    pub read : Gave (t.input x.input).taken (t.input x.over.input).taken (t.input x.input).left
        (t.input x.over.input).left bytes
    pub ends : ConnectionEnds x.over.how (Some start) x.over.session kept world
        (traffic_of (halves_of t) bytes x.over.input x.output x.over.output)
    pub read_fault : x.over.how ≡ ReadFault
        → Rose (t.input x.input).faults (t.input x.over.input).faults
    pub write_fault : x.over.how ≡ WriteFault
        → Rose (t.output x.output).faults (t.output x.over.output).faults
    pub quits : (entry : ℕ) → x.over.how ≡ Quit entry → world.ended ≡ Some entry

  -- The lanes, before and after, served connections, each of which was a session of the one history
  -- that was kept, or none. No two were one session. Each entry of the history is one of the
  -- session of a connection: so there is no entry of anyone else.
  pub record Headline (olds news : List L) : Type 0 where
    pub world : World
    pub runs : world_of_run (Some start) kept ≡ Some world
    pub links : ℕ → List (Link I S)
    pub lanes : length news ≡ length olds
    pub in_order : (i : ℕ) (old new : L) → slice_get olds i ≡ Some old
        → slice_get news i ≡ Some new → ServesInOrder t old new (links i)
    pub at_end : (i : ℕ) (old new : L) → slice_get olds i ≡ Some old
        → slice_get news i ≡ Some new → IsAtEnd t old new (links i)
    pub later : (i : ℕ) (old new : L) → slice_get olds i ≡ Some old
        → slice_get news i ≡ Some new → (t.lane old).faults ≤ (t.lane new).faults
    pub each : (i k : ℕ) (x : Link I S) → i < length olds → slice_get (links i) k ≡ Some x
        → WasNoSession x ⊎ WasSession world x
    pub apart : (i j k l : ℕ) (x y : Link I S) → i < length olds → j < length olds
        → slice_get (links i) k ≡ Some x → slice_get (links j) l ≡ Some y
        → x.over.session ≢ 0 → y.over.session ≡ x.over.session → (i ≡ j) × (k ≡ l)
    pub owned : (front behind : List Entry) (e : Entry) → kept ≡ front ++ e ∷ behind
        → (i : ℕ) × (k : ℕ) × (x : Link I S) × (i < length olds)
        × (slice_get (links i) k ≡ Some x)
        × (x.over.session ≡ session_in (opened_in 0 front) e.event)

  -- ---- how the lanes ended

  -- an entry of the history that was kept ended the world
  abbrev pub HasEnd : Type 0
  HasEnd =
      (world : World) × (entry : ℕ) × (world_of_run (Some start) kept ≡ Some world)
      × (world.ended ≡ Some entry)

  -- a lane was served to the end: no connection is to come, where it tells that, or the world ended
  abbrev pub IsServed : L → Type 0
  IsServed lane = IsNoItem (t.lane lane).coming ⊎ HasEnd

  abbrev pub AreServed : List L → Type 0
  AreServed news = (i : ℕ) (new : L) → slice_get news i ≡ Some new → IsServed new

  -- each lane was served to the end, or its count of faults rose
  abbrev pub AreServedOrFailed : List L → List L → Type 0
  AreServedOrFailed olds news = (i : ℕ) (old new : L) → slice_get olds i ≡ Some old
      → slice_get news i ≡ Some new → Rose (t.lane old).faults (t.lane new).faults ⊎ IsServed new

  -- the count of faults of a lane rose
  abbrev pub HasFault : List L → List L → Type 0
  HasFault olds news =
      (i : ℕ) × (old : L) × (new : L) × (slice_get olds i ≡ Some old)
      × (slice_get news i ≡ Some new) × Rose (t.lane old).faults (t.lane new).faults

  -- How lanes are left that were served, where it is told whether memory was wanting to the world,
  -- and whether a lane failed. Unless memory was wanting, each lane was served to the end or has a
  -- fault; and each was served to the end where none failed.
  pub record ServerLeaves (spent failed : Bool) (olds news : List L) : Type 0 where
    pub served : Headline olds news
    pub over : spent ≡ false → AreServedOrFailed olds news
    pub well : spent ≡ false → failed ≡ false → AreServed news
    pub fault : failed ≡ true → HasFault olds news
