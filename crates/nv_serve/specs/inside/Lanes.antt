-- inside: what a lane's connections came to, in each history that goes on from what its passes have
-- seen.
use Rattle.std.specs.Prelude.{◌≡◌, ◌≢◌, ◌⊎◌, ℕ, ◌+◌, ◌≤◌, List, [], ◌∷◌, ◌++◌, Option, Some, None, option_map, ⊤}
use mathlib.Core.List.{IsPrefix}
use Rattle.nv_turn.specs.Passes.{IsSamePass, PassState, TurnId}
use Rattle.nv_io.specs.Faults.{Rose}
use Rattle.nv_io.specs.Known.{append_items, prepend_items, IsNoItem, ForEachItem}
use Rattle.nv_io.specs.Streams.{Gave}
use Rattle.nv_io.specs.declared.lanes.Ended.{Ended}
use Rattle.nv_io.specs.declared.lanes.Ended.TheVariants.{ReadFault, WriteFault, Quit, NoMemory}
use Rattle.nv_history.specs.Events.{Entry}
use Rattle.nv_history.specs.Asking.{own, takes_by, calls_of}
use Rattle.nv_core.specs.declared.entry.Entry.{Entry as WorldEntry}
use Rattle.nv_core.specs.declared.start.Start.{Start}
use Rattle.nv_halves.specs.Passes.{WorldPass, OfEach}
use Rattle.nv_session.specs.Openings.{IsWhyUnopened}
use Rattle.nv_session.specs.Connections.{ConnectionEnds, traffic_of}
use Rattle.nv_serve.specs.Links.{AreUnusedEnds, LanesWords, Link, ServesInOrder, halves_of}
use Rattle.nv_serve.specs.inside.Sharing.{IsIdle, IsOpened, IsLane}
use Rattle.nv_serve.specs.declared.job.LaneEnd.{LaneEnd}
use Rattle.nv_serve.specs.declared.job.LaneEnd.TheVariants as stop

-- the connection ended so with which a lane ended: with the world, or for want of memory
abbrev pub IsLastOf : LaneEnd → Ended → Type 0
IsLastOf stop.Done how = ⊥
IsLastOf stop.Failed how = ⊥
IsLastOf stop.Quit how = (entry : ℕ) × (how ≡ Quit entry)
IsLastOf stop.Spent how = how ≡ NoMemory

abbrev pub IfLast : Option LaneEnd → Ended → Type 0
IfLast None how = ⊤
IfLast (Some end) how = IsLastOf end how

-- what a connection is to a shared history
module _ {I S : Type 0} where
  abbrev pub session_of_link : Link I S → ℕ
  session_of_link x = x.over.session

  abbrev pub one_of_link : Link I S → List Entry
  one_of_link x = x.one

  abbrev pub other_of_link : Link I S → List Entry
  other_of_link x = x.other

  abbrev pub IsIdleLink : Link I S → Type 0
  IsIdleLink = IsIdle session_of_link one_of_link other_of_link

  abbrev pub IsOpenedLink : ℕ → List Entry → List Entry → Link I S → Type 0
  IsOpenedLink = IsOpened session_of_link one_of_link other_of_link

  abbrev pub IsLaneOfLinks : ℕ → ℕ → List Entry → List Entry → List (Link I S) → Type 0
  IsLaneOfLinks = IsLane session_of_link one_of_link other_of_link

module _ {L I S : Type 0} (t : LanesWords L I S) where
  -- the last of these connections is the one with which a lane ended
  abbrev pub HasLast : LaneEnd → List (Link I S) → Type 0
  HasLast end links =
      (front : List (Link I S)) × (x : Link I S) × (links ≡ front ++ x ∷ [])
      × IsLastOf end x.over.how

  -- A lane, before and after, that served these connections ended so: none is to come, its accept
  -- failed, or its last connection ended it.
  abbrev pub EndsLane : LaneEnd → L → L → List (Link I S) → Type 0
  EndsLane stop.Done old new links = IsNoItem (t.lane new).coming
  EndsLane stop.Failed old new links = Rose (t.lane old).faults (t.lane new).faults
  EndsLane stop.Quit old new links = HasLast stop.Quit links
  EndsLane stop.Spent old new links = HasLast stop.Spent links

module _ {L I S : Type 0} (t : LanesWords L I S) (start : Option Start) where
  -- a connection never was a session, since of what its first pass has seen
  pub record MetAsNone (first_seen : List Entry) (x : Link I S) : Type 0 where
    pub session_is : x.over.session ≡ 0
    pub read : x.over.input ≡ x.input
    pub sent : (t.output x.over.output).taken ≡ (t.output x.output).taken
    pub seen : List Entry
    pub begins : IsPrefix seen first_seen
    pub why : IsWhyUnopened x.over.how start seen

  -- a connection was a session, and ended so in each history that goes on from what both passes
  -- have seen, and in which the takes and the calls of the session are those of its passes
  pub record MetAsSession (first_seen second_seen : List Entry) (x : Link I S) : Type 0 where
    pub some : x.over.session ≢ 0
    pub bytes : List ℕ
    pub read : Gave (t.input x.input).taken (t.input x.over.input).taken (t.input x.input).left
        (t.input x.over.input).left bytes
    pub ends : OfEach start first_seen (λ history world.
        IsPrefix second_seen history
        → takes_by x.over.session history ≡ takes_by x.over.session x.other
        → calls_of x.over.session history ≡ calls_of x.over.session x.one
        → ConnectionEnds x.over.how start x.over.session history world
        (traffic_of (halves_of t) bytes x.over.input x.output x.over.output))
    pub read_fault : x.over.how ≡ ReadFault
        → Rose (t.input x.input).faults (t.input x.over.input).faults
    pub write_fault : x.over.how ≡ WriteFault
        → Rose (t.output x.output).faults (t.output x.over.output).faults

  -- a connection was a session, or none
  abbrev pub IsMet : List Entry → List Entry → Link I S → Type 0
  IsMet first_seen second_seen x =
      MetAsNone first_seen x ⊎ MetAsSession first_seen second_seen x

  -- A lane whose passes have these numbers and have seen so much, before and after: the connections
  -- that it served.
  pub record ServesLane (n m : ℕ) (old new : L) (first_seen second_seen : List Entry) : Type 0
    where
      pub links : List (Link I S)
      pub order : ServesInOrder t old new links
      pub later : (t.lane old).faults ≤ (t.lane new).faults
      pub lane : IsLaneOfLinks n m first_seen second_seen links
      pub each : ForEachItem (IsMet first_seen second_seen) links

  -- and then it ended so
  pub record ServesAll (n m : ℕ) (end : LaneEnd) (old new : L)
      (first_seen second_seen : List Entry) : Type 0 where
    pub serves : ServesLane n m old new first_seen second_seen
    pub ends : EndsLane t end old new serves.links

  -- ---- one connection

  -- two passes served a connection
  pub record ServesLink (p q p_after q_after : WorldPass) (x : Link I S) : Type 0 where
    pub first : IsSamePass p p_after
    pub second : IsSamePass q q_after
    pub begins_one : IsPrefix p.seen p_after.seen
    pub begins_other : IsPrefix q.seen q_after.seen
    pub own_one : own p.number p_after.seen ≡ own p.number p.seen ++ x.one
    pub own_other : own q.number q_after.seen ≡ own q.number q.seen ++ x.other
    pub kind : IsIdleLink x ⊎ IsOpenedLink p.number (own p.number p.seen) p_after.seen x
    pub met : IsMet p_after.seen q_after.seen x

  -- a lane gave a connection and took it back
  pub record PassesLink (old new : L) (x : Link I S) : Type 0 where
    pub came : (t.lane old).coming ≡ prepend_items ((x.input, x.output) ∷ []) (t.lane new).coming
    pub went : (t.lane new).over ≡ append_items (t.lane old).over (x.over ∷ [])
    pub lent : (t.lane new).lent ≡ (t.lane old).lent
    pub later : (t.lane old).faults ≤ (t.lane new).faults
    pub unused : AreUnusedEnds t x.input x.output

  -- a lane gave none, and the passes are as before
  pub record PassesNone (p q p_after q_after : WorldPass) (old new : L) : Type 0 where
    pub first : p_after ≡ p
    pub second : q_after ≡ q
    pub came : (t.lane new).coming ≡ (t.lane old).coming
    pub went : (t.lane new).over ≡ (t.lane old).over
    pub lent : (t.lane new).lent ≡ (t.lane old).lent
    pub later : (t.lane old).faults ≤ (t.lane new).faults

  -- a connection with these ends was served by two passes, and given back to its lane
  pub record GivesLink (p q p_after q_after : WorldPass) (old new : L) (input : I) (output : S)
      (x : Link I S) : Type 0 where
    pub input_is : x.input ≡ input
    pub output_is : x.output ≡ output
    pub serves : ServesLink p q p_after q_after x
    pub coming : (t.lane new).coming ≡ (t.lane old).coming
    pub went : (t.lane new).over ≡ append_items (t.lane old).over (x.over ∷ [])
    pub lent : (t.lane old).lent ≡ option_map (λ n. n + 1) (t.lane new).lent
    pub later : (t.lane old).faults ≤ (t.lane new).faults

  -- and with it the lane ended, where it did
  abbrev pub ReturnsLink : Option LaneEnd → WorldPass → WorldPass → WorldPass → WorldPass → L → L
      → I → S → Type 0
  ReturnsLink end p q p_after q_after old new input output =
      (x : Link I S) × GivesLink p q p_after q_after old new input output x × IfLast end x.over.how

  -- a lane gave a connection, which was served, and took it back
  abbrev pub ServesOne : WorldPass → WorldPass → WorldPass → WorldPass → L → L → Link I S → Type 0
  ServesOne p q p_after q_after old new x =
      ServesLink p q p_after q_after x × PassesLink old new x

  -- what one accept of a lane came to: a connection was served, with which the lane ended or not;
  -- or none was given, since none is to come, or the accept failed
  abbrev pub StepsLane : Option LaneEnd → WorldPass → WorldPass → WorldPass → WorldPass → L → L
      → Type 0
  StepsLane None p q p_after q_after old new =
      (x : Link I S) × ServesOne p q p_after q_after old new x
  StepsLane (Some stop.Quit) p q p_after q_after old new =
      (x : Link I S) × ServesOne p q p_after q_after old new x × IsLastOf stop.Quit x.over.how
  StepsLane (Some stop.Spent) p q p_after q_after old new =
      (x : Link I S) × ServesOne p q p_after q_after old new x × IsLastOf stop.Spent x.over.how
  StepsLane (Some stop.Done) p q p_after q_after old new =
      PassesNone p q p_after q_after old new × IsNoItem (t.lane new).coming
  StepsLane (Some stop.Failed) p q p_after q_after old new =
      PassesNone p q p_after q_after old new × Rose (t.lane old).faults (t.lane new).faults

-- a pass that came in and added nothing
pub record LooksOnly (p q : WorldPass) : Type 0 where
  pub same : IsSamePass p q
  pub begins : IsPrefix p.seen q.seen
  pub own_is : own p.number q.seen ≡ own p.number p.seen

-- two passes that have seen nothing yet, of one turn, whose values begin alike
pub record ArePassesOf (turn : TurnId) (p q : PassState WorldEntry Start) : Type 0 where
  pub first : p.turn ≡ turn
  pub second : q.turn ≡ turn
  pub start : q.start ≡ p.start
  pub first_seen : p.seen ≡ []
  pub second_seen : q.seen ≡ []
