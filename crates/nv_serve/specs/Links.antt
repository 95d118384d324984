-- The connections of lanes, and what lanes tell of them (own rule).
use Rattle.std.specs.Prelude.{◌≡◌, ◌⊎◌, ℕ, List, [], ◌∷◌, ◌++◌, map, Option, ⊤}
use Rattle.nv_io.specs.Faults.{Rose}
use Rattle.nv_io.specs.Known.{append_items, prepend_items, ForEachItem, IsNoItem, IsUnread, IsUnused}
use Rattle.nv_io.specs.Words.{HalvesWords, LaneWords, SinkWords, SourceWords}
use Rattle.nv_io.specs.declared.lanes.Over.{Over}
use Rattle.nv_io.specs.declared.lanes.Ended.{Ended}
use Rattle.nv_io.specs.declared.lanes.Ended.TheVariants.{Closed, Malformed, Overflowed, ReadFault, WriteFault, Quit, NoMemory}
use Rattle.nv_history.specs.Events.{Entry}

-- The words of lanes of one kind, and of the two halves of their connections.
pub record LanesWords (L I S : Type 0) : Type 0 where
  pub input : I → SourceWords
  pub output : S → SinkWords
  pub lane : L → LaneWords I S

-- those of the halves alone
abbrev pub halves_of : {L I S : Type 0} → LanesWords L I S → HalvesWords I S
halves_of t = record { input = t.input; output = t.output }

-- A connection that a lane served: its two ends as they came, how it was given back, and the
-- entries of the history that its two passes made.
pub record Link (I S : Type 0) : Type 0 where
  pub input : I
  pub output : S
  pub over : Over I S
  pub one : List Entry
  pub other : List Entry

-- the end of the world, or want of memory
abbrev pub IsLastEnd : Ended → Type 0
IsLastEnd (Quit entry) = ⊤
IsLastEnd NoMemory = ⊤
IsLastEnd Closed = ⊥
IsLastEnd (Malformed flaw) = ⊥
IsLastEnd (Overflowed entry) = ⊥
IsLastEnd ReadFault = ⊥
IsLastEnd WriteFault = ⊥

module _ {L I S : Type 0} (t : LanesWords L I S) where
  -- two ends of a connection of which nothing was taken, no read was made, and no fault is counted
  abbrev pub AreUnusedEnds : I → S → Type 0
  AreUnusedEnds input output =
      IsUnread (t.input input).taken (t.input input).reads (t.input input).faults
      × IsUnused (t.output output).taken (t.output output).faults

  -- A lane, before and after, has served these connections: those that were to come, in their
  -- order, and they are those that ended since, each once and with the ends that it came with,
  -- which came unused.
  pub record ServesInOrder (old new : L) (links : List (Link I S)) : Type 0 where
    pub came : (t.lane old).coming
        ≡ prepend_items (map (λ x. (x.input, x.output)) links) (t.lane new).coming
    pub went : (t.lane new).over ≡ append_items (t.lane old).over (map (λ x. x.over) links)
    pub lent : (t.lane new).lent ≡ (t.lane old).lent
    pub unused : ForEachItem (λ x. AreUnusedEnds x.input x.output) links

  -- a lane serves no more: none is to come, its accept failed, or its last connection ended with
  -- the world or for want of memory
  abbrev pub IsAtEnd : L → L → List (Link I S) → Type 0
  IsAtEnd old new links =
      IsNoItem (t.lane new).coming ⊎ Rose (t.lane old).faults (t.lane new).faults
      ⊎ ((front : List (Link I S)) × (x : Link I S) × (links ≡ front ++ x ∷ [])
      × IsLastEnd x.over.how)
