-- How a pass opens a session, and why it doesn't (own rule).
use Rattle.std.specs.Prelude.{◌≡◌, ℕ, suc, List, [], ◌∷◌, ◌++◌, Option, Some, Result, Ok, Err, ⊤}
use mathlib.Core.List.{IsPrefix}
use Rattle.nv_turn.specs.Passes.{IsSamePass}
use Rattle.nv_io.specs.declared.lanes.Ended.{Ended}
use Rattle.nv_io.specs.declared.lanes.Ended.TheVariants.{Closed, Malformed, Overflowed, ReadFault, WriteFault, Quit, NoMemory}
use Rattle.nv_history.specs.Events.{open_session, Entry}
use Rattle.nv_history.specs.Worlds.{World}
use Rattle.nv_history.specs.Asking.{own, opened_in}
use Rattle.nv_core.specs.declared.start.Start.{Start}
use Rattle.nv_halves.specs.Passes.{WorldPass, Gained}
use Rattle.nv_core.specs.Starts.{world_of_run}

-- the opening of a session, by this caller
abbrev pub opening_entry : ℕ → Entry
opening_entry n = record { caller = n; event = open_session }

-- The opening of a session stands in a history behind what was found, which goes on from what was
-- seen before with no more entries of the caller: as many sessions were opened there as are in
-- front of this one.
pub record HasOpening (n s : ℕ) (before now : List Entry) : Type 0 where
  pub found : List Entry
  pub begins : IsPrefix before found
  pub own_is : own n found ≡ own n before
  pub number : s ≡ suc (opened_in 0 found)
  pub stands : IsPrefix (found ++ opening_entry n ∷ []) now

-- an end of a connection that was never a session: the world had ended by this entry, or memory was
-- wanting, and no other
abbrev pub IsWhyUnopened : Ended → Option Start → List Entry → Type 0
IsWhyUnopened NoMemory start seen = ⊤
IsWhyUnopened (Quit entry) start seen =
    (w : World) × (world_of_run start seen ≡ Some w) × (w.ended ≡ Some entry)
IsWhyUnopened Closed start seen = ⊥
IsWhyUnopened (Malformed flaw) start seen = ⊥
IsWhyUnopened (Overflowed entry) start seen = ⊥
IsWhyUnopened ReadFault start seen = ⊥
IsWhyUnopened WriteFault start seen = ⊥

-- a pass opened a session, and did nothing else
pub record OpensSession (p q : WorldPass) (s : ℕ) : Type 0 where
  pub same : IsSamePass p q
  pub gains : Gained p.number p.seen q.seen (opening_entry p.number ∷ [])
  pub opening : HasOpening p.number s p.seen q.seen

-- a pass opened none, and gained nothing
pub record OpensNone (p q : WorldPass) (how : Ended) : Type 0 where
  pub same : IsSamePass p q
  pub gains : Gained p.number p.seen q.seen []
  pub why : IsWhyUnopened how p.start q.seen

-- a pass opened a session of this number, or none
abbrev pub Opens : Result ℕ Ended → WorldPass → WorldPass → Type 0
Opens (Ok s) p q = OpensSession p q s
Opens (Err how) p q = OpensNone p q how
