-- What one event of a pass comes to under the turn (own rule).
use Rattle.std.specs.Prelude.{◌≡◌, ℕ, List, Some, Result, Ok, Err}
use mathlib.Core.List.{IsPrefix}
use Rattle.nv_turn.specs.Story.{Has}
use Rattle.nv_turn.specs.Passes.{IsSamePass}
use Rattle.nv_history.specs.Events.{open_session, Entry}
use Rattle.nv_history.specs.Asking.{own}
use Rattle.nv_core.specs.declared.effect.Effect.TheVariants as effect
use Rattle.nv_core.specs.declared.calls.Unopened.{Unopened}
use Rattle.nv_core.specs.declared.calls.Unopened.TheVariants as unopened
use Rattle.nv_halves.specs.Passes.{WorldPass}
use Rattle.nv_core.specs.Visits.{Visit, AddsNothing, InFound, DoesEvent}

-- what the opening of a session came to: the session of this number; or an entry had ended the
-- world, or memory was wanting, and then nothing was added
abbrev pub OpensWith : Result ℕ Unopened → Visit → Type 0
OpensWith (Ok s) v = DoesEvent open_session (effect.Opened s) v
OpensWith (Err (unopened.Ended entry)) v = AddsNothing v × InFound v (λ w. w.ended ≡ Some entry)
OpensWith (Err unopened.NoMemory) v = AddsNothing v

-- a visit of a pass, before and after, that found this history
abbrev pub visit : WorldPass → WorldPass → List Entry → Visit
visit p q found = record { start = p.start; number = p.number; found = found; after = q.seen }

-- A pass came in once: the history that was found goes on from what it had seen, with no more
-- entries of its number, and this came of it.
pub record AppliesOnce (p q : WorldPass) (Comes : Visit → Type 0) : Type 0 where
  pub same : IsSamePass p q
  pub number : Has p.number p.numbers
  pub found : List Entry
  pub begins : IsPrefix p.seen found
  pub own_is : own p.number found ≡ own p.number p.seen
  pub comes : Comes (visit p q found)
