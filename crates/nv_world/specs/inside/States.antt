-- inside: the state of a world, and what stands for what.
use Rattle.std.specs.Prelude.{◌≡◌, ℕ, ◌+◌, ◌≤◌, ◌<◌, ◌^◌, ⊤, false, true, List, [], ◌∷◌, Option, Some, None, Result, Ok, Err}
use Rattle.std.specs.List.{AllByRecursion}
use Rattle.nv_rpc.specs.Calls.{Call}
use Rattle.nv_model.specs.Editors.{ModelEditor}
use Rattle.nv_model.specs.Seen.{seen_of}
use Rattle.nv_model.specs.Standing.{Stands, seen_now}
use Rattle.nv_editor.specs.Sound.{AllSealed}
use Rattle.nv_scene.specs.Settling.{IsSettled}
use Rattle.nv_dispatch.specs.Calls.{editor_after}
use Rattle.nv_history.specs.Events.{Cause, Stop as PlainStop}
use Rattle.nv_history.specs.Sessions.{Session}
use Rattle.nv_history.specs.Worlds.{World, Outcome, refuses, idles, becomes, is_live, session_of, outcome_of_frame, outcome_after_call}
use Rattle.nv_core.specs.Contents.{IsEffect, plain_stop}
use Rattle.nv_core.specs.Outcomes.{stop_of_unasked}
use Rattle.nv_core.specs.declared.calls.Unasked.{Unasked}
use Rattle.nv_core.specs.declared.effect.Effect.{Effect}
use Rattle.nv_core.specs.declared.effect.Effect.TheVariants as effect
use Rattle.nv_core.specs.declared.effect.Stop.{Stop}
use Rattle.nv_core.specs.declared.effect.Stop.TheVariants.{NoMemory}
use Rattle.nv_world.specs.declared.state.State.{State}
use Rattle.nv_world.specs.declared.state.Numbers.{Numbers}
use Rattle.nv_world.specs.inside.Sessions.{AreSessions}

-- a state stands for a world of the model: so do the editor and the sessions, and all else is equal
pub record StandsForWorld (state : State) (w : World) : Type 0 where
  pub editor : Stands state.editor w.editor
  pub sealed : AllSealed state.editor
  pub sessions : AreSessions w.capacity state.subs state.sessions.items w.sessions
  pub ended : state.ended ≡ w.ended
  pub stamp : state.stamp ≡ w.stamp

-- the numbers beside a state are those of a world, whose stamp rises at most by one an entry
pub record AreNumbers (n : Numbers) (w : World) : Type 0 where
  pub capacity_is : w.capacity ≡ n.capacity
  pub last_is : w.limits.entries ≡ n.last + 1
  pub entries_are : w.entries ≡ n.at
  pub stamps : w.stamp ≤ n.at + 1

-- a state stands for a world with the numbers beside it, and between entries windows are settled
pub record StandsNumbered (s : State) (n : Numbers) (w : World) : Type 0 where
  pub state : StandsForWorld s w
  pub numbers : AreNumbers n w
  pub settled : IsSettled (seen_now s.editor)

-- no session that is closed has a UI
abbrev pub OnlyLiveHaveUis : World → Type 0
OnlyLiveHaveUis w =
    AllByRecursion (λ ui. is_live (session_of w ui.session) ≡ true) w.editor.stage.uis

-- a call that isn't seen leaves windows settled
abbrev pub StaysSettledUnseen : ModelEditor → Type 0
StaysSettledUnseen m =
    (s : ℕ) (call : Call) → (outcome_of_frame m s call).is_seen ≡ false
    → IsSettled (seen_of (editor_after m (outcome_of_frame m s call)))

-- so it is at an entry: then only live sessions have UIs, and windows stay settled behind a call
-- that isn't seen
pub record IsAt (state : State) (n : Numbers) (w : World) : Type 0 where
  pub stands : StandsNumbered state n w
  pub live : OnlyLiveHaveUis w
  pub calm : StaysSettledUnseen w.editor
  pub few : n.at < 2 ^ 63

-- the numbers once an entry has entered
abbrev pub with_next : Numbers → Numbers
with_next n = record n { at = n.at + 1 }

-- what an event made of a state, beside what it comes to
abbrev pub Changes : State → State → Numbers → Result Effect Stop → Outcome → Type 0
Changes old new n (Ok effect) (becomes v wanted) =
    IsEffect effect wanted × StandsNumbered new (with_next n) v
Changes old new n (Ok effect) (idles wanted) = IsEffect effect wanted × (new ≡ old)
Changes old new n (Ok effect) (refuses wanted) = ⊥
Changes old new n (Err NoMemory) outcome = ⊤
Changes old new n (Err stop) (refuses wanted) = (plain_stop stop ≡ Some wanted) × (new ≡ old)
Changes old new n (Err stop) (idles wanted) = ⊥
Changes old new n (Err stop) (becomes v wanted) = ⊥

-- so it is for each world that the state stood for
abbrev pub StepsState : State → State → Numbers → Result Effect Stop → (World → Outcome) → Type 0
StepsState old new n result outcome =
    (w : World) → IsAt old n w → Changes old new n result (outcome w)

-- what a call of a session comes to where it isn't stopped
abbrev pub called_outcome : World → ℕ → Call → Outcome
called_outcome w s call = outcome_after_call w s call (outcome_of_frame w.editor s call)

-- this stops what comes to the outcome, and without a stop it comes to the wanted one
abbrev pub IsStopOf : Option Stop → Outcome → Outcome → Type 0
IsStopOf None wanted outcome = outcome ≡ wanted
IsStopOf (Some stop) wanted outcome =
    (told : PlainStop) × (plain_stop stop ≡ Some told) × (outcome ≡ refuses told)

-- what the answer of a call stands for
abbrev pub called_as : {A : Type 0} → ℕ → Result A Unasked → Result Effect Stop
called_as s (Ok made) = Ok effect.Done
called_as s (Err why) = Err (stop_of_unasked s why)

-- how many of these sessions aren't closed
abbrev pub one_if_live : Option Cause → ℕ
one_if_live None = 1
one_if_live (Some cause) = 0

abbrev pub count_live : List Session → ℕ
count_live [] = 0
count_live (x ∷ xs) = one_if_live x.closed + count_live xs
