-- A world before an event and after it.
use Rattle.std.proofs.Common.{◌≡◌, ℕ, ◌^◌, ◌<◌, Bool, true, false, List, [], ◌∷◌, ◌++◌, sym, ap, ◌∙◌, subst, Option, Some, option_map}
use Rattle.nv_model.specs.declared.parts.Limits.{Limits}
use Rattle.nv_dispatch.specs.Calls.{editor_after}
use Rattle.nv_history.specs.Events.{Event, Entry as PlainEntry}
use Rattle.nv_history.specs.Worlds.{World, Outcome, fresh_world, outcome_of_frame, step}
use Rattle.nv_history.specs.Runs.{run}
use Rattle.nv_history.proofs.CalmCalls.{frame_calm}
use Rattle.nv_history.proofs.LiveUis.{run_live}
use Rattle.nv_history.proofs.LooksOn.{settled_stays}
use Rattle.nv_history.proofs.SafeRows.{standing_of}
use Rattle.nv_history.proofs.SameScenes.{run_placed}
use Rattle.nv_history.proofs.SettledRuns.{run_kept}
use Rattle.nv_core.specs.Contents.{plain_entries}
use Rattle.nv_world.specs.Worlds.{WorldRecord, as_spent, model_of, outcome_of_event, with_entry}
use Rattle.nv_core.specs.declared.entry.Entry.{Entry}
use Rattle.nv_world.specs.declared.state.State.{State}
use Rattle.nv_world.specs.declared.state.Numbers.{Numbers}
use Rattle.nv_world.specs.inside.States.{IsAt, StandsNumbered, StaysSettledUnseen}
use Rattle.nv_world.specs.inside.Worlds.{numbers_behind}

-- a call that isn't seen leaves an editor that looks the same, and so its windows settled
stays_settled : (capacity : ℕ) (limits : Limits) (history : List PlainEntry) (w : World) → run capacity limits history ≡ Some w → StaysSettledUnseen w.editor
stays_settled capacity limits history w runs = λ s call unseen.
    let order = (run_kept capacity limits history w runs).order in
    settled_stays w.editor (editor_after w.editor (outcome_of_frame w.editor s call))
    (frame_calm w.editor (standing_of w.editor.stage order.safe.1) s call unseen) (run_placed capacity limits history w runs).1 order.settled

-- a state is at an entry of its world
pub at_entry : (state : State) (capacity : ℕ) (limits : Limits) (entries : List Entry) (n : Numbers) (w : World) → n ≡ numbers_behind capacity limits entries → n.at < 2 ^ 63
    → run capacity limits (plain_entries entries) ≡ Some w → StandsNumbered state (numbers_behind capacity limits entries) w
    → IsAt state n w
at_entry state capacity limits entries n w e few runs stands = record {
  stands = subst (λ (m : Numbers). StandsNumbered state m w) (sym e) stands;
  live = run_live (fresh_world capacity limits) w (plain_entries entries) tt runs;
  calm = stays_settled capacity limits (plain_entries entries) w runs;
  few = few;
}

-- what an event comes to in the world of a record
pub named_outcome : (k : WorldRecord) (w : World) (event : Event) → model_of k ≡ Some w → outcome_of_event k event ≡ Some (step w event)
named_outcome k w event e = ap (λ (o : Option World). option_map (λ v. step v event) o) e

abbrev pub world_record : ℕ → Limits → List Entry → Bool → WorldRecord
world_record capacity limits entries spent = record { capacity = capacity; limits = limits; history = entries; spent = spent }

-- a record whose history has the same entries, and one entry more; one that is spent
pub record_is : (capacity : ℕ) (limits : Limits) (entries mid : List Entry) (spent now : Bool) (k : WorldRecord)
    → world_record capacity limits entries spent ≡ k → mid ≡ entries → now ≡ spent → world_record capacity limits mid now ≡ k
record_is capacity limits entries mid spent now k is same stays =
    ap (λ (l : List Entry). world_record capacity limits l now) same ∙ ap (λ (b : Bool). world_record capacity limits entries b) stays ∙ is

pub record_spent : (capacity : ℕ) (limits : Limits) (entries mid : List Entry) (spent now : Bool) (k : WorldRecord)
    → world_record capacity limits entries spent ≡ k → mid ≡ entries → now ≡ true → world_record capacity limits mid now ≡ as_spent k
record_spent capacity limits entries mid spent now k is same over =
    ap (λ (l : List Entry). world_record capacity limits l now) same ∙ ap (λ (b : Bool). world_record capacity limits entries b) over ∙ ap as_spent is

pub record_entered : (capacity : ℕ) (limits : Limits) (entries mid later : List Entry) (spent now : Bool) (e : Entry) (k : WorldRecord)
    → world_record capacity limits entries spent ≡ k → mid ≡ entries → now ≡ spent → later ≡ mid ++ e ∷ []
    → world_record capacity limits later now ≡ with_entry k e
record_entered capacity limits entries mid later spent now e k is same stays more =
    ap (λ (l : List Entry). world_record capacity limits l now) more
    ∙ ap (λ (r : WorldRecord). with_entry r e) (record_is capacity limits entries mid spent now k is same stays)

-- a record that isn't spent
pub unspent : (capacity : ℕ) (limits : Limits) (entries : List Entry) (spent : Bool) (k : WorldRecord)
    → world_record capacity limits entries spent ≡ k → spent ≡ false → k.spent ≡ false
unspent capacity limits entries spent k is live = sym (ap (λ (r : WorldRecord). r.spent) is) ∙ live

pub not_both : {A : Type 0} (b : Bool) → b ≡ false → b ≡ true → A
not_both true e f = absurd cc
not_both false e f = absurd cc
