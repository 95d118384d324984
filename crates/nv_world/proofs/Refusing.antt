-- A world in which an event is refused.
use Rattle.std.proofs.Common.{◌≡◌, ℕ, Bool, true, false, List, refl, sym, ap, ◌∙◌, Option, Some, None, is_none, Err}
use Rattle.nv_model.specs.declared.parts.Limits.{Limits}
use Rattle.nv_history.specs.Worlds.{Outcome}
use Rattle.nv_core.specs.Contents.{plain_stop}
use Rattle.nv_world.specs.Worlds.{WorldRecord, AppliesErr}
use Rattle.nv_core.specs.declared.entry.Entry.{Entry}
use Rattle.nv_core.specs.declared.effect.Stop.{Stop}
use Rattle.nv_core.specs.declared.effect.Stop.TheVariants.{NoMemory, Stranger, Gone, Held}
use Rattle.nv_world.specs.declared.state.State.{State}
use Rattle.nv_world.specs.declared.state.Numbers.{Numbers}
use Rattle.nv_world.specs.inside.States.{Changes}
use Rattle.nv_world.proofs.Applying.{record_is, record_spent, world_record}
use Rattle.nv_world.proofs.Entries.{it_refuses, applies_refusal}

-- another cause than want of memory
other_cause : (stop : Stop) (want : Bool) → want ≡ is_none (plain_stop stop) → want ≡ false → stop ≡ NoMemory → ⊥
other_cause stop want is live e =
    let f : is_none (plain_stop stop) ≡ true = ap (λ (s : Stop). is_none (plain_stop s)) e in cc

pub kept_state : (old new : State) (n : Numbers) (stop : Stop) (outcome : Outcome) (want : Bool) → want ≡ is_none (plain_stop stop) → want ≡ false
    → Changes old new n (Err stop) outcome → new ≡ old
kept_state old new n stop outcome want is live h = (it_refuses old new n stop outcome (other_cause stop want is live) h).same

pub refusal_applies : (old new : State) (n : Numbers) (stop : Stop) (outcome : Outcome) (want : Bool)
    (capacity : ℕ) (limits : Limits) (entries mid : List Entry) (spent : Bool) (k : WorldRecord) (o : Option Outcome)
    → want ≡ is_none (plain_stop stop) → spent ≡ false → Changes old new n (Err stop) outcome → o ≡ Some outcome
    → world_record capacity limits entries spent ≡ k → mid ≡ entries → AppliesErr k (world_record capacity limits mid want) stop o
refusal_applies old new n NoMemory outcome want capacity limits entries mid spent k o is live h named view same =
    record_spent capacity limits entries mid spent want k view same is
refusal_applies old new n (Stranger s) outcome want capacity limits entries mid spent k o is live h named view same =
    let r = it_refuses old new n (Stranger s) outcome (λ e. cc) h in
    applies_refusal k _ (Stranger s) r.told o (λ e. cc) (named ∙ ap (λ (p : Outcome). Some p) r.is) r.cause
    (record_is capacity limits entries mid spent want k view same (is ∙ sym live))
refusal_applies old new n (Gone e) outcome want capacity limits entries mid spent k o is live h named view same =
    let r = it_refuses old new n (Gone e) outcome (λ e. cc) h in
    applies_refusal k _ (Gone e) r.told o (λ e. cc) (named ∙ ap (λ (p : Outcome). Some p) r.is) r.cause
    (record_is capacity limits entries mid spent want k view same (is ∙ sym live))
refusal_applies old new n (Held m) outcome want capacity limits entries mid spent k o is live h named view same =
    let r = it_refuses old new n (Held m) outcome (λ e. cc) h in
    applies_refusal k _ (Held m) r.told o (λ e. cc) (named ∙ ap (λ (p : Outcome). Some p) r.is) r.cause
    (record_is capacity limits entries mid spent want k view same (is ∙ sym live))
