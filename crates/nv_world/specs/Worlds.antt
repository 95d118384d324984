-- What contracts see of a world, and what an event makes of it.
use Rattle.std.specs.Prelude.{◌≡◌, ℕ, ◌+◌, ◌≤◌, ◌==◌, Bool, true, false, List, [], ◌∷◌, ◌++◌, Option, Some, None, option_map, refl}
use Rattle.std.specs.Coded.{Coded, code_by, coded×, coded_list, coded_ℕ, coded_bool}
use Rattle.nv_model.specs.declared.parts.Limits.{Limits}
use Rattle.nv_model.specs.contracts.parts.Limits as limits
use Rattle.nv_editor.specs.Uis.{has_ui}
use Rattle.nv_history.specs.Events.{Event as PlainEvent, open_session, request_of, take_of, close_of}
use Rattle.nv_history.specs.Worlds.{World as ModelWorld, Outcome, refuses, idles, becomes, step}
use Rattle.nv_history.specs.Runs.{run}
use Rattle.nv_core.specs.Contents.{IsEffect, plain_entries, plain_stop}
use Rattle.nv_core.specs.declared.entry.Entry.{Entry}
use Rattle.nv_core.specs.contracts.entry.Entry as e
use Rattle.nv_core.specs.declared.effect.Effect.{Effect}
use Rattle.nv_core.specs.declared.effect.Stop.{Stop}
use Rattle.nv_core.specs.declared.effect.Stop.TheVariants.{NoMemory}
use Rattle.nv_core.specs.declared.start.Start.{Start}
use Rattle.nv_world.specs.declared.world.TheConstants.{LEAST_OUTBOX, MOST_OUTBOX}

-- an outbox has room for so many messages (own rule)
abbrev pub IsOutboxSize : ℕ → Type 0
IsOutboxSize n = (LEAST_OUTBOX ≤ n) × (n ≤ MOST_OUTBOX)

-- a world: how many messages an outbox holds, its limits, its history, and whether want of memory
-- has spent it. All else is what `run` makes of these.
pub record WorldRecord : Type 0 where
  pub capacity : ℕ
  pub limits : Limits
  pub history : List Entry
  pub spent : Bool

abbrev pub world_code : Coded WorldRecord
world_code = code_by (ℕ × (Limits × (List Entry × Bool)))
    (coded× coded_ℕ (coded× limits.the_row.coded (coded× (coded_list e.the_row.coded) coded_bool)))
    (λ k. (k.capacity, (k.limits, (k.history, k.spent))))
    (λ p. record {
      capacity = p.0;
      limits = p.1.0;
      history = p.1.1.0;
      spent = p.1.1.1;
    })
    (λ _. refl)

-- what it begins with
abbrev pub start_of : WorldRecord → Start
start_of k = record { outbox = k.capacity; limits = k.limits }

-- the world of the model after a history
abbrev pub model_of : WorldRecord → Option ModelWorld
model_of k = run k.capacity k.limits (plain_entries k.history)

-- what an event comes to in a world
abbrev pub outcome_of_event : WorldRecord → PlainEvent → Option Outcome
outcome_of_event k event = option_map (λ w. step w event) (model_of k)

-- a world once an entry has entered, and once memory was wanting
abbrev pub with_entry : WorldRecord → Entry → WorldRecord
with_entry k entry = record k { history = k.history ++ entry ∷ [] }

abbrev pub as_spent : WorldRecord → WorldRecord
as_spent k = record k { spent = true }

-- an effect is what the event comes to, and the world has one entry more where the event enters,
-- and else is as before
abbrev pub AppliesOk : WorldRecord → WorldRecord → Entry → Effect → Option Outcome → Type 0
AppliesOk old new entry effect (Some (becomes w wanted)) =
    IsEffect effect wanted × (new ≡ with_entry old entry)
AppliesOk old new entry effect (Some (idles wanted)) = IsEffect effect wanted × (new ≡ old)
AppliesOk old new entry effect (Some (refuses stop)) = ⊥
AppliesOk old new entry effect None = ⊥

-- a refusal is what the event comes to, and the world is as before; want of memory may always come
-- in its place, and spends it
abbrev pub AppliesErr : WorldRecord → WorldRecord → Stop → Option Outcome → Type 0
AppliesErr old new NoMemory outcome = new ≡ as_spent old
AppliesErr old new stop (Some (refuses wanted)) = (plain_stop stop ≡ Some wanted) × (new ≡ old)
AppliesErr old new stop (Some (idles effect)) = ⊥
AppliesErr old new stop (Some (becomes w effect)) = ⊥
AppliesErr old new stop None = ⊥

-- a close by which no UI goes: its session has none, and the entry isn't the last one that the
-- limits allow
abbrev pub ClosesNoUi : ModelWorld → PlainEvent → Type 0
ClosesNoUi w (close_of s) =
    (has_ui s w.editor.stage.uis ≡ false) × ((w.entries + 1 == w.limits.entries) ≡ false)
ClosesNoUi w open_session = ⊥
ClosesNoUi w (request_of s call) = ⊥
ClosesNoUi w (take_of s) = ⊥
