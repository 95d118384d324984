-- The world after a history, and what its sessions were given (own rule).
use Rattle.std.specs.Prelude.{ℕ, ◌==◌, Bool, true, false, List, [], ◌∷◌, ◌++◌, Option, Some, None, option_and_then}
use Rattle.nv_rpc.specs.Messages.{Sent}
use Rattle.nv_model.specs.Editors.{ModelEditor}
use Rattle.nv_model.specs.declared.parts.Limits.{Limits}
use Rattle.nv_history.specs.Events.{Event, open_session, request_of, take_of, close_of, Entry, Effect, opened, done, gives, nothing, over, closes}
use Rattle.nv_history.specs.Sessions.{Session}
use Rattle.nv_history.specs.Worlds.{World, fresh_world, Outcome, refuses, idles, becomes, session_of, step, world_made}

-- the world after entries one after another, where each of them enters
abbrev pub run_from : World → List Entry → Option World
run_from w [] = Some w
run_from w (e ∷ es) = option_and_then (λ v. run_from v es) (world_made (step w e.event))

-- the world after a history
abbrev pub run : ℕ → Limits → List Entry → Option World
run capacity limits history = run_from (fresh_world capacity limits) history

-- the effect of an event that enters or is idle
abbrev pub effect_of : Outcome → List Effect
effect_of (refuses stop) = []
effect_of (idles effect) = effect ∷ []
effect_of (becomes w effect) = effect ∷ []

-- what follows in the world that an outcome makes
abbrev pub rest_in : {A : Type 0} → (World → List A) → Option World → List A
rest_in rest None = []
rest_in rest (Some w) = rest w

-- the effects of entries one after another
abbrev pub effects_from : World → List Entry → List Effect
effects_from w [] = []
effects_from w (e ∷ es) =
    effect_of (step w e.event) ++ rest_in (λ v. effects_from v es) (world_made (step w e.event))

abbrev pub effects : ℕ → Limits → List Entry → List Effect
effects capacity limits history = effects_from (fresh_world capacity limits) history

-- what a take gave: messages, and the editor as it was, where the session's UI is to show it
pub record TakenBatch : Type 0 where
  pub messages : List Sent
  pub editor : Option ModelEditor

-- the batch that an effect gives
abbrev pub batch_in : Effect → List TakenBatch
batch_in (gives messages editor) = record { messages = messages; editor = editor } ∷ []
batch_in (opened s) = []
batch_in done = []
batch_in nothing = []
batch_in (over cause) = []
batch_in closes = []

abbrev pub batch_of : Outcome → List TakenBatch
batch_of (becomes w effect) = batch_in effect
batch_of (refuses stop) = []
batch_of (idles effect) = []

abbrev pub batch_if : Bool → List TakenBatch → List TakenBatch
batch_if true batches = batches
batch_if false batches = []

-- what an event gives a session: the batch of its own take
abbrev pub given : ℕ → Event → Outcome → List TakenBatch
given s open_session outcome = []
given s (request_of t call) outcome = []
given s (take_of t) outcome = batch_if (t == s) (batch_of outcome)
given s (close_of t) outcome = []

-- the batches that the takes of a session gave
abbrev pub out_from : World → ℕ → List Entry → List TakenBatch
out_from w s [] = []
out_from w s (e ∷ es) =
    given s e.event (step w e.event)
    ++ rest_in (λ v. out_from v s es) (world_made (step w e.event))

abbrev pub out : ℕ → Limits → ℕ → List Entry → List TakenBatch
out capacity limits s history = out_from (fresh_world capacity limits) s history

-- the messages of batches, in order
abbrev pub all_messages : List TakenBatch → List Sent
all_messages [] = []
all_messages (batch ∷ batches) = batch.messages ++ all_messages batches

-- what waits for a session of a world
abbrev pub waiting_of : Option Session → List Sent
waiting_of None = []
waiting_of (Some x) = x.waiting

abbrev pub waiting_in : ℕ → Option World → List Sent
waiting_in s None = []
waiting_in s (Some w) = waiting_of (session_of w s)

-- all that is due to a session: what its takes gave, and what still waits
abbrev pub due : ℕ → Limits → ℕ → List Entry → List Sent
due capacity limits s history =
    all_messages (out capacity limits s history) ++ waiting_in s (run capacity limits history)
