-- What a take of the one session gives, by what the world says of it.
use Rattle.std.proofs.Common.{◌≡◌, Bool, true, false, List, [], ◌∷◌, ◌++◌, map, Option, Some, None, refl, sym, ap, ◌∙◌, subst}
use Rattle.std.specs.Prelude.{option_map}
use Rattle.std.proofs.lemmas.List.{map-append}
use Rattle.nv_rpc.specs.Messages.{Sent}
use Rattle.nv_model.specs.Editors.{ModelEditor}
use Rattle.nv_history.specs.Events.{take_of, Entry, Cause, Effect, gives}
use Rattle.nv_history.specs.Sessions.{Session}
use Rattle.nv_history.specs.Worlds.{World, Outcome, refuses, idles, becomes, session_of, is_scene_due, is_nothing_due, take_outcome, some_take_outcome, empty_take_outcome, step}
use Rattle.nv_history.specs.Solo.{entry_alone}
use Rattle.nv_core.specs.Contents.{sent_of_shared, plain_entry, IsEffect}
use Rattle.nv_world.specs.Worlds.{WorldRecord, outcome_of_event, AppliesOk, start_of}
use Rattle.nv_core.specs.declared.entry.Entry as world
use Rattle.nv_core.specs.declared.effect.Batch.{Batch}
use Rattle.nv_core.specs.declared.effect.Effect.{Effect as Given}
use Rattle.nv_core.specs.declared.effect.Effect.TheVariants.{Items}
use Rattle.nv_session.specs.Sending.{world_after}
use Rattle.nv_session.specs.inside.Worlds.{entries_in, GivesBatch, TakesDue}

-- an event that makes no entry gives nothing
idle_by_cause : (c : Option Cause) (ms : List Sent) (editor : Option ModelEditor) → empty_take_outcome c ≡ idles (gives ms editor) → ⊥
idle_by_cause None ms editor e = cc
idle_by_cause (Some cause) ms editor e = cc

idle_by_due : (none scene : Bool) (w : World) (x : Session) (ms : List Sent) (editor : Option ModelEditor) → some_take_outcome none scene w 1 x ≡ idles (gives ms editor) → ⊥
idle_by_due true scene w x ms editor e = idle_by_cause x.closed ms editor e
idle_by_due false scene w x ms editor e = cc

idle_not_given : (o : Option Session) (w : World) (ms : List Sent) (editor : Option ModelEditor) → take_outcome o w 1 ≡ idles (gives ms editor) → ⊥
idle_not_given None w ms editor e = cc
idle_not_given (Some x) w ms editor e = idle_by_due (is_nothing_due x.waiting (is_scene_due w 1 x)) (is_scene_due w 1 x) w x ms editor e

gives_batch : (batch : Batch) (wanted : Effect) → IsEffect (Items batch) wanted → GivesBatch (map sent_of_shared batch.messages.items) batch.scene wanted
gives_batch batch wanted h =
    subst (λ (e : Effect). GivesBatch (map sent_of_shared batch.messages.items) batch.scene e) h.effect_is (refl, h.shows)

-- the world with one entry more
more_entries : (old new : WorldRecord) (entry : world.Entry) (plain : Entry) → plain_entry entry ≡ plain → new.history ≡ old.history ++ entry ∷ [] → entries_in new ≡ entries_in old ++ plain ∷ []
more_entries old new entry plain e h =
    ap (map plain_entry) h ∙ map-append plain_entry old.history (entry ∷ []) ∙ ap (λ (x : Entry). entries_in old ++ x ∷ []) e

due_by : (w : World) (batch : Batch) (old new : WorldRecord) (entry : world.Entry) (o : Outcome) → plain_entry entry ≡ entry_alone (take_of 1) → step w (take_of 1) ≡ o
    → AppliesOk old new entry (Items batch) (Some o) → TakesDue (map sent_of_shared batch.messages.items) batch.scene (entries_in old) (entries_in new) (Some o)
due_by w batch old new entry (becomes u wanted) e s h =
    (gives_batch batch wanted h.0, more_entries old new entry (entry_alone (take_of 1)) e (ap (λ (k : WorldRecord). k.history) h.1))
due_by w batch old new entry (idles wanted) e s h =
    absurd (idle_not_given (session_of w 1) w (map sent_of_shared batch.messages.items) h.0.editor (s ∙ ap (λ (f : Effect). idles f) (sym h.0.effect_is)))
due_by w batch old new entry (refuses stop) e s h = absurd h

due_in : (found : Option World) (batch : Batch) (old new : WorldRecord) (entry : world.Entry) → plain_entry entry ≡ entry_alone (take_of 1)
    → AppliesOk old new entry (Items batch) (option_map (λ w. step w (take_of 1)) found)
    → TakesDue (map sent_of_shared batch.messages.items) batch.scene (entries_in old) (entries_in new) (option_map (λ w. step w (take_of 1)) found)
due_in None batch old new entry e h = absurd h
due_in (Some w) batch old new entry e h = due_by w batch old new entry (step w (take_of 1)) e refl h

pub takes_due : (effect : Given) (batch : Batch) (old new : WorldRecord) (entry : world.Entry) → plain_entry entry ≡ entry_alone (take_of 1) → effect ≡ Items batch
    → AppliesOk old new entry effect (outcome_of_event old (take_of 1))
    → TakesDue (map sent_of_shared batch.messages.items) batch.scene (entries_in old) (entries_in new) (option_map (λ w. step w (take_of 1)) (world_after (start_of old) (entries_in old)))
takes_due effect batch old new entry e is h =
    due_in (world_after (start_of old) (entries_in old)) batch old new entry e
    (subst (λ (g : Given). AppliesOk old new entry g (outcome_of_event old (take_of 1))) is h)
