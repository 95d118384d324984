-- Histories that are gone over entry by entry.
use Rattle.std.proofs.Common.{◌≡◌, ℕ, Bool, true, false, List, [], ◌∷◌, ◌++◌, map, Option, Some, None, refl, sym, ap, ◌∙◌, subst}
use Rattle.std.specs.Prelude.{⊤, option_and_then, option_map, if◌then◌else◌, ◌==◌}
use Rattle.std.proofs.lemmas.List.{map-append}
use Rattle.nv_rpc.specs.Messages.{Sent}
use Rattle.nv_model.specs.Editors.{ModelEditor}
use Rattle.nv_screen.specs.declared.scene.Scene.{Scene}
use Rattle.nv_linegrid.specs.Told.{Told}
use Rattle.nv_painter.specs.Painters.{Painting}
use Rattle.nv_history.specs.Events.{Event, Entry, Effect, opened, done, gives, nothing, over, closes}
use Rattle.nv_history.specs.Worlds.{World, Outcome, refuses, idles, becomes, step, world_made}
use Rattle.nv_history.specs.Runs.{run_from, run}
use Rattle.nv_history.specs.Spoken.{ShowsIfGiven, IsSpoken, events_of, told_with}
use Rattle.nv_core.specs.Contents.{IsEffect, plain_entry, plain_entries, plain_event, plain_effect, scene_given, sent_of_shared}
use Rattle.nv_painter.specs.Spoken.{IsSoundIfThere}
use Rattle.nv_world.specs.Worlds.{WorldRecord, model_of, outcome_of_event, with_entry, AppliesOk, AppliesErr}
use Rattle.nv_world.specs.inside.Entering.{is_entry}
use Rattle.nv_core.specs.declared.entry.Entry as world
use Rattle.nv_core.specs.declared.effect.Stop.{Stop}
use Rattle.nv_core.specs.declared.effect.Stop.TheVariants as stop
use Rattle.nv_core.specs.declared.effect.Batch.{Batch}
use Rattle.nv_core.specs.declared.effect.Effect.{Effect as Given}
use Rattle.nv_core.specs.declared.effect.Effect.TheVariants as given
use Rattle.nv_world.proofs.Entries.{Fits, step_fits, run_push}
use Rattle.nv_book.specs.Books.{Recorded, entries_of_records}
use Rattle.nv_book.specs.Outputs.{ToldBy, told_once_more, session_named, session_of_effect, IsSessionOf, GoesOut, Enters, Plays}
use Rattle.nv_book.specs.inside.Playing.{bytes_of_given, told_at, IsPlayedTo, SpeaksFor, GaveOut, PlaysOne, MakesNoEntry}

-- ---- what then is

out_on : (told : ToldBy) (s : ℕ) (effect : Effect) (output : List ℕ) (P Q : ToldBy → Type 0) → ((later : ToldBy) → P later → Q later)
    → GoesOut told s effect output P → GoesOut told s effect output Q
out_on told s (gives ms editor) output P Q f h = (h.0, h.1, h.2, f (told_once_more told s h.1) h.3)
out_on told s (opened n) output P Q f h = (h.0, f told h.1)
out_on told s done output P Q f h = (h.0, f told h.1)
out_on told s nothing output P Q f h = (h.0, f told h.1)
out_on told s (over cause) output P Q f h = (h.0, f told h.1)
out_on told s closes output P Q f h = (h.0, f told h.1)

enters_on : (told : ToldBy) (s : ℕ) (o : Outcome) (output : List ℕ) (P Q : World → ToldBy → Type 0) → ((v : World) (later : ToldBy) → P v later → Q v later)
    → Enters told s o output P → Enters told s o output Q
enters_on told s (refuses stop) output P Q f h = absurd h
enters_on told s (idles effect) output P Q f h = absurd h
enters_on told s (becomes w effect) output P Q f h = out_on told s effect output (P w) (Q w) (f w) h

pub plays_on : (w : World) (told : ToldBy) (rs : List Recorded) (P Q : World → ToldBy → Type 0) → ((v : World) (later : ToldBy) → P v later → Q v later)
    → Plays w told rs P → Plays w told rs Q
plays_on w told [] P Q f h = f w told h
plays_on w told (r ∷ rs) P Q f h =
    enters_on told (session_named r.entry.event) (step w r.entry.event) r.output (λ v later. Plays v later rs P) (λ v later. Plays v later rs Q)
    (λ v later k. plays_on v later rs P Q f k) h

plays_more : (w : World) (told : ToldBy) (rs more : List Recorded) (P : World → ToldBy → Type 0) → Plays w told rs (λ v later. Plays v later more P) → Plays w told (rs ++ more) P
plays_more w told [] more P h = h
plays_more w told (r ∷ rs) more P h =
    enters_on told (session_named r.entry.event) (step w r.entry.event) r.output (λ v later. Plays v later rs (λ u last. Plays u last more P)) (λ v later. Plays v later (rs ++ more) P)
    (λ v later k. plays_more v later rs more P k) h

-- one entry more was played
pub plays_next : (w : World) (told : ToldBy) (rs : List Recorded) (e : Entry) (output : List ℕ) (old new : WorldRecord) (ps qs : List Painting)
    → Plays w told rs (IsPlayedTo old ps) → PlaysOne old ps e.event output new qs
    → Plays w told (rs ++ record { entry = e; output = output } ∷ []) (IsPlayedTo new qs)
plays_next w told rs e output old new ps qs h one =
    let last : List Recorded = record { entry = e; output = output } ∷ [] in
    plays_more w told rs last (IsPlayedTo new qs)
    (plays_on w told rs (IsPlayedTo old ps) (λ v later. Plays v later last (IsPlayedTo new qs)) (λ v later k. one v later k) h)

pub plays_whatever : (w : World) (told : ToldBy) (rs : List Recorded) (P : World → ToldBy → Type 0) → Plays w told rs P → Plays w told rs (λ v later. ⊤)
plays_whatever w told rs P h = plays_on w told rs P (λ v later. ⊤) (λ v later k. tt) h

-- ---- where it leads

pub record Led (o : Option World) (P : World → ToldBy → Type 0) : Type 0 where
  pub then_world : World
  pub then_told : ToldBy
  pub is : o ≡ Some then_world
  pub holds : P then_world then_told

out_led : (told : ToldBy) (s : ℕ) (w : World) (effect : Effect) (output : List ℕ) (P : World → ToldBy → Type 0) → GoesOut told s effect output (P w) → Led (Some w) P
out_led told s w (gives ms editor) output P h = record { then_world = w; then_told = told_once_more told s h.1; is = refl; holds = h.3 }
out_led told s w (opened n) output P h = record { then_world = w; then_told = told; is = refl; holds = h.1 }
out_led told s w done output P h = record { then_world = w; then_told = told; is = refl; holds = h.1 }
out_led told s w nothing output P h = record { then_world = w; then_told = told; is = refl; holds = h.1 }
out_led told s w (over cause) output P h = record { then_world = w; then_told = told; is = refl; holds = h.1 }
out_led told s w closes output P h = record { then_world = w; then_told = told; is = refl; holds = h.1 }

enters_led : (told : ToldBy) (s : ℕ) (o : Outcome) (output : List ℕ) (P : World → ToldBy → Type 0) → Enters told s o output P → Led (world_made o) P
enters_led told s (refuses stop) output P h = absurd h
enters_led told s (idles effect) output P h = absurd h
enters_led told s (becomes w effect) output P h = out_led told s w effect output P h

pub plays_led : (w : World) (told : ToldBy) (rs : List Recorded) (P : World → ToldBy → Type 0) → Plays w told rs P → Led (run_from w (entries_of_records rs)) P
plays_led w told [] P h = record { then_world = w; then_told = told; is = refl; holds = h }
plays_led w told (r ∷ rs) P h =
    let first = enters_led told (session_named r.entry.event) (step w r.entry.event) r.output (λ v later. Plays v later rs P) h in
    let last = plays_led first.then_world first.then_told rs P first.holds in
    record {
      then_world = last.then_world;
      then_told = last.then_told;
      is = ap (λ (o : Option World). option_and_then (λ v. run_from v (entries_of_records rs)) o) first.is ∙ last.is;
      holds = last.holds;
    }

-- ---- one event

-- an effect that makes an entry is what an event comes to that enters
record CameTo (old new : WorldRecord) (entry : world.Entry) (effect : Given) (o : Outcome) : Type 0 where
  pub made : World
  pub wanted : Effect
  pub is : o ≡ becomes made wanted
  pub effect_is : IsEffect effect wanted
  pub one_more : new ≡ with_entry old entry

came_by : (old new : WorldRecord) (entry : world.Entry) (effect : Given) (o : Outcome) → Fits o
    → ((editor : Option ModelEditor) → is_entry (plain_effect editor effect) ≡ true) → AppliesOk old new entry effect (Some o) → CameTo old new entry effect o
came_by old new entry effect (refuses stop) fits some h = absurd h
came_by old new entry effect (idles wanted) fits some h = absurd (let e = sym (some h.0.editor) ∙ ap is_entry h.0.effect_is ∙ fits in cc)
came_by old new entry effect (becomes w wanted) fits some h = record { made = w; wanted = wanted; is = refl; effect_is = h.0; one_more = h.1 }

gave_entry : (effect : Given) (s told : ℕ) (ps qs : List Painting) (output : List ℕ) → GaveOut effect s told ps qs output
    → (editor : Option ModelEditor) → is_entry (plain_effect editor effect) ≡ true
gave_entry (given.Items batch) s told ps qs output h editor = refl
gave_entry (given.Opened n) s told ps qs output h editor = refl
gave_entry given.Done s told ps qs output h editor = refl
gave_entry given.Closed s told ps qs output h editor = refl
gave_entry given.Nothing s told ps qs output h editor = absurd h
gave_entry (given.Over cause) s told ps qs output h editor = absurd h

came : (w : World) (old new : WorldRecord) (entry : world.Entry) (effect : Given) (s told : ℕ) (ps qs : List Painting) (output : List ℕ) → model_of old ≡ Some w
    → AppliesOk old new entry effect (outcome_of_event old (plain_event entry.event)) → GaveOut effect s told ps qs output
    → CameTo old new entry effect (step w (plain_event entry.event))
came w old new entry effect s told ps qs output runs applies gave =
    came_by old new entry effect (step w (plain_event entry.event)) (step_fits w (plain_event entry.event)) (gave_entry effect s told ps qs output gave)
    (subst (λ (o : Option World). AppliesOk old new entry effect (option_map (λ (v : World). step v (plain_event entry.event)) o)) runs applies)

-- a world with one entry more
runs_on : (w : World) (old new : WorldRecord) (entry : world.Entry) (effect : Given) → model_of old ≡ Some w
    → (c : CameTo old new entry effect (step w (plain_event entry.event))) → model_of new ≡ Some c.made
runs_on w old new entry effect runs c =
    ap model_of c.one_more
    ∙ run_push old.capacity old.limits old.history (old.history ++ entry ∷ []) entry w c.made c.wanted runs c.is refl

-- clients were told one batch more
if_alike : (b : Bool) (x y z : Told) → y ≡ z → (if b then x else y) ≡ (if b then x else z)
if_alike true x y z e = refl
if_alike false x y z e = e

told_on : (ps qs : List Painting) (told : ToldBy) (s : ℕ) (scene : Option Scene) → ((t : ℕ) → told_at ps t ≡ told t)
    → ((t : ℕ) → told_at qs t ≡ told_once_more (told_at ps) s (told_with (told_at ps s) scene) t)
    → (t : ℕ) → told_at qs t ≡ told_once_more told s (told_with (told s) scene) t
told_on ps qs told s scene same more t =
    more t
    ∙ ap (λ (x : Told). if t == s then told_with x scene else told_at ps t) (same s)
    ∙ if_alike (t == s) (told_with (told s) scene) (told_at ps t) (told t) (same t)

gave_batch : (w : World) (new : WorldRecord) (told : ToldBy) (s : ℕ) (wanted : Effect) (batch : Batch) (ps qs : List Painting) (output : List ℕ) → model_of new ≡ Some w
    → ((t : ℕ) → told_at ps t ≡ told t) → IsEffect (given.Items batch) wanted
    → SpeaksFor ps qs s (map sent_of_shared batch.messages.items) batch.scene output → GoesOut told s wanted output (IsPlayedTo new qs w)
gave_batch w new told s wanted batch ps qs output runs same does speaks =
    subst (λ (e : Effect). GoesOut told s e output (IsPlayedTo new qs w)) does.effect_is (
      events_of (told s) batch.scene,
      told_with (told s) batch.scene,
      record {
        scene = batch.scene;
        shows = does.shows;
        bytes_are = subst (λ (x : Told). output ≡ bytes_of_given x (map sent_of_shared batch.messages.items) batch.scene) (same s) speaks.bytes_are;
        events_are = refl;
        later_is = refl;
      },
      (runs, told_on ps qs told s batch.scene same speaks.told_are),
    )

gave_nothing : (w : World) (new : WorldRecord) (told : ToldBy) (s : ℕ) (effect : Given) (wanted : Effect) (ps qs : List Painting) (output : List ℕ) → model_of new ≡ Some w
    → ((t : ℕ) → told_at ps t ≡ told t) → (does : IsEffect effect wanted) → ((P : ToldBy → Type 0) → (output ≡ []) × P told → GoesOut told s (plain_effect does.editor effect) output P)
    → qs ≡ ps → output ≡ [] → GoesOut told s wanted output (IsPlayedTo new qs w)
gave_nothing w new told s effect wanted ps qs output runs same does goes e none =
    subst (λ (x : Effect). GoesOut told s x output (IsPlayedTo new qs w)) does.effect_is
    (goes (IsPlayedTo new qs w) (none, (runs, λ t. ap (λ (l : List Painting). told_at l t) e ∙ same t)))

went_out : (w : World) (new : WorldRecord) (told : ToldBy) (s answer : ℕ) (effect : Given) (wanted : Effect) (ps qs : List Painting) (output : List ℕ) → model_of new ≡ Some w
    → ((t : ℕ) → told_at ps t ≡ told t) → IsEffect effect wanted → GaveOut effect s answer ps qs output → GoesOut told s wanted output (IsPlayedTo new qs w)
went_out w new told s answer (given.Items batch) wanted ps qs output runs same does gave = gave_batch w new told s wanted batch ps qs output runs same does gave.1
went_out w new told s answer (given.Opened n) wanted ps qs output runs same does gave = gave_nothing w new told s (given.Opened n) wanted ps qs output runs same does (λ P h. h) gave.1 gave.2
went_out w new told s answer given.Done wanted ps qs output runs same does gave = gave_nothing w new told s given.Done wanted ps qs output runs same does (λ P h. h) gave.1 gave.2
went_out w new told s answer given.Closed wanted ps qs output runs same does gave = gave_nothing w new told s given.Closed wanted ps qs output runs same does (λ P h. h) gave.1 gave.2
went_out w new told s answer given.Nothing wanted ps qs output runs same does gave = absurd gave
went_out w new told s answer (given.Over cause) wanted ps qs output runs same does gave = absurd gave

-- an event was applied, and what it gives went out
pub played : (old new : WorldRecord) (entry : world.Entry) (effect : Given) (s answer : ℕ) (ps qs : List Painting) (output : List ℕ)
    → AppliesOk old new entry effect (outcome_of_event old (plain_event entry.event)) → s ≡ session_named (plain_event entry.event) → GaveOut effect s answer ps qs output
    → PlaysOne old ps (plain_event entry.event) output new qs
played old new entry effect s answer ps qs output applies named gave w told at =
    let c = came w old new entry effect s answer ps qs output at.0 applies gave in
    subst (λ (o : Outcome). Enters told (session_named (plain_event entry.event)) o output (IsPlayedTo new qs)) (sym c.is)
    (subst (λ (n : ℕ). GoesOut told n c.wanted output (IsPlayedTo new qs c.made)) named
    (went_out c.made new told s answer effect c.wanted ps qs output (runs_on w old new entry effect at.0 c) at.1 c.effect_is gave))

-- and the world has one entry more; this holds of each world, and there is one
pub one_entry_more : (w : World) (old new : WorldRecord) (entry : world.Entry) (effect : Given) (s answer : ℕ) (ps qs : List Painting) (output : List ℕ) → model_of old ≡ Some w
    → AppliesOk old new entry effect (outcome_of_event old (plain_event entry.event)) → GaveOut effect s answer ps qs output → new ≡ with_entry old entry
one_entry_more w old new entry effect s answer ps qs output runs applies gave = (came w old new entry effect s answer ps qs output runs applies gave).one_more

-- the session that is answered
answer_by : (effect : Given) (wanted : Effect) (s answer : ℕ) (ps qs : List Painting) (output : List ℕ) → IsEffect effect wanted → GaveOut effect s answer ps qs output
    → answer ≡ session_of_effect s wanted
answer_by (given.Items batch) wanted s answer ps qs output does gave = gave.0 ∙ ap (session_of_effect s) does.effect_is
answer_by (given.Opened n) wanted s answer ps qs output does gave = gave.0 ∙ ap (session_of_effect s) does.effect_is
answer_by given.Done wanted s answer ps qs output does gave = gave.0 ∙ ap (session_of_effect s) does.effect_is
answer_by given.Closed wanted s answer ps qs output does gave = gave.0 ∙ ap (session_of_effect s) does.effect_is
answer_by given.Nothing wanted s answer ps qs output does gave = absurd gave
answer_by (given.Over cause) wanted s answer ps qs output does gave = absurd gave

pub answered : (w : World) (old new : WorldRecord) (entry : world.Entry) (effect : Given) (s answer : ℕ) (ps qs : List Painting) (output : List ℕ) → model_of old ≡ Some w
    → AppliesOk old new entry effect (outcome_of_event old (plain_event entry.event)) → s ≡ session_named (plain_event entry.event) → GaveOut effect s answer ps qs output
    → IsSessionOf (plain_event entry.event) (step w (plain_event entry.event)) answer
answered w old new entry effect s answer ps qs output runs applies named gave =
    let c = came w old new entry effect s answer ps qs output runs applies gave in
    subst (λ (o : Outcome). IsSessionOf (plain_event entry.event) o answer) (sym c.is)
    (answer_by effect c.wanted s answer ps qs output c.effect_is gave ∙ ap (λ (n : ℕ). session_of_effect n c.wanted) named)

-- the scene that an effect gives can be drawn
sound_if : (editor : Option ModelEditor) (scene : Option Scene) → ShowsIfGiven editor scene → IsSoundIfThere scene
sound_if None None h = tt
sound_if None (Some s) h = absurd h
sound_if (Some m) None h = absurd h
sound_if (Some m) (Some s) h = h.sound

does_sound : (effect : Given) (wanted : Effect) → IsEffect effect wanted → IsSoundIfThere (scene_given effect)
does_sound effect wanted h = sound_if h.editor (scene_given effect) h.shows

sound_by : (old new : WorldRecord) (entry : world.Entry) (effect : Given) (o : Option Outcome) → AppliesOk old new entry effect o → IsSoundIfThere (scene_given effect)
sound_by old new entry effect None h = absurd h
sound_by old new entry effect (Some (refuses stop)) h = absurd h
sound_by old new entry effect (Some (idles wanted)) h = does_sound effect wanted h.0
sound_by old new entry effect (Some (becomes w wanted)) h = does_sound effect wanted h.0

pub given_sound : (old new : WorldRecord) (entry : world.Entry) (effect : Given) → AppliesOk old new entry effect (outcome_of_event old (plain_event entry.event)) → IsSoundIfThere (scene_given effect)
given_sound old new entry effect h = sound_by old new entry effect (outcome_of_event old (plain_event entry.event)) h

-- an event that is refused changes nothing that the world began with
pub refused_begins : (old new : WorldRecord) (stop : Stop) (o : Option Outcome) → AppliesErr old new stop o → (new.capacity ≡ old.capacity) × (new.limits ≡ old.limits)
refused_begins old new stop.NoMemory o h = (ap (λ (k : WorldRecord). k.capacity) h, ap (λ (k : WorldRecord). k.limits) h)
refused_begins old new (stop.Stranger s) (Some (refuses w)) h = (ap (λ (k : WorldRecord). k.capacity) h.1, ap (λ (k : WorldRecord). k.limits) h.1)
refused_begins old new (stop.Stranger s) (Some (idles e)) h = absurd h
refused_begins old new (stop.Stranger s) (Some (becomes w e)) h = absurd h
refused_begins old new (stop.Stranger s) None h = absurd h
refused_begins old new (stop.Gone s) (Some (refuses w)) h = (ap (λ (k : WorldRecord). k.capacity) h.1, ap (λ (k : WorldRecord). k.limits) h.1)
refused_begins old new (stop.Gone s) (Some (idles e)) h = absurd h
refused_begins old new (stop.Gone s) (Some (becomes w e)) h = absurd h
refused_begins old new (stop.Gone s) None h = absurd h
refused_begins old new (stop.Held s) (Some (refuses w)) h = (ap (λ (k : WorldRecord). k.capacity) h.1, ap (λ (k : WorldRecord). k.limits) h.1)
refused_begins old new (stop.Held s) (Some (idles e)) h = absurd h
refused_begins old new (stop.Held s) (Some (becomes w e)) h = absurd h
refused_begins old new (stop.Held s) None h = absurd h
