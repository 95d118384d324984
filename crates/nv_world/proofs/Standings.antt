-- States that stand for worlds.
use Rattle.std.proofs.Common.{◌≡◌, ℕ, zero, suc, ℤ, pos, ◌+◌, ◌-◌, ◌*◌, ◌^◌, ◌<◌, ◌≤◌, Bool, true, false, not, ◌&&◌, ◌||◌, cond, eqb, List, [], ◌∷◌, length, map, filter, get_or, slice_get, refl, sym, ap, ◌∙◌, subst, Option, Some, None, option_map, is_some, arith}
use Rattle.std.specs.List.{AllByRecursion, AllZip}
use Rattle.std.specs.Option.{option_map_or}
use Rattle.std.proofs.lemmas.Bool.Decides.{nat_tests}
use Rattle.std.proofs.lemmas.Nat.{mul-le}
use Rattle.std.proofs.lemmas.Option.{same_Some}
use Rattle.nv_windows.specs.Sound.{IsSoundWorkspace}
use Rattle.nv_windows.specs.Workspace.{Workspace}
use Rattle.nv_buffer.specs.Content.{Content}
use Rattle.nv_buffer.specs.Changes.{text_at}
use Rattle.nv_buffer.specs.declared.edit.Edit.{Edit}
use Rattle.nv_model.specs.Buffers.{Splice, ModelBuffer}
use Rattle.nv_model.specs.Editors.{ModelEditor, at_handle}
use Rattle.nv_model.specs.Operations.{Operation, uis_dropped, after_operations}
use Rattle.nv_model.specs.Seen.{Seen, seen_of}
use Rattle.nv_model.specs.Stage.{Stage}
use Rattle.nv_model.specs.Standing.{PresentEditor, Both, Stands, StandsFor as StandsForBuffer, seen_now, splices_of}
use Rattle.nv_model.specs.declared.parts.Limits.{Limits}
use Rattle.nv_model.specs.declared.parts.Ui.{Ui}
use Rattle.nv_model.proofs.Seeing.{seen_is_same}
use Rattle.nv_editor.specs.Doing.{Does}
use Rattle.nv_editor.specs.Sound.{AllSealed, IsSoundEditor}
use Rattle.nv_editor.specs.Uis.{has_ui}
use Rattle.nv_editor.proofs.Updating.{looked_up, all_looked_up}
use Rattle.nv_scene.specs.Scenes.{IsSceneOf}
use Rattle.nv_scene.specs.Settling.{IsSettled, settle_operations}
use Rattle.nv_scene.proofs.SettlingLaws.{settling_is_once}
use Rattle.nv_screen.specs.declared.scene.Scene.{Scene}
use Rattle.nv_screen.specs.Sound.{IsSoundScene}
use Rattle.nv_history.specs.Sessions.{Session}
use Rattle.nv_history.specs.Spoken.{ShowsEditor}
use Rattle.nv_history.specs.Worlds.{World, fresh_world, is_live, is_scene_due, session_of, with_session_at, sessions_losing_uis, settled_editor, world_counted, world_ended_if, world_settled, world_without_uis, world_with_uis_of_live, world_at_end, after_entry, after_settled_entry}
use Rattle.nv_history.specs.Runs.{run}
use Rattle.nv_core.specs.Contents.{plain_cause, plain_entries}
use Rattle.nv_core.specs.declared.effect.Cause.{Cause as KeptCause}
use Rattle.nv_core.specs.declared.entry.Entry.{Entry}
use Rattle.nv_world.specs.declared.session.Session.{Session as Kept}
use Rattle.nv_world.specs.declared.state.State.{State}
use Rattle.nv_world.specs.declared.state.Numbers.{Numbers}
use Rattle.nv_world.specs.inside.Sessions.{IsSession}
use Rattle.nv_world.specs.inside.Showings.{StandsSealed, editor_without_uis, has_any, is_live_at, losing_sessions}
use Rattle.nv_world.specs.inside.States.{AreNumbers, IsAt, OnlyLiveHaveUis, StandsNumbered, StandsForWorld, with_next}
use Rattle.nv_world.proofs.Closing.{is_some-plain}
use Rattle.nv_world.proofs.Endings.{closed_live, entry_settled, none_loses, settled_buffers, settled_same, without_buffers, without_is}

-- ---- editors whose buffers stay

-- edits without a splice are none
none_spliced : (text : List (List ℕ)) (edits : List Edit) → splices_of text edits ≡ [] → edits ≡ []
none_spliced text [] e = refl
none_spliced text (edit ∷ edits) e = absurd cc

unsealed_none : (n : ℤ) (before after : PresentEditor) (p : Option ModelBuffer) (o : Option Content) (c : Content) → AllSealed before → at_handle before.buffers n ≡ o
    → Both StandsForBuffer o p → Both StandsForBuffer (Some c) p → c.unsealed ≡ []
unsealed_none n before after None o c sealed there was is = absurd is
unsealed_none n before after (Some b) None c sealed there was is = absurd was
unsealed_none n before after (Some b) (Some d) c sealed there was is =
    let none : d.unsealed ≡ [] = looked_up (λ (e : Content). e.unsealed ≡ []) before.buffers n d sealed there in
    let model : b.unsealed ≡ [] = sym was.unsealed ∙ ap (λ (es : List Edit). splices_of (text_at d.undo d.undo.current) es) none in
    none_spliced (text_at c.undo c.undo.current) c.unsealed (is.unsealed ∙ model)

pub kept_sealed : (before after : PresentEditor) (m k : ModelEditor) → Stands before m → Stands after k → k.buffers ≡ m.buffers → IsSoundEditor after
    → AllSealed before → AllSealed after
kept_sealed before after m k was is same sound sealed =
    all_looked_up (λ (c : Content). c.unsealed ≡ []) (pos 1) after.buffers sound.rising
    (λ n c there.
    unsealed_none n before after (at_handle m.buffers n) (at_handle before.buffers n) c sealed refl (was.buffers n)
    (subst (λ (o : Option Content). Both StandsForBuffer o (at_handle m.buffers n)) there
    (subst (λ (bs : List (ℤ × ModelBuffer)). Both StandsForBuffer (at_handle after.buffers n) (at_handle bs n)) same (is.buffers n))))

at_zero : (n : ℕ) → n ≡ 0 → eqb n 0 ≡ true
at_zero n e = grind (arith, nat_tests)

pub some_there : (b : Bool) (n : ℕ) → b ≡ eqb n 0 → b ≡ false → n ≡ 0 → ⊥
some_there b n e f none = let g : false ≡ true = sym f ∙ e ∙ at_zero n none in cc

pub any_there : (b : Bool) (ss : List ℕ) → b ≡ eqb (length ss) 0 → not b ≡ has_any ss
any_there b [] e = ap not (e ∙ at_zero 0 refl)
any_there b (s ∷ ss) e = ap not (e ∙ past_zero (length ss))
  where
    past_zero : (n : ℕ) → eqb (suc n) 0 ≡ false
    past_zero n = grind (arith, nat_tests)

-- UIs that go together
pub uis_gone : (before after : PresentEditor) (ss : List ℕ) → (length ss ≡ 0 → ⊥) → Does (uis_dropped ss ∷ []) before after → IsSoundEditor after
    → (m : ModelEditor) → StandsSealed before m → StandsSealed after (editor_without_uis ss m)
uis_gone before after [] some does sound m h = absurd (some refl)
uis_gone before after (s ∷ ss) some does sound m h = record {
  stands = does m h.stands;
  sealed = kept_sealed before after m (editor_without_uis (s ∷ ss) m) h.stands (does m h.stands) (without_buffers (s ∷ ss) m) sound h.sealed;
}

-- windows that are settled, and that settle
pub settled_model : (e : PresentEditor) (m : ModelEditor) → Stands e m → IsSettled (seen_now e) → IsSettled (seen_of m)
settled_model e m stands settled = subst (λ (s : Seen). IsSettled s) (seen_is_same e m stands) settled

pub settled_kept : (e : PresentEditor) (m : ModelEditor) → Stands e m → IsSettled (seen_of m) → IsSettled (seen_now e)
settled_kept e m stands settled = subst (λ (s : Seen). IsSettled s) (sym (seen_is_same e m stands)) settled

pub settled_already : (e : PresentEditor) (m : ModelEditor) → IsSettled (seen_now e) → StandsSealed e m → StandsSealed e (settled_editor m)
settled_already e m settled h = subst (λ (k : ModelEditor). StandsSealed e k) (sym (settled_same m (settled_model e m h.stands settled))) h

settles : (before after : PresentEditor) (m : ModelEditor) → Does (settle_operations (seen_now before)) before after → Stands before m → Stands after (settled_editor m)
settles before after m does stands =
    subst (λ (s : Seen). Stands after (after_operations (settle_operations s) m)) (seen_is_same before m stands) (does m stands)

pub settles_now : (before after : PresentEditor) (m : ModelEditor) → Does (settle_operations (seen_now before)) before after → IsSoundEditor after
    → StandsSealed before m → StandsSealed after (settled_editor m)
settles_now before after m does sound h = record {
  stands = settles before after m does h.stands;
  sealed = kept_sealed before after m (settled_editor m) h.stands (settles before after m does h.stands) (settled_buffers m) sound h.sealed;
}

pub settled_then : (before after : PresentEditor) (m : ModelEditor) → Does (settle_operations (seen_now before)) before after → IsSoundEditor before
    → StandsSealed before m → IsSettled (seen_now after)
settled_then before after m does sound h =
    settled_kept after (settled_editor m) (settles before after m does h.stands)
    (settling_is_once m (subst (λ (st : Stage). IsSoundWorkspace st.workspace) h.stands.stage sound.workspace))

pub shows_now : (e : PresentEditor) (m : ModelEditor) (scene : Scene) → Stands e m → IsSceneOf (seen_now e) scene → IsSoundScene scene → ShowsEditor m scene
shows_now e m scene stands shows sound =
    record { shows = subst (λ (s : Seen). IsSceneOf s scene) (seen_is_same e m stands) shows; sound = sound }

-- a scene of a screen of at most 2000 columns by 1000 rows
pub few_cells : (w h width height a b : ℕ) → w ≡ width → h ≡ height → a ≡ width → b ≡ height → a ≤ 2000 → b ≤ 1000 → w * h ≤ 2000000
few_cells w h width height a b is_w is_h is_a is_b narrow low = mul-le w h 2000 1000 (omega arith) (omega arith)

-- ---- sessions that lose their UIs

live_at_place : (capacity : ℕ) (xs : List Kept) (ys : List Session) (p : ℕ) → AllZip (IsSession capacity) xs ys
    → option_map_or (λ (x : Kept). not (is_some x.closed)) (slice_get xs p) false ≡ is_live (slice_get ys p)
live_at_place capacity [] [] p pairs = refl
live_at_place capacity [] (y ∷ ys) p pairs = absurd pairs
live_at_place capacity (x ∷ xs) [] p pairs = absurd pairs
live_at_place capacity (x ∷ xs) (y ∷ ys) zero pairs = ap not (sym (is_some-plain x.closed) ∙ ap (λ (o : Option _). is_some o) pairs.0.closed)
live_at_place capacity (x ∷ xs) (y ∷ ys) (suc p) pairs = live_at_place capacity xs ys p pairs.1

live_at_number : (capacity : ℕ) (xs : List Kept) (w : World) (s : ℕ) → AllZip (IsSession capacity) xs w.sessions → is_live_at xs s ≡ is_live (session_of w s)
live_at_number capacity xs w zero pairs = refl
live_at_number capacity xs w (suc p) pairs = live_at_place capacity xs w.sessions p pairs

losing_step : (u : Ui) (a b : Bool) (xs ys : List Ui) → a ≡ b → map (λ (v : Ui). v.session) xs ≡ map (λ (v : Ui). v.session) ys
    → map (λ (v : Ui). v.session) (cond (not a) (u ∷ xs) xs) ≡ map (λ (v : Ui). v.session) (cond (not b) (u ∷ ys) ys)
losing_step u a b xs ys e rest = ap (λ (c : Bool). map (λ (v : Ui). v.session) (cond (not c) (u ∷ xs) xs)) e ∙ by b
  where
    by : (b : Bool) → map (λ (v : Ui). v.session) (cond (not b) (u ∷ xs) xs) ≡ map (λ (v : Ui). v.session) (cond (not b) (u ∷ ys) ys)
    by true = rest
    by false = ap (λ (l : List ℕ). u.session ∷ l) rest

losing_same : (xs : List Kept) (w : World) (us : List Ui) → ((s : ℕ) → is_live_at xs s ≡ is_live (session_of w s))
    → losing_sessions xs us ≡ map (λ (u : Ui). u.session) (filter (λ u. not (is_live (session_of w u.session))) us)
losing_same xs w [] each = refl
losing_same xs w (u ∷ us) each =
    losing_step u (is_live_at xs u.session) (is_live (session_of w u.session)) (filter (λ v. not (is_live_at xs v.session)) us)
    (filter (λ v. not (is_live (session_of w v.session))) us) (each u.session) (losing_same xs w us each)

pub losing_is : (state : State) (w : World) → StandsForWorld state w → losing_sessions state.sessions.items state.editor.stage.uis ≡ sessions_losing_uis w
losing_is state w stands =
    ap (λ (st : Stage). losing_sessions state.sessions.items st.uis) stands.editor.stage
    ∙ losing_same state.sessions.items w w.editor.stage.uis (λ s. live_at_number w.capacity state.sessions.items w s stands.sessions.pairs)

-- one that isn't live is one of them
pub losing_some : (xs : List Kept) (us : List Ui) (i : ℕ) (d : Ui) → i < length us → is_live_at xs (get_or us i d).session ≡ false → has_any (losing_sessions xs us) ≡ true
losing_some xs [] i d within lost = absurd (omega arith)
losing_some xs (u ∷ us) zero d within lost =
    ap (λ (b : Bool). has_any (map (λ (v : Ui). v.session) (cond (not b) (u ∷ filter (λ v. not (is_live_at xs v.session)) us) (filter (λ v. not (is_live_at xs v.session)) us)))) lost
losing_some xs (u ∷ us) (suc i) d within lost = by (is_live_at xs u.session) (losing_some xs us i d (omega arith) lost)
  where
    by : (b : Bool) → has_any (losing_sessions xs us) ≡ true
        → has_any (map (λ (v : Ui). v.session) (cond (not b) (u ∷ filter (λ v. not (is_live_at xs v.session)) us) (filter (λ v. not (is_live_at xs v.session)) us))) ≡ true
    by true rest = rest
    by false rest = refl

-- the world once UIs went, and its stamp
pub dropped : (old : State) (e : PresentEditor) (stamp : ℕ) (losing : List ℕ) (is_seen any : Bool) (w : World) → StandsForWorld old w
    → losing ≡ losing_sessions old.sessions.items old.editor.stage.uis → any ≡ has_any losing
    → ((m : ModelEditor) → StandsSealed old.editor m → StandsSealed e (editor_without_uis losing m))
    → stamp ≡ cond (is_seen || any) (old.stamp + 1) old.stamp
    → StandsForWorld (record old { editor = e; stamp = stamp }) (world_with_uis_of_live is_seen w)
dropped old e stamp losing is_seen any w stands are any_is gone stamp_is =
    subst (λ (ss : List ℕ). StandsForWorld (record old { editor = e; stamp = stamp }) (world_without_uis is_seen ss w)) (are ∙ losing_is old w stands)
    (subst (λ (v : World). StandsForWorld (record old { editor = e; stamp = stamp }) v) (sym (without_is is_seen losing w)) (record {
      editor = next.stands;
      sealed = next.sealed;
      sessions = stands.sessions;
      ended = stands.ended;
      stamp = stamp_is ∙ (λ i. cond (is_seen || any_is i) (stands.stamp i + 1) (stands.stamp i));
    }))
  where
    next : StandsSealed e (editor_without_uis losing w.editor)
    next = gone w.editor (record { stands = stands.editor; sealed = stands.sealed })

-- whether a session's UI is due a scene
pub due_is : (state : State) (w : World) (s : ℕ) (y : Session) (uis : List Ui) (shown : ℕ) → StandsForWorld state w → uis ≡ state.editor.stage.uis → shown ≡ y.shown
    → (has_ui s uis && not (eqb shown state.stamp)) ≡ is_scene_due w s y
due_is state w s y uis shown stands same is =
    let us : uis ≡ w.editor.stage.uis = same ∙ ap (λ (st : Stage). st.uis) stands.editor.stage in
    λ i. has_ui s (us i) && not (eqb (is i) (stands.stamp i))

-- ---- the end of an entry

last_one : (at last a b : ℕ) → a ≡ at → b ≡ last + 1 → eqb at last ≡ eqb (a + 1) b
last_one at last a b p q = grind (arith, nat_tests)

ended_stamp : (b : Bool) (w : World) → (world_ended_if b w).stamp ≡ w.stamp
ended_stamp true w = refl
ended_stamp false w = refl

stamp_rises : (b : Bool) (stamp at : ℕ) → stamp ≤ at + 1 → cond b (stamp + 1) stamp ≤ (at + 1) + 1
stamp_rises true stamp at h = omega arith
stamp_rises false stamp at h = omega arith

-- what becomes of the numbers
ended_numbers : (b : Bool) (n : Numbers) (w : World) → AreNumbers n w → AreNumbers n (world_ended_if b w)
ended_numbers true n w are = record { capacity_is = are.capacity_is; last_is = are.last_is; entries_are = are.entries_are; stamps = are.stamps }
ended_numbers false n w are = are

without_numbers : (is_seen : Bool) (ss : List ℕ) (n : Numbers) (w : World) → AreNumbers n w → AreNumbers (with_next n) (world_counted (world_without_uis is_seen ss w))
without_numbers is_seen ss n w are =
    subst (λ (v : World). AreNumbers (with_next n) (world_counted v)) (sym (without_is is_seen ss w)) (record {
      capacity_is = are.capacity_is;
      last_is = are.last_is;
      entries_are = ap (λ (k : ℕ). k + 1) are.entries_are;
      stamps = stamp_rises (is_seen || has_any ss) w.stamp n.at are.stamps;
    })

at_end_numbers : (is_seen : Bool) (n : Numbers) (w : World) → AreNumbers n w → AreNumbers (with_next n) (world_counted (world_at_end is_seen w))
at_end_numbers is_seen n w are =
    without_numbers is_seen (sessions_losing_uis (world_ended_if (eqb (w.entries + 1) w.limits.entries) w)) n (world_ended_if (eqb (w.entries + 1) w.limits.entries) w)
    (ended_numbers (eqb (w.entries + 1) w.limits.entries) n w are)

pub small_stamp : (b : Bool) (n : Numbers) (w : World) → AreNumbers n w → n.at < 2 ^ 63 → (world_ended_if b w).stamp < 2 ^ 64 - 1
small_stamp b n w are few = subst (λ (k : ℕ). k < 2 ^ 64 - 1) (sym (ended_stamp b w)) (small w.stamp n.at are.stamps few)
  where
    small : (stamp at : ℕ) → stamp ≤ at + 1 → at < 2 ^ 63 → stamp < 2 ^ 64 - 1
    small stamp at h k = omega arith

counted : (s : State) (v : World) → StandsForWorld s v → StandsForWorld s (world_counted v)
counted s v h = record { editor = h.editor; sealed = h.sealed; sessions = h.sessions; ended = h.ended; stamp = h.stamp }

-- the state once the world may have ended and UIs went
at_end : (old ended new : State) (n : Numbers) (w : World) (is_seen : Bool) → StandsForWorld old w → AreNumbers n w → n.at < 2 ^ 63
    → ((v : World) → StandsForWorld old v → v.entries ≡ n.at → StandsForWorld ended (world_ended_if (eqb n.at n.last) v))
    → ((v : World) → StandsForWorld ended v → v.stamp < 2 ^ 64 - 1 → StandsForWorld new (world_with_uis_of_live is_seen v))
    → StandsForWorld new (world_at_end is_seen w)
at_end old ended new n w is_seen stands are few ends drops =
    subst (λ (b : Bool). StandsForWorld new (world_with_uis_of_live is_seen (world_ended_if b w))) (last_one n.at n.last w.entries w.limits.entries are.entries_are are.last_is)
    (drops (world_ended_if (eqb n.at n.last) w) (ends w stands are.entries_are) (small_stamp (eqb n.at n.last) n w are few))

pub finished : (old ended new : State) (n : Numbers) (w : World) → IsAt old n w
    → ((v : World) → StandsForWorld old v → v.entries ≡ n.at → StandsForWorld ended (world_ended_if (eqb n.at n.last) v))
    → ((v : World) → StandsForWorld ended v → v.stamp < 2 ^ 64 - 1 → StandsForWorld new (world_with_uis_of_live false v))
    → StandsNumbered new (with_next n) (after_entry w)
finished old ended new n w at ends drops = record {
  state = counted new (world_at_end false w) later;
  numbers = at_end_numbers false n w at.stands.numbers;
  settled = settled_kept new.editor (world_at_end false w).editor later.editor
      (entry_settled w at.live (settled_model old.editor w.editor at.stands.state.editor at.stands.settled));
}
  where
    later : StandsForWorld new (world_at_end false w)
    later = at_end old ended new n w false at.stands.state at.stands.numbers at.few ends drops

settled_world : (s : State) (e : PresentEditor) (v : World) → StandsForWorld s v → StandsSealed e (settled_editor v.editor)
    → StandsForWorld (record s { editor = e }) (world_settled v)
settled_world s e v h is = record { editor = is.stands; sealed = is.sealed; sessions = h.sessions; ended = h.ended; stamp = h.stamp }

pub finished_settled : (old ended dropped : State) (e : PresentEditor) (n : Numbers) (w : World) (is_seen : Bool) → StandsForWorld old w → AreNumbers n w → n.at < 2 ^ 63
    → ((v : World) → StandsForWorld old v → v.entries ≡ n.at → StandsForWorld ended (world_ended_if (eqb n.at n.last) v))
    → ((v : World) → StandsForWorld ended v → v.stamp < 2 ^ 64 - 1 → StandsForWorld dropped (world_with_uis_of_live is_seen v))
    → ((m : ModelEditor) → StandsSealed dropped.editor m → StandsSealed e (settled_editor m))
    → ((m : ModelEditor) → StandsSealed dropped.editor m → IsSettled (seen_now e))
    → StandsNumbered (record dropped { editor = e }) (with_next n) (after_settled_entry is_seen w)
finished_settled old ended dropped e n w is_seen stands are few ends drops stands_then settled_then = record {
  state = counted (record dropped { editor = e }) (world_settled (world_at_end is_seen w))
      (settled_world dropped e (world_at_end is_seen w) later (stands_then (world_at_end is_seen w).editor sealed));
  numbers = record { capacity_is = numbers.capacity_is; last_is = numbers.last_is; entries_are = numbers.entries_are; stamps = numbers.stamps };
  settled = settled_then (world_at_end is_seen w).editor sealed;
}
  where
    later : StandsForWorld dropped (world_at_end is_seen w)
    later = at_end old ended dropped n w is_seen stands are few ends drops

    sealed : StandsSealed dropped.editor (world_at_end is_seen w).editor
    sealed = record { stands = later.editor; sealed = later.sealed }

    numbers : AreNumbers (with_next n) (world_counted (world_at_end is_seen w))
    numbers = at_end_numbers is_seen n w are

-- a close of a session without a UI, not by the last entry, takes none away
none_has : (s : ℕ) (us : List Ui) → has_ui s us ≡ false → AllByRecursion (λ u. eqb u.session s ≡ false) us
none_has s [] e = tt
none_has s (u ∷ us) e = step (eqb u.session s) refl e (none_has s us)
  where
    step : (b : Bool) → eqb u.session s ≡ b → (b || has_ui s us) ≡ false → (has_ui s us ≡ false → AllByRecursion (λ v. eqb v.session s ≡ false) us)
        → AllByRecursion (λ v. eqb v.session s ≡ false) (u ∷ us)
    step true is f rest = absurd cc
    step false is f rest = (is, rest f)

pub keeps_uis : (s : State) (n : Numbers) (w : World) (session place : ℕ) (z : Session) → session ≡ place + 1 → OnlyLiveHaveUis w → AreNumbers n w
    → StandsForWorld s (with_session_at w (suc place) z) → has_ui session w.editor.stage.uis ≡ false → eqb (w.entries + 1) w.limits.entries ≡ false
    → (eqb n.at n.last ≡ false → has_any (losing_sessions s.sessions.items s.editor.stage.uis) ≡ true) → false ≡ true
keeps_uis s n w session place z number live are stands none early any =
    let same : session ≡ suc place = omega arith in
    let lost : sessions_losing_uis (with_session_at w (suc place) z) ≡ [] =
    none_loses (with_session_at w (suc place) z) (closed_live w place z
    (none_has (suc place) w.editor.stage.uis (subst (λ (k : ℕ). has_ui k w.editor.stage.uis ≡ false) same none)) live) in
    sym (ap has_any (losing_is s (with_session_at w (suc place) z) stands ∙ lost))
    ∙ any (last_one n.at n.last w.entries w.limits.entries are.entries_are are.last_is ∙ early)

-- a world at first
pub begun : (state : State) (capacity : ℕ) (limits : Limits) (entries : List Entry) → entries ≡ [] → 1 ≤ limits.entries
    → ((capacity : ℕ) → StandsForWorld state (fresh_world capacity limits)) → IsSettled (seen_now state.editor)
    → (w : World) → run capacity limits (plain_entries entries) ≡ Some w
    → StandsNumbered state (record { capacity = capacity; last = limits.entries - 1; at = length entries }) w
begun state capacity limits entries none some stands settled w runs =
    let same : fresh_world capacity limits ≡ w =
    same_Some _ w (sym (ap (λ (es : List Entry). run capacity limits (plain_entries es)) none) ∙ runs) in
    let zero_at : length entries ≡ 0 = ap (λ (es : List Entry). length es) none in
    subst (λ (v : World). StandsNumbered state (record { capacity = capacity; last = limits.entries - 1; at = length entries }) v) same (record {
      state = stands capacity;
      numbers = record { capacity_is = refl; last_is = omega arith; entries_are = sym zero_at; stamps = omega (arith, zero_at) };
      settled = settled;
    })
