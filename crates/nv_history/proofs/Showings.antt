-- What was shown to a UI, and when.
use Rattle.std.proofs.Common.{◌≡◌, ◌≢◌, ◌⊎◌, inl, inr, ℕ, zero, suc, ◌+◌, ◌<◌, List, [], ◌∷◌, ◌++◌, refl, ap, sym, ◌∙◌, subst, append_assoc, append-nil, arith, slice_get, slice_set, Bool, true, false, not, Option, Some, None}
use Rattle.std.specs.Prelude.{option_map, option_and_then, ◌==◌, ◌&&◌}
use Rattle.std.proofs.lemmas.Option.{none-some, same_Some, slice_get-map}
use Rattle.std.proofs.lemmas.Bool.Decides.{nat_tests}
use Rattle.nv_rpc.specs.Messages.{Sent}
use Rattle.nv_model.specs.declared.parts.Limits.{Limits}
use Rattle.nv_editor.specs.Uis.{has_ui}
use Rattle.nv_history.specs.Events.{Event, open_session, request_of, take_of, close_of, Entry, Cause, closed_at, nothing}
use Rattle.nv_history.specs.Sessions.{Session, fresh_session, session_closed_by, shown_after, session_emptied, session_quit, session_after_call, reply_message}
use Rattle.nv_history.specs.Worlds.{World, idles, fresh_world, session_of, with_session_at, world_ended_if, after_entry, after_settled_entry, outcome_of_frame, world_after_call, is_scene_due, is_nothing_due, some_take_outcome, session_take_outcome, take_outcome, step, world_made}
use Rattle.nv_history.specs.Runs.{run_from, run, batch_if, batch_of, given}
use Rattle.nv_history.specs.UiLaws.{WasShown}
use Rattle.nv_history.proofs.Places.{set_here, set_there, get_push, get_after_call}
use Rattle.nv_history.proofs.Staging.{world_then, at_end_sessions}
use Rattle.nv_history.proofs.GoingOn.{HearsOn, hears_quit, hears_call}
use Rattle.nv_history.proofs.GoingRuns.{run-append}
use Rattle.nv_history.proofs.Makings.{Makes, step_makes}
use Rattle.nv_history.proofs.Stamps.{stays_above}

-- ---- a property of the session at a place, along a step
abbrev pub At : (Session → Type 0) → Option Session → Type 0
At P None = Unit {0}
At P (Some x) = P x

-- what keeps it
pub record Keeps (P : Session → Type 0) : Type 0 where
  pub hears : (x y : Session) → HearsOn x y → P x → P y
  pub closes : (cause : Cause) (x : Session) → P x → P (session_closed_by cause x)
  pub fresh : P fresh_session

at_map : (P : Session → Type 0) (f : Session → Session) (x : Option Session) → ((y : Session) → P y → P (f y)) → At P x → At P (option_map f x)
at_map P f None keeps h = tt
at_map P f (Some x) keeps h = keeps x h

at_ended : (P : Session → Type 0) → Keeps P → (i : ℕ) (w : World) (b : Bool) → At P (slice_get w.sessions i) → At P (slice_get (world_ended_if b w).sessions i)
at_ended P keeps i w true h =
    subst (λ (x : Option Session). At P x) (sym (slice_get-map (session_quit w.entries) w.sessions i))
    (at_map P (session_quit w.entries) (slice_get w.sessions i) (λ y k. keeps.hears y (session_quit w.entries y) (hears_quit w.entries y) k) h)
at_ended P keeps i w false h = h

-- a world with the sessions at the end of an entry
at_end : (P : Session → Type 0) → Keeps P → (i : ℕ) (w v : World) → v.sessions ≡ (world_then w).sessions → At P (slice_get w.sessions i) → At P (slice_get v.sessions i)
at_end P keeps i w v same h =
    subst (λ (xs : List Session). At P (slice_get xs i)) (sym same) (at_ended P keeps i w (w.entries + 1 == w.limits.entries) h)

by_entry : (P : Session → Type 0) → Keeps P → (i : ℕ) (w v : World) → v ≡ after_entry w → At P (slice_get w.sessions i) → At P (slice_get v.sessions i)
by_entry P keeps i w v e h = subst (λ (u : World). At P (slice_get u.sessions i)) (sym e) (at_end P keeps i w (after_entry w) (at_end_sessions false w) h)

by_settled_entry : (P : Session → Type 0) → Keeps P → (i : ℕ) (is_seen : Bool) (w v : World) → v ≡ after_settled_entry is_seen w → At P (slice_get w.sessions i) → At P (slice_get v.sessions i)
by_settled_entry P keeps i is_seen w v e h =
    subst (λ (u : World). At P (slice_get u.sessions i)) (sym e) (at_end P keeps i w (after_settled_entry is_seen w) (at_end_sessions is_seen w) h)

-- another session in the place of one
at_set : (P : Session → Type 0) (xs : List Session) (p i : ℕ) (x y : Session) → slice_get xs p ≡ Some x → (p ≡ i → P x → P y) → (b : Bool) → (p == i) ≡ b
    → At P (slice_get xs i) → At P (slice_get (slice_set xs p y) i)
at_set P xs p i x y e keeps true same h =
    let there : p ≡ i = grind (arith, nat_tests) in
    subst (λ (j : ℕ). At P (slice_get xs j) → At P (slice_get (slice_set xs p y) j)) there
    (λ k. subst (λ (z : Option Session). At P z) (sym (set_here xs p x y e)) (keeps there (subst (λ (z : Option Session). At P z) e k))) h
at_set P xs p i x y e keeps false same h =
    let apart : p ≢ i = λ (f : p ≡ i). grind (arith, nat_tests) in
    subst (λ (z : Option Session). At P z) (sym (set_there xs p i y apart)) h

at_session : (P : Session → Type 0) (w : World) (s i : ℕ) (x y : Session) → session_of w s ≡ Some x → (s ≡ suc i → P x → P y)
    → At P (slice_get w.sessions i) → At P (slice_get (with_session_at w s y).sessions i)
at_session P w zero i x y e keeps h = absurd (none-some x e)
at_session P w (suc p) i x y e keeps h = at_set P w.sessions p i x y e (λ f k. keeps (ap suc f) k) (p == i) refl h

-- what a take leaves of the session of a place
abbrev pub TakeKeeps : (Session → Type 0) → ℕ → World → Event → Type 0
TakeKeeps P i w event =
    (x : Session) → session_of w (suc i) ≡ Some x → event ≡ take_of (suc i) → P x
    → P (session_emptied (shown_after (is_scene_due w (suc i) x) w.stamp x.shown) x)

take_here : (P : Session → Type 0) (i : ℕ) (w : World) (s : ℕ) (x : Session) → TakeKeeps P i w (take_of s) → session_of w s ≡ Some x → s ≡ suc i → P x
    → P (session_emptied (shown_after (is_scene_due w s x) w.stamp x.shown) x)
take_here P i w s x takes e same h =
    subst (λ (n : ℕ). session_of w n ≡ Some x → P (session_emptied (shown_after (is_scene_due w n x) w.stamp x.shown) x)) (sym same)
    (λ f. takes x f (ap take_of same) h) e

pub step_at : (P : Session → Type 0) → Keeps P → (i : ℕ) (w v : World) (event : Event) → TakeKeeps P i w event → Makes w event v → At P (slice_get w.sessions i) → At P (slice_get v.sessions i)
step_at P keeps i w v open_session takes made h =
    by_entry P keeps i (record w { sessions = w.sessions ++ fresh_session ∷ [] }) v made (get_push (At P) w.sessions fresh_session i (λ e. keeps.fresh) h)
step_at P keeps i w v (request_of s call) takes made h =
    by_settled_entry P keeps i (outcome_of_frame w.editor s call).is_seen (world_after_call w s call (outcome_of_frame w.editor s call)) v made.made
    (subst (λ (x : Option Session). At P x)
    (sym (get_after_call w.entries w.capacity s 1 (outcome_of_frame w.editor s call).facts (reply_message call (outcome_of_frame w.editor s call).result) w.sessions i))
    (at_map P (session_after_call w.entries w.capacity ((1 + i) == s) (outcome_of_frame w.editor s call).facts (reply_message call (outcome_of_frame w.editor s call).result)) (slice_get w.sessions i)
    (λ y k. keeps.hears y _ (hears_call w.entries w.capacity ((1 + i) == s) (outcome_of_frame w.editor s call).facts (reply_message call (outcome_of_frame w.editor s call).result) y) k) h))
step_at P keeps i w v (take_of s) takes made h =
    by_entry P keeps i (with_session_at w s (session_emptied (shown_after (is_scene_due w s made.session) w.stamp made.session.shown) made.session)) v made.made
    (at_session P w s i made.session (session_emptied (shown_after (is_scene_due w s made.session) w.stamp made.session.shown) made.session) made.there
    (λ same k. take_here P i w s made.session takes made.there same k) h)
step_at P keeps i w v (close_of s) takes made h =
    by_settled_entry P keeps i false (with_session_at w s (session_closed_by (closed_at w.entries) made.session)) v made.made
    (at_session P w s i made.session (session_closed_by (closed_at w.entries) made.session) made.there (λ same k. keeps.closes (closed_at w.entries) made.session k) h)

-- ---- what was shown
module _ (capacity : ℕ) (limits : Limits) where
  longer : (s stamp : ℕ) (history : List Entry) (e : Entry) → WasShown capacity limits s history stamp → WasShown capacity limits s (history ++ e ∷ []) stamp
  longer s stamp history e h = record {
    before = h.before;
    entry = h.entry;
    after = h.after ++ e ∷ [];
    world = h.world;
    batch = h.batch;
    history_is = ap (λ (l : List Entry). l ++ e ∷ []) h.history_is ∙ append_assoc h.before (h.entry ∷ h.after) (e ∷ []);
    is_take = h.is_take;
    runs = h.runs;
    gives_batch = h.gives_batch;
    gives_editor = h.gives_editor;
    same_stamp = h.same_stamp;
  }

  -- a session was shown nothing, or this stamp by one of its takes
  abbrev pub IsShownBy : ℕ → List Entry → Session → Type 0
  IsShownBy s history x = (x.shown ≡ 0) ⊎ WasShown capacity limits s history x.shown

  by_shown : (s : ℕ) (history : List Entry) (x y : Session) → y.shown ≡ x.shown → (x.shown ≡ 0) ⊎ WasShown capacity limits s history x.shown → (y.shown ≡ 0) ⊎ WasShown capacity limits s history y.shown
  by_shown s history x y e h = subst (λ (n : ℕ). (n ≡ 0) ⊎ WasShown capacity limits s history n) (sym e) h

  is_kept : (s : ℕ) (history : List Entry) → Keeps (λ (x : Session). (x.shown ≡ 0) ⊎ WasShown capacity limits s history x.shown)
  is_kept s history = record {
    hears = λ x y on h. by_shown s history x y on.same_shown h;
    closes = λ cause x h. h;
    fresh = inl refl;
  }

  more_shown : (s : ℕ) (history : List Entry) (e : Entry) (n : ℕ) → (n ≡ 0) ⊎ WasShown capacity limits s history n → (n ≡ 0) ⊎ WasShown capacity limits s (history ++ e ∷ []) n
  more_shown s history e n (inl f) = inl f
  more_shown s history e n (inr h) = inr (longer s n history e h)

  -- a take that gives the editor
  some_due : (ms : List Sent) → is_nothing_due ms true ≡ false
  some_due [] = refl
  some_due (m ∷ ms) = refl

  given_take : (s : ℕ) (w : World) (x : Session) → session_of w s ≡ Some x → is_scene_due w s x ≡ true
      → given s (take_of s) (step w (take_of s)) ≡ record { messages = x.waiting; editor = Some w.editor } ∷ []
  given_take s w x there due =
      let own : (s == s) ≡ true = grind (arith, nat_tests) in
      ap (λ (o : Option Session). batch_if (s == s) (batch_of (take_outcome o w s))) there
      ∙ ap (λ (b : Bool). batch_if (s == s) (batch_of (session_take_outcome b w s x))) due
      ∙ ap (λ (b : Bool). batch_if (s == s) (batch_of (some_take_outcome b true w s x))) (some_due x.waiting)
      ∙ ap (λ (b : Bool). batch_if b (record { messages = x.waiting; editor = Some w.editor } ∷ [])) own

  taken_shown : (s : ℕ) (history : List Entry) (e : Entry) (w : World) (x : Session) → run capacity limits history ≡ Some w → session_of w s ≡ Some x → e.event ≡ take_of s
      → (scene : Bool) → is_scene_due w s x ≡ scene → (x.shown ≡ 0) ⊎ WasShown capacity limits s (history ++ e ∷ []) x.shown
      → (shown_after scene w.stamp x.shown ≡ 0) ⊎ WasShown capacity limits s (history ++ e ∷ []) (shown_after scene w.stamp x.shown)
  taken_shown s history e w x runs there is true due h = inr (record {
    before = history;
    entry = e;
    after = [];
    world = w;
    batch = record { messages = x.waiting; editor = Some w.editor };
    history_is = refl;
    is_take = is;
    runs = runs;
    gives_batch = ap (λ (event : Event). given s event (step w event)) is ∙ given_take s w x there due;
    gives_editor = refl;
    same_stamp = refl;
  })
  taken_shown s history e w x runs there is false due h = h

  step_shown : (i : ℕ) (history : List Entry) (e : Entry) (w v : World) → run capacity limits history ≡ Some w → world_made (step w e.event) ≡ Some v
      → At (λ (x : Session). (x.shown ≡ 0) ⊎ WasShown capacity limits (suc i) history x.shown) (slice_get w.sessions i)
      → At (λ (x : Session). (x.shown ≡ 0) ⊎ WasShown capacity limits (suc i) (history ++ e ∷ []) x.shown) (slice_get v.sessions i)
  step_shown i history e w v runs made h =
      step_at (λ (x : Session). (x.shown ≡ 0) ⊎ WasShown capacity limits (suc i) (history ++ e ∷ []) x.shown) (is_kept (suc i) (history ++ e ∷ [])) i w v e.event
      (λ x there is k. taken_shown (suc i) history e w x runs there is (is_scene_due w (suc i) x) refl k)
      (step_makes w v e.event made) (more_at (slice_get w.sessions i) h)
    where
      more_at : (o : Option Session) → At (λ (x : Session). (x.shown ≡ 0) ⊎ WasShown capacity limits (suc i) history x.shown) o
          → At (λ (x : Session). (x.shown ≡ 0) ⊎ WasShown capacity limits (suc i) (history ++ e ∷ []) x.shown) o
      more_at None k = tt
      more_at (Some x) k = more_shown (suc i) history e x.shown k

  shown_next : (i : ℕ) (done : List Entry) (e : Entry) (es : List Entry) (v : World) (made : Option World)
      → ((u : World) → made ≡ Some u → At (λ (x : Session). (x.shown ≡ 0) ⊎ WasShown capacity limits (suc i) (done ++ e ∷ []) x.shown) (slice_get u.sessions i))
      → ((u : World) → made ≡ Some u → run capacity limits (done ++ e ∷ []) ≡ Some u)
      → ((u : World) → run capacity limits (done ++ e ∷ []) ≡ Some u
      → At (λ (x : Session). (x.shown ≡ 0) ⊎ WasShown capacity limits (suc i) (done ++ e ∷ []) x.shown) (slice_get u.sessions i)
      → run_from u es ≡ Some v → At (λ (x : Session). (x.shown ≡ 0) ⊎ WasShown capacity limits (suc i) ((done ++ e ∷ []) ++ es) x.shown) (slice_get v.sessions i))
      → option_and_then (λ u. run_from u es) made ≡ Some v
      → At (λ (x : Session). (x.shown ≡ 0) ⊎ WasShown capacity limits (suc i) (done ++ e ∷ es) x.shown) (slice_get v.sessions i)
  shown_next i done e es v None first way rest f = absurd (none-some v f)
  shown_next i done e es v (Some u) first way rest f =
      subst (λ (l : List Entry). At (λ (x : Session). (x.shown ≡ 0) ⊎ WasShown capacity limits (suc i) l x.shown) (slice_get v.sessions i)) (append_assoc done (e ∷ []) es)
      (rest u (way u refl) (first u refl) f)

  one_more : (done : List Entry) (e : Entry) (w u : World) → run capacity limits done ≡ Some w → world_made (step w e.event) ≡ Some u → run capacity limits (done ++ e ∷ []) ≡ Some u
  one_more done e w u runs made =
      run-append (fresh_world capacity limits) done (e ∷ [])
      ∙ ap (option_and_then (λ (x : World). run_from x (e ∷ []))) runs
      ∙ ap (option_and_then (λ (x : World). run_from x [])) made

  run_shown : (i : ℕ) (done es : List Entry) (w v : World) → run capacity limits done ≡ Some w
      → At (λ (x : Session). (x.shown ≡ 0) ⊎ WasShown capacity limits (suc i) done x.shown) (slice_get w.sessions i) → run_from w es ≡ Some v
      → At (λ (x : Session). (x.shown ≡ 0) ⊎ WasShown capacity limits (suc i) (done ++ es) x.shown) (slice_get v.sessions i)
  run_shown i done [] w v runs h f =
      subst (λ (l : List Entry). At (λ (x : Session). (x.shown ≡ 0) ⊎ WasShown capacity limits (suc i) l x.shown) (slice_get v.sessions i)) (sym (append-nil done))
      (subst (λ (u : World). At (λ (x : Session). (x.shown ≡ 0) ⊎ WasShown capacity limits (suc i) done x.shown) (slice_get u.sessions i)) (same_Some w v f) h)
  run_shown i done (e ∷ es) w v runs h f =
      shown_next i done e es v (world_made (step w e.event)) (λ u made. step_shown i done e w u runs made h) (λ u made. one_more done e w u runs made)
      (λ u way k g. run_shown i (done ++ e ∷ []) es u v way k g) f

-- ---- the law
-- nothing to take means that no scene is due
none_due : (ms : List Sent) (scene none : Bool) (w : World) (s : ℕ) (x : Session) → is_nothing_due ms scene ≡ none → some_take_outcome none scene w s x ≡ idles nothing → scene ≡ false
none_due [] true true w s x e f = absurd cc
none_due [] false none w s x e f = refl
none_due (m ∷ ms) scene true w s x e f = absurd cc
none_due ms true false w s x e f = absurd (none-some _ (sym (ap world_made f)))
none_due (m ∷ ms) false false w s x e f = refl

same_now : (w : World) (x : Session) (has : Bool) → has ≡ true → (has && not (x.shown == w.stamp)) ≡ false → x.shown ≡ w.stamp
same_now w x true e f = by_same (x.shown == w.stamp) refl f
  where
    by_same : (b : Bool) → (x.shown == w.stamp) ≡ b → not b ≡ false → x.shown ≡ w.stamp
    by_same true is g = grind (arith, nat_tests)
    by_same false is g = absurd cc
same_now w x false e f = absurd cc

shown_is : (capacity : ℕ) (limits : Limits) (history : List Entry) (s : ℕ) (w : World) (n : ℕ) → 0 < w.stamp → n ≡ w.stamp
    → (n ≡ 0) ⊎ WasShown capacity limits s history n → WasShown capacity limits s history w.stamp
shown_is capacity limits history s w n some same (inl none) = absurd (omega (arith, some, same, none))
shown_is capacity limits history s w n some same (inr h) = subst (λ (k : ℕ). WasShown capacity limits s history k) same h

found_shown : (capacity : ℕ) (limits : Limits) (history : List Entry) (w : World) (i : ℕ) (o : Option Session) → 0 < w.stamp → session_of w (suc i) ≡ o
    → At (λ (x : Session). (x.shown ≡ 0) ⊎ WasShown capacity limits (suc i) history x.shown) o
    → has_ui (suc i) w.editor.stage.uis ≡ true → take_outcome o w (suc i) ≡ idles nothing → WasShown capacity limits (suc i) history w.stamp
found_shown capacity limits history w i None some there h has e = absurd cc
found_shown capacity limits history w i (Some x) some there h has e =
    shown_is capacity limits history (suc i) w x.shown some
    (same_now w x (has_ui (suc i) w.editor.stage.uis) has (none_due x.waiting (is_scene_due w (suc i) x) (is_nothing_due x.waiting (is_scene_due w (suc i) x)) w (suc i) x refl e)) h

pub shown_by : (capacity : ℕ) (limits : Limits) (history : List Entry) (w : World) (s : ℕ) → run capacity limits history ≡ Some w → has_ui s w.editor.stage.uis ≡ true
    → step w (take_of s) ≡ idles nothing → WasShown capacity limits s history w.stamp
shown_by capacity limits history w zero runs has e = absurd cc
shown_by capacity limits history w (suc i) runs has e =
    found_shown capacity limits history w i (session_of w (suc i)) (stays_above 1 (fresh_world capacity limits) w history (omega arith) runs) refl
    (run_shown capacity limits i [] history (fresh_world capacity limits) w refl tt runs) has e
