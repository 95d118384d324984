-- Watchers that follow a history, step by step.
use Rattle.std.proofs.Common.{◌≡◌, refl, ap, sym, ◌∙◌, subst, inl, inr, ℕ, suc, ◌<◌, Bool, true, false, true≢false, List, [], ◌∷◌, ◌++◌, length, slice_get, fold, append_assoc, append-nil, Option, Some, None, IsSome, option_and_then, arith}
use Rattle.std.specs.Prelude.{◌↔◌, ◌⊎◌, get_or}
use Rattle.std.proofs.lemmas.List.Sums.{fold-append}
use Rattle.std.proofs.lemmas.Option.{same_Some, slice_get_within, slice_get-get_or}
use Rattle.nv_history.specs.Events.{Entry as PlainEntry}
use Rattle.nv_history.specs.Runs.{run, run_from}
use Rattle.nv_history.specs.Worlds.{World, fresh_world}
use Rattle.nv_history.proofs.GoingRuns.{run-append}
use Rattle.nv_core.specs.Contents.{plain_entries, plain_entry, plain_event}
use Rattle.nv_world.specs.Steps.{splices_of_event}
use Rattle.nv_world.specs.Worlds.{WorldRecord, model_of}
use Rattle.nv_core.specs.declared.entry.Entry.{Entry}
use Rattle.nv_world.specs.declared.step.Moved.{Moved}
use Rattle.nv_world.specs.declared.step.Step.{Step}
use Rattle.nv_world.proofs.Entries.{entries-push}
use Rattle.nv_book.specs.Upcoming.{HasEntered}
use Rattle.nv_watch.specs.Shown.{HasCaughtUp, HasGlanced}
use Rattle.nv_watch.specs.Verdicts.{FollowsNext, FollowsQuietly, HasOneMore, IsLastWorld, Rule, Sight, last_sight, latest, sight}
use Rattle.nv_replay.specs.inside.Quiet.{may_splice}
use Rattle.nv_replay.specs.inside.Watching.{AreFollowing, AreWatching, GoesAlong, HasLookedOn, IsPrepared, KeepsUp}
use Rattle.nv_replay.proofs.Quiet.{quiet_event}

-- ---- the last that was seen
last_from : (o : Option Sight) (seen : List Sight) (y : Sight) → last_sight seen ≡ Some y → fold latest o seen ≡ Some y
last_from o [] y is = absurd cc
last_from o (x ∷ seen) y is = is

last_behind : (before seen : List Sight) (k : WorldRecord) → IsLastWorld seen k → IsLastWorld (before ++ seen) k
last_behind before seen k here = record {
  last = here.last;
  last_is =
      fold-append latest None before seen
      ∙ last_from (last_sight before) seen here.last here.last_is;
  world_is = here.world_is;
}

last_of_more : (seen : List Sight) (x : Sight) (k : WorldRecord) → x.world ≡ k → IsLastWorld (seen ++ x ∷ []) k
last_of_more seen x k is = record {
  last = x;
  last_is = fold-append latest None seen (x ∷ []);
  world_is = is;
}

-- ---- a world with one entry more
history_with : (k later : WorldRecord) (e : Entry) (s : Step) → HasEntered e k later s → plain_entries later.history ≡ plain_entries k.history ++ plain_entry e ∷ []
history_with k later e s h = ap (λ (w : WorldRecord). plain_entries w.history) h.world ∙ entries-push k.history e

one_more : (k later : WorldRecord) (e : Entry) (s : Step) → HasEntered e k later s → HasOneMore k later (plain_entry e)
one_more k later e s h = record {
  capacity = ap (λ (w : WorldRecord). w.capacity) h.world;
  limits = ap (λ (w : WorldRecord). w.limits) h.world;
  history = history_with k later e s h;
  known = h.known;
  later_known = ap (λ (w : WorldRecord). w.spent) h.world ∙ h.known;
  runs = h.runs;
}

plain_count : (es : List Entry) → length (plain_entries es) ≡ length es
plain_count [] = refl
plain_count (e ∷ es) = ap (λ (n : ℕ). suc n) (plain_count es)

-- an entry that doesn't splice has no splices
quiet_by : (o : Option World) (es : List PlainEntry) (e : Entry) (splices : List Moved) → may_splice (plain_event e.event) ≡ false
    → IsSome (option_and_then (λ (w : World). run_from w es) o) → ((w : World) → o ≡ Some w → splices ≡ splices_of_event w (plain_event e.event)) → splices ≡ []
quiet_by None es e splices quiet some are = absurd (true≢false (sym some))
quiet_by (Some w) es e splices quiet some are = are w refl ∙ quiet_event w (plain_event e.event) quiet

quiet_step : (k later : WorldRecord) (e : Entry) (s : Step) → HasEntered e k later s → may_splice (plain_event e.event) ≡ false → s.splices.items ≡ []
quiet_step k later e s h quiet =
    let runs : IsSome (option_and_then (λ (w : World). run_from w (plain_entry e ∷ [])) (run later.capacity later.limits (plain_entries k.history))) =
    subst (λ (o : Option World). IsSome o)
    (ap (λ (es : List PlainEntry). run later.capacity later.limits es) (history_with k later e s h)
    ∙ run-append (fresh_world later.capacity later.limits) (plain_entries k.history) (plain_entry e ∷ []))
    h.runs in
    quiet_by (run later.capacity later.limits (plain_entries k.history)) (plain_entry e ∷ []) e s.splices.items quiet runs
    (λ w is. h.splices.last k.history e w (ap (λ (world : WorldRecord). world.history) h.world) is)

model_then : (k later : WorldRecord) (e : Entry) (s : Step) (w : World) → HasEntered e k later s → model_of k ≡ Some w
    → run later.capacity later.limits (plain_entries k.history) ≡ Some w
model_then k later e s w h is =
    (λ i. run ((h.world i).capacity) ((h.world i).limits) (plain_entries k.history)) ∙ is

follows : (before : List Sight) (k later : WorldRecord) (e : Entry) (s : Step) → HasEntered e k later s → IsLastWorld before k → FollowsNext before (sight later s)
follows before k later e s h here = record {
  last = here.last;
  last_is = here.last_is;
  entry = plain_entry e;
  more = subst (λ (w : WorldRecord). HasOneMore w later (plain_entry e)) (sym here.world_is) (one_more k later e s h);
  number = h.number ∙ sym (plain_count k.history) ∙ ap (λ (w : WorldRecord). length (plain_entries w.history)) (sym here.world_is);
  splices = λ w is.
      h.splices.last k.history e w (ap (λ (world : WorldRecord). world.history) h.world)
      (model_then k later e s w h (ap model_of (sym here.world_is) ∙ is));
}

quietly : (before : List Sight) (k later : WorldRecord) (e : Entry) (s : Step) → HasEntered e k later s → may_splice (plain_event e.event) ≡ false → IsLastWorld before k
    → FollowsQuietly before (sight later s)
quietly before k later e s h quiet here = record { next = follows before k later e s h here; quiet = quiet_step k later e s h quiet }

-- ---- one step of one watcher
pub along : (going splices : Bool) (k later : WorldRecord) (e : Entry) (s : Step) (Saw Lagged Mid Between Sees Lags : List Sight → Type 0) (Broke Breaking Breaks : Rule)
    → may_splice (plain_event e.event) ≡ splices → HasEntered e k later s
    → IsPrepared splices k Saw Lagged Mid Between Broke Breaking → HasLookedOn going (sight later s) Mid Between Sees Lags Breaking Breaks
    → GoesAlong going k (sight later s) Saw Lagged Sees Lags Broke Breaks
along going splices k later e s Saw Lagged Mid Between Sees Lags Broke Breaking Breaks is h p g = record {
  first = λ f before saw. g.first f before (p.same before saw);
  next = λ f before had here. by_case splices is p f before had here;
  rule = λ before y. ((λ b. (g.rule before y).0 ((p.rule before y).0 b)), (λ b. (p.rule before y).1 ((g.rule before y).1 b)));
}
  where
    by_case : (b : Bool) → may_splice (plain_event e.event) ≡ b → IsPrepared b k Saw Lagged Mid Between Broke Breaking
        → going ≡ true → (before : List Sight) → Saw before ⊎ Lagged before → IsLastWorld before k → Lags (before ++ sight later s ∷ [])
    by_case b may q f before (inl saw) here = g.next f before (q.same before saw) (follows before k later e s h here)
    by_case true may q f before (inr lagged) here = g.next f before (q.caught refl before lagged here) (follows before k later e s h here)
    by_case false may q f before (inr lagged) here = g.later f before (q.stays refl before lagged) (quietly before k later e s h may here)

-- a step was shown to one, or it glanced at it
pub watched_first : (x : Sight) (Saw Lagged Sees Lags : List Sight → Type 0) (Broke Breaks : Rule)
    → ((before : List Sight) → Saw before → Sees (before ++ x ∷ [])) → ((before : List Sight) (y : Sight) → Broke before y ↔ Breaks before y)
    → HasLookedOn false x Saw Lagged Sees Lags Broke Breaks
watched_first x Saw Lagged Sees Lags Broke Breaks saw rule = record {
  first = λ f before h. saw before h;
  next = λ f before h next. absurd (true≢false (sym f));
  later = λ f before h next. absurd (true≢false (sym f));
  rule = rule;
}

pub watched_next : (x : Sight) (Saw Lagged Sees Lags : List Sight → Type 0) (Broke Breaks : Rule) → HasGlanced x Saw Lagged Lags Broke Breaks
    → HasLookedOn true x Saw Lagged Sees Lags Broke Breaks
watched_next x Saw Lagged Sees Lags Broke Breaks g = record {
  first = λ f before h. absurd (true≢false f);
  next = λ f before h next. g.first before h next;
  later = λ f before h next. g.later before h next;
  rule = g.rule;
}

pub unprepared : (k : WorldRecord) (Saw Lagged : List Sight → Type 0) (Broke : Rule) → IsPrepared false k Saw Lagged Saw Lagged Broke Broke
unprepared k Saw Lagged Broke = record {
  same = λ before h. h;
  stays = λ _ before h. h;
  caught = λ e before h here. absurd (true≢false (sym e));
  rule = λ before y. ((λ h. h), (λ h. h));
}

pub prepared_by : (k : WorldRecord) (Saw Lagged Sees Lags : List Sight → Type 0) (Broke Breaks : Rule) → HasCaughtUp k Saw Lagged Sees Broke Breaks
    → IsPrepared true k Saw Lagged Sees Lags Broke Breaks
prepared_by k Saw Lagged Sees Lags Broke Breaks h = record {
  same = h.same;
  stays = λ e before lagged. absurd (true≢false e);
  caught = λ _ before lagged here. h.seen before lagged here;
  rule = h.rule;
}

-- ---- all watchers
pub middle : {B : Type 0} (ws us : List B) (i : ℕ) (a : B) → length us ≡ length ws → slice_get ws i ≡ Some a → (m : B) × (slice_get us i ≡ Some m)
middle ws us i a count was =
    let within : i < length us = omega (arith, slice_get_within ws i a was, count) in
    (get_or us i a, slice_get-get_or us i a within)

module _ {B : Type 0} (HasSeen IsBehind : B → List Sight → Type 0) (Breaks : B → Rule) where
  pub follow_none : (ws : List B) (k : WorldRecord) → AreFollowing ws ws false [] k HasSeen IsBehind Breaks
  follow_none ws k = record {
    count = refl;
    kept = λ i a b before was is h. (refl, subst (λ (x : B). HasSeen x before) (same_Some a b (sym was ∙ is)) h);
    rule = λ i a b before x was is. subst (λ (y : B). Breaks a before x ↔ Breaks y before x) (same_Some a b (sym was ∙ is)) ((λ h. h), (λ h. h));
  }

  pub follow_same : (going : Bool) (ws us : List B) (seen : List Sight) (k later : WorldRecord) → AreFollowing ws us going seen k HasSeen IsBehind Breaks → later ≡ k
      → AreFollowing ws us going seen later HasSeen IsBehind Breaks
  follow_same going ws us seen k later w is = subst (λ (world : WorldRecord). AreFollowing ws us going seen world HasSeen IsBehind Breaks) (sym is) w

  keeps_on : (going : Bool) (b c : B) (before seen : List Sight) (k later : WorldRecord) (x : Sight) → x.world ≡ later
      → GoesAlong going k x (HasSeen b) (IsBehind b) (HasSeen c) (IsBehind c) (Breaks b) (Breaks c)
      → KeepsUp going (HasSeen b) (IsBehind b) before seen k → KeepsUp true (HasSeen c) (IsBehind c) before (seen ++ x ∷ []) later
  keeps_on false b c before seen k later x is g had = (
    inl (subst (λ (xs : List Sight). HasSeen c (before ++ (xs ++ x ∷ []))) (sym had.0) (g.first refl before had.1)),
    last_of_more seen x later is,
  )
  keeps_on true b c before seen k later x is g had = (
    inr (subst (λ (xs : List Sight). IsBehind c xs) (append_assoc before seen (x ∷ [])) (g.next refl (before ++ seen) had.0 (last_behind before seen k had.1))),
    last_of_more seen x later is,
  )

  pub follow_more : (going : Bool) (ws us vs : List B) (seen : List Sight) (k later : WorldRecord) (x : Sight) → AreFollowing ws us going seen k HasSeen IsBehind Breaks
      → length vs ≡ length us → x.world ≡ later
      → ((i : ℕ) (b c : B) → slice_get us i ≡ Some b → slice_get vs i ≡ Some c → GoesAlong going k x (HasSeen b) (IsBehind b) (HasSeen c) (IsBehind c) (Breaks b) (Breaks c))
      → AreFollowing ws vs true (seen ++ x ∷ []) later HasSeen IsBehind Breaks
  follow_more going ws us vs seen k later x w many is goes = record {
    count = many ∙ w.count;
    kept = λ i a c before was there h.
        let mid = middle ws us i a w.count was in
        keeps_on going mid.0 c before seen k later x is (goes i mid.0 c mid.1 there) (w.kept i a mid.0 before was mid.1 h);
    rule = λ i a c before y was there.
        let mid = middle ws us i a w.count was in
        let one = w.rule i a mid.0 before y was mid.1 in
        let two = (goes i mid.0 c mid.1 there).rule before y in
        ((λ h. two.0 (one.0 h)), (λ h. one.1 (two.1 h)));
  }

  all_kept : (going : Bool) (b c : B) (before seen : List Sight) (k : WorldRecord) → HasCaughtUp k (HasSeen b) (IsBehind b) (HasSeen c) (Breaks b) (Breaks c)
      → KeepsUp going (HasSeen b) (IsBehind b) before seen k → HasSeen c (before ++ seen)
  all_kept false b c before seen k caught had =
      subst (λ (xs : List Sight). HasSeen c (before ++ xs)) (sym had.0) (subst (λ (xs : List Sight). HasSeen c xs) (sym (append-nil before)) (caught.same before had.1))
  all_kept true b c before seen k caught (inl saw, here) = caught.same (before ++ seen) saw
  all_kept true b c before seen k caught (inr lags, here) = caught.seen (before ++ seen) lags (last_behind before seen k here)

  -- in the end all caught up
  pub follow_all : (going : Bool) (ws us vs : List B) (seen : List Sight) (k : WorldRecord) → AreFollowing ws us going seen k HasSeen IsBehind Breaks → length vs ≡ length us
      → ((i : ℕ) (b c : B) → slice_get us i ≡ Some b → slice_get vs i ≡ Some c → HasCaughtUp k (HasSeen b) (IsBehind b) (HasSeen c) (Breaks b) (Breaks c))
      → AreWatching ws vs seen HasSeen Breaks
  follow_all going ws us vs seen k w many caught = record {
    count = many ∙ w.count;
    saw = λ i a c before was there h.
        let mid = middle ws us i a w.count was in
        all_kept going mid.0 c before seen k (caught i mid.0 c mid.1 there) (w.kept i a mid.0 before was mid.1 h);
    rule = λ i a c before y was there.
        let mid = middle ws us i a w.count was in
        let one = w.rule i a mid.0 before y was mid.1 in
        let two = (caught i mid.0 c mid.1 there).rule before y in
        ((λ h. two.0 (one.0 h)), (λ h. one.1 (two.1 h)));
  }
