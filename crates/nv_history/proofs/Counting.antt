-- What a world counts, and the lines that are seen.
use Rattle.std.proofs.Common.{◌≡◌, ℕ, zero, suc, ◌+◌, ◌-◌, List, [], ◌∷◌, ◌++◌, length, map, take, refl, ap, sym, ◌∙◌, subst, arith, length-append, length-set, slice_get, Bool, true, false, Option, Some, None, is_some, nat_lt, nat_le}
use Rattle.std.specs.Prelude.{option_and_then, ◌==◌, ◌&&◌}
use Rattle.std.specs.Option.{option_or}
use Rattle.std.proofs.lemmas.List.{take_all}
use Rattle.std.proofs.lemmas.Option.{none-some, same_Some}
use Rattle.std.proofs.lemmas.Bool.Decides.{nat_tests}
use Rattle.nv_places.specs.Flat.{lines_of}
use Rattle.nv_rpc.specs.Messages.{Sent}
use Rattle.nv_model.specs.Buffers.{Splice, ModelBuffer, tick_of}
use Rattle.nv_model.specs.Editors.{at_handle}
use Rattle.nv_model.specs.Answers.{Fact}
use Rattle.nv_dispatch.specs.Telling.{past_at, splices_had, text_then}
use Rattle.nv_dispatch.specs.Laws.{FactsTellPasts, SoundnessIsKept}
use Rattle.nv_dispatch.proofs.Fitting.{text_is}
use Rattle.nv_history.specs.Events.{Event, open_session, request_of, take_of, close_of, Entry}
use Rattle.nv_history.specs.Sessions.{Session, fresh_session, session_quit, sessions_after_call, reply_message}
use Rattle.nv_history.specs.Worlds.{World, fresh_world, with_session_at, world_ended_if, world_counted, sessions_losing_uis, world_without_uis, world_at_end, after_entry, after_settled_entry, outcome_of_frame, world_after_call, step, world_made}
use Rattle.nv_history.specs.Runs.{run_from}
use Rattle.nv_history.specs.Asking.{count_opened, opened_in}
use Rattle.nv_history.specs.Laws.{LinesNowAreSeen, HistoriesCount, NumbersAreSessions}
use Rattle.nv_history.proofs.GoingRuns.{run_sound}
use Rattle.nv_history.proofs.Staging.{world_then}
use Rattle.nv_history.proofs.Makings.{Makes, step_makes}

-- ---- one entry
record Goes (w v : World) (opened : ℕ) : Type 0 where
  entries : v.entries ≡ w.entries + 1
  sessions : length v.sessions ≡ opened
  same_capacity : v.capacity ≡ w.capacity
  same_limits : v.limits ≡ w.limits

-- a world with other sessions, and the same otherwise
record Likens (w v : World) (opened : ℕ) : Type 0 where
  entries : v.entries ≡ w.entries
  sessions : length v.sessions ≡ opened
  same_capacity : v.capacity ≡ w.capacity
  same_limits : v.limits ≡ w.limits

length-each : (f : Session → Session) (xs : List Session) → length (map f xs) ≡ length xs
length-each f [] = refl
length-each f (x ∷ xs) = ap (λ n. suc n) (length-each f xs)

ended_likens : (w : World) (b : Bool) → Likens w (world_ended_if b w) (length w.sessions)
ended_likens w true = record { entries = refl; sessions = length-each (session_quit w.entries) w.sessions; same_capacity = refl; same_limits = refl }
ended_likens w false = record { entries = refl; sessions = refl; same_capacity = refl; same_limits = refl }

without_likens : (is_seen : Bool) (ss : List ℕ) (w : World) → Likens w (world_without_uis is_seen ss w) (length w.sessions)
without_likens true [] w = record { entries = refl; sessions = refl; same_capacity = refl; same_limits = refl }
without_likens false [] w = record { entries = refl; sessions = refl; same_capacity = refl; same_limits = refl }
without_likens is_seen (s ∷ ss) w = record { entries = refl; sessions = refl; same_capacity = refl; same_limits = refl }

at_end_goes : (is_seen : Bool) (w u : World) (opened : ℕ) → Likens w u opened → Goes w (world_counted (world_at_end is_seen u)) opened
at_end_goes is_seen w u opened h =
    let l = ended_likens u (u.entries + 1 == u.limits.entries) in
    let k = without_likens is_seen (sessions_losing_uis (world_then u)) (world_then u) in record {
      entries = ap (λ (n : ℕ). n + 1) (k.entries ∙ l.entries ∙ h.entries);
      sessions = k.sessions ∙ l.sessions ∙ h.sessions;
      same_capacity = k.same_capacity ∙ l.same_capacity ∙ h.same_capacity;
      same_limits = k.same_limits ∙ l.same_limits ∙ h.same_limits;
    }

by_entry : (w u v : World) (opened : ℕ) → Likens w u opened → v ≡ after_entry u → Goes w v opened
by_entry w u v opened h e = subst (λ (x : World). Goes w x opened) (sym e) (at_end_goes false w u opened h)

by_settled_entry : (is_seen : Bool) (w u v : World) (opened : ℕ) → Likens w u opened → v ≡ after_settled_entry is_seen u → Goes w v opened
by_settled_entry is_seen w u v opened h e =
    let g = at_end_goes is_seen w u opened h in
    subst (λ (x : World). Goes w x opened) (sym e)
    (record { entries = g.entries; sessions = g.sessions; same_capacity = g.same_capacity; same_limits = g.same_limits })

set_likens : (w : World) (s : ℕ) (x : Session) → Likens w (with_session_at w s x) (length w.sessions)
set_likens w zero x = record { entries = refl; sessions = refl; same_capacity = refl; same_limits = refl }
set_likens w (suc p) x = record { entries = refl; sessions = length-set w.sessions p x; same_capacity = refl; same_limits = refl }

length-told : (at capacity caller k : ℕ) (facts : List Fact) (answer : Option Sent) (xs : List Session) → length (sessions_after_call at capacity caller k facts answer xs) ≡ length xs
length-told at capacity caller k facts answer [] = refl
length-told at capacity caller k facts answer (x ∷ xs) = ap (λ n. suc n) (length-told at capacity caller (k + 1) facts answer xs)

makes_count : (w v : World) (event : Event) → Makes w event v → Goes w v (count_opened (length w.sessions) event)
makes_count w v open_session made =
    by_entry w (record w { sessions = w.sessions ++ fresh_session ∷ [] }) v (length w.sessions + 1)
    (record { entries = refl; sessions = length-append w.sessions (fresh_session ∷ []); same_capacity = refl; same_limits = refl }) made
makes_count w v (request_of s call) made =
    by_settled_entry (outcome_of_frame w.editor s call).is_seen w (world_after_call w s call (outcome_of_frame w.editor s call)) v (length w.sessions)
    (record {
      entries = refl;
      sessions = length-told w.entries w.capacity s 1 (outcome_of_frame w.editor s call).facts (reply_message call (outcome_of_frame w.editor s call).result) w.sessions;
      same_capacity = refl;
      same_limits = refl;
    }) made.made
makes_count w v (take_of s) made = by_entry w (with_session_at w s _) v (length w.sessions) (set_likens w s _) made.made
makes_count w v (close_of s) made = by_settled_entry false w (with_session_at w s _) v (length w.sessions) (set_likens w s _) made.made

step_counts : (w v : World) (event : Event) → world_made (step w event) ≡ Some v → Goes w v (count_opened (length w.sessions) event)
step_counts w v event f = makes_count w v event (step_makes w v event f)

-- ---- a run
record Counted (w v : World) (es : List Entry) : Type 0 where
  entries : v.entries ≡ w.entries + length es
  sessions : length v.sessions ≡ opened_in (length w.sessions) es
  same_capacity : v.capacity ≡ w.capacity
  same_limits : v.limits ≡ w.limits

counts_next : (w v : World) (e : Entry) (es : List Entry) (o : Option World) → ((u : World) → o ≡ Some u → Goes w u (count_opened (length w.sessions) e.event))
    → ((u : World) → run_from u es ≡ Some v → Counted u v es) → option_and_then (λ u. run_from u es) o ≡ Some v → Counted w v (e ∷ es)
counts_next w v e es None first rest f = absurd (none-some v f)
counts_next w v e es (Some u) first rest f =
    let g = first u refl in
    let h = rest u f in record {
      entries = omega (arith, g.entries, h.entries);
      sessions = h.sessions ∙ ap (λ (n : ℕ). opened_in n es) g.sessions;
      same_capacity = h.same_capacity ∙ g.same_capacity;
      same_limits = h.same_limits ∙ g.same_limits;
    }

run_counts : (w v : World) (es : List Entry) → run_from w es ≡ Some v → Counted w v es
run_counts w v [] f =
    subst (λ (x : World). Counted w x []) (same_Some w v f) (record { entries = omega arith; sessions = refl; same_capacity = refl; same_limits = refl })
run_counts w v (e ∷ es) f = counts_next w v e es (world_made (step w e.event)) (λ u g. step_counts w u e.event g) (λ u g. run_counts u v es g) f

pub histories_count : HistoriesCount
unfolding HistoriesCount
histories_count capacity limits history w e =
    let h = run_counts (fresh_world capacity limits) w history e in
    record { entries = h.entries ∙ omega arith; sessions = h.sessions; same_capacity = h.same_capacity; same_limits = h.same_limits }

is_there : (xs : List Session) (p : ℕ) → is_some (slice_get xs p) ≡ (nat_lt 0 (suc p) && nat_le (suc p) (length xs))
is_there [] p = grind (arith, nat_tests)
is_there (x ∷ xs) zero = grind (arith, nat_tests)
is_there (x ∷ xs) (suc p) = is_there xs p ∙ grind (arith, nat_tests)

pub numbers_are_sessions : NumbersAreSessions
unfolding NumbersAreSessions
numbers_are_sessions w zero = grind (arith, nat_tests)
numbers_are_sessions w (suc p) = is_there w.sessions p

-- ---- the lines of now
module _ (facts_tell : FactsTellPasts) (stay_sound : SoundnessIsKept) where
  pub lines_now_are_seen : LinesNowAreSeen
  unfolding LinesNowAreSeen
  lines_now_are_seen capacity limits history w n b e is =
      let sound = (run_sound facts_tell stay_sound capacity limits history w e).buffers n b is in
      let had : (past_at w.editor n).splices ≡ b.splices = ap (λ (o : Option ModelBuffer). splices_had (option_or o (at_handle w.editor.deleted n))) is in
      ap (λ (l : List Splice). lines_of (text_then (take (tick_of b - 2) l))) had
      ∙ ap (λ (l : List Splice). lines_of (text_then l)) (take_all (tick_of b - 2) b.splices (omega arith))
      ∙ ap lines_of (sym (text_is b sound))
