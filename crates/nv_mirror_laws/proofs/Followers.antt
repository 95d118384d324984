-- What is due to a session whose one call follows a buffer: messages about that buffer, and the answer.
use Rattle.std.proofs.Common.{◌≡◌, ℕ, zero, suc, ◌^◌, ◌<◌, ◌≤◌, ℤ, pos, negsuc, lit<, FitsSigned, w64, List, [], ◌∷◌, ◌++◌, length, filter, not, cond, ◌||◌, refl, ap, sym, ◌∙◌, subst, append_assoc, append-nil, slice_get, arith, Bool, true, false, Option, Some, None}
use Rattle.std.specs.Prelude.{◌==◌, option_map}
use Rattle.std.specs.List.{list_any, AllByRecursion}
use Rattle.std.specs.Ordering.{int_eq}
use Rattle.std.proofs.lemmas.Bool.{false≢true}
use Rattle.std.proofs.lemmas.Option.{none-some}
use Rattle.nv_value.specs.Content.{Trees, count, nil, truth}
use Rattle.nv_args.specs.Faults.{no_buffer}
use Rattle.nv_args.specs.Texts.{strings}
use Rattle.nv_msgpack.specs.Shortest.{depths, HaveSpellings, AreInRange}
use Rattle.nv_rpc.specs.Calls.{Call, request}
use Rattle.nv_rpc.specs.Messages.{Sent, reply, detach_event}
use Rattle.nv_buffer.specs.declared.buffer.Spliced.{Spliced}
use Rattle.nv_model.specs.Buffers.{ModelBuffer}
use Rattle.nv_model.specs.Answers.{Fact, attached, detached, edited, deleted, quit}
use Rattle.nv_model.specs.Editors.{ModelEditor, at_handle}
use Rattle.nv_model.specs.Seen.{SeenBuffer, seen_buffer, seen_of}
use Rattle.nv_model.specs.declared.parts.Limits.{Limits}
use Rattle.nv_model.proofs.Lookups.{same_int, int_eq-itself}
use Rattle.nv_dispatch.specs.Calls.{CallOutcome}
use Rattle.nv_history.specs.Asking.{calls_of}
use Rattle.nv_history.specs.Events.{request_of, Entry, Cause, quit_at}
use Rattle.nv_history.specs.Sessions.{Session, follows, with_following, without_following, session_closed_by, session_with_message, session_told, session_told_if, session_joined, session_parted, open_session_hears, unless_closed, session_hears, session_hears_all, session_replied, session_quit, session_quit_if, session_after_call, first_message, splice_message, reply_message, has_quit}
use Rattle.nv_history.specs.Worlds.{World, fresh_world}
use Rattle.nv_history.specs.Runs.{run, out, all_messages}
use Rattle.nv_history.proofs.Makings.{step_makes}
use Rattle.nv_mirror_laws.specs.Laws.{AreTyped, attach_call, IsSentTo}
use Rattle.nv_mirror_laws.proofs.Bounds.{CanBeSpelled, IsOf, IsServed, lines_can, all_within}
use Rattle.nv_mirror_laws.proofs.ModestCalls.{IsEventFit, AreLinesFit, FactFits, ModestWorld, frame_fits, makes_modest, fresh_editor_modest}
use Rattle.nv_mirror_laws.proofs.ModestRows.{IsModestModel, text_now, tick_now}
use Rattle.nv_mirror_laws.proofs.Tellable.{IsShort}
use Rattle.nv_mirror_laws.proofs.OneRequest.{attach_name, attach_given, attach_outcome, comes_to, attach_spares}
use Rattle.nv_mirror_laws.proofs.Quiet.{KnowsFacts, IsKept}
use Rattle.nv_mirror_laws.proofs.Replies.{Calm, IsNothing, OneCall, CutRun, one_call, cut_run, passes}
use Rattle.nv_mirror_laws.proofs.Unshown.{both_all, parts_all, CallSpares, bare_out}

-- what a session was given and waits is about one buffer, and it is attached to no other
abbrev pub FollowsOne : ℤ → List Sent → Option Session → Type 0
FollowsOne n o None = ⊥
FollowsOne n o (Some x) = AllByRecursion (IsOf n) (o ++ x.waiting) × AllByRecursion (λ (k : ℤ). k ≡ n) x.following

strings_flat : (lines : List (List ℕ)) → depths (strings lines) ≡ 0
strings_flat [] = refl
strings_flat (line ∷ lines) = let e = strings_flat lines in omega (arith, e)

row_fits : (row : ℕ) → row < 2 ^ 32 → FitsSigned w64 (pos row)
row_fits row low = record { sfits = omega (arith, low) }

tick_fits : (tick : ℕ) → tick < 2 ^ 63 → FitsSigned w64 (pos tick)
tick_fits tick low = record { sfits = omega (arith, low) }

minus_one : FitsSigned w64 (negsuc 0)
minus_one = record { sfits = omega arith }

count_strings : (lines : List (List ℕ)) → count (strings lines) ≡ length lines
count_strings [] = refl
count_strings (line ∷ lines) = ap (λ (n : ℕ). suc n) (count_strings lines)

strings_have : (lines : List (List ℕ)) → AllByRecursion IsShort lines → HaveSpellings (strings lines)
strings_have [] all = tt
strings_have (line ∷ lines) all = (all.0, strings_have lines all.1)

strings_range : (lines : List (List ℕ)) → AreInRange (strings lines)
strings_range [] = tt
strings_range (line ∷ lines) = (tt, strings_range lines)

spelled_first : (k : ℤ) (tick : ℕ) (lines : List (List ℕ)) → AreLinesFit tick lines → CanBeSpelled (first_message k tick (Some lines))
spelled_first k tick lines fit =
    lines_can k (pos tick) (pos 0) (negsuc 0) (strings lines) (tick_fits tick fit.low) (row_fits 0 (lit< tt)) minus_one
    (subst (λ (n : ℕ). n < 2 ^ 32) (sym (count_strings lines)) fit.few) (strings_have lines fit.short) (strings_range lines)

-- ---- what it hears
one_message : (n : ℤ) (b : Bool) (o : List Sent) (at : ℕ) (m : Sent) (x : Session) → IsOf n m → FollowsOne n o (Some x) → FollowsOne n o (Some (session_with_message b at m x))
one_message n true o at m x is h = (h.0, tt)
one_message n false o at m x is h =
    (subst (λ (l : List Sent). AllByRecursion (IsOf n) l) (append_assoc o x.waiting (m ∷ [])) (both_all (IsOf n) (o ++ x.waiting) (m ∷ []) h.0 (is, tt)), h.1)

one_unless : (n : ℤ) (c : Option Cause) (o : List Sent) (x y : Session) → FollowsOne n o (Some x) → FollowsOne n o (Some y) → FollowsOne n o (Some (unless_closed c y x))
one_unless n None o x y h k = k
one_unless n (Some cause) o x y h k = h

found_step : (k n j : ℤ) (js : List ℤ) (b : Bool) → int_eq j k ≡ b → j ≡ n → (b || list_any (λ i. int_eq i k) js) ≡ true → (list_any (λ i. int_eq i k) js ≡ true → k ≡ n) → k ≡ n
found_step k n j js true e is h more = sym (same_int j k e) ∙ is
found_step k n j js false e is h more = more h

found_one : (k n : ℤ) (js : List ℤ) → AllByRecursion (λ (j : ℤ). j ≡ n) js → list_any (λ i. int_eq i k) js ≡ true → k ≡ n
found_one k n [] all e = absurd (false≢true e)
found_one k n (j ∷ js) all e = found_step k n j js (int_eq j k) refl all.0 e (λ f. found_one k n js all.1 f)

kept_step : (n k j : ℤ) (js : List ℤ) (b : Bool) → j ≡ n → AllByRecursion (λ (i : ℤ). i ≡ n) (filter (λ i. not (int_eq i k)) js)
    → AllByRecursion (λ (i : ℤ). i ≡ n) (cond (not b) (j ∷ filter (λ i. not (int_eq i k)) js) (filter (λ i. not (int_eq i k)) js))
kept_step n k j js true is more = more
kept_step n k j js false is more = (is, more)

kept_others : (n k : ℤ) (js : List ℤ) → AllByRecursion (λ (i : ℤ). i ≡ n) js → AllByRecursion (λ (i : ℤ). i ≡ n) (filter (λ i. not (int_eq i k)) js)
kept_others n k [] all = tt
kept_others n k (j ∷ js) all = kept_step n k j js (int_eq j k) all.0 (kept_others n k js all.1)

spelled_event : (k : ℤ) (e : Spliced) → IsEventFit e → CanBeSpelled (splice_message k e)
spelled_event k e fit =
    lines_can k e.tick (pos e.edit.first) (pos e.edit.last) (strings e.edit.lines) fit.tick (row_fits e.edit.first fit.first) (row_fits e.edit.last fit.last)
    (subst (λ (n : ℕ). n < 2 ^ 32) (sym (count_strings e.edit.lines)) fit.few) (strings_have e.edit.lines fit.short) (strings_range e.edit.lines)

told_if : (n : ℤ) (b : Bool) (o : List Sent) (at capacity : ℕ) (m : Sent) (x : Session) → (b ≡ true → IsOf n m) → FollowsOne n o (Some x) → FollowsOne n o (Some (session_told_if b at capacity m x))
told_if n true o at capacity m x is h = one_message n (length x.waiting == capacity) o at m x (is refl) h
told_if n false o at capacity m x is h = h

parted_if : (n k : ℤ) (b : Bool) (o : List Sent) (at capacity : ℕ) (x : Session) → (b ≡ true → k ≡ n) → FollowsOne n o (Some x) → FollowsOne n o (Some (session_parted b at capacity k x))
parted_if n k true o at capacity x is h =
    one_message n (length x.waiting == capacity) o at (detach_event k) (without_following k x) (is refl) (h.0, kept_others n k x.following h.1)
parted_if n k false o at capacity x is h = h

joined_if : (n k : ℤ) (b : Bool) (o : List Sent) (at capacity : ℕ) (m : Sent) (x : Session) → k ≡ n → IsOf n m → FollowsOne n o (Some x) → FollowsOne n o (Some (session_joined true b at capacity k m x))
joined_if n k true o at capacity m x is of h = h
joined_if n k false o at capacity m x is of h = one_message n (length x.waiting == capacity) o at m (with_following k x) of (h.0, (is, h.1))

-- a fact of another session's call
other_fact : (n : ℤ) (o : List Sent) (at capacity : ℕ) (fact : Fact) (x : Session) → FactFits n fact → FollowsOne n o (Some x) → FollowsOne n o (Some (open_session_hears at capacity false fact x))
other_fact n o at capacity (attached k tick whole) x fit h = h
other_fact n o at capacity (detached k) x fit h = h
other_fact n o at capacity (edited k told) x fit h =
    told_if n (follows k x) o at capacity (splice_message k told) x (λ e.
    let same : k ≡ n = found_one k n x.following h.1 e in
    (same, strings_flat told.edit.lines, spelled_event k told (fit (ap (λ (j : ℤ). int_eq j n) same ∙ int_eq-itself n)))) h
other_fact n o at capacity (deleted k) x fit h = parted_if n k (follows k x) o at capacity x (λ e. found_one k n x.following h.1 e) h
other_fact n o at capacity quit x fit h = h

other_facts : (n : ℤ) (o : List Sent) (at capacity : ℕ) (facts : List Fact) (x : Session) → AllByRecursion (FactFits n) facts → FollowsOne n o (Some x) → FollowsOne n o (Some (session_hears_all at capacity false facts x))
other_facts n o at capacity [] x fit h = h
other_facts n o at capacity (fact ∷ facts) x fit h =
    other_facts n o at capacity facts (session_hears at capacity false fact x) fit.1
    (one_unless n x.closed o x (open_session_hears at capacity false fact x) h (other_fact n o at capacity fact x fit.0 h))

one_quit : (n : ℤ) (o : List Sent) (at : ℕ) (x : Session) → FollowsOne n o (Some x) → FollowsOne n o (Some (session_quit at x))
one_quit n o at x h = one_unless n x.closed o x (session_closed_by (quit_at at) x) h (h.0, tt)

one_quit_if : (n : ℤ) (b : Bool) (o : List Sent) (at : ℕ) (x : Session) → FollowsOne n o (Some x) → FollowsOne n o (Some (session_quit_if b at x))
one_quit_if n true o at x h = one_quit n o at x h
one_quit_if n false o at x h = h

one_kept : (n : ℤ) → IsKept (FollowsOne n) (AllByRecursion (FactFits n))
one_kept n = record {
  ends = record { quits = λ o at x h. one_quit n o at x h };
  opens = λ o h. absurd h;
  hears = λ o at capacity facts answer x fit h.
      one_quit_if n (has_quit facts) o at (session_hears_all at capacity false facts x) (other_facts n o at capacity facts x fit h);
  closes = λ o cause x h. (h.0, tt);
  takes = λ o stamp x h. (subst (λ (l : List Sent). AllByRecursion (IsOf n) l) (sym (append-nil (o ++ x.waiting))) h.0, h.1);
}

-- ---- its own call
calm_follows : (n : ℤ) (o : List Sent) (x : Session) → Calm IsNothing o (Some x) → FollowsOne n o (Some x)
calm_follows n o x h =
    (subst (λ (l : List Sent). AllByRecursion (IsOf n) l) (sym h.1) tt, subst (λ (l : List ℤ). AllByRecursion (λ (k : ℤ). k ≡ n) l) (sym h.0) tt)

one_reply : (n : ℤ) (o : List Sent) (at capacity : ℕ) (m : Sent) (x : Session) → IsOf n m → FollowsOne n o (Some x) → FollowsOne n o (Some (session_replied true at capacity (Some m) x))
one_reply n o at capacity m x is h = one_unless n x.closed o x (session_told at capacity m x) h (one_message n (length x.waiting == capacity) o at m x is h)

-- what it is told first, where the buffer is there
abbrev FitsIfFound : Option SeenBuffer → Type 0
FitsIfFound None = Unit {0}
FitsIfFound (Some b) = AreLinesFit b.tick b.lines

found_fits : (ls : Limits) (m : ModelEditor) (n : ℤ) (o : Option ModelBuffer) → at_handle m.buffers n ≡ o → IsModestModel ls m → FitsIfFound (option_map seen_buffer o)
found_fits ls m n None e h = tt
found_fits ls m n (Some b) e h =
    let text = text_now ls m n b h e in
    record { low = tick_now ls m n b h e; few = text.few; short = text.short }

answered : (m : ModelEditor) (n : ℕ) (name : List ℕ) (args : Trees) (found : Option SeenBuffer) → FitsIfFound found → (o : List Sent) (at capacity : ℕ) (x : Session) → FollowsOne (pos n) o (Some x)
    → FollowsOne (pos n) o
    (Some (session_after_call at capacity true (attach_outcome m n found).facts (reply_message (request 1 name args) (attach_outcome m n found).result) x))
answered m n name args None fit o at capacity x h = one_reply (pos n) o at capacity (reply 1 (Some (no_buffer (pos n))) nil) x (refl, refl) h
answered m n name args (Some b) fit o at capacity x h =
    let fact : Fact = attached (pos n) b.tick (Some b.lines) in
    let y : Session = session_hears at capacity true fact x in
    one_reply (pos n) o at capacity (reply 1 None (truth true)) y (refl, refl)
    (one_unless (pos n) x.closed o x (open_session_hears at capacity true fact x) h
    (joined_if (pos n) (pos n) (follows (pos n) x) o at capacity (first_message (pos n) b.tick (Some b.lines)) x refl (refl, strings_flat b.lines, spelled_first (pos n) b.tick b.lines fit) h))

-- ---- a run
-- what was given at first is part of what is due
found_session : (n : ℤ) (o : List Sent) (y : Option Session) → FollowsOne n o y → (x : Session) × (y ≡ Some x) × AllByRecursion (IsOf n) o
found_session n o None h = absurd h
found_session n o (Some x) h = (x, refl, (parts_all (IsOf n) o x.waiting h.0).0)

knows_facts : (ls : Limits) → AreTyped ls → (n : ℤ) → KnowsFacts (AllByRecursion (FactFits n)) (ModestWorld ls)
knows_facts ls types n = record {
  entries = makes_modest ls types;
  facts = λ w s call h. frame_fits ls types n w.editor s call h;
}

in_run : (capacity : ℕ) (limits : Limits) (i n : ℕ) (history : List Entry) (v : World) → AreTyped limits → 1 ≤ n → run capacity limits history ≡ Some v → calls_of (suc i) history ≡ attach_call (pos n) ∷ []
    → FollowsOne (pos n) (all_messages (out capacity limits (suc i) history)) (slice_get v.sessions i)
in_run capacity limits i n history v types some e only =
    let call : Call = attach_call (pos n) in
    let one : OneCall (suc i) (attach_call (pos n)) history = one_call (suc i) call history only in
    let c : CutRun (suc i) (attach_call (pos n)) (fresh_world capacity limits) v history one = cut_run (suc i) call (fresh_world capacity limits) v history one e in
    passes (FollowsOne (pos n)) (AllByRecursion (FactFits (pos n))) (ModestWorld limits) (one_kept (pos n)) (knows_facts limits types (pos n)) i 1 attach_name (attach_given (pos n)) (fresh_world capacity limits) v history one c refl
    (fresh_editor_modest limits)
    (λ o at cap x known h.
    subst (λ (r : CallOutcome). FollowsOne (pos n) o (Some (session_after_call at cap true r.facts (reply_message call r.result) x)))
    (sym (comes_to c.world.editor (suc i) n some))
    (answered c.world.editor n attach_name (attach_given (pos n)) ((seen_of c.world.editor).buffer (pos n)) (found_fits limits c.world.editor (pos n) (at_handle c.world.editor.buffers (pos n)) refl known) o at cap x (calm_follows (pos n) o x h)))

-- no call is that of session 0
not_zero : (capacity : ℕ) (limits : Limits) (call : Call) (history : List Entry) (v : World) → run capacity limits history ≡ Some v → calls_of 0 history ≡ call ∷ [] → ⊥
not_zero capacity limits call history v e only =
    let one = one_call 0 call history only in
    let c = cut_run 0 call (fresh_world capacity limits) v history one e in
    let made = step_makes c.world c.later (request_of 0 call) c.makes in
    none-some made.session made.there

pub is_served : (capacity : ℕ) (limits : Limits) (history : List Entry) (s n : ℕ) (w : World) (sent : List ℕ) → IsSentTo capacity limits history s n w sent → IsServed capacity limits history s w sent
is_served capacity limits history zero n w sent h = absurd (not_zero capacity limits (attach_call (pos n)) history w h.runs h.only)
is_served capacity limits history (suc i) n w sent h =
    let gave = all_messages (out capacity limits (suc i) history) in
    let x = found_session (pos n) gave (slice_get w.sessions i) (in_run capacity limits i n history w h.typed h.some h.runs h.only) in
    record {
      runs = h.runs;
      session = x.0;
      there = x.1;
      bare =
          bare_out capacity limits history w (suc i) h.runs
          (subst (λ (l : List Call). AllByRecursion (CallSpares (suc i)) l) (sym h.only) (attach_spares (suc i) n h.some, tt));
      readable = all_within n gave h.most x.2;
      bytes = h.bytes;
    }
