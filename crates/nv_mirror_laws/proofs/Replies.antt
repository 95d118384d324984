-- What is due to a session that makes one call: where it is refused, its reply alone.
use Rattle.std.proofs.Common.{◌≡◌, ◌⊎◌, inl, inr, ⊎_elim, ℕ, zero, suc, ◌+◌, ℤ, List, [], ◌∷◌, ◌++◌, length, refl, ap, sym, ◌∙◌, subst, append_assoc, append-nil, arith, slice_get, Bool, true, false, cond, Option, Some, None, Result, Ok, Err}
use Rattle.std.specs.Prelude.{option_map, option_and_then, ◌==◌, bytes_eq}
use Rattle.std.proofs.lemmas.Option.{none-some, same_Some}
use Rattle.std.proofs.lemmas.Bool.Decides.{nat_tests}
use Rattle.nv_value.specs.Content.{Tree, Trees, nil}
use Rattle.nv_value.specs.declared.fault.ApiFault.{ApiFault}
use Rattle.nv_args.specs.Arguments.{tree_list}
use Rattle.nv_args.specs.Faults.{unknown_method}
use Rattle.nv_args.specs.Reading.{Arg, read}
use Rattle.nv_args.specs.Table.{Signature, method_named}
use Rattle.nv_rpc.specs.Calls.{Call, request, notice}
use Rattle.nv_rpc.specs.Messages.{Sent, reply, detach_event}
use Rattle.nv_model.specs.Answers.{Answer, Fact, attached, detached, edited, deleted, quit, refused, replied}
use Rattle.nv_model.specs.Editors.{ModelEditor}
use Rattle.nv_model.specs.declared.parts.Limits.{Limits}
use Rattle.nv_model.specs.Seen.{seen_of}
use Rattle.nv_dispatch.specs.Calls.{CallOutcome, answer_of_method, outcome_of_answer, outcome_of_found, outcome_of_name, atomic_name, atomic_outcome, nvim_call_atomic, outcome_before_seal, outcome_with_seal, outcome_of_call}
use Rattle.nv_history.specs.Asking.{call_if, calls_in, calls_of}
use Rattle.nv_history.specs.Events.{Event, open_session, request_of, take_of, close_of, Entry, Cause, quit_at}
use Rattle.nv_history.specs.Sessions.{Session, follows, with_following, without_following, session_closed_by, session_with_message, session_told, session_told_if, session_joined, session_parted, session_parted_if, open_session_hears, unless_closed, session_hears, session_hears_all, session_replied, session_quit, session_quit_if, session_after_call, first_message, splice_message, reply_message, has_quit}
use Rattle.nv_history.specs.Worlds.{World, fresh_world, session_of, outcome_of_frame, world_after_call, step, world_made}
use Rattle.nv_history.specs.Runs.{TakenBatch, run_from, run, rest_in, given, out_from, out, all_messages, waiting_of, waiting_in, due}
use Rattle.nv_history.proofs.FoldRuns.{messages-append}
use Rattle.nv_history.proofs.GoingRuns.{run-append, out-append}
use Rattle.nv_history.proofs.Makings as makings
use Rattle.nv_history.proofs.Makings.{step_makes}
use Rattle.nv_history.proofs.Places.{get_after_call}
use Rattle.nv_mirror.specs.Listings.{refusal_in}
use Rattle.nv_mirror_laws.specs.Laws.{HasRefusal, IsRefusedIn}
use Rattle.nv_mirror_laws.proofs.Quiet.{own_number, KnowsFacts, IsKept, run_keeps, by_settled_entry}

-- ---- a call that is refused tells nothing
abbrev Silent : CallOutcome → Type 0
Silent o = (fault : ApiFault) → o.result ≡ Err fault → o.facts ≡ []

silent_answer : (b : Bool) (a : Answer) → Silent (outcome_of_answer b a)
silent_answer b (refused cause) fault e = refl
silent_answer b (replied result operations facts) fault e = absurd (not_refused result fault e)
  where
    not_refused : (t : Tree) (fault : ApiFault) → ◌≡◌ {A = Result Tree ApiFault} (Ok t) (Err fault) → ⊥
    not_refused t fault e = cc

silent_found : (m : ModelEditor) (s : ℕ) (name : List ℕ) (found : Option Signature) (given : List Tree) → Silent (outcome_of_found m s name found given)
silent_found m s name (Some signature) given = silent_answer signature.is_seen (answer_of_method (seen_of m) s signature given)
silent_found m s name None given = silent_answer false (refused (unknown_method name))

silent_args : (m : ModelEditor) (s : ℕ) (args : Result (List Arg) ApiFault) → Silent (atomic_outcome m s args)
silent_args m s (Ok args) fault e = absurd cc
silent_args m s (Err cause) fault e = silent_answer false (refused cause) fault e

silent_atomic : (m : ModelEditor) (s : ℕ) (given : List Tree) (found : Option Signature) → Silent (nvim_call_atomic m s given found)
silent_atomic m s given (Some method) = silent_args m s (read method given)
silent_atomic m s given None = silent_answer false (refused (unknown_method atomic_name))

silent_if : (b : Bool) (one other : CallOutcome) → Silent one → Silent other → Silent (cond b one other)
silent_if true one other p q = p
silent_if false one other p q = q

silent_sealed : (m : ModelEditor) (o : CallOutcome) (r : Result Tree ApiFault) → Silent o → Silent (outcome_with_seal m o r)
silent_sealed m o (Ok result) h = h
silent_sealed m o (Err fault) h = h

silent_call : (m : ModelEditor) (s : ℕ) (name : List ℕ) (given : List Tree) → Silent (outcome_of_call m s name given)
silent_call m s name given =
    silent_sealed m (outcome_before_seal m s name given) (outcome_before_seal m s name given).result
    (silent_if (bytes_eq name atomic_name) (nvim_call_atomic m s given (method_named name)) (outcome_of_name m s name given)
    (silent_atomic m s given (method_named name)) (silent_found m s name (method_named name) given))

pub silent_frame : (m : ModelEditor) (s : ℕ) (call : Call) → Silent (outcome_of_frame m s call)
silent_frame m s (request msgid name args) = silent_call m s name (tree_list args)
silent_frame m s (notice name args) = silent_call m s name (tree_list args)

-- ---- a session that is attached to nothing hears nothing
hears_fact : (at capacity : ℕ) (fact : Fact) (x : Session) → x.following ≡ [] → open_session_hears at capacity false fact x ≡ x
hears_fact at capacity (attached n tick whole) x e = refl
hears_fact at capacity (detached n) x e = refl
hears_fact at capacity (edited n told) x e =
    let apart : follows n x ≡ false = ap (λ (l : List ℤ). follows n (record x { following = l })) e in
    ap (λ (b : Bool). session_told_if b at capacity (splice_message n told) x) apart
hears_fact at capacity (deleted n) x e =
    let apart : follows n x ≡ false = ap (λ (l : List ℤ). follows n (record x { following = l })) e in
    ap (λ (b : Bool). session_parted b at capacity n x) apart
hears_fact at capacity quit x e = refl

unless_same : (c : Option Cause) (x : Session) → unless_closed c x x ≡ x
unless_same None x = refl
unless_same (Some cause) x = refl

hears_nothing : (at capacity : ℕ) (facts : List Fact) (x : Session) → x.following ≡ [] → session_hears_all at capacity false facts x ≡ x
hears_nothing at capacity [] x e = refl
hears_nothing at capacity (fact ∷ facts) x e =
    let one : session_hears at capacity false fact x ≡ x = ap (λ (y : Session). unless_closed x.closed y x) (hears_fact at capacity fact x e) ∙ unless_same x.closed x in
    ap (λ (y : Session). session_hears_all at capacity false facts y) one ∙ hears_nothing at capacity facts x e

-- attached to nothing, with a fact of all that was due
abbrev pub Calm : (List Sent → Type 0) → List Sent → Option Session → Type 0
Calm P o None = P o
Calm P o (Some x) = (x.following ≡ []) × P (o ++ x.waiting)

calm_quit : (P : List Sent → Type 0) (o : List Sent) (at : ℕ) (x : Session) (c : Option Cause) → Calm P o (Some x) → Calm P o (Some (unless_closed c (session_closed_by (quit_at at) x) x))
calm_quit P o at x None h = (refl, h.1)
calm_quit P o at x (Some cause) h = h

calm_quit_if : (P : List Sent → Type 0) (b : Bool) (o : List Sent) (at : ℕ) (x : Session) → Calm P o (Some x) → Calm P o (Some (session_quit_if b at x))
calm_quit_if P true o at x h = calm_quit P o at x x.closed h
calm_quit_if P false o at x h = h

calm_kept : (P : List Sent → Type 0) (F : List Fact → Type 0) → IsKept (Calm P) F
calm_kept P F = record {
  ends = record { quits = λ o at x h. calm_quit P o at x x.closed h };
  opens = λ o h. (refl, subst (λ (l : List Sent). P l) (sym (append-nil o)) h);
  hears = λ o at capacity facts answer x fit h.
      calm_quit_if P (has_quit facts) o at (session_hears_all at capacity false facts x)
      (subst (λ (y : Session). Calm P o (Some y)) (sym (hears_nothing at capacity facts x h.0)) h);
  closes = λ o cause x h. (refl, h.1);
  takes = λ o stamp x h. (h.0, subst (λ (l : List Sent). P l) (sym (append-nil (o ++ x.waiting))) h.1);
}

-- ---- messages that refuse nothing
abbrev Mild : List Sent → Type 0
Mild ms = (words : List ℕ) → HasRefusal words ms → ⊥

mild_both : (a b : List Sent) → Mild a → Mild b → Mild (a ++ b)
mild_both [] b p q = q
mild_both (m ∷ ms) b p q = λ words h. ⊎_elim (λ e. p words (inl e)) (λ r. mild_both ms b (λ w k. p w (inr k)) q words r) h

mild_one : (m : Sent) → refusal_in m ≡ None → Mild (m ∷ [])
mild_one m e = λ words h. ⊎_elim (λ f. none-some words (sym e ∙ f)) (λ r. r) h

abbrev MildAt : List Sent → Option Session → Type 0
MildAt o None = Mild o
MildAt o (Some x) = Mild (o ++ x.waiting)

mild_message : (b : Bool) (o : List Sent) (at : ℕ) (m : Sent) (x y : Session) → y.waiting ≡ x.waiting → refusal_in m ≡ None → MildAt o (Some x) → MildAt o (Some (session_with_message b at m y))
mild_message true o at m x y e f h = subst (λ (l : List Sent). Mild (o ++ l)) (sym e) h
mild_message false o at m x y e f h =
    subst (λ (l : List Sent). Mild (o ++ (l ++ m ∷ []))) (sym e)
    (subst (λ (l : List Sent). Mild l) (append_assoc o x.waiting (m ∷ [])) (mild_both (o ++ x.waiting) (m ∷ []) h (mild_one m f)))

mild_first : (n : ℤ) (tick : ℕ) (whole : Option (List (List ℕ))) → refusal_in (first_message n tick whole) ≡ None
mild_first n tick None = refl
mild_first n tick (Some lines) = refl

mild_joined : (own there : Bool) (o : List Sent) (at capacity : ℕ) (n : ℤ) (m : Sent) (x : Session) → refusal_in m ≡ None → MildAt o (Some x) → MildAt o (Some (session_joined own there at capacity n m x))
mild_joined true false o at capacity n m x f h = mild_message (length x.waiting == capacity) o at m x (with_following n x) refl f h
mild_joined true true o at capacity n m x f h = h
mild_joined false there o at capacity n m x f h = h

mild_parted : (there : Bool) (o : List Sent) (at capacity : ℕ) (n : ℤ) (x : Session) → MildAt o (Some x) → MildAt o (Some (session_parted there at capacity n x))
mild_parted true o at capacity n x h = mild_message (length x.waiting == capacity) o at (detach_event n) x (without_following n x) refl refl h
mild_parted false o at capacity n x h = h

mild_parted_if : (own there : Bool) (o : List Sent) (at capacity : ℕ) (n : ℤ) (x : Session) → MildAt o (Some x) → MildAt o (Some (session_parted_if own there at capacity n x))
mild_parted_if true there o at capacity n x h = mild_parted there o at capacity n x h
mild_parted_if false there o at capacity n x h = h

mild_told_if : (b : Bool) (o : List Sent) (at capacity : ℕ) (m : Sent) (x : Session) → refusal_in m ≡ None → MildAt o (Some x) → MildAt o (Some (session_told_if b at capacity m x))
mild_told_if true o at capacity m x f h = mild_message (length x.waiting == capacity) o at m x x refl f h
mild_told_if false o at capacity m x f h = h

mild_fact : (o : List Sent) (at capacity : ℕ) (own : Bool) (fact : Fact) (x : Session) → MildAt o (Some x) → MildAt o (Some (open_session_hears at capacity own fact x))
mild_fact o at capacity own (attached n tick whole) x h = mild_joined own (follows n x) o at capacity n (first_message n tick whole) x (mild_first n tick whole) h
mild_fact o at capacity own (detached n) x h = mild_parted_if own (follows n x) o at capacity n x h
mild_fact o at capacity own (edited n told) x h = mild_told_if (follows n x) o at capacity (splice_message n told) x refl h
mild_fact o at capacity own (deleted n) x h = mild_parted (follows n x) o at capacity n x h
mild_fact o at capacity own quit x h = h

mild_unless : (c : Option Cause) (o : List Sent) (x y : Session) → MildAt o (Some x) → MildAt o (Some y) → MildAt o (Some (unless_closed c y x))
mild_unless None o x y h k = k
mild_unless (Some cause) o x y h k = h

mild_facts : (o : List Sent) (at capacity : ℕ) (own : Bool) (facts : List Fact) (x : Session) → MildAt o (Some x) → MildAt o (Some (session_hears_all at capacity own facts x))
mild_facts o at capacity own [] x h = h
mild_facts o at capacity own (fact ∷ facts) x h =
    mild_facts o at capacity own facts (session_hears at capacity own fact x)
    (mild_unless x.closed o x (open_session_hears at capacity own fact x) h (mild_fact o at capacity own fact x h))

mild_quit : (o : List Sent) (at : ℕ) (x : Session) → MildAt o (Some x) → MildAt o (Some (session_quit at x))
mild_quit o at x h = mild_unless x.closed o x (session_closed_by (quit_at at) x) h h

mild_quit_if : (b : Bool) (o : List Sent) (at : ℕ) (x : Session) → MildAt o (Some x) → MildAt o (Some (session_quit_if b at x))
mild_quit_if true o at x h = mild_quit o at x h
mild_quit_if false o at x h = h

mild_reply : (o : List Sent) (at capacity : ℕ) (m : Sent) (x : Session) → refusal_in m ≡ None → MildAt o (Some x) → MildAt o (Some (session_replied true at capacity (Some m) x))
mild_reply o at capacity m x f h = mild_unless x.closed o x (session_told at capacity m x) h (mild_message (length x.waiting == capacity) o at m x x refl f h)

mild_kept : (F : List Fact → Type 0) → IsKept MildAt F
mild_kept F = record {
  ends = record { quits = λ o at x h. mild_quit o at x h };
  opens = λ o h. subst (λ (l : List Sent). Mild l) (sym (append-nil o)) h;
  hears = λ o at capacity facts answer x fit h.
      mild_quit_if (has_quit facts) o at (session_hears_all at capacity false facts x) (mild_facts o at capacity false facts x h);
  closes = λ o cause x h. h;
  takes = λ o stamp x h. subst (λ (l : List Sent). Mild l) (sym (append-nil (o ++ x.waiting))) h;
}

-- ---- the call of its own
-- nothing, or the reply alone
abbrev pub IsReplyAlone : Sent → List Sent → Type 0
IsReplyAlone m ms = (ms ≡ []) ⊎ (ms ≡ m ∷ [])

abbrev pub IsNothing : List Sent → Type 0
IsNothing ms = ms ≡ []

replied_alone : (b : Bool) (o : List Sent) (at : ℕ) (m : Sent) (x : Session) → Calm IsNothing o (Some x) → Calm (IsReplyAlone m) o (Some (session_with_message b at m x))
replied_alone true o at m x h = (refl, inl h.1)
replied_alone false o at m x h = (h.0, inr (sym (append_assoc o x.waiting (m ∷ [])) ∙ ap (λ (l : List Sent). l ++ m ∷ []) h.1))

nothing_alone : (o : List Sent) (m : Sent) (x : Session) → Calm IsNothing o (Some x) → Calm (IsReplyAlone m) o (Some x)
nothing_alone o m x h = (h.0, inl h.1)

answered_alone : (c : Option Cause) (o : List Sent) (at capacity : ℕ) (m : Sent) (x : Session) → Calm IsNothing o (Some x) → Calm (IsReplyAlone m) o (Some (unless_closed c (session_told at capacity m x) x))
answered_alone None o at capacity m x h = replied_alone (length x.waiting == capacity) o at m x h
answered_alone (Some cause) o at capacity m x h = nothing_alone o m x h

refused_call : (o : List Sent) (at capacity : ℕ) (facts : List Fact) (m : Sent) (x : Session) → facts ≡ [] → Calm IsNothing o (Some x)
    → Calm (IsReplyAlone m) o (Some (session_after_call at capacity true facts (Some m) x))
refused_call o at capacity facts m x e h =
    subst (λ (l : List Fact). Calm (IsReplyAlone m) o (Some (session_after_call at capacity true l (Some m) x))) (sym e) (answered_alone x.closed o at capacity m x h)

nothing_mild : (ms : List Sent) → ms ≡ [] → Mild ms
nothing_mild ms e = subst (λ (l : List Sent). Mild l) (sym e) (λ words h. h)

taken_call : (o : List Sent) (at capacity : ℕ) (facts : List Fact) (m : Sent) (x : Session) → refusal_in m ≡ None → Calm IsNothing o (Some x)
    → MildAt o (Some (session_after_call at capacity true facts (Some m) x))
taken_call o at capacity facts m x f h =
    mild_quit_if (has_quit facts) o at (session_replied true at capacity (Some m) (session_hears_all at capacity true facts x))
    (mild_reply o at capacity m (session_hears_all at capacity true facts x) f (mild_facts o at capacity true facts x (nothing_mild (o ++ x.waiting) h.1)))

-- what a call of its own comes to at its place
own_place : (i : ℕ) (w : World) (call : Call) (x : Session) → slice_get w.sessions i ≡ Some x
    → slice_get (world_after_call w (suc i) call (outcome_of_frame w.editor (suc i) call)).sessions i
    ≡ Some (session_after_call w.entries w.capacity true (outcome_of_frame w.editor (suc i) call).facts (reply_message call (outcome_of_frame w.editor (suc i) call).result) x)
own_place i w call x e =
    let c = outcome_of_frame w.editor (suc i) call in
    get_after_call w.entries w.capacity (suc i) 1 c.facts (reply_message call c.result) w.sessions i
    ∙ ap (λ (o : Option Session). option_map (session_after_call w.entries w.capacity ((1 + i) == suc i) c.facts (reply_message call c.result)) o) e
    ∙ ap (λ (b : Bool). Some (session_after_call w.entries w.capacity b c.facts (reply_message call c.result) x)) (own_number i)

-- ---- the one call of a history
pub record OneCall (s : ℕ) (call : Call) (history : List Entry) : Type 0 where
  pub before : List Entry
  pub entry : Entry
  pub after : List Entry
  pub split : history ≡ before ++ entry ∷ after
  pub asks : entry.event ≡ request_of s call
  pub none_before : calls_of s before ≡ []
  pub none_after : calls_of s after ≡ []

same_first : (c d : Call) (cs : List Call) → c ∷ cs ≡ d ∷ [] → (c ≡ d) × (cs ≡ [])
same_first c d cs e = (let f : c ≡ d = cc in f, let g : cs ≡ [] = cc in g)

one_later : (s : ℕ) (call : Call) (e : Entry) (es : List Entry) → calls_in s e.event ≡ [] → OneCall s call es → OneCall s call (e ∷ es)
one_later s call e es none h = record {
  before = e ∷ h.before;
  entry = h.entry;
  after = h.after;
  split = ap (λ (l : List Entry). e ∷ l) h.split;
  asks = h.asks;
  none_before = ap (λ (l : List Call). l ++ calls_of s h.before) none ∙ h.none_before;
  none_after = h.none_after;
}

one_called : (s : ℕ) (call : Call) (e : Entry) (es : List Entry) (t : ℕ) (c : Call) (b : Bool) → e.event ≡ request_of t c → (t == s) ≡ b → call_if b c ++ calls_of s es ≡ call ∷ []
    → (calls_of s es ≡ call ∷ [] → OneCall s call es) → OneCall s call (e ∷ es)
one_called s call e es t c true is same q more =
    let same_number : t ≡ s = grind (arith, nat_tests) in
    let f = same_first c call (calls_of s es) q in
    record {
      before = [];
      entry = e;
      after = es;
      split = refl;
      asks = is ∙ ap (λ (n : ℕ). request_of n c) same_number ∙ ap (λ (d : Call). request_of s d) f.0;
      none_before = refl;
      none_after = f.1;
    }
one_called s call e es t c false is same q more =
    one_later s call e es (ap (λ (v : Event). calls_in s v) is ∙ ap (λ (b : Bool). call_if b c) same) (more q)

one_by : (s : ℕ) (call : Call) (e : Entry) (es : List Entry) (v : Event) → e.event ≡ v → calls_in s v ++ calls_of s es ≡ call ∷ [] → (calls_of s es ≡ call ∷ [] → OneCall s call es)
    → OneCall s call (e ∷ es)
one_by s call e es open_session is q more = one_later s call e es (ap (λ (v : Event). calls_in s v) is) (more q)
one_by s call e es (request_of t c) is q more =
    one_called s call e es t c (t == s) is refl q more
one_by s call e es (take_of t) is q more = one_later s call e es (ap (λ (v : Event). calls_in s v) is) (more q)
one_by s call e es (close_of t) is q more = one_later s call e es (ap (λ (v : Event). calls_in s v) is) (more q)

no_call : (call : Call) → ◌≡◌ {A = List Call} [] (call ∷ []) → ⊥
no_call call e = cc

pub one_call : (s : ℕ) (call : Call) (es : List Entry) → calls_of s es ≡ call ∷ [] → OneCall s call es
one_call s call [] q = absurd (no_call call q)
one_call s call (e ∷ es) q = one_by s call e es e.event refl q (λ r. one_call s call es r)

-- the calls of a history that is cut at one of them
calls_both : (s : ℕ) (a b : List Entry) → calls_of s (a ++ b) ≡ calls_of s a ++ calls_of s b
calls_both s [] b = refl
calls_both s (e ∷ es) b = ap (λ (l : List Call). calls_in s e.event ++ l) (calls_both s es b) ∙ sym (append_assoc (calls_in s e.event) (calls_of s es) (calls_of s b))

itself : (s : ℕ) (call : Call) → calls_in s (request_of s call) ≡ call ∷ []
itself s call = let same : (s == s) ≡ true = grind (arith, nat_tests) in ap (λ (b : Bool). call_if b call) same

alone_between : (a b : List Call) (call : Call) → a ++ (call ∷ b) ≡ call ∷ [] → (a ≡ []) × (b ≡ [])
alone_between [] b call e = (refl, (same_first call call b e).1)
alone_between (c ∷ cs) b call e = absurd (never cs b call (same_first c call (cs ++ (call ∷ b)) e).1)
  where
    never : (cs b : List Call) (call : Call) → cs ++ (call ∷ b) ≡ [] → ⊥
    never [] b call e = cc
    never (d ∷ ds) b call e = cc

pub cut_alone : (s : ℕ) (call : Call) (history before after : List Entry) (entry : Entry) → calls_of s history ≡ call ∷ [] → history ≡ before ++ entry ∷ after → entry.event ≡ request_of s call → OneCall s call history
cut_alone s call history before after entry q split asks =
    let here : calls_in s entry.event ≡ call ∷ [] = ap (λ (v : Event). calls_in s v) asks ∙ itself s call in
    let all : calls_of s before ++ (call ∷ calls_of s after) ≡ call ∷ [] =
    ap (λ (l : List Call). calls_of s before ++ (l ++ calls_of s after)) (sym here) ∙ sym (calls_both s before (entry ∷ after)) ∙ ap (λ (l : List Entry). calls_of s l) (sym split) ∙ q in
    let none = alone_between (calls_of s before) (calls_of s after) call all in
    record { before = before; entry = entry; after = after; split = split; asks = asks; none_before = none.0; none_after = none.1 }

-- ---- a run that is cut at the call
pub record CutRun (s : ℕ) (call : Call) (first v : World) (h : List Entry) (one : OneCall s call h) : Type 0 where
  pub world : World
  pub runs : run_from first one.before ≡ Some world
  pub later : World
  pub makes : world_made (step world (request_of s call)) ≡ Some later
  pub rest : run_from later one.after ≡ Some v
  pub gave : out_from first s h ≡ out_from first s one.before ++ out_from later s one.after

some_between : (o : Option World) (es : List Entry) (v : World) → option_and_then (λ u. run_from u es) o ≡ Some v → (w : World) × (o ≡ Some w) × (run_from w es ≡ Some v)
some_between None es v e = absurd (none-some v e)
some_between (Some w) es v e = (w, refl, e)

pub cut_run : (s : ℕ) (call : Call) (first v : World) (h : List Entry) (one : OneCall s call h) → run_from first h ≡ Some v → CutRun s call first v h one
cut_run s call first v h one e =
    let way = some_between (run_from first one.before) (one.entry ∷ one.after) v (sym (run-append first one.before (one.entry ∷ one.after)) ∙ ap (λ (l : List Entry). run_from first l) (sym one.split) ∙ e) in
    let next = some_between (world_made (step way.0 one.entry.event)) one.after v way.2 in
    let made : world_made (step way.0 (request_of s call)) ≡ Some next.0 = ap (λ (x : Event). world_made (step way.0 x)) (sym one.asks) ∙ next.1 in
    record {
      world = way.0;
      runs = way.1;
      later = next.0;
      makes = made;
      rest = next.2;
      gave =
          ap (λ (l : List Entry). out_from first s l) one.split
          ∙ out-append s first way.0 one.before (one.entry ∷ one.after) way.1
          ∙ ap (λ (l : List TakenBatch). out_from first s one.before ++ l)
          (ap (λ (x : Event). given s x (step way.0 x) ++ rest_in (λ u. out_from u s one.after) (world_made (step way.0 x))) one.asks
          ∙ ap (λ (o : Option World). rest_in (λ u. out_from u s one.after) o) made);
    }

gave_both : (s : ℕ) (call : Call) (first v : World) (h : List Entry) (one : OneCall s call h) (c : CutRun s call first v h one)
    → all_messages (out_from first s h) ≡ all_messages (out_from first s one.before) ++ all_messages (out_from c.later s one.after)
gave_both s call first v h one c =
    ap (λ (l : List TakenBatch). all_messages l) c.gave ∙ messages-append (out_from first s one.before) (out_from c.later s one.after)

-- where nothing needs to be known
abbrev AnyFacts : List Fact → Type 0
AnyFacts facts = Unit {0}

abbrev AnyWorld : World → Type 0
AnyWorld w = Unit {0}

knows_nothing : KnowsFacts AnyFacts AnyWorld
knows_nothing = record { entries = λ w v event h made. tt; facts = λ w s call h. tt }

-- ---- a relation that holds of nothing, passes to another at the call, and is kept by it
pub passes : (Q : List Sent → Option Session → Type 0) (F : List Fact → Type 0) (P : World → Type 0) → IsKept Q F → KnowsFacts F P → (i msgid : ℕ) (name : List ℕ) (args : Trees) (first v : World) (h : List Entry) (one : OneCall (suc i) (request msgid name args) h)
    (c : CutRun (suc i) (request msgid name args) first v h one) → first.sessions ≡ [] → P first
    → ((o : List Sent) (at capacity : ℕ) (x : Session) → P c.world → Calm IsNothing o (Some x)
    → Q o (Some (session_after_call at capacity true (outcome_of_frame c.world.editor (suc i) (request msgid name args)).facts
    (reply_message (request msgid name args) (outcome_of_frame c.world.editor (suc i) (request msgid name args)).result) x)))
    → Q (all_messages (out_from first (suc i) h)) (slice_get v.sessions i)
passes Q F P kept knows i msgid name args first v h one c fresh known at_call =
    let call = request msgid name args in
    let w = c.world in
    let o = all_messages (out_from first (suc i) one.before) in
    let nobody : Calm IsNothing [] (slice_get first.sessions i) = subst (λ (xs : List Session). Calm IsNothing [] (slice_get xs i)) (sym fresh) refl in
    let until : Calm IsNothing o (slice_get w.sessions i) = run_keeps (Calm IsNothing) F P (calm_kept IsNothing F) knows i [] first w one.before one.none_before known nobody c.runs in
    let there_known : P c.world = makings.run_keeps P knows.entries first c.world one.before known c.runs in
    let made = step_makes w c.later (request_of (suc i) call) c.makes in
    let there : Calm IsNothing o (Some made.session) = subst (λ (x : Option Session). Calm IsNothing o x) made.there until in
    let now : Q o (slice_get (world_after_call w (suc i) call (outcome_of_frame w.editor (suc i) call)).sessions i) =
    subst (λ (x : Option Session). Q o x) (sym (own_place i w call made.session made.there)) (at_call o w.entries w.capacity made.session there_known there) in
    let then = by_settled_entry Q F P kept knows i o (outcome_of_frame w.editor (suc i) call).is_seen (world_after_call w (suc i) call (outcome_of_frame w.editor (suc i) call)) c.later made.made now in
    subst (λ (ms : List Sent). Q ms (slice_get v.sessions i)) (sym (gave_both (suc i) call first v h one c))
    (run_keeps Q F P kept knows i o c.later v one.after one.none_after (knows.entries c.world c.later (request_of (suc i) call) there_known made) then c.rest)

-- all that is due
due_is : (capacity : ℕ) (limits : Limits) (i : ℕ) (history : List Entry) (v : World) (x : Session) → run capacity limits history ≡ Some v → session_of v (suc i) ≡ Some x
    → due capacity limits (suc i) history ≡ all_messages (out capacity limits (suc i) history) ++ x.waiting
due_is capacity limits i history v x e there =
    ap (λ (ms : List Sent). all_messages (out capacity limits (suc i) history) ++ ms) (ap (waiting_in (suc i)) e ∙ ap waiting_of there)

refused_due : (capacity : ℕ) (limits : Limits) (i msgid : ℕ) (name : List ℕ) (args : Trees) (history : List Entry) (v : World) (x : Session) (fault : ApiFault) → run capacity limits history ≡ Some v
    → session_of v (suc i) ≡ Some x → (one : OneCall (suc i) (request msgid name args) history) (c : CutRun (suc i) (request msgid name args) (fresh_world capacity limits) v history one)
    → (outcome_of_frame c.world.editor (suc i) (request msgid name args)).result ≡ Err fault → IsReplyAlone (reply msgid (Some fault) nil) (due capacity limits (suc i) history)
refused_due capacity limits i msgid name args history v x fault e there one c refuses =
    let call = request msgid name args in
    let answer = reply msgid (Some fault) nil in
    let got = passes (Calm (IsReplyAlone answer)) AnyFacts AnyWorld (calm_kept (IsReplyAlone answer) AnyFacts) knows_nothing i msgid name args (fresh_world capacity limits) v history one c refl tt
    (λ o at cap y known h.
    subst (λ (a : Option Sent). Calm (IsReplyAlone answer) o (Some (session_after_call at cap true (outcome_of_frame c.world.editor (suc i) call).facts a y))) (sym (ap (reply_message call) refuses))
    (refused_call o at cap (outcome_of_frame c.world.editor (suc i) call).facts answer y (silent_frame c.world.editor (suc i) call fault refuses) h)) in
    subst (λ (ms : List Sent). IsReplyAlone answer ms) (sym (due_is capacity limits i history v x e there))
    (subst (λ (y : Option Session). Calm (IsReplyAlone answer) (all_messages (out capacity limits (suc i) history)) y) there got).1

taken_due : (capacity : ℕ) (limits : Limits) (i msgid : ℕ) (name : List ℕ) (args : Trees) (history : List Entry) (v : World) (x : Session) (result : Tree) → run capacity limits history ≡ Some v
    → session_of v (suc i) ≡ Some x → (one : OneCall (suc i) (request msgid name args) history) (c : CutRun (suc i) (request msgid name args) (fresh_world capacity limits) v history one)
    → (outcome_of_frame c.world.editor (suc i) (request msgid name args)).result ≡ Ok result → Mild (due capacity limits (suc i) history)
taken_due capacity limits i msgid name args history v x result e there one c takes =
    let call = request msgid name args in
    let got = passes MildAt AnyFacts AnyWorld (mild_kept AnyFacts) knows_nothing i msgid name args (fresh_world capacity limits) v history one c refl tt
    (λ o at cap y known h.
    subst (λ (a : Option Sent). MildAt o (Some (session_after_call at cap true (outcome_of_frame c.world.editor (suc i) call).facts a y))) (sym (ap (reply_message call) takes))
    (taken_call o at cap (outcome_of_frame c.world.editor (suc i) call).facts (reply msgid None result) y refl h)) in
    subst (λ (ms : List Sent). Mild ms) (sym (due_is capacity limits i history v x e there))
    (subst (λ (y : Option Session). MildAt (all_messages (out capacity limits (suc i) history)) y) there got)

-- ---- the law
-- the editor at the one call is that of any cut at it
by_result : (capacity : ℕ) (limits : Limits) (i msgid : ℕ) (name : List ℕ) (args : Trees) (history : List Entry) (v : World) (x : Session) (words : List ℕ) → run capacity limits history ≡ Some v
    → session_of v (suc i) ≡ Some x → (one : OneCall (suc i) (request msgid name args) history) (c : CutRun (suc i) (request msgid name args) (fresh_world capacity limits) v history one)
    → (r : Result Tree ApiFault) → (outcome_of_frame c.world.editor (suc i) (request msgid name args)).result ≡ r → HasRefusal words (due capacity limits (suc i) history)
    → (fault : ApiFault) × IsRefusedIn capacity limits history (suc i) (request msgid name args) fault × (fault.words ≡ words)
by_result capacity limits i msgid name args history v x words e there one c (Ok result) is has =
    absurd (taken_due capacity limits i msgid name args history v x result e there one c is words has)
by_result capacity limits i msgid name args history v x words e there one c (Err fault) is has = (
  fault,
  record {
    before = one.before;
    entry = one.entry;
    after = one.after;
    split = one.split;
    asks = one.asks;
    world = c.world;
    runs = c.runs;
    refuses = is;
  },
  same_words (due capacity limits (suc i) history) has (refused_due capacity limits i msgid name args history v x fault e there one c is),
)
  where
    told_words : (m : ℕ) (b : Bool) → cond b (Some fault.words) None ≡ Some words → fault.words ≡ words
    told_words m true q = same_Some fault.words words q
    told_words m false q = absurd (none-some words q)

    same_words : (ms : List Sent) → HasRefusal words ms → IsReplyAlone (reply msgid (Some fault) nil) ms → fault.words ≡ words
    same_words ms h (inl q) = absurd (subst (λ (l : List Sent). HasRefusal words l) q h)
    same_words ms h (inr q) = ⊎_elim (λ (r : refusal_in (reply msgid (Some fault) nil) ≡ Some words). told_words msgid (msgid == 1) r) (λ r. absurd r) (subst (λ (l : List Sent). HasRefusal words l) q h)

pub refusals_are : (capacity : ℕ) (limits : Limits) (msgid : ℕ) (name : List ℕ) (args : Trees) (history : List Entry) (v : World) (s : ℕ) (x : Session) (words : List ℕ) → run capacity limits history ≡ Some v
    → session_of v s ≡ Some x → calls_of s history ≡ request msgid name args ∷ [] → HasRefusal words (due capacity limits s history)
    → (fault : ApiFault) × IsRefusedIn capacity limits history s (request msgid name args) fault × (fault.words ≡ words)
refusals_are capacity limits msgid name args history v zero x words e there q has = absurd (none-some x there)
refusals_are capacity limits msgid name args history v (suc i) x words e there q has =
    let one = one_call (suc i) (request msgid name args) history q in
    let c = cut_run (suc i) (request msgid name args) (fresh_world capacity limits) v history one e in
    by_result capacity limits i msgid name args history v x words e there one c (outcome_of_frame c.world.editor (suc i) (request msgid name args)).result refl has

pub refused_alone : (capacity : ℕ) (limits : Limits) (msgid : ℕ) (name : List ℕ) (args : Trees) (history : List Entry) (v : World) (s : ℕ) (x : Session) (fault : ApiFault) → run capacity limits history ≡ Some v
    → session_of v s ≡ Some x → calls_of s history ≡ request msgid name args ∷ [] → IsRefusedIn capacity limits history s (request msgid name args) fault
    → IsReplyAlone (reply msgid (Some fault) nil) (due capacity limits s history)
unfolding cut_alone
refused_alone capacity limits msgid name args history v zero x fault e there q h = absurd (none-some x there)
refused_alone capacity limits msgid name args history v (suc i) x fault e there q h =
    let call = request msgid name args in
    let one = cut_alone (suc i) call history h.before h.after h.entry q h.split h.asks in
    let c = cut_run (suc i) call (fresh_world capacity limits) v history one e in
    let same : h.world ≡ c.world = same_Some h.world c.world (sym h.runs ∙ c.runs) in
    refused_due capacity limits i msgid name args history v x fault e there one c
    (subst (λ (w : World). (outcome_of_frame w.editor (suc i) (request msgid name args)).result ≡ Err fault) same h.refuses)
