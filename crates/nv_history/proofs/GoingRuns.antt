-- Runs of histories that go on.
use Rattle.std.proofs.Common.{◌≡◌, ◌⊎◌, inl, inr, ℕ, zero, suc, ℤ, pos, ◌-◌, ◌≤◌, List, [], ◌∷◌, ◌++◌, length, take, refl, ap, sym, ◌∙◌, subst, append_assoc, append-nil, arith, Bool, true, false, Option, Some, None}
use Rattle.std.specs.Prelude.{option_and_then, ◌==◌}
use Rattle.std.proofs.lemmas.List.{take-append-le}
use Rattle.std.proofs.lemmas.Option.{none-some, same_Some}
use Rattle.std.proofs.lemmas.Bool.Decides.{nat_tests}
use Rattle.nv_rpc.specs.Calls.{Call, request, notice}
use Rattle.nv_rpc.specs.Messages.{Sent}
use Rattle.nv_places.specs.Flat.{lines_of}
use Rattle.nv_args.specs.Arguments.{tree_list}
use Rattle.nv_model.specs.Buffers.{Splice}
use Rattle.nv_model.specs.Editors.{ModelEditor}
use Rattle.nv_model.specs.Answers.{Fact}
use Rattle.nv_model.specs.declared.parts.Limits.{Limits}
use Rattle.nv_dispatch.specs.Calls.{editor_after}
use Rattle.nv_dispatch.specs.Telling.{Past, past_at, text_then, FactsTell, IsSoundModel}
use Rattle.nv_dispatch.specs.Laws.{FactsTellPasts, SoundnessIsKept}
use Rattle.nv_history.specs.Events.{Event, open_session, request_of, take_of, close_of, Entry, Cause}
use Rattle.nv_history.specs.Sessions.{Session}
use Rattle.nv_history.specs.Worlds.{World, fresh_world, session_of, after_entry, after_settled_entry, opening_outcome, outcome_of_frame, world_after_call, held_outcome, live_request_outcome, request_outcome, is_scene_due, is_nothing_due, empty_take_outcome, some_take_outcome, take_outcome, live_close_outcome, close_outcome, with_session_at, step, world_made}
use Rattle.nv_history.specs.Runs.{TakenBatch, run_from, run, rest_in, batch_if, batch_of, given, out_from, out, all_messages, waiting_of, waiting_in, due}
use Rattle.nv_history.specs.Laws.{FrontsRun, DueOnlyGrows, CausesStay, TextsAtTicksStay}
use Rattle.nv_dispatch.proofs.Kept.{KeepsPasts}
use Rattle.nv_history.proofs.Hearings.{Grows, grows}
use Rattle.nv_history.proofs.Staging.{entry_keeps, settled_entry_keeps}
use Rattle.nv_history.proofs.GoingOn.{PlaceGoesOn, place_same, place_then, step_goes}
use Rattle.nv_history.proofs.FoldRuns.{messages-append}

-- ---- longer histories
append_next : (es more : List Entry) (o : Option World) → ((u : World) → run_from u (es ++ more) ≡ option_and_then (λ v. run_from v more) (run_from u es))
    → option_and_then (λ u. run_from u (es ++ more)) o ≡ option_and_then (λ v. run_from v more) (option_and_then (λ u. run_from u es) o)
append_next es more None rest = refl
append_next es more (Some u) rest = rest u

pub run-append : (w : World) (es more : List Entry) → run_from w (es ++ more) ≡ option_and_then (λ v. run_from v more) (run_from w es)
run-append w [] more = refl
run-append w (e ∷ es) more = append_next es more (world_made (step w e.event)) (λ u. run-append u es more)

some_on_way : (more : List Entry) (o : Option World) (v : World) → option_and_then (λ u. run_from u more) o ≡ Some v → (w : World) × (o ≡ Some w) × (run_from w more ≡ Some v)
some_on_way more None v e = absurd (none-some v e)
some_on_way more (Some w) v e = (w, refl, e)

pub fronts_run : FrontsRun
unfolding FrontsRun
fronts_run capacity limits history more v e =
    some_on_way more (run capacity limits history) v (sym (run-append (fresh_world capacity limits) history more) ∙ e)

out_next : (s : ℕ) (es more : List Entry) (u : World) (o : Option World)
    → ((w : World) → run_from w es ≡ Some u → out_from w s (es ++ more) ≡ out_from w s es ++ out_from u s more)
    → option_and_then (λ w. run_from w es) o ≡ Some u
    → rest_in (λ w. out_from w s (es ++ more)) o ≡ rest_in (λ w. out_from w s es) o ++ out_from u s more
out_next s es more u None rest e = absurd (none-some u e)
out_next s es more u (Some w) rest e = rest w e

pub out-append : (s : ℕ) (w u : World) (es more : List Entry) → run_from w es ≡ Some u → out_from w s (es ++ more) ≡ out_from w s es ++ out_from u s more
out-append s w u [] more e = ap (λ (v : World). out_from v s more) (same_Some w u e)
out-append s w u (x ∷ es) more e =
    ap (λ (l : List TakenBatch). given s x.event (step w x.event) ++ l)
    (out_next s es more u (world_made (step w x.event)) (λ v f. out-append s v u es more f) e)
    ∙ sym (append_assoc (given s x.event (step w x.event)) (rest_in (λ v. out_from v s es) (world_made (step w x.event))) (out_from u s more))

-- ---- what goes on for the session of a number
none_given : (p : ℕ) (x : Option Session) (w : World) (b : Bool) → (suc p == zero) ≡ b → all_messages (batch_if b (batch_of (take_outcome x w (suc p)))) ≡ []
none_given p x w true e = absurd (grind (arith, nat_tests))
none_given p x w false e = refl

nobody_given : (w : World) (event : Event) → all_messages (given zero event (step w event)) ≡ []
nobody_given w open_session = refl
nobody_given w (request_of s call) = refl
nobody_given w (take_of zero) = refl
nobody_given w (take_of (suc p)) = none_given p (session_of w (suc p)) w (suc p == zero) refl
nobody_given w (close_of s) = refl

number_goes : (s : ℕ) (w v : World) (event : Event) → world_made (step w event) ≡ Some v → PlaceGoesOn (session_of w s) (session_of v s) (all_messages (given s event (step w event)))
number_goes zero w v event e = nobody_given w event
number_goes (suc i) w v event e = step_goes i w v event e

goes_next : (s : ℕ) (x : Option Session) (v : World) (es : List Entry) (gave : List TakenBatch) (o : Option World)
    → ((u : World) → o ≡ Some u → PlaceGoesOn x (session_of u s) (all_messages gave))
    → ((u : World) → run_from u es ≡ Some v → PlaceGoesOn (session_of u s) (session_of v s) (all_messages (out_from u s es)))
    → option_and_then (λ u. run_from u es) o ≡ Some v
    → PlaceGoesOn x (session_of v s) (all_messages (gave ++ rest_in (λ u. out_from u s es) o))
goes_next s x v es gave None first rest e = absurd (none-some v e)
goes_next s x v es gave (Some u) first rest e =
    subst (λ (l : List Sent). PlaceGoesOn x (session_of v s) l) (sym (messages-append gave (out_from u s es)))
    (place_then x (session_of u s) (session_of v s) (all_messages gave) (all_messages (out_from u s es)) (first u refl) (rest u e))

pub run_goes : (s : ℕ) (w v : World) (es : List Entry) → run_from w es ≡ Some v → PlaceGoesOn (session_of w s) (session_of v s) (all_messages (out_from w s es))
run_goes s w v [] e = subst (λ (u : World). PlaceGoesOn (session_of w s) (session_of u s) []) (same_Some w v e) (place_same (session_of w s))
run_goes s w v (x ∷ es) e =
    goes_next s (session_of w s) v es (given s x.event (step w x.event)) (world_made (step w x.event))
    (λ u f. number_goes s w u x.event f) (λ u f. run_goes s u v es f) e

-- what is due to the session of a place
record DueGoesOn (x y : Option Session) (gave : List Sent) : Type 0 where
  rest : List Sent
  waits : gave ++ waiting_of y ≡ waiting_of x ++ rest
  none : (z : Session) (c : Cause) → x ≡ Some z → z.closed ≡ Some c → (rest ≡ []) × (u : Session) × (y ≡ Some u) × (u.closed ≡ Some c)

due_goes : (x y : Option Session) (gave : List Sent) → PlaceGoesOn x y gave → DueGoesOn x y gave
due_goes None None gave h = record { rest = []; waits = ap (λ (l : List Sent). l ++ []) h; none = λ z c e f. absurd (none-some z e) }
due_goes None (Some y) gave h = record { rest = h.more; waits = h.waits; none = λ z c e f. absurd (none-some z e) }
due_goes (Some x) None gave h = absurd h
due_goes (Some x) (Some y) gave h = record {
  rest = h.more;
  waits = h.waits;
  none = λ z c e f.
      let k = h.stays c (ap (λ (u : Session). u.closed) (same_Some x z e) ∙ f) in (k.1, y, refl, k.0);
}

pub due-append : (capacity : ℕ) (limits : Limits) (s : ℕ) (history more : List Entry) (w v : World)
    → run capacity limits history ≡ Some w → run_from w more ≡ Some v → run capacity limits (history ++ more) ≡ Some v
    → (rest : List Sent) → all_messages (out_from w s more) ++ waiting_of (session_of v s) ≡ waiting_of (session_of w s) ++ rest
    → due capacity limits s (history ++ more) ≡ due capacity limits s history ++ rest
due-append capacity limits s history more w v e f g rest h =
    let front : List Sent = all_messages (out capacity limits s history) in
    ap (λ (o : Option World). all_messages (out capacity limits s (history ++ more)) ++ waiting_in s o) g
    ∙ ap (λ (l : List TakenBatch). all_messages l ++ waiting_of (session_of v s)) (out-append s (fresh_world capacity limits) w history more e)
    ∙ ap (λ (l : List Sent). l ++ waiting_of (session_of v s)) (messages-append (out capacity limits s history) (out_from w s more))
    ∙ append_assoc (all_messages (out capacity limits s history)) (all_messages (out_from w s more)) (waiting_of (session_of v s))
    ∙ ap (λ (l : List Sent). all_messages (out capacity limits s history) ++ l) h
    ∙ sym (append_assoc (all_messages (out capacity limits s history)) (waiting_of (session_of w s)) rest)
    ∙ ap (λ (o : Option World). (all_messages (out capacity limits s history) ++ waiting_in s o) ++ rest) (sym e)

unfold_fronts : FrontsRun → (capacity : ℕ) (limits : Limits) (history more : List Entry) (v : World)
    → run capacity limits (history ++ more) ≡ Some v
    → (w : World) × (run capacity limits history ≡ Some w) × (run_from w more ≡ Some v)
unfolding FrontsRun
unfold_fronts h = h

pub due_only_grows : DueOnlyGrows
unfolding DueOnlyGrows
due_only_grows capacity limits history more v s e =
    let way = unfold_fronts fronts_run capacity limits history more v e in
    let goes = due_goes (session_of way.0 s) (session_of v s) (all_messages (out_from way.0 s more)) (run_goes s way.0 v more way.2) in
    (goes.rest, due-append capacity limits s history more way.0 v way.1 way.2 e goes.rest goes.waits)

pub causes_stay : CausesStay
unfolding CausesStay
causes_stay capacity limits history more w v s x cause e f there closed =
    let way = unfold_fronts fronts_run capacity limits history more v f in
    let same : w ≡ way.0 = same_Some w way.0 (sym e ∙ way.1) in
    let from : run_from w more ≡ Some v = subst (λ (u : World). run_from u more ≡ Some v) (sym same) way.2 in
    let goes = due_goes (session_of w s) (session_of v s) (all_messages (out_from w s more)) (run_goes s w v more from) in
    let none = goes.none x cause there closed in
    record {
      session = none.1;
      there = none.2;
      closed = none.3;
      same_due =
          due-append capacity limits s history more w v e from f goes.rest goes.waits
          ∙ ap (λ (l : List Sent). due capacity limits s history ++ l) none.0
          ∙ append-nil (due capacity limits s history);
    }

-- ---- the editor along a run
-- the editor stays, or a session makes a call
abbrev pub EditorCalls : ModelEditor → ModelEditor → Type 0
EditorCalls m later = (later ≡ m) ⊎ ((s : ℕ) × (call : Call) × (later ≡ editor_after m (outcome_of_frame m s call)))

-- and then UIs go and windows are settled, which leaves the buffers
abbrev pub EditorMoves : ModelEditor → ModelEditor → Type 0
EditorMoves m later = (between : ModelEditor) × EditorCalls m between × (IsSoundModel between → KeepsPasts between later)

entry_editor : (m : ModelEditor) (w v : World) → EditorCalls m w.editor → Some (after_entry w) ≡ Some v → EditorMoves m v.editor
entry_editor m w v h e = subst (λ (u : World). EditorMoves m u.editor) (same_Some (after_entry w) v e) (w.editor, h, entry_keeps w)

settled_editor_moves : (m : ModelEditor) (w v : World) (is_seen : Bool) → EditorCalls m w.editor → Some (after_settled_entry is_seen w) ≡ Some v → EditorMoves m v.editor
settled_editor_moves m w v is_seen h e =
    subst (λ (u : World). EditorMoves m u.editor) (same_Some (after_settled_entry is_seen w) v e) (w.editor, h, settled_entry_keeps is_seen w)

opening_editor : (e : Option ℕ) (w v : World) → world_made (opening_outcome e w) ≡ Some v → EditorMoves w.editor v.editor
opening_editor (Some e) w v f = absurd (none-some v f)
opening_editor None w v f = entry_editor w.editor (record w { sessions = w.sessions ++ _ }) v (inl refl) f

held_editor : (b : Bool) (w v : World) (s : ℕ) (x : Session) (call : Call) → world_made (held_outcome b w s x call) ≡ Some v → EditorMoves w.editor v.editor
held_editor true w v s x call f = absurd (none-some v f)
held_editor false w v s x call f =
    settled_editor_moves w.editor (world_after_call w s call (outcome_of_frame w.editor s call)) v (outcome_of_frame w.editor s call).is_seen (inr (s, call, refl)) f

live_editor : (c : Option Cause) (w v : World) (s : ℕ) (x : Session) (call : Call) → world_made (live_request_outcome c w s x call) ≡ Some v → EditorMoves w.editor v.editor
live_editor (Some c) w v s x call f = absurd (none-some v f)
live_editor None w v s x call f = held_editor _ w v s x call f

request_editor : (x : Option Session) (w v : World) (s : ℕ) (call : Call) → world_made (request_outcome x w s call) ≡ Some v → EditorMoves w.editor v.editor
request_editor None w v s call f = absurd (none-some v f)
request_editor (Some x) w v s call f = live_editor x.closed w v s x call f

pub set_editor : (w : World) (s : ℕ) (x : Session) → (with_session_at w s x).editor ≡ w.editor
set_editor w zero x = refl
set_editor w (suc p) x = refl

take_editor : (x : Option Session) (w v : World) (s : ℕ) → world_made (take_outcome x w s) ≡ Some v → EditorMoves w.editor v.editor
take_editor None w v s f = absurd (none-some v f)
take_editor (Some x) w v s f = by_none (is_nothing_due x.waiting (is_scene_due w s x)) (is_scene_due w s x) f
  where
    by_closed : (c : Option Cause) → world_made (empty_take_outcome c) ≡ Some v → EditorMoves w.editor v.editor
    by_closed None g = absurd (none-some v g)
    by_closed (Some c) g = absurd (none-some v g)

    by_none : (none scene : Bool) → world_made (some_take_outcome none scene w s x) ≡ Some v → EditorMoves w.editor v.editor
    by_none true scene g = by_closed x.closed g
    by_none false scene g = entry_editor w.editor (with_session_at w s _) v (inl (set_editor w s _)) g

close_editor : (x : Option Session) (w v : World) (s : ℕ) → world_made (close_outcome x w s) ≡ Some v → EditorMoves w.editor v.editor
close_editor None w v s f = absurd (none-some v f)
close_editor (Some x) w v s f = by_closed x.closed f
  where
    by_closed : (c : Option Cause) → world_made (live_close_outcome c w s x) ≡ Some v → EditorMoves w.editor v.editor
    by_closed (Some c) g = absurd (none-some v g)
    by_closed None g = settled_editor_moves w.editor (with_session_at w s _) v false (inl (set_editor w s _)) g

pub step_editor : (w v : World) (event : Event) → world_made (step w event) ≡ Some v → EditorMoves w.editor v.editor
step_editor w v open_session f = opening_editor w.ended w v f
step_editor w v (request_of s call) f = request_editor (session_of w s) w v s call f
step_editor w v (take_of s) f = take_editor (session_of w s) w v s f
step_editor w v (close_of s) f = close_editor (session_of w s) w v s f

-- ---- texts stay
facts_grow : (n : ℤ) (past later : Past) (facts : List Fact) → FactsTell n facts past later → Grows n [] past.splices later.splices
facts_grow n past later [] h = record { more = []; grown = ap (λ (p : Past). p.splices) h ∙ sym (append-nil past.splices) }
facts_grow n past later (fact ∷ facts) h =
    let first = grows n [] past h.0 fact h.1 in
    let rest = facts_grow n h.0 later facts h.2 in record {
      more = first.more ++ rest.more;
      grown = rest.grown ∙ ap (λ (l : List Splice). l ++ rest.more) first.grown ∙ append_assoc past.splices first.more rest.more;
    }

module _ (facts_tell : FactsTellPasts) (stay_sound : SoundnessIsKept) where
  pub record PastGrows (n : ℤ) (m later : ModelEditor) : Type 0 where
    pub sound : IsSoundModel later
    pub past : Grows n [] (past_at m n).splices (past_at later n).splices

  call_grows : (n : ℤ) (m : ModelEditor) (s : ℕ) (call : Call) → IsSoundModel m → PastGrows n m (editor_after m (outcome_of_frame m s call))
  unfolding FactsTellPasts SoundnessIsKept
  call_grows n m s (request msgid name args) is = record {
    sound = stay_sound.1 m s name (tree_list args) is;
    past = facts_grow n (past_at m n) (past_at (editor_after m (outcome_of_frame m s (request msgid name args))) n) (outcome_of_frame m s (request msgid name args)).facts (facts_tell m s name (tree_list args) n is);
  }
  call_grows n m s (notice name args) is = record {
    sound = stay_sound.1 m s name (tree_list args) is;
    past = facts_grow n (past_at m n) (past_at (editor_after m (outcome_of_frame m s (notice name args))) n) (outcome_of_frame m s (notice name args)).facts (facts_tell m s name (tree_list args) n is);
  }

  calls_grow : (n : ℤ) (m later : ModelEditor) → EditorCalls m later → IsSoundModel m → PastGrows n m later
  calls_grow n m later (inl e) is =
      subst (λ (x : ModelEditor). PastGrows n m x) (sym e) (record { sound = is; past = record { more = []; grown = sym (append-nil (past_at m n).splices) } })
  calls_grow n m later (inr h) is = subst (λ (x : ModelEditor). PastGrows n m x) (sym h.2) (call_grows n m h.0 h.1 is)

  moves_grow : (n : ℤ) (m later : ModelEditor) → EditorMoves m later → IsSoundModel m → PastGrows n m later
  moves_grow n m later moves is =
      let first = calls_grow n m moves.0 moves.1 is in
      let then = moves.2 first.sound in record {
        sound = then.sound;
        past = record { more = first.past.more; grown = ap (λ (p : Past). p.splices) (then.past n) ∙ first.past.grown };
      }

  grow_next : (n : ℤ) (m : ModelEditor) (v : World) (es : List Entry) (o : Option World) → ((u : World) → o ≡ Some u → PastGrows n m u.editor)
      → ((u : World) → IsSoundModel u.editor → run_from u es ≡ Some v → PastGrows n u.editor v.editor)
      → option_and_then (λ u. run_from u es) o ≡ Some v → PastGrows n m v.editor
  grow_next n m v es None first rest e = absurd (none-some v e)
  grow_next n m v es (Some u) first rest e =
      let f = first u refl in
      let r = rest u f.sound e in record {
        sound = r.sound;
        past = record {
          more = f.past.more ++ r.past.more;
          grown = r.past.grown ∙ ap (λ (l : List Splice). l ++ r.past.more) f.past.grown ∙ append_assoc (past_at m n).splices f.past.more r.past.more;
        };
      }

  pub run_grows : (n : ℤ) (w v : World) (es : List Entry) → IsSoundModel w.editor → run_from w es ≡ Some v → PastGrows n w.editor v.editor
  run_grows n w v [] is e = subst (λ (u : World). PastGrows n w.editor u.editor) (same_Some w v e) (calls_grow n w.editor w.editor (inl refl) is)
  run_grows n w v (x ∷ es) is e =
      grow_next n w.editor v es (world_made (step w x.event)) (λ u f. moves_grow n w.editor u.editor (step_editor w u x.event f) is)
      (λ u s f. run_grows n u v es s f) e

  pub run_sound : (capacity : ℕ) (limits : Limits) (history : List Entry) (w : World) → run capacity limits history ≡ Some w → IsSoundModel w.editor
  unfolding SoundnessIsKept
  run_sound capacity limits history w e = (run_grows (pos 0) (fresh_world capacity limits) w history (stay_sound.0 limits) e).sound

  pub texts_stay : TextsAtTicksStay
  unfolding TextsAtTicksStay
  texts_stay capacity limits history more w v n tick e f low =
      let way = unfold_fronts fronts_run capacity limits history more v f in
      let same : w ≡ way.0 = same_Some w way.0 (sym e ∙ way.1) in
      let from : run_from w more ≡ Some v = subst (λ (u : World). run_from u more ≡ Some v) (sym same) way.2 in
      let grown = (run_grows n w v more (run_sound capacity limits history w e) from).past in
      let within : tick - 2 ≤ length (past_at w.editor n).splices = omega (arith, low) in
      ap (λ (l : List Splice). lines_of (text_then (take (tick - 2) l))) grown.grown
      ∙ ap (λ (l : List Splice). lines_of (text_then l)) (take-append-le (tick - 2) (past_at w.editor n).splices grown.more within)
