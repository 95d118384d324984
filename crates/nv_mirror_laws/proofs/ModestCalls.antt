-- Each call and each entry leaves such an editor, and what the call tells of a buffer can be told in
-- messages.
use Rattle.std.proofs.Common.{◌≡◌, ℕ, ◌+◌, ◌<◌, ◌≤◌, ◌^◌, ℤ, pos, List, [], ◌∷◌, ◌++◌, map, length, take, drop, fold, append-nil, append_assoc, length-append, refl, sym, ap, subst, ◌∙◌, lit<, arith, cond, Bool, true, false, Option, Some, None, FitsSigned, w64}
use Rattle.std.specs.Prelude.{flat_map, ◌==◌, IfSome}
use Rattle.std.specs.List.{AllByRecursion}
use Rattle.std.specs.Option.{option_or}
use Rattle.std.specs.Ordering.{int_eq}
use Rattle.std.proofs.lemmas.List.{length-take, length-drop}
use Rattle.nv_args.specs.Arguments.{tree_list}
use Rattle.nv_args.specs.Table.{Signature, method_named}
use Rattle.nv_places.specs.Flat.{lines_of}
use Rattle.nv_places.specs.Places.{place_of}
use Rattle.nv_rpc.specs.Calls.{Call, request, notice}
use Rattle.nv_windows.specs.declared.window.Window.{Window}
use Rattle.nv_buffer.specs.declared.buffer.Spliced.{Spliced}
use Rattle.nv_model.specs.Answers.{Answer, Fact, attached, detached, edited, deleted, quit, refused, replied}
use Rattle.nv_model.specs.Buffers.{Splice, ModelBuffer, text_after, row_behind, splice_event, fresh_buffer, with_seal}
use Rattle.nv_model.specs.Editors.{ModelEditor, handles_of, fresh_editor}
use Rattle.nv_model.specs.Operations.{Operation, top_put, uis_dropped, sealed_in, after_operation, after_operations}
use Rattle.nv_model.specs.Rows.{Row}
use Rattle.nv_model.specs.Seen.{Seen, seen_of}
use Rattle.nv_model.specs.declared.parts.Limits.{Limits}
use Rattle.nv_model.proofs.Gone.{all-append}
use Rattle.std.proofs.lemmas.Option.{none-some, same_Some}
use Rattle.nv_dispatch.specs.Calls.{row_of, editor_after}
use Rattle.nv_dispatch.specs.Laws.{FactsTellPasts}
use Rattle.nv_dispatch.specs.Telling.{Past, splices_had, past_at, text_then, tick_then, IsSpliceTold, IsAttachTold, ToldOfLive, FactTells, FactsTell, IsSoundModel}
use Rattle.nv_dispatch.proofs.ByCalls.{OfAnswer, OfRow, HoldsByCalls, call_holds}
use Rattle.nv_dispatch.proofs.CallsKeep.{facts_tell_pasts}
use Rattle.nv_dispatch.proofs.Kept.{KeepsPasts, leaves_keeps, fresh_editor_sound}
use Rattle.nv_dispatch.proofs.RowsKeep.{AnswerTells, RowKeeps, rows_keep}
use Rattle.nv_scene.specs.Settling.{top_of, window_settling, settle_operations}
use Rattle.nv_history.specs.Events.{Event, open_session, request_of, take_of, close_of, closed_at}
use Rattle.nv_history.specs.Sessions.{Session, fresh_session, session_closed_by, shown_after, session_emptied}
use Rattle.nv_history.specs.Worlds.{World, sessions_losing_uis, world_without_uis, world_at_end, after_entry, after_settled_entry, with_session_at, outcome_of_frame, world_after_call, is_scene_due}
use Rattle.nv_history.proofs.Makings.{Makes}
use Rattle.nv_history.proofs.Staging.{same_editor, world_then, entry_keeps, settled_entry_keeps}
use Rattle.nv_mirror_laws.specs.Laws.{AreTyped}
use Rattle.nv_mirror_laws.proofs.ModestRows.{IsModestPast, AllModest, IsModestModel, text_now, IsPlain, updated_live, plain_live, all_plain_live, limits_stay, AnswerModest, RowModest, rows_modest, short_take, short_drop}
use Rattle.nv_mirror_laws.proofs.Tellable.{IsShort, IsTellable, Steps, first_tellable, steps_first, steps_end, IsModest, fresh_modest, sealed_modest}
use Rattle.nv_mirror_laws.proofs.Unshown.{same_editor_at}

-- ---- calls
keeps_modest : (ls : Limits) (m later : ModelEditor) → KeepsPasts m later → IsModestModel ls m → AllModest later → later.stage.limits ≡ m.stage.limits → IsModestModel ls later
keeps_modest ls m later keeps h live same = record {
  sound = keeps.sound;
  pasts = λ n. subst (λ (p : Past). IsModestPast p) (sym (keeps.past n)) (h.pasts n);
  live = live;
  same = same ∙ h.same;
}

seal_modest : (ls : Limits) (n : ℤ) (m : ModelEditor) → IsModestModel ls m → IsModestModel ls (after_operation (sealed_in n) m)
seal_modest ls n m h =
    keeps_modest ls m (after_operation (sealed_in n) m) (leaves_keeps (sealed_in n) tt m h.sound) h
    (updated_live n with_seal m (after_operation (sealed_in n) m) refl (λ b at is. sealed_modest b (h.sound.buffers n b at) (text_now ls m n b h at) is) h.live) refl

seals_modest : (ls : Limits) (handles : List ℤ) (m : ModelEditor) → IsModestModel ls m → IsModestModel ls (after_operations (map sealed_in handles) m)
seals_modest ls [] m h = h
seals_modest ls (n ∷ ns) m h = seals_modest ls ns (after_operation (sealed_in n) m) (seal_modest ls n m h)

abbrev Holds : Limits → ModelEditor → List Operation → List Fact → Bool → Type 0
Holds ls m operations facts is_seen = IsModestModel ls (after_operations operations m)

answer_holds : (ls : Limits) (m : ModelEditor) (is_seen : Bool) (a : Answer) → AnswerTells m a → (AnswerTells m a → AnswerModest ls m a) → OfAnswer (Holds ls) m is_seen a
unfolding AnswerModest
answer_holds ls m is_seen (refused f) tells modest = tt
answer_holds ls m is_seen (replied t operations facts) tells modest = modest tells

row_holds : (ls : Limits) (is_seen : Bool) (row : Row) → RowKeeps row → RowModest ls row → OfRow (IsModestModel ls) (Holds ls) is_seen row
row_holds ls is_seen row keeps modest m h session args =
    answer_holds ls m is_seen (row (seen_of m) session args) (keeps m h.sound session args) (modest m h session args)

if_both : {X : Type 0} (P Q R : X → Type 0) → ((x : X) → P x → Q x → R x) → (o : Option X) → IfSome o P → IfSome o Q → IfSome o R
if_both P Q R each None p q = tt
if_both P Q R each (Some x) p q = each x p q

rows_hold : (ls : Limits) → AreTyped ls → (name : List ℕ) (s : Signature) → method_named name ≡ Some s → IfSome (row_of s.method) (OfRow (IsModestModel ls) (Holds ls) s.is_seen)
rows_hold ls types name s is =
    if_both RowKeeps (RowModest ls) (OfRow (IsModestModel ls) (Holds ls) s.is_seen) (row_holds ls s.is_seen) (row_of s.method) (rows_keep s.method) (rows_modest ls types s.method)

calls_hold : (ls : Limits) → AreTyped ls → HoldsByCalls (IsModestModel ls) (Holds ls)
calls_hold ls types = record {
  none = λ m is_seen h. h;
  both = λ m cs ds fs gs a b h first more. subst (λ (e : ModelEditor). IsModestModel ls e) (sym (all-append cs ds m)) (more first);
  rows = rows_hold ls types;
  seals = λ m h. seals_modest ls (handles_of m.buffers) m h;
}

pub frame_modest : (ls : Limits) → AreTyped ls → (m : ModelEditor) (s : ℕ) (call : Call) → IsModestModel ls m → IsModestModel ls (editor_after m (outcome_of_frame m s call))
frame_modest ls types m s (request msgid name args) h = call_holds (IsModestModel ls) (Holds ls) (calls_hold ls types) m h s name (tree_list args)
frame_modest ls types m s (notice name args) h = call_holds (IsModestModel ls) (Holds ls) (calls_hold ls types) m h s name (tree_list args)

-- ---- what a call tells
pub record IsEventFit (e : Spliced) : Type 0 where
  pub tick : FitsSigned w64 e.tick
  pub first : e.edit.first < 2 ^ 32
  pub last : e.edit.last < 2 ^ 32
  pub few : length e.edit.lines < 2 ^ 32
  pub short : AllByRecursion IsShort e.edit.lines

pub record AreLinesFit (tick : ℕ) (lines : List (List ℕ)) : Type 0 where
  pub low : tick < 2 ^ 63
  pub few : length lines < 2 ^ 32
  pub short : AllByRecursion IsShort lines

-- of one buffer
abbrev pub FactFits : ℤ → Fact → Type 0
FactFits n (attached k tick whole) = int_eq k n ≡ true → IfSome whole (AreLinesFit tick)
FactFits n (edited k e) = int_eq k n ≡ true → IsEventFit e
FactFits n _ = Unit {0}

told_of : (b : Bool) (p q : Past) (R : Type 0) → b ≡ true → ToldOfLive b p q R → R
told_of true p q R e h = h.1
told_of false p q R e h = absurd cc

whole_fits : (tick : ℕ) (text : List ℕ) (whole : Option (List (List ℕ))) → tick < 2 ^ 63 → IsTellable text → IfSome whole (λ lines. lines ≡ lines_of text) → IfSome whole (AreLinesFit tick)
whole_fits tick text None low is e = tt
whole_fits tick text (Some lines) low is e =
    subst (λ (l : List (List ℕ)). AreLinesFit tick l) (sym e) (record { low = low; few = is.few; short = is.short })

last_step : (text : List ℕ) (ss : List Splice) (s : Splice) → Steps text (ss ++ s ∷ []) → IsTellable (text_after (fold text_after text ss) s)
last_step text [] s are = are.0
last_step text (x ∷ xs) s are = last_step (text_after text x) xs s are.1

event_fits : (text : List ℕ) (tick : ℕ) (s : Splice) → tick < 2 ^ 63 → IsTellable text → IsTellable (text_after text s) → (place_of text s.from).row ≤ row_behind text s
    → row_behind text s ≤ length (lines_of text) → IsEventFit (splice_event text tick s)
event_fits text tick s low before after order rows = record {
  tick = record { sfits = omega (arith, low) };
  first = omega (arith, order, rows, before.few);
  last = omega (arith, rows, before.few);
  few = short_length _ (drop (place_of text s.from).row (lines_of (text_after text s))) (length (lines_of (text_after text s))) (omega (arith, length-drop {A = List ℕ} (place_of text s.from).row (lines_of (text_after text s)))) after.few;
  short = short_take _ (drop (place_of text s.from).row (lines_of (text_after text s))) (short_drop (place_of text s.from).row (lines_of (text_after text s)) after.short);
}
  where
    short_length : (n : ℕ) (lines : List (List ℕ)) (most : ℕ) → length lines ≤ most → most < 2 ^ 32 → length (take n lines) < 2 ^ 32
    short_length n lines most low few = omega (arith, length-take {A = List ℕ} n lines, low, few)

splice_fits : (p q : Past) (e : Spliced) → IsModestPast q → IsSpliceTold p e q → IsEventFit e
splice_fits p q e h told =
    let s : Splice = told.made in
    let now : q.splices ≡ p.splices ++ told.made ∷ [] = ap (λ (x : Past). x.splices) told.becomes in
    let steps : Steps (10 ∷ []) (p.splices ++ told.made ∷ []) = subst (λ (ss : List Splice). Steps (10 ∷ []) ss) now h.0 in
    let ticks : tick_then (p.splices ++ told.made ∷ []) < 2 ^ 63 = subst (λ (ss : List Splice). tick_then ss < 2 ^ 63) now h.1 in
    let tick : tick_then p.splices + 1 < 2 ^ 63 = omega (arith, ticks, length-append p.splices (told.made ∷ [])) in
    subst (λ (x : Spliced). IsEventFit x) (sym told.told)
    (event_fits (text_then p.splices) (tick_then p.splices + 1) s tick (steps_end (10 ∷ []) p.splices first_tellable (steps_first (10 ∷ []) p.splices (told.made ∷ []) steps))
    (last_step (10 ∷ []) p.splices told.made steps) told.fits.order told.fits.rows)

attach_fits : (p q : Past) (tick : ℕ) (whole : Option (List (List ℕ))) → IsModestPast q → IsAttachTold p tick whole q → IfSome whole (AreLinesFit tick)
attach_fits p q tick whole h told =
    let past : IsModestPast p = subst (λ (x : Past). IsModestPast x) told.stays h in
    let low : tick < 2 ^ 63 = subst (λ (t : ℕ). t < 2 ^ 63) (sym told.tick_is) past.1 in
    whole_fits tick (text_then p.splices) whole low (steps_end (10 ∷ []) p.splices first_tellable past.0) told.lines_are

fact_fits : (n : ℤ) (fact : Fact) (p q : Past) → IsModestPast q → FactTells n fact p q → FactFits n fact
fact_fits n (attached k tick whole) p q h told = λ e. attach_fits p q tick whole h (told_of (int_eq k n) p q (IsAttachTold p tick whole q) e told)
fact_fits n (detached k) p q h told = tt
fact_fits n (edited k event) p q h told = λ e. splice_fits p q event h (told_of (int_eq k n) p q (IsSpliceTold p event q) e told)
fact_fits n (deleted k) p q h told = tt
fact_fits n quit p q h told = tt

-- a past has all splices of those before it
abbrev Grows : Past → Past → Type 0
Grows p q = (more : List Splice) × (q.splices ≡ p.splices ++ more)

grows_same : (p q : Past) → q.splices ≡ p.splices → Grows p q
grows_same p q e = ([], e ∙ sym (append-nil p.splices))

live_grows : (b : Bool) (p q : Past) (R : Type 0) → ToldOfLive b p q R → (R → Grows p q) → Grows p q
live_grows true p q R h each = each h.1
live_grows false p q R h each = grows_same p q (ap (λ (x : Past). x.splices) h)

fact_grows : (n : ℤ) (fact : Fact) (p q : Past) → FactTells n fact p q → Grows p q
fact_grows n (attached k tick whole) p q h = live_grows (int_eq k n) p q (IsAttachTold p tick whole q) h (λ a. grows_same p q (ap (λ (x : Past). x.splices) a.stays))
fact_grows n (detached k) p q h = live_grows (int_eq k n) p q (q ≡ p) h (λ e. grows_same p q (ap (λ (x : Past). x.splices) e))
fact_grows n (edited k event) p q h = live_grows (int_eq k n) p q (IsSpliceTold p event q) h (λ t. (t.made ∷ [], ap (λ (x : Past). x.splices) t.becomes))
fact_grows n (deleted k) p q h = live_grows (int_eq k n) p q (q ≡ record p { is_deleted = true }) h (λ e. grows_same p q (ap (λ (x : Past). x.splices) e))
fact_grows n quit p q h = grows_same p q (ap (λ (x : Past). x.splices) h)

facts_grow : (n : ℤ) (fs : List Fact) (p q : Past) → FactsTell n fs p q → Grows p q
facts_grow n [] p q h = grows_same p q (ap (λ (x : Past). x.splices) h)
facts_grow n (f ∷ fs) p q h =
    let first = fact_grows n f p h.0 h.1 in
    let rest = facts_grow n fs h.0 q h.2 in
    (first.0 ++ rest.0, rest.1 ∙ ap (λ (ss : List Splice). ss ++ rest.0) first.1 ∙ append_assoc p.splices first.0 rest.0)

modest_before : (p q : Past) → Grows p q → IsModestPast q → IsModestPast p
modest_before p q g h =
    let steps : Steps (10 ∷ []) (p.splices ++ g.0) = subst (λ (ss : List Splice). Steps (10 ∷ []) ss) g.1 h.0 in
    let ticks : tick_then (p.splices ++ g.0) < 2 ^ 63 = subst (λ (ss : List Splice). tick_then ss < 2 ^ 63) g.1 h.1 in
    (steps_first (10 ∷ []) p.splices g.0 steps, omega (arith, ticks, length-append p.splices g.0))

facts_fit : (n : ℤ) (fs : List Fact) (p q : Past) → IsModestPast q → FactsTell n fs p q → AllByRecursion (FactFits n) fs
facts_fit n [] p q h told = tt
facts_fit n (f ∷ fs) p q h told =
    (fact_fits n f p told.0 (modest_before told.0 q (facts_grow n fs told.0 q told.2) h) told.1, facts_fit n fs told.0 q h told.2)

-- what a call tells, by its name
named_tells : FactsTellPasts → (m : ModelEditor) (s : ℕ) (call : Call) (n : ℤ) → IsSoundModel m → FactsTell n (outcome_of_frame m s call).facts (past_at m n) (past_at (editor_after m (outcome_of_frame m s call)) n)
unfolding FactsTellPasts
named_tells law m s (request msgid name args) n sound = law m s name (tree_list args) n sound
named_tells law m s (notice name args) n sound = law m s name (tree_list args) n sound

pub frame_fits : (ls : Limits) → AreTyped ls → (n : ℤ) (m : ModelEditor) (s : ℕ) (call : Call) → IsModestModel ls m → AllByRecursion (FactFits n) (outcome_of_frame m s call).facts
frame_fits ls types n m s call h =
    facts_fit n (outcome_of_frame m s call).facts (past_at m n) (past_at (editor_after m (outcome_of_frame m s call)) n)
    ((frame_modest ls types m s call h).pasts n) (named_tells facts_tell_pasts m s call n h.sound)

-- ---- entries
abbrev pub ModestWorld : Limits → World → Type 0
ModestWorld ls w = IsModestModel ls w.editor

without_live : (is_seen : Bool) (ss : List ℕ) (w : World) → AllModest w.editor → AllModest (world_without_uis is_seen ss w).editor
without_live true [] w live = live
without_live false [] w live = live
without_live is_seen (s ∷ ss) w live = plain_live (uis_dropped (s ∷ ss)) tt w.editor live

without_limits : (is_seen : Bool) (ss : List ℕ) (w : World) → (world_without_uis is_seen ss w).editor.stage.limits ≡ w.editor.stage.limits
without_limits true [] w = refl
without_limits false [] w = refl
without_limits is_seen (s ∷ ss) w = limits_stay (uis_dropped (s ∷ ss) ∷ []) w.editor

end_live : (is_seen : Bool) (w : World) → AllModest w.editor → AllModest (world_at_end is_seen w).editor
end_live is_seen w live =
    without_live is_seen (sessions_losing_uis (world_then w)) (world_then w) (subst (λ (m : ModelEditor). AllModest m) (sym (same_editor w (w.entries + 1 == w.limits.entries))) live)

end_limits : (is_seen : Bool) (w : World) → (world_at_end is_seen w).editor.stage.limits ≡ w.editor.stage.limits
end_limits is_seen w =
    without_limits is_seen (sessions_losing_uis (world_then w)) (world_then w) ∙ ap (λ (m : ModelEditor). m.stage.limits) (same_editor w (w.entries + 1 == w.limits.entries))

settling_step : (s : Seen) (w : Window) (more : List Operation) (b : Bool) → AllByRecursion IsPlain more → AllByRecursion IsPlain (cond b [] (top_put w.handle (top_of s w) ∷ []) ++ more)
settling_step s w more true are = are
settling_step s w more false are = (tt, are)

settling_plain : (s : Seen) (ws : List Window) → AllByRecursion IsPlain (flat_map (window_settling s) ws)
settling_plain s [] = tt
settling_plain s (w ∷ ws) = settling_step s w (flat_map (window_settling s) ws) (top_of s w == w.top) (settling_plain s ws)

entry_modest : (ls : Limits) (w : World) → ModestWorld ls w → ModestWorld ls (after_entry w)
entry_modest ls w h = keeps_modest ls w.editor (after_entry w).editor (entry_keeps w h.sound) h (end_live false w h.live) (end_limits false w)

settled_entry_modest : (ls : Limits) (is_seen : Bool) (w : World) → ModestWorld ls w → ModestWorld ls (after_settled_entry is_seen w)
settled_entry_modest ls is_seen w h =
    let m : ModelEditor = (world_at_end is_seen w).editor in
    keeps_modest ls w.editor (after_settled_entry is_seen w).editor (settled_entry_keeps is_seen w h.sound) h
    (all_plain_live (settle_operations (seen_of m)) (settling_plain (seen_of m) m.stage.workspace.windows) m (end_live is_seen w h.live))
    (limits_stay (settle_operations (seen_of m)) m ∙ end_limits is_seen w)

by_entry : (ls : Limits) (u v : World) → v ≡ after_entry u → ModestWorld ls u → ModestWorld ls v
by_entry ls u v e h = subst (λ (x : World). ModestWorld ls x) (sym e) (entry_modest ls u h)

by_settled_entry : (ls : Limits) (is_seen : Bool) (u v : World) → v ≡ after_settled_entry is_seen u → ModestWorld ls u → ModestWorld ls v
by_settled_entry ls is_seen u v e h = subst (λ (x : World). ModestWorld ls x) (sym e) (settled_entry_modest ls is_seen u h)

modest_at : (ls : Limits) (w : World) (t : ℕ) (x : Session) → ModestWorld ls w → ModestWorld ls (with_session_at w t x)
modest_at ls w t x h = subst (λ (m : ModelEditor). IsModestModel ls m) (sym (same_editor_at w t x)) h

pub makes_modest : (ls : Limits) → AreTyped ls → (w v : World) (event : Event) → ModestWorld ls w → Makes w event v → ModestWorld ls v
makes_modest ls types w v open_session h made = by_entry ls (record w { sessions = w.sessions ++ fresh_session ∷ [] }) v made h
makes_modest ls types w v (request_of t call) h made =
    let o = outcome_of_frame w.editor t call in
    by_settled_entry ls o.is_seen (world_after_call w t call o) v made.made (frame_modest ls types w.editor t call h)
makes_modest ls types w v (take_of t) h made =
    let y = session_emptied (shown_after (is_scene_due w t made.session) w.stamp made.session.shown) made.session in
    by_entry ls (with_session_at w t y) v made.made (modest_at ls w t y h)
makes_modest ls types w v (close_of t) h made =
    let y = session_closed_by (closed_at w.entries) made.session in
    by_settled_entry ls false (with_session_at w t y) v made.made (modest_at ls w t y h)

-- ---- a fresh editor
fresh_past : (ls : Limits) (n : ℤ) → (past_at (fresh_editor ls) n).splices ≡ []
fresh_past ls n = by_handle (int_eq (pos 1) n)
  where
    by_handle : (b : Bool) → splices_had (option_or (cond b (Some (fresh_buffer true)) None) None) ≡ []
    by_handle true = refl
    by_handle false = refl

fresh_live : (ls : Limits) → AllModest (fresh_editor ls)
fresh_live ls n b is = by_handle (int_eq (pos 1) n) is
  where
    by_handle : (t : Bool) → cond t (Some (fresh_buffer true)) None ≡ Some b → IsModest b
    by_handle true e = subst (λ (x : ModelBuffer). IsModest x) (same_Some (fresh_buffer true) b e) (fresh_modest true)
    by_handle false e = absurd (none-some b e)

pub fresh_editor_modest : (ls : Limits) → IsModestModel ls (fresh_editor ls)
fresh_editor_modest ls = record {
  sound = fresh_editor_sound ls;
  pasts = λ n.
      (subst (λ (ss : List Splice). Steps (10 ∷ []) ss) (sym (fresh_past ls n)) tt, subst (λ (ss : List Splice). tick_then ss < 2 ^ 63) (sym (fresh_past ls n)) (lit< tt));
  live = fresh_live ls;
  same = refl;
}
