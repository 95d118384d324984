-- The marks of each buffer of a history's editors have different names.
use Rattle.std.proofs.Common.{◌≡◌, ℕ, ℤ, ◌+◌, List, [], ◌∷◌, ◌++◌, map, sym, subst, arith, Bool, true, false, not, cond, filter, Option, Some, None}
use Rattle.std.specs.Prelude.{option_map, IfSome, ◌==◌}
use Rattle.std.specs.List.{AllByRecursion, IsDistinct}
use Rattle.std.specs.Ordering.{int_eq}
use Rattle.std.proofs.lemmas.Bool.Decides.{nat_tests}
use Rattle.std.proofs.lemmas.List.Elements.{All-weaker, filter_passes, recursion_from_All}
use Rattle.std.proofs.lemmas.List.Kept.{AllPairs-filter}
use Rattle.std.proofs.lemmas.Map.Keys.{IsDistinct-cons, IsDistinct-from_apart, IsDistinct-IsPermutation, apart_from_distinct}
use Rattle.nv_marks.specs.Sound.{same_name}
use Rattle.nv_marks.proofs.NameLemmas.{same_name-flips}
use Rattle.nv_model.specs.Buffers.{SetMark, ModelBuffer, mark_of, marks_there, marks_of, is_set, without_set, with_mark, without_mark, with_seal, with_splice, with_splice_back, fresh_buffer}
use Rattle.nv_model.specs.Editors.{ModelEditor, at_handle, updated_at}
use Rattle.nv_model.specs.Operations.{Operation, spliced, spliced_back, stepped, sealed_in, mark_set, mark_removed, name_put, modifiable_put, modified_put, listed_put, tabstop_put, buffer_made, buffer_dropped, set_now, after_operation, after_operations, uis_dropped}
use Rattle.nv_model.specs.Seen.{seen_buffer, seen_of}
use Rattle.nv_model.specs.Standing.{same_set}
use Rattle.nv_model.specs.declared.parts.Limits.{Limits}
use Rattle.nv_model.proofs.MarkOrders.{marks_are_in_order, there_apart}
use Rattle.nv_undo.specs.Tree.{tree_after_leg}
use Rattle.nv_scene.specs.Laws.{AreNamedApart}
use Rattle.nv_scene.specs.Settling.{settle_operations}
use Rattle.nv_history.specs.Events.{Event, open_session, request_of, take_of, close_of, Entry}
use Rattle.nv_history.specs.Sessions.{Session, fresh_session}
use Rattle.nv_history.specs.Worlds.{World, fresh_world, with_session_at, sessions_losing_uis, world_without_uis, world_at_end, after_entry, after_settled_entry, outcome_of_frame, world_after_call}
use Rattle.nv_history.specs.Runs.{run_from}
use Rattle.nv_history.proofs.GoingRuns.{set_editor}
use Rattle.nv_history.proofs.Staging.{same_editor, world_then}
use Rattle.nv_history.proofs.Makings.{Makes, run_keeps}

-- ---- buffers
abbrev pub AreApart : ModelBuffer → Type 0
AreApart b = IsDistinct same_set b.marks

abbrev pub EachApart : List (ℤ × ModelBuffer) → Type 0
EachApart es = AllByRecursion (λ e. IsDistinct same_set e.1.marks) es

apart-none : IsDistinct same_set []
apart-none = IsDistinct-from_apart same_set [] (λ i j d before within. absurd (omega arith))

apart-without : (ns id : ℕ) (ks : List SetMark) → IsDistinct same_set ks → IsDistinct same_set (without_set ns id ks)
apart-without ns id ks apart =
    IsDistinct-from_apart same_set (without_set ns id ks)
    (AllPairs-filter (λ x y. same_set x y ≡ false) (λ (k : SetMark). not (is_set ns id k)) ks
    (λ i j d before within. apart_from_distinct same_set ks i j d apart before within))

apart-with : (k : SetMark) (ks : List SetMark) → IsDistinct same_set ks → IsDistinct same_set (k ∷ without_set k.ns k.id ks)
apart-with k ks apart =
    IsDistinct-cons same_set k (without_set k.ns k.id ks)
    (recursion_from_All (λ (l : SetMark). same_set k l ≡ false) (without_set k.ns k.id ks)
    (All-weaker (λ (l : SetMark). not (is_set k.ns k.id l) ≡ true) (λ (l : SetMark). same_set k l ≡ false) (λ l other. other_name l other)
    (without_set k.ns k.id ks) (filter_passes (λ (l : SetMark). not (is_set k.ns k.id l)) ks)))
    (apart-without k.ns k.id ks apart)
  where
    other_name : (l : SetMark) → not (is_set k.ns k.id l) ≡ true → same_set k l ≡ false
    other_name l other = grind (arith, nat_tests)

-- ---- the buffers of an editor
updated_step : (f : ModelBuffer → ModelBuffer) (e : ℤ × ModelBuffer) (b : Bool) → (AreApart e.1 → AreApart (f e.1)) → AreApart e.1
    → IsDistinct same_set (cond b (e.0, f e.1) e).1.marks
updated_step f e true keeps h = keeps h
updated_step f e false keeps h = h

updated_apart : (n : ℤ) (f : ModelBuffer → ModelBuffer) (es : List (ℤ × ModelBuffer)) → ((b : ModelBuffer) → AreApart b → AreApart (f b)) → EachApart es → EachApart (updated_at n f es)
updated_apart n f [] keeps h = tt
updated_apart n f (e ∷ es) keeps h = (updated_step f e (int_eq e.0 n) (keeps e.1) h.0, updated_apart n f es keeps h.1)

pushed_apart : (es : List (ℤ × ModelBuffer)) (e : ℤ × ModelBuffer) → AreApart e.1 → EachApart es → EachApart (es ++ e ∷ [])
pushed_apart [] e is h = (is, tt)
pushed_apart (d ∷ es) e is h = (h.0, pushed_apart es e is h.1)

dropped_step : (e : ℤ × ModelBuffer) (es : List (ℤ × ModelBuffer)) (b : Bool) → AreApart e.1 → EachApart es → EachApart (cond (not b) (e ∷ es) es)
dropped_step e es true h rest = rest
dropped_step e es false h rest = (h, rest)

dropped_apart : (n : ℤ) (es : List (ℤ × ModelBuffer)) → EachApart es → EachApart (filter (λ e. not (int_eq e.0 n)) es)
dropped_apart n [] h = tt
dropped_apart n (e ∷ es) h = dropped_step e (filter (λ d. not (int_eq d.0 n)) es) (int_eq e.0 n) h.0 (dropped_apart n es h.1)

-- ---- operations
abbrev pub MarksApart : ModelEditor → Type 0
MarksApart m = EachApart m.buffers

pub operation_apart : (c : Operation) (m : ModelEditor) → MarksApart m → MarksApart (after_operation c m)
operation_apart (spliced n s) m h = updated_apart n (with_splice s) m.buffers (λ b k. k) h
operation_apart (spliced_back n s) m h = updated_apart n (with_splice_back s) m.buffers (λ b k. k) h
operation_apart (stepped n leg) m h = updated_apart n (λ b. record b { undo = tree_after_leg leg b.undo }) m.buffers (λ b k. k) h
operation_apart (sealed_in n) m h = updated_apart n with_seal m.buffers (λ b k. k) h
operation_apart (mark_set n k) m h = updated_apart n (λ b. with_mark (set_now b k) b) m.buffers (λ b is. apart-with (set_now b k) b.marks is) h
operation_apart (mark_removed n ns id) m h = updated_apart n (without_mark ns id) m.buffers (λ b is. apart-without ns id b.marks is) h
operation_apart (name_put n name) m h = updated_apart n (λ b. record b { name = name }) m.buffers (λ b k. k) h
operation_apart (modifiable_put n on) m h = updated_apart n (λ b. record b { modifiable = on }) m.buffers (λ b k. k) h
operation_apart (modified_put n on) m h = updated_apart n (λ b. record b { modified = on }) m.buffers (λ b k. k) h
operation_apart (listed_put n on) m h = updated_apart n (λ b. record b { listed = on }) m.buffers (λ b k. k) h
operation_apart (tabstop_put n cells) m h = updated_apart n (λ b. record b { tabstop = cells }) m.buffers (λ b k. k) h
operation_apart (buffer_made listed) m h = pushed_apart m.buffers (m.stage.next_buffer, fresh_buffer listed) apart-none h
operation_apart (buffer_dropped n) m h = dropped_apart n m.buffers h
operation_apart c m h = h

pub operations_apart : (cs : List Operation) (m : ModelEditor) → MarksApart m → MarksApart (after_operations cs m)
operations_apart [] m h = h
operations_apart (c ∷ cs) m h = operations_apart cs (after_operation c m) (operation_apart c m h)

-- ---- entries
without_apart : (is_seen : Bool) (ss : List ℕ) (w : World) → MarksApart w.editor → MarksApart (world_without_uis is_seen ss w).editor
without_apart true [] w h = h
without_apart false [] w h = h
without_apart is_seen (s ∷ ss) w h = operation_apart (uis_dropped (s ∷ ss)) w.editor h

at_end_apart : (is_seen : Bool) (w : World) → MarksApart w.editor → MarksApart (world_at_end is_seen w).editor
at_end_apart is_seen w h =
    without_apart is_seen (sessions_losing_uis (world_then w)) (world_then w)
    (subst (λ (m : ModelEditor). MarksApart m) (sym (same_editor w (w.entries + 1 == w.limits.entries))) h)

by_entry : (w v : World) → v ≡ after_entry w → MarksApart w.editor → MarksApart v.editor
by_entry w v e h = subst (λ (u : World). MarksApart u.editor) (sym e) (at_end_apart false w h)

by_settled_entry : (is_seen : Bool) (w v : World) → v ≡ after_settled_entry is_seen w → MarksApart w.editor → MarksApart v.editor
by_settled_entry is_seen w v e h =
    subst (λ (u : World). MarksApart u.editor) (sym e)
    (operations_apart (settle_operations (seen_of (world_at_end is_seen w).editor)) (world_at_end is_seen w).editor (at_end_apart is_seen w h))

set_apart : (w : World) (s : ℕ) (x : Session) → MarksApart w.editor → MarksApart (with_session_at w s x).editor
set_apart w s x h = subst (λ (m : ModelEditor). MarksApart m) (sym (set_editor w s x)) h

pub makes_apart : (w v : World) (event : Event) → MarksApart w.editor → Makes w event v → MarksApart v.editor
makes_apart w v open_session h made = by_entry (record w { sessions = w.sessions ++ fresh_session ∷ [] }) v made h
makes_apart w v (request_of s call) h made =
    by_settled_entry (outcome_of_frame w.editor s call).is_seen (world_after_call w s call (outcome_of_frame w.editor s call)) v made.made
    (operations_apart (outcome_of_frame w.editor s call).operations w.editor h)
makes_apart w v (take_of s) h made = by_entry (with_session_at w s _) v made.made (set_apart w s _ h)
makes_apart w v (close_of s) h made = by_settled_entry false (with_session_at w s _) v made.made (set_apart w s _ h)

pub run_apart : (w v : World) (es : List Entry) → MarksApart w.editor → run_from w es ≡ Some v → MarksApart v.editor
run_apart w v es h e = run_keeps (λ (u : World). MarksApart u.editor) makes_apart w v es h e

pub fresh_apart : (capacity : ℕ) (limits : Limits) → MarksApart (fresh_world capacity limits).editor
fresh_apart capacity limits = (apart-none, tt)

-- ---- what is seen
at_apart : (n : ℤ) (es : List (ℤ × ModelBuffer)) → EachApart es → IfSome (at_handle es n) AreApart
at_apart n [] h = tt
at_apart n (e ∷ es) h = step (int_eq e.0 n) (at_apart n es h.1)
  where
    step : (b : Bool) → IfSome (at_handle es n) AreApart → IfSome (cond b (Some e.1) (at_handle es n)) AreApart
    step true rest = h.0
    step false rest = rest

marks_apart : (b : ModelBuffer) → AreApart b → IsDistinct same_name (marks_of b)
marks_apart b is =
    IsDistinct-IsPermutation same_name same_name-flips (map (mark_of b) (marks_there b)) (marks_of b) (marks_are_in_order b).same_marks (there_apart b is)

seen_step : (o : Option ModelBuffer) → IfSome o AreApart → IfSome (option_map seen_buffer o) (λ b. IsDistinct same_name b.marks)
seen_step None h = tt
seen_step (Some b) h = marks_apart b h

pub named_apart : (m : ModelEditor) → MarksApart m → AreNamedApart (seen_of m)
named_apart m h n = seen_step (at_handle m.buffers n) (at_apart n m.buffers h)
