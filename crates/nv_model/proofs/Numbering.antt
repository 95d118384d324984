-- All that has a handle has one below the next, and no handle is given twice.
use Rattle.std.proofs.Common.{◌≡◌, ℤ, pos, ◌+ℤ◌, ◌≤ℤ◌, ◌<ℤ◌, List, [], ◌∷◌, ◌++◌, map, refl, sym, arith, All, Bool, true, false, not, cond, Option, Some, None, subst}
use Rattle.std.specs.Ordering.{int_eq}
use Rattle.std.proofs.lemmas.Int.{ints}
use Rattle.std.proofs.lemmas.List.Elements.{All-nil, All-cons, All-head, All-tail, All-push, All-append, All-map, All-filter, All-weaker}
use Rattle.nv_layout.specs.Content.{Shape}
use Rattle.nv_layout.specs.Changes.{holds}
use Rattle.nv_model.specs.Buffers.{Splice, ModelBuffer, with_seal, with_splice, with_splice_back}
use Rattle.nv_windows.specs.Workspace.{Page}
use Rattle.nv_windows.specs.Operations.{put_behind, page_left}
use Rattle.nv_windows.specs.Sound.{IsRisingFrom}
use Rattle.nv_windows.specs.declared.window.Window.{Window}
use Rattle.nv_model.specs.Stage.{Stage, view_moved, with_uis}
use Rattle.nv_model.specs.Editors.{ModelEditor, at_handle, updated_at, fresh_editor}
use Rattle.nv_model.specs.Operations.{Operation, spliced, spliced_back, stepped, sealed_in, mark_set, mark_removed, name_put, modifiable_put, modified_put, listed_put, tabstop_put, buffer_made, buffer_dropped, namespace_made, group_made, group_put, note_put, window_opened, window_closed, tab_made, tab_closed, went_to_window, went_to_tab, cursor_put, top_put, shown, wish_put, ui_put, uis_dropped, stage_spliced, after_operation}
use Rattle.nv_model.specs.Laws.{IsNumbered, HandlesStayBelow, buffers_given, windows_given, tabpages_given, all_given, NoHandleTwice}
use Rattle.nv_model.specs.declared.parts.Limits.{Limits}
use Rattle.nv_model.specs.declared.parts.Ui.{Ui}

-- ---- handles below a number
abbrev EntryBelow : ℤ → ℤ × ModelBuffer → Type 0
EntryBelow n e = e.0 <ℤ n

abbrev WindowBelow : ℤ → Window → Type 0
WindowBelow n w = w.handle <ℤ n

abbrev TabpageBelow : ℤ → Page → Type 0
TabpageBelow n t = t.handle <ℤ n

one_above : (a b : ℤ) → a <ℤ b → a <ℤ (b +ℤ pos 1)
one_above a b low = omega (arith, ints)

the_next : (a : ℤ) → a <ℤ (a +ℤ pos 1)
the_next a = omega (arith, ints)

-- an update of the entries under a handle keeps all handles
updated_below : (n k : ℤ) (f : ModelBuffer → ModelBuffer) (es : List (ℤ × ModelBuffer)) → All (EntryBelow n) es
    → All (EntryBelow n) (updated_at k f es)
updated_below n k f es low =
    All-map (EntryBelow n) (λ (e : ℤ × ModelBuffer). cond (int_eq e.0 k) (e.0, f e.1) e) es
    (All-weaker (EntryBelow n) (λ (e : ℤ × ModelBuffer). EntryBelow n (cond (int_eq e.0 k) (e.0, f e.1) e)) one es low)
  where
    one : (e : ℤ × ModelBuffer) → EntryBelow n e → EntryBelow n (cond (int_eq e.0 k) (e.0, f e.1) e)
    one e h = by_case (int_eq e.0 k)
      where
        by_case : (b : Bool) → EntryBelow n (cond b (e.0, f e.1) e)
        by_case true = h
        by_case false = h

-- so does one of windows, and of tabpages
windows_below : (n : ℤ) (test : Window → Bool) (f : Window → Window) → ((w : Window) → (f w).handle ≡ w.handle) → (ws : List Window)
    → All (WindowBelow n) ws → All (WindowBelow n) (map (λ (w : Window). cond (test w) (f w) w) ws)
windows_below n test f keeps ws low =
    All-map (WindowBelow n) (λ (w : Window). cond (test w) (f w) w) ws
    (All-weaker (WindowBelow n) (λ (w : Window). WindowBelow n (cond (test w) (f w) w)) one ws low)
  where
    one : (w : Window) → WindowBelow n w → WindowBelow n (cond (test w) (f w) w)
    one w h = by_case (test w)
      where
        by_case : (b : Bool) → WindowBelow n (cond b (f w) w)
        by_case true = subst (λ (k : ℤ). k <ℤ n) (sym (keeps w)) h
        by_case false = h

tabpages_below : (n : ℤ) (test : Page → Bool) (f : Page → Page) → ((t : Page) → (f t).handle ≡ t.handle) → (ts : List Page)
    → All (TabpageBelow n) ts → All (TabpageBelow n) (map (λ (t : Page). cond (test t) (f t) t) ts)
tabpages_below n test f keeps ts low =
    All-map (TabpageBelow n) (λ (t : Page). cond (test t) (f t) t) ts
    (All-weaker (TabpageBelow n) (λ (t : Page). TabpageBelow n (cond (test t) (f t) t)) one ts low)
  where
    one : (t : Page) → TabpageBelow n t → TabpageBelow n (cond (test t) (f t) t)
    one t h = by_case (test t)
      where
        by_case : (b : Bool) → TabpageBelow n (cond b (f t) t)
        by_case true = subst (λ (k : ℤ). k <ℤ n) (sym (keeps t)) h
        by_case false = h

left_handle : (w : ℤ) (t : Page) (o : Option Shape) → (page_left w t o).handle ≡ t.handle
left_handle w t None = refl
left_handle w t (Some tree) = refl

put_below : (n k : ℤ) (new : Page) (ts : List Page) → TabpageBelow n new → All (TabpageBelow n) ts
    → All (TabpageBelow n) (put_behind k new ts)
put_below n k new [] is low = All-cons (TabpageBelow n) new [] is (All-nil (TabpageBelow n))
put_below n k new (t ∷ ts) is low =
    step (put_below n k new ts is rest) (int_eq t.handle k)
  where
    first : TabpageBelow n t
    first = All-head (TabpageBelow n) t ts low

    rest : All (TabpageBelow n) ts
    rest = All-tail (TabpageBelow n) t ts low

    step : All (TabpageBelow n) (put_behind k new ts) → (b : Bool) → All (TabpageBelow n) (cond b (t ∷ new ∷ ts) (t ∷ put_behind k new ts))
    step more true = All-cons (TabpageBelow n) t (new ∷ ts) first (All-cons (TabpageBelow n) new ts is rest)
    step more false = All-cons (TabpageBelow n) t (put_behind k new ts) first more

-- ---- the parts of a stage with handles
record IsStageBelow (s : Stage) : Type 0 where
  windows : All (WindowBelow s.workspace.next_window) s.workspace.windows
  tabpages : All (TabpageBelow s.workspace.next_tabpage) s.workspace.tabpages

-- a stage with the same parts
pub record IsAlike (s t : Stage) : Type 0 where
  pub buffer : t.next_buffer ≡ s.next_buffer
  pub window : t.workspace.next_window ≡ s.workspace.next_window
  pub tabpage : t.workspace.next_tabpage ≡ s.workspace.next_tabpage

pub uis_alike : (uis : List Ui) (s : Stage) → IsAlike s (with_uis uis s)
uis_alike [] s = record { buffer = refl; window = refl; tabpage = refl }
uis_alike (u ∷ us) s = record { buffer = refl; window = refl; tabpage = refl }

uis_below : (uis : List Ui) (s : Stage) → IsStageBelow s → IsStageBelow (with_uis uis s)
uis_below [] s is = record { windows = is.windows; tabpages = is.tabpages }
uis_below (u ∷ us) s is = record { windows = is.windows; tabpages = is.tabpages }

pub splice_alike : (n : ℤ) (p : Splice) (o : Option ModelBuffer) (s : Stage) → IsAlike s (stage_spliced n p o s)
splice_alike n p None s = record { buffer = refl; window = refl; tabpage = refl }
splice_alike n p (Some b) s = record { buffer = refl; window = refl; tabpage = refl }

splice_below : (n : ℤ) (p : Splice) (o : Option ModelBuffer) (s : Stage) → IsStageBelow s → IsStageBelow (stage_spliced n p o s)
splice_below n p None s is = is
splice_below n p (Some b) s is = record {
  windows = windows_below s.workspace.next_window (λ (w : Window). int_eq w.buffer n) (view_moved _ p) (λ w. refl) s.workspace.windows is.windows;
  tabpages = is.tabpages;
}

-- ---- each operation
stage_of : (m : ModelEditor) → IsNumbered m → IsStageBelow m.stage
stage_of m is = record { windows = is.windows; tabpages = is.tabpages }

-- one that touches a buffer alone
in_buffer : (k : ℤ) (f : ModelBuffer → ModelBuffer) (m : ModelEditor) → IsNumbered m
    → IsNumbered (record m { buffers = updated_at k f m.buffers })
in_buffer k f m is = record {
  buffers = updated_below m.stage.next_buffer k f m.buffers is.buffers;
  deleted = is.deleted;
  windows = is.windows;
  tabpages = is.tabpages;
}

-- one that touches the stage alone, and not the next buffer
on_stage : (t : Stage) (m : ModelEditor) → IsNumbered m → t.next_buffer ≡ m.stage.next_buffer → IsStageBelow t
    → IsNumbered (record m { stage = t })
on_stage t m is same below = record {
  buffers = subst (λ (k : ℤ). All (EntryBelow k) m.buffers) (sym same) is.buffers;
  deleted = subst (λ (k : ℤ). All (EntryBelow k) m.deleted) (sym same) is.deleted;
  windows = below.windows;
  tabpages = below.tabpages;
}

with_splice_below : (k : ℤ) (p : Splice) (f : ModelBuffer → ModelBuffer) (m : ModelEditor) → IsNumbered m
    → IsNumbered (record m { buffers = updated_at k f m.buffers; stage = stage_spliced k p (at_handle m.buffers k) m.stage })
with_splice_below k p f m is =
    on_stage (stage_spliced k p (at_handle m.buffers k) m.stage) (record m { buffers = updated_at k f m.buffers }) (in_buffer k f m is)
    (splice_alike k p (at_handle m.buffers k) m.stage).buffer
    (splice_below k p (at_handle m.buffers k) m.stage (stage_of m is))

pub stays_below : (c : Operation) (m : ModelEditor) → IsNumbered m → IsNumbered (after_operation c m)
stays_below (spliced k s) m is = with_splice_below k s (with_splice s) m is
stays_below (spliced_back k s) m is = with_splice_below k s (with_splice_back s) m is
stays_below (stepped k leg) m is = in_buffer k _ m is
stays_below (sealed_in k) m is = in_buffer k with_seal m is
stays_below (mark_set k mark) m is = in_buffer k _ m is
stays_below (mark_removed k ns id) m is = in_buffer k _ m is
stays_below (name_put k name) m is = in_buffer k _ m is
stays_below (modifiable_put k on) m is = in_buffer k _ m is
stays_below (modified_put k on) m is = in_buffer k _ m is
stays_below (listed_put k on) m is = in_buffer k _ m is
stays_below (tabstop_put k cells) m is = in_buffer k _ m is
stays_below (buffer_made listed) m is = record {
  buffers =
      All-push (EntryBelow (m.stage.next_buffer +ℤ pos 1)) m.buffers _
      (All-weaker (EntryBelow m.stage.next_buffer) (EntryBelow (m.stage.next_buffer +ℤ pos 1)) (λ e low. one_above e.0 _ low) m.buffers is.buffers)
      (the_next m.stage.next_buffer);
  deleted =
      All-weaker (EntryBelow m.stage.next_buffer) (EntryBelow (m.stage.next_buffer +ℤ pos 1)) (λ e low. one_above e.0 _ low) m.deleted is.deleted;
  windows = is.windows;
  tabpages = is.tabpages;
}
stays_below (buffer_dropped k) m is = record {
  buffers = All-filter (λ (e : ℤ × ModelBuffer). not (int_eq e.0 k)) (EntryBelow m.stage.next_buffer) m.buffers is.buffers;
  deleted =
      All-append (EntryBelow m.stage.next_buffer) m.deleted _ is.deleted
      (All-filter (λ (e : ℤ × ModelBuffer). int_eq e.0 k) (EntryBelow m.stage.next_buffer) m.buffers is.buffers);
  windows = is.windows;
  tabpages = is.tabpages;
}
stays_below (namespace_made name) m is = on_stage _ m is refl (record { windows = is.windows; tabpages = is.tabpages })
stays_below (group_made name) m is = on_stage _ m is refl (record { windows = is.windows; tabpages = is.tabpages })
stays_below (group_put id group) m is = on_stage _ m is refl (record { windows = is.windows; tabpages = is.tabpages })
stays_below (note_put n set note) m is = on_stage _ m is refl (record { windows = is.windows; tabpages = is.tabpages })
stays_below (window_opened beside side buffer width height) m is = on_stage _ m is refl (record {
  windows =
      All-push (WindowBelow (m.stage.workspace.next_window +ℤ pos 1)) m.stage.workspace.windows _
      (All-weaker (WindowBelow m.stage.workspace.next_window) (WindowBelow (m.stage.workspace.next_window +ℤ pos 1)) (λ w low. one_above w.handle _ low) m.stage.workspace.windows is.windows)
      (the_next m.stage.workspace.next_window);
  tabpages = tabpages_below m.stage.workspace.next_tabpage (λ (t : Page). holds beside t.tree) _ (λ t. refl) m.stage.workspace.tabpages is.tabpages;
})
stays_below (window_closed w) m is = on_stage _ m is refl (record {
  windows = All-filter (λ (v : Window). not (int_eq v.handle w)) (WindowBelow m.stage.workspace.next_window) m.stage.workspace.windows is.windows;
  tabpages = tabpages_below m.stage.workspace.next_tabpage (λ (t : Page). holds w t.tree) _ (λ t. left_handle w t _) m.stage.workspace.tabpages is.tabpages;
})
stays_below (tab_made buffer) m is = on_stage _ m is refl (record {
  windows =
      All-push (WindowBelow (m.stage.workspace.next_window +ℤ pos 1)) m.stage.workspace.windows _
      (All-weaker (WindowBelow m.stage.workspace.next_window) (WindowBelow (m.stage.workspace.next_window +ℤ pos 1)) (λ w low. one_above w.handle _ low) m.stage.workspace.windows is.windows)
      (the_next m.stage.workspace.next_window);
  tabpages =
      put_below (m.stage.workspace.next_tabpage +ℤ pos 1) m.stage.workspace.tabpage _ m.stage.workspace.tabpages (the_next m.stage.workspace.next_tabpage)
      (All-weaker (TabpageBelow m.stage.workspace.next_tabpage) (TabpageBelow (m.stage.workspace.next_tabpage +ℤ pos 1)) (λ t low. one_above t.handle _ low) m.stage.workspace.tabpages is.tabpages);
})
stays_below (tab_closed t) m is = on_stage _ m is refl (record {
  windows = All-filter _ (WindowBelow m.stage.workspace.next_window) m.stage.workspace.windows is.windows;
  tabpages = All-filter (λ (u : Page). not (int_eq u.handle t)) (TabpageBelow m.stage.workspace.next_tabpage) m.stage.workspace.tabpages is.tabpages;
})
stays_below (went_to_window w) m is = on_stage _ m is refl (record {
  windows = is.windows;
  tabpages = tabpages_below m.stage.workspace.next_tabpage (λ (t : Page). holds w t.tree) _ (λ t. refl) m.stage.workspace.tabpages is.tabpages;
})
stays_below (went_to_tab t) m is = on_stage _ m is refl (record { windows = is.windows; tabpages = is.tabpages })
stays_below (cursor_put w p) m is = on_stage _ m is refl (record {
  windows = windows_below m.stage.workspace.next_window (λ (v : Window). int_eq v.handle w) _ (λ v. refl) m.stage.workspace.windows is.windows;
  tabpages = is.tabpages;
})
stays_below (top_put w row) m is = on_stage _ m is refl (record {
  windows = windows_below m.stage.workspace.next_window (λ (v : Window). int_eq v.handle w) _ (λ v. refl) m.stage.workspace.windows is.windows;
  tabpages = is.tabpages;
})
stays_below (shown w buffer) m is = on_stage _ m is refl (record {
  windows = windows_below m.stage.workspace.next_window (λ (v : Window). int_eq v.handle w) _ (λ v. refl) m.stage.workspace.windows is.windows;
  tabpages = is.tabpages;
})
stays_below (wish_put w axis n) m is = on_stage _ m is refl (record {
  windows = is.windows;
  tabpages = tabpages_below m.stage.workspace.next_tabpage (λ (t : Page). holds w t.tree) _ (λ t. refl) m.stage.workspace.tabpages is.tabpages;
})
stays_below (ui_put ui) m is = on_stage _ m is (uis_alike _ m.stage).buffer (uis_below _ m.stage (stage_of m is))
stays_below (uis_dropped sessions) m is = on_stage _ m is (uis_alike _ m.stage).buffer (uis_below _ m.stage (stage_of m is))

fresh_below : (limits : Limits) → IsNumbered (fresh_editor limits)
fresh_below limits = record {
  buffers = All-cons (EntryBelow (pos 2)) _ [] (omega (arith, ints)) (All-nil (EntryBelow (pos 2)));
  deleted = All-nil (EntryBelow (pos 2));
  windows = All-cons (WindowBelow (pos 1001)) _ [] (omega (arith, ints)) (All-nil (WindowBelow (pos 1001)));
  tabpages = All-cons (TabpageBelow (pos 2)) _ [] (omega (arith, ints)) (All-nil (TabpageBelow (pos 2)));
}

pub handles_stay_below : HandlesStayBelow
handles_stay_below = (fresh_below, stays_below)

-- ---- no handle is given twice
all_rise : (given : Operation → Stage → List ℤ) (next : Stage → ℤ)
    → ((c : Operation) (m : ModelEditor) (ks : List ℤ) → IsRisingFrom (next (after_operation c m).stage) ks → IsRisingFrom (next m.stage) (given c m.stage ++ ks))
    → (cs : List Operation) (m : ModelEditor) → IsRisingFrom (next m.stage) (all_given given cs m)
all_rise given next step [] m = tt
all_rise given next step (c ∷ cs) m = step c m (all_given given cs (after_operation c m)) (all_rise given next step cs (after_operation c m))

itself : (a : ℤ) → a ≤ℤ a
itself a = omega (arith, ints)

same_rise : (a b : ℤ) (ks : List ℤ) → a ≡ b → IsRisingFrom a ks → IsRisingFrom b ks
same_rise a b ks is h = subst (λ (n : ℤ). IsRisingFrom n ks) is h

buffers_rise : (c : Operation) (m : ModelEditor) (ks : List ℤ) → IsRisingFrom (after_operation c m).stage.next_buffer ks
    → IsRisingFrom m.stage.next_buffer (buffers_given c m.stage ++ ks)
buffers_rise (buffer_made listed) m ks h = (itself m.stage.next_buffer, h)
buffers_rise (spliced k s) m ks h = same_rise _ _ ks (splice_alike k s (at_handle m.buffers k) m.stage).buffer h
buffers_rise (spliced_back k s) m ks h = same_rise _ _ ks (splice_alike k s (at_handle m.buffers k) m.stage).buffer h
buffers_rise (ui_put ui) m ks h = same_rise _ _ ks (uis_alike _ m.stage).buffer h
buffers_rise (uis_dropped sessions) m ks h = same_rise _ _ ks (uis_alike _ m.stage).buffer h
buffers_rise _ m ks h = h

windows_rise : (c : Operation) (m : ModelEditor) (ks : List ℤ) → IsRisingFrom (after_operation c m).stage.workspace.next_window ks
    → IsRisingFrom m.stage.workspace.next_window (windows_given c m.stage ++ ks)
windows_rise (window_opened beside side buffer width height) m ks h = (itself m.stage.workspace.next_window, h)
windows_rise (tab_made buffer) m ks h = (itself m.stage.workspace.next_window, h)
windows_rise (spliced k s) m ks h = same_rise _ _ ks (splice_alike k s (at_handle m.buffers k) m.stage).window h
windows_rise (spliced_back k s) m ks h = same_rise _ _ ks (splice_alike k s (at_handle m.buffers k) m.stage).window h
windows_rise (ui_put ui) m ks h = same_rise _ _ ks (uis_alike _ m.stage).window h
windows_rise (uis_dropped sessions) m ks h = same_rise _ _ ks (uis_alike _ m.stage).window h
windows_rise _ m ks h = h

tabpages_rise : (c : Operation) (m : ModelEditor) (ks : List ℤ) → IsRisingFrom (after_operation c m).stage.workspace.next_tabpage ks
    → IsRisingFrom m.stage.workspace.next_tabpage (tabpages_given c m.stage ++ ks)
tabpages_rise (tab_made buffer) m ks h = (itself m.stage.workspace.next_tabpage, h)
tabpages_rise (spliced k s) m ks h = same_rise _ _ ks (splice_alike k s (at_handle m.buffers k) m.stage).tabpage h
tabpages_rise (spliced_back k s) m ks h = same_rise _ _ ks (splice_alike k s (at_handle m.buffers k) m.stage).tabpage h
tabpages_rise (ui_put ui) m ks h = same_rise _ _ ks (uis_alike _ m.stage).tabpage h
tabpages_rise (uis_dropped sessions) m ks h = same_rise _ _ ks (uis_alike _ m.stage).tabpage h
tabpages_rise _ m ks h = h

pub no_handle_twice : NoHandleTwice
no_handle_twice cs m = (
  all_rise buffers_given (λ (s : Stage). s.next_buffer) buffers_rise cs m,
  all_rise windows_given (λ (s : Stage). s.workspace.next_window) windows_rise cs m,
  all_rise tabpages_given (λ (s : Stage). s.workspace.next_tabpage) tabpages_rise cs m,
)
