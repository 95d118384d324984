-- Editors that look the same: each scene of the one is a scene of the other.
use Rattle.std.proofs.Common.{◌≡◌, ℕ, suc, ℤ, ◌<ℤ◌, ◌≤ℤ◌, arith, List, [], ◌∷◌, ◌++◌, length, map, refl, ap, sym, ◌∙◌, subst, Bool, true, false, cond, Option, Some, None}
use Rattle.std.specs.Prelude.{option_map, codes, flat_map, ◌==◌}
use Rattle.std.specs.Option.{option_or}
use Rattle.std.specs.Ordering.{int_eq}
use Rattle.std.proofs.lemmas.Int.{ints}
use Rattle.std.proofs.lemmas.Option.{none-some, same_Some}
use Rattle.nv_places.specs.Flat.{line_at}
use Rattle.nv_marks.specs.declared.extmark.Far.{Far}
use Rattle.nv_marks.specs.declared.extmark.Mark.{Mark}
use Rattle.nv_marks.specs.declared.extmark.Paint.{Paint}
use Rattle.nv_layout.specs.Places.{rects, separators}
use Rattle.nv_layout.specs.declared.nodes.Placed.{Placed}
use Rattle.nv_layout.specs.declared.nodes.Rect.{Rect}
use Rattle.nv_hl.specs.Groups.{NamedGroup, attr_of}
use Rattle.nv_windows.specs.Rooms.{text_area, windows_area, without_status}
use Rattle.nv_windows.specs.Workspace.{Workspace, current_window, tabpage_at, window_at}
use Rattle.nv_windows.specs.declared.window.Window.{Window}
use Rattle.nv_linedraw.specs.declared.looks.Span.{Span}
use Rattle.nv_screen.specs.declared.scene.Pane.{Pane}
use Rattle.nv_screen.specs.declared.scene.Scene.{Scene}
use Rattle.nv_screen.specs.declared.scene.SceneLine.{SceneLine}
use Rattle.nv_places.specs.declared.place.Pos.{Pos}
use Rattle.nv_model.specs.Buffers.{ModelBuffer, text_of, marks_of, part_next, with_seal, fresh_buffer}
use Rattle.nv_model.specs.Editors.{ModelEditor, at_handle}
use Rattle.nv_model.specs.Operations.{sealed_in, buffer_made, namespace_made, group_made, ui_put, top_put, after_operation}
use Rattle.nv_model.specs.Seen.{SeenBuffer, seen_buffer, seen_of}
use Rattle.nv_model.specs.Stage.{ui_among}
use Rattle.nv_model.specs.declared.parts.Ui.{Ui}
use Rattle.nv_model.proofs.Lookups.{at_updated, at_append}
use Rattle.nv_api_ui.specs.UiRows.{ui_of}
use Rattle.nv_scene.specs.Panes.{span_by, span_on, AreSpansOf, AreLinesOf, IsPaneOf, IsPaneIn}
use Rattle.nv_scene.specs.Scenes.{attr_named, looks_of, bars_of, colours_by, ArePanesIn, IsSceneOf}
use Rattle.nv_scene.specs.Settling.{top_by, top_of, window_settling, IsSettled}
use Rattle.nv_history.proofs.GoneBuffers.{next_rises}
use Rattle.nv_history.proofs.GroupsGrown.{attrs_stay}
use Rattle.nv_history.proofs.WindowBuffers.{AreBelow, raised}
use Rattle.nv_history.proofs.UisStand.{AreStanding, operation_stands, put_keeps_size, put_groups}

-- a buffer with other changes, and the same otherwise
abbrev pub IsAsSeen : ModelBuffer → Option ModelBuffer → Type 0
IsAsSeen b None = ⊥
IsAsSeen b (Some d) = d ≡ record b { undo = d.undo; unsealed = d.unsealed }

pub record LooksOn (m later : ModelEditor) : Type 0 where
  pub workspace : later.stage.workspace ≡ m.stage.workspace
  pub attrs : (id : ℕ) → attr_of later.stage.groups id ≡ attr_of m.stage.groups id
  pub named : (name : List ℕ) → attr_named later.stage.groups name ≡ attr_named m.stage.groups name
  pub buffers : (n : ℤ) (b : ModelBuffer) → at_handle m.buffers n ≡ Some b → IsAsSeen b (at_handle later.buffers n)
  pub none : (n : ℤ) → n <ℤ m.stage.next_buffer → at_handle m.buffers n ≡ None → at_handle later.buffers n ≡ None
  pub next : m.stage.next_buffer ≤ℤ later.stage.next_buffer
  pub stands : AreStanding later.stage

-- ---- the same, and one after another
as_it_is : (b : ModelBuffer) (o : Option ModelBuffer) → o ≡ Some b → IsAsSeen b o
as_it_is b o e = subst (λ (p : Option ModelBuffer). IsAsSeen b p) (sym e) refl

pub looks_same : (m : ModelEditor) → AreStanding m.stage → LooksOn m m
looks_same m stands = record {
  workspace = refl;
  attrs = λ id. refl;
  named = λ name. refl;
  buffers = λ n b is. as_it_is b (at_handle m.buffers n) is;
  none = λ n low is. is;
  next = omega (arith, ints);
  stands = stands;
}

then_seen : (b c : ModelBuffer) (o : Option ModelBuffer) → c ≡ record b { undo = c.undo; unsealed = c.unsealed } → IsAsSeen c o → IsAsSeen b o
then_seen b c None e h = absurd h
then_seen b c (Some d) e h = h ∙ ap (λ (x : ModelBuffer). record x { undo = d.undo; unsealed = d.unsealed }) e

then_at : (n : ℤ) (b : ModelBuffer) (o : Option ModelBuffer) (between later : ModelEditor) → at_handle between.buffers n ≡ o → IsAsSeen b o → LooksOn between later
    → IsAsSeen b (at_handle later.buffers n)
then_at n b None between later is h looks = absurd h
then_at n b (Some c) between later is h looks = then_seen b c (at_handle later.buffers n) h (looks.buffers n c is)

pub looks_then : (m between later : ModelEditor) → LooksOn m between → LooksOn between later → LooksOn m later
looks_then m between later first then = record {
  workspace = then.workspace ∙ first.workspace;
  attrs = λ id. then.attrs id ∙ first.attrs id;
  named = λ name. then.named name ∙ first.named name;
  buffers = λ n b is. then_at n b (at_handle between.buffers n) between later refl (first.buffers n b is) then;
  none = λ n low is. let more = first.next in then.none n (omega (arith, ints, low, more)) (first.none n low is);
  next = let more = first.next in let rest = then.next in omega (arith, ints, more, rest);
  stands = then.stands;
}

-- ---- operations that change nothing that is shown
pub looks_buffer_made : (m : ModelEditor) (listed : Bool) → AreStanding m.stage → LooksOn m (after_operation (buffer_made listed) m)
looks_buffer_made m listed stands = record {
  workspace = refl;
  attrs = λ id. refl;
  named = λ name. refl;
  buffers = λ n b is.
      as_it_is b (at_handle (after_operation (buffer_made listed) m).buffers n)
      (at_append n m.buffers ((m.stage.next_buffer, fresh_buffer listed) ∷ [])
      ∙ ap (λ (o : Option ModelBuffer). option_or o (at_handle ((m.stage.next_buffer, fresh_buffer listed) ∷ []) n)) is);
  none = λ n low is.
      let apart : int_eq m.stage.next_buffer n ≡ false = grind (arith, ints, low) in
      at_append n m.buffers ((m.stage.next_buffer, fresh_buffer listed) ∷ [])
      ∙ ap (λ (o : Option ModelBuffer). option_or o (at_handle ((m.stage.next_buffer, fresh_buffer listed) ∷ []) n)) is
      ∙ ap (λ (t : Bool). cond t (Some (fresh_buffer listed)) None) apart;
  next = omega (arith, ints);
  stands = stands;
}

pub looks_namespace_made : (m : ModelEditor) (name : List ℕ) → AreStanding m.stage → LooksOn m (after_operation (namespace_made name) m)
looks_namespace_made m name stands = record {
  workspace = refl;
  attrs = λ id. refl;
  named = λ other. refl;
  buffers = λ n b is. as_it_is b (at_handle m.buffers n) is;
  none = λ n low is. is;
  next = omega (arith, ints);
  stands = stands;
}

pub looks_group_made : (m : ModelEditor) (name : List ℕ) → AreStanding m.stage → LooksOn m (after_operation (group_made name) m)
looks_group_made m name stands = record {
  workspace = refl;
  attrs = (attrs_stay m.stage.groups name).attrs;
  named = (attrs_stay m.stage.groups name).named;
  buffers = λ n b is. as_it_is b (at_handle m.buffers n) is;
  none = λ n low is. is;
  next = omega (arith, ints);
  stands = stands;
}

sealed_seen : (b : ModelBuffer) (t : Bool) → IsAsSeen b (cond t (option_map with_seal (Some b)) (Some b))
sealed_seen b true = refl
sealed_seen b false = refl

sealed_none : (t : Bool) → cond t (option_map with_seal None) None ≡ None
sealed_none true = refl
sealed_none false = refl

pub looks_sealed : (m : ModelEditor) (k : ℤ) → AreStanding m.stage → LooksOn m (after_operation (sealed_in k) m)
looks_sealed m k stands = record {
  workspace = refl;
  attrs = λ id. refl;
  named = λ name. refl;
  buffers = λ n b is.
      subst (λ (o : Option ModelBuffer). IsAsSeen b o)
      (sym (at_updated k n with_seal m.buffers ∙ ap (λ (o : Option ModelBuffer). cond (int_eq k n) (option_map with_seal o) o) is))
      (sealed_seen b (int_eq k n));
  none = λ n low is.
      at_updated k n with_seal m.buffers ∙ ap (λ (o : Option ModelBuffer). cond (int_eq k n) (option_map with_seal o) o) is ∙ sealed_none (int_eq k n);
  next = omega (arith, ints);
  stands = stands;
}

pub looks_ui_put : (m : ModelEditor) (ui old : Ui) → AreStanding m.stage → ui_of ui.session m.stage.uis ≡ Some old → ui.width ≡ old.width → ui.height ≡ old.height
    → LooksOn m (after_operation (ui_put ui) m)
looks_ui_put m ui old stands is wide high =
    let groups = put_groups (ui_among ui m.stage.uis) m.stage in record {
      workspace = put_keeps_size ui old m.stage stands is wide high;
      attrs = λ id. ap (λ (gs : List NamedGroup). attr_of gs id) groups;
      named = λ name. ap (λ (gs : List NamedGroup). attr_named gs name) groups;
      buffers = λ n b e. as_it_is b (at_handle m.buffers n) e;
      none = λ n low e. e;
      next = next_rises (ui_put ui) m;
      stands = operation_stands (ui_put ui) m stands;
    }

-- ---- buffers as they are seen
-- what is seen of a buffer, with the changes of another one
abbrev with_changes : SeenBuffer → ModelBuffer → SeenBuffer
with_changes b d = record b { undo = d.undo; unsealed = d.unsealed; next = part_next d }

seen_part : (b d : ModelBuffer) → seen_buffer (record b { undo = d.undo; unsealed = d.unsealed }) ≡ with_changes (seen_buffer b) d
unfolding text_of marks_of
seen_part b d = refl

same_seen : (b d : ModelBuffer) → d ≡ record b { undo = d.undo; unsealed = d.unsealed } → seen_buffer d ≡ with_changes (seen_buffer b) d
same_seen b d e = ap seen_buffer e ∙ seen_part b d

-- ---- spans, lines and panes
module _ (m later : ModelEditor) (looks : LooksOn m later) where
  span_same : (start : Pos) (row len : ℕ) (stop : Option Far) (paint : Option Paint) → span_by later.stage.groups start row len stop paint ≡ span_by m.stage.groups start row len stop paint
  span_same start row len None paint = refl
  span_same start row len (Some far) None = refl
  span_same start row len (Some far) (Some paint) =
      let attr = looks.attrs paint.group in
      let s : Span = span_by m.stage.groups start row len (Some far) (Some paint) in
      λ i. record (span_by m.stage.groups start row len (Some far) (Some paint)) { attr = attr i }

  spans_same : (row len : ℕ) (marks : List Mark) → map (span_on later.stage.groups row len) marks ≡ map (span_on m.stage.groups row len) marks
  spans_same row len [] = refl
  spans_same row len (k ∷ ks) =
      let first = span_same k.start row len k.stop k.paint in
      let rest = spans_same row len ks in
      λ i. first i ∷ rest i

  spans_on : (marks : List Mark) (row len : ℕ) (spans : List Span) → AreSpansOf m.stage.groups marks row len spans → AreSpansOf later.stage.groups marks row len spans
  spans_on marks row len spans is = record {
    order = is.order;
    marks_are = is.marks_are;
    rising = is.rising;
    spans_are = is.spans_are ∙ sym (spans_same row len is.order);
  }

  lines_on : (b : SeenBuffer) (row : ℕ) (lines : List SceneLine) → AreLinesOf m.stage.groups b row lines → AreLinesOf later.stage.groups b row lines
  lines_on b row [] are = tt
  lines_on b row (line ∷ lines) are = (
    record {
      row_is = are.0.row_is;
      bytes_are = are.0.bytes_are;
      spans_are = spans_on b.marks row (length (line_at b.lines row)) line.spans.items are.0.spans_are;
    },
    lines_on b (suc row) lines are.1,
  )

  lines_in : (b : SeenBuffer) (d : ModelBuffer) (row : ℕ) (lines : List SceneLine) → AreLinesOf later.stage.groups b row lines
      → AreLinesOf later.stage.groups (with_changes b d) row lines
  lines_in b d row [] are = tt
  lines_in b d row (line ∷ lines) are = (
    record { row_is = are.0.row_is; bytes_are = are.0.bytes_are; spans_are = are.0.spans_are },
    lines_in b d (suc row) lines are.1,
  )

  pane_on : (w : Window) (b : SeenBuffer) (d : ModelBuffer) (rect : Rect) (p : Pane) → IsPaneOf (seen_of m) w b rect p
      → IsPaneOf (seen_of later) w (with_changes b d) rect p
  pane_on w b d rect p is = record {
    window = is.window;
    buffer = is.buffer;
    tick = is.tick;
    tabstop = is.tabstop;
    rect_is = is.rect_is;
    top = is.top;
    current = is.current ∙ sym (ap (λ (ws : Workspace). int_eq (current_window ws) w.handle) looks.workspace);
    count = is.count;
    shown = is.shown;
    lines = lines_in b d w.top p.lines.items (lines_on b w.top p.lines.items is.lines);
    status = is.status;
  }

  pane_there : (handle : ℤ) (rect : Rect) (p : Pane) (w : Window) (o q : Option ModelBuffer) (b : SeenBuffer) → window_at m.stage.workspace handle ≡ Some w
      → at_handle m.buffers w.buffer ≡ o → at_handle later.buffers w.buffer ≡ q → option_map seen_buffer o ≡ Some b
      → ((c : ModelBuffer) → o ≡ Some c → IsAsSeen c q) → IsPaneOf (seen_of m) w b rect p → IsPaneIn (seen_of later) handle rect p
  pane_there handle rect p w None q b there was now is seen pane = absurd (none-some b is)
  pane_there handle rect p w (Some c) None b there was now is seen pane = absurd (seen c refl)
  pane_there handle rect p w (Some c) (Some d) b there was now is seen pane =
      let same = same_seen c d (seen c refl) in
      let here : IsPaneOf (seen_of m) w (seen_buffer c) rect p = subst (λ (x : SeenBuffer). IsPaneOf (seen_of m) w x rect p) (sym (same_Some (seen_buffer c) b is)) pane in record {
        window = w;
        buffer = seen_buffer d;
        window_is = ap (λ (ws : Workspace). window_at ws handle) looks.workspace ∙ there;
        buffer_is = ap (option_map seen_buffer) now;
        pane = subst (λ (x : SeenBuffer). IsPaneOf (seen_of later) w x rect p) (sym same) (pane_on w (seen_buffer c) d rect p here);
      }

  pane_in : (handle : ℤ) (rect : Rect) (p : Pane) → IsPaneIn (seen_of m) handle rect p → IsPaneIn (seen_of later) handle rect p
  pane_in handle rect p is =
      pane_there handle rect p is.window (at_handle m.buffers is.window.buffer) (at_handle later.buffers is.window.buffer) is.buffer is.window_is refl refl is.buffer_is
      (λ c e. looks.buffers is.window.buffer c e) is.pane

  panes_in : (placed : List Placed) (ps : List Pane) → ArePanesIn (seen_of m) placed ps → ArePanesIn (seen_of later) placed ps
  panes_in [] [] are = tt
  panes_in [] (p ∷ ps) are = absurd are
  panes_in (at ∷ more) [] are = absurd are
  panes_in (at ∷ more) (p ∷ ps) are = (pane_in at.window (without_status at.rect) p are.0, panes_in more ps are.1)

  -- ---- scenes
  pub scene_stays : (scene : Scene) → IsSceneOf (seen_of m) scene → IsSceneOf (seen_of later) scene
  scene_stays scene is =
      let ws = looks.workspace in
      let nontext = looks.named (codes "NonText") in
      let special = looks.named (codes "SpecialKey") in
      let beyond = looks.named (codes "EndOfBuffer") in
      let current = looks.named (codes "StatusLine") in
      let other = looks.named (codes "StatusLineNC") in
      let bar = looks.named (codes "WinSeparator") in
      let normal = looks.named (codes "Normal") in
      let looks_are : looks_of later.stage.groups ≡ looks_of m.stage.groups = λ i. record { nontext = nontext i; special = special i; beyond = beyond i } in
      let bars_are : bars_of later.stage.groups ≡ bars_of m.stage.groups = λ i. record { current = current i; other = other i; separator = bar i } in record {
        page = is.page;
        window = is.window;
        page_is = ap (λ (x : Workspace). tabpage_at x x.tabpage) ws ∙ is.page_is;
        window_is = ap (λ (x : Workspace). window_at x (current_window x)) ws ∙ is.window_is;
        width = is.width ∙ sym (ap (λ (x : Workspace). x.width) ws);
        height = is.height ∙ sym (ap (λ (x : Workspace). x.height) ws);
        panes =
            subst (λ (x : Workspace). ArePanesIn (seen_of later) (rects is.page.tree (windows_area x)) scene.panes.items) (sym ws)
            (panes_in (rects is.page.tree (windows_area m.stage.workspace)) scene.panes.items is.panes);
        separators = is.separators ∙ sym (ap (λ (x : Workspace). separators is.page.tree (windows_area x)) ws);
        cursor = is.cursor;
        looks = is.looks ∙ sym looks_are;
        bars = is.bars ∙ sym bars_are;
        colours = is.colours ∙ sym (ap colours_by normal);
        patches = is.patches;
      }

  -- ---- settled windows
  top_part : (w : Window) (area : Option Rect) (b : SeenBuffer) (d : ModelBuffer) → top_by w area (Some (with_changes b d)) ≡ top_by w area (Some b)
  top_part w None b d = refl
  top_part w (Some area) b d = refl

  top_there : (w : Window) (area : Option Rect) (o q : Option ModelBuffer) → ((c : ModelBuffer) → o ≡ Some c → IsAsSeen c q) → (o ≡ None → q ≡ None)
      → top_by w area (option_map seen_buffer q) ≡ top_by w area (option_map seen_buffer o)
  top_there w area None q seen none = ap (λ (p : Option ModelBuffer). top_by w area (option_map seen_buffer p)) (none refl)
  top_there w area (Some c) None seen none = absurd (seen c refl)
  top_there w area (Some c) (Some d) seen none =
      ap (λ (x : SeenBuffer). top_by w area (Some x)) (same_seen c d (seen c refl)) ∙ top_part w area (seen_buffer c) d

  top_on : (w : Window) → w.buffer <ℤ m.stage.next_buffer → top_of (seen_of later) w ≡ top_of (seen_of m) w
  top_on w low =
      ap (λ (ws : Workspace). top_by w (text_area ws w.handle) (option_map seen_buffer (at_handle later.buffers w.buffer))) looks.workspace
      ∙ top_there w (text_area m.stage.workspace w.handle) (at_handle m.buffers w.buffer) (at_handle later.buffers w.buffer) (λ c e. looks.buffers w.buffer c e) (λ e. looks.none w.buffer low e)

  settling_on : (ws : List Window) → AreBelow m.stage.next_buffer ws → flat_map (window_settling (seen_of later)) ws ≡ flat_map (window_settling (seen_of m)) ws
  settling_on [] below = refl
  settling_on (w ∷ ws) below =
      let top = top_on w below.0 in
      let rest = settling_on ws below.1 in
      λ i. cond (top i == w.top) [] (top_put w.handle (top i) ∷ []) ++ rest i

  pub settled_stays : AreBelow m.stage.next_buffer m.stage.workspace.windows → IsSettled (seen_of m) → IsSettled (seen_of later)
  settled_stays below is =
      ap (λ (ws : Workspace). flat_map (window_settling (seen_of later)) ws.windows) looks.workspace
      ∙ settling_on m.stage.workspace.windows below ∙ is

  pub below_stays : AreBelow m.stage.next_buffer m.stage.workspace.windows → AreBelow later.stage.next_buffer later.stage.workspace.windows
  below_stays below =
      raised m.stage.next_buffer later.stage.next_buffer later.stage.workspace.windows looks.next
      (subst (λ (ws : Workspace). AreBelow m.stage.next_buffer ws.windows) (sym looks.workspace) below)
