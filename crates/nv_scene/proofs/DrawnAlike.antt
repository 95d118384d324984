-- Scenes of one editor are drawn alike.
use Rattle.std.proofs.Common.{◌≡◌, ◌+◌, ◌-◌, ◌/◌, ◌%◌, ℕ, zero, suc, ℤ, List, [], ◌∷◌, length, min, take, refl, ap, sym, subst, ◌∙◌, Option, Some, arith}
use Rattle.std.specs.Prelude.{IfSome, if◌then◌else◌}
use Rattle.std.specs.List.{IsDistinct}
use Rattle.std.specs.Ordering.{int_eq}
use Rattle.nv_places.specs.Flat.{line_at}
use Rattle.nv_hl.specs.declared.cell.Cell.{Cell}
use Rattle.nv_hl.specs.Cells.{blank_rows, with_strip}
use Rattle.nv_hl.specs.Groups.{NamedGroup}
use Rattle.nv_layout.specs.Places.{rects, separators}
use Rattle.nv_layout.specs.declared.nodes.Placed.{Placed}
use Rattle.nv_layout.specs.declared.nodes.Rect.{Rect}
use Rattle.nv_linedraw.specs.LineCells.{cell_of_byte, cells_in_one_row, cells_of_line, rows_of_line}
use Rattle.nv_linedraw.specs.declared.looks.Looks.{Looks}
use Rattle.nv_marks.specs.Sound.{same_name}
use Rattle.nv_windows.specs.Rooms.{windows_area, without_status}
use Rattle.nv_windows.specs.Workspace.{Page, Workspace}
use Rattle.nv_windows.specs.declared.window.Window.{Window}
use Rattle.nv_screen.specs.Cursor.{bytes_at, cursor_among, cursor_in_pane, rows_together}
use Rattle.nv_screen.specs.Drawing.{bar_attr, cells_of_width, drawn_rows, line_rows, pane_rows, status_row, text_rows, with_pane, with_panes, with_patches, with_rows, with_separators}
use Rattle.nv_screen.specs.declared.scene.Bars.{Bars}
use Rattle.nv_screen.specs.declared.scene.Pane.{Pane}
use Rattle.nv_screen.specs.declared.scene.SceneLine.{SceneLine}
use Rattle.nv_screen.specs.declared.scene.Spot.{Spot}
use Rattle.nv_model.specs.Seen.{Seen, SeenBuffer}
use Rattle.nv_scene.specs.Laws.{AreNamedApart, ScenesAreDrawnAlike}
use Rattle.nv_scene.specs.Panes.{AreLinesOf, IsPaneIn, IsPaneOf}
use Rattle.nv_scene.specs.Scenes.{ArePanesIn, spot_of}
use Rattle.nv_scene.proofs.OneOrder.{one_spans}

-- ---- lines
abbrev AreAlike : List SceneLine → List SceneLine → Type 0
AreAlike [] [] = Unit {0}
AreAlike [] (k ∷ ks) = ⊥
AreAlike (l ∷ ls) [] = ⊥
AreAlike (l ∷ ls) (k ∷ ks) = ((l.bytes ≡ k.bytes) × (l.spans.items ≡ k.spans.items)) × AreAlike ls ks

lines_alike : (groups : List NamedGroup) (b : SeenBuffer) (row : ℕ) (ls ks : List SceneLine) → IsDistinct same_name b.marks → length ls ≡ length ks
    → AreLinesOf groups b row ls → AreLinesOf groups b row ks → AreAlike ls ks
lines_alike groups b row [] [] apart many are also = tt
lines_alike groups b row [] (k ∷ ks) apart many are also = absurd (omega (arith, many))
lines_alike groups b row (l ∷ ls) [] apart many are also = absurd (omega (arith, many))
lines_alike groups b row (l ∷ ls) (k ∷ ks) apart many are also = (
  (
    are.0.bytes_are ∙ sym also.0.bytes_are,
    one_spans groups b.marks row (length (line_at b.lines row)) l.spans.items k.spans.items apart are.0.spans_are also.0.spans_are,
  ),
  lines_alike groups b (suc row) ls ks apart (omega (arith, many)) are.1 also.1,
)

rows_alike : (width tabstop : ℕ) (looks : Looks) (room : ℕ) (ls ks : List SceneLine) → AreAlike ls ks
    → text_rows width tabstop looks room ls ≡ text_rows width tabstop looks room ks
rows_alike width tabstop looks room [] [] alike = refl
rows_alike width tabstop looks room [] (k ∷ ks) alike = absurd alike
rows_alike width tabstop looks room (l ∷ ls) [] alike = absurd alike
rows_alike width tabstop looks room (l ∷ ls) (k ∷ ks) alike =
    let bytes = alike.0.0 in
    let spans = alike.0.1 in
    let rest : (left : ℕ) → text_rows width tabstop looks left ls ≡ text_rows width tabstop looks left ks =
    λ left. rows_alike width tabstop looks left ls ks alike.1 in
    λ i. line_rows width looks room (cells_of_line width tabstop (bytes i) (spans i) looks) (λ left. rest left i)

together_alike : (width tabstop n : ℕ) (ls ks : List SceneLine) → AreAlike ls ks
    → rows_together width tabstop (take n ls) ≡ rows_together width tabstop (take n ks)
together_alike width tabstop zero ls ks alike = refl
together_alike width tabstop (suc n) [] [] alike = refl
together_alike width tabstop (suc n) [] (k ∷ ks) alike = absurd alike
together_alike width tabstop (suc n) (l ∷ ls) [] alike = absurd alike
together_alike width tabstop (suc n) (l ∷ ls) (k ∷ ks) alike =
    let bytes = alike.0.0 in
    let rest = together_alike width tabstop n ls ks alike.1 in
    λ i. rows_of_line width tabstop (bytes i) + rest i

bytes_alike : (n : ℕ) (ls ks : List SceneLine) → AreAlike ls ks → bytes_at ls n ≡ bytes_at ks n
bytes_alike n [] [] alike = refl
bytes_alike n [] (k ∷ ks) alike = absurd alike
bytes_alike n (l ∷ ls) [] alike = absurd alike
bytes_alike zero (l ∷ ls) (k ∷ ks) alike = alike.0.0
bytes_alike (suc n) (l ∷ ls) (k ∷ ks) alike = bytes_alike n ls ks alike.1

-- ---- panes
record IsLike (p q : Pane) : Type 0 where
  window : p.window ≡ q.window
  tabstop : p.tabstop ≡ q.tabstop
  rect : p.rect ≡ q.rect
  top : p.top ≡ q.top
  current : p.current ≡ q.current
  status : p.status ≡ q.status
  lines : AreAlike p.lines.items q.lines.items

pane_like : (s : Seen) (n : ℤ) (rect : Rect) (p q : Pane) → AreNamedApart s → IsPaneIn s n rect p → IsPaneIn s n rect q → IsLike p q
pane_like s n rect p q apart is also =
    let windows : Some is.window ≡ Some also.window = sym is.window_is ∙ also.window_is in
    let one : is.window ≡ also.window = cc in
    let buffers : Some is.buffer ≡ Some also.buffer = sym is.buffer_is ∙ ap (λ (w : Window). s.buffer w.buffer) one ∙ also.buffer_is in
    let same : is.buffer ≡ also.buffer = cc in
    let here : IsPaneOf s also.window also.buffer rect p =
    subst (λ (b : SeenBuffer). IsPaneOf s also.window b rect p) same (subst (λ (w : Window). IsPaneOf s w is.buffer rect p) one is.pane) in
    let there : IsPaneOf s also.window also.buffer rect q = also.pane in
    let marks : IsDistinct same_name also.buffer.marks =
    subst (λ (o : Option SeenBuffer). IfSome o (λ b. IsDistinct same_name b.marks)) also.buffer_is (apart also.window.buffer) in
    record {
      window = here.window ∙ sym there.window;
      tabstop = here.tabstop ∙ sym there.tabstop;
      rect = here.rect_is ∙ sym there.rect_is;
      top = here.top ∙ sym there.top;
      current = here.current ∙ sym there.current;
      status = here.status ∙ sym there.status;
      lines =
          lines_alike s.stage.groups also.buffer also.window.top p.lines.items q.lines.items marks (here.shown ∙ sym there.shown) here.lines there.lines;
    }

pane_drawn : (looks : Looks) (bars : Bars) (rows : List (List Cell)) (p q : Pane) → IsLike p q → with_pane looks bars rows p ≡ with_pane looks bars rows q
pane_drawn looks bars rows p q like =
    let rect = like.rect in
    let stop = like.tabstop in
    let current = like.current in
    let status = like.status in
    let text : pane_rows looks p ≡ pane_rows looks q =
    (λ i. text_rows (rect i).width (stop i) looks (rect i).height p.lines.items)
    ∙ rows_alike q.rect.width q.tabstop looks q.rect.height p.lines.items q.lines.items like.lines in
    let bar : status_row bars p ≡ status_row bars q =
    λ i. cells_of_width (rect i).width (bar_attr bars (current i)) (cells_in_one_row (stop i) (bar_attr bars (current i)) (status i)) in
    λ i. with_strip (with_rows rows (rect i).row (rect i).col (text i)) ((rect i).row + (rect i).height) (rect i).col (bar i)

cursor_like : (p q : Pane) (cursor : Spot) → IsLike p q → cursor_in_pane p cursor ≡ cursor_in_pane q cursor
cursor_like p q cursor like =
    let rect = like.rect in
    let stop = like.tabstop in
    let top = like.top in
    (λ i. (
      (rect i).row + min ((rect i).height - 1) (rows_together (rect i).width (stop i) (take (cursor.row - top i) p.lines.items)
          + cell_of_byte (rect i).width (stop i) (bytes_at p.lines.items (cursor.row - top i)) cursor.byte / (rect i).width),
      (rect i).col + cell_of_byte (rect i).width (stop i) (bytes_at p.lines.items (cursor.row - top i)) cursor.byte % (rect i).width,
    ))
    ∙ (let above = together_alike q.rect.width q.tabstop (cursor.row - q.top) p.lines.items q.lines.items like.lines in
    let bytes = bytes_alike (cursor.row - q.top) p.lines.items q.lines.items like.lines in
    λ i. (
      q.rect.row + min (q.rect.height - 1) (above i + cell_of_byte q.rect.width q.tabstop (bytes i) cursor.byte / q.rect.width),
      q.rect.col + cell_of_byte q.rect.width q.tabstop (bytes i) cursor.byte % q.rect.width,
    ))

-- ---- all panes
panes_drawn : (s : Seen) (looks : Looks) (bars : Bars) (rows : List (List Cell)) (placed : List Placed) (ps qs : List Pane) → AreNamedApart s
    → ArePanesIn s placed ps → ArePanesIn s placed qs → with_panes looks bars rows ps ≡ with_panes looks bars rows qs
panes_drawn s looks bars rows [] [] [] apart are also = refl
panes_drawn s looks bars rows [] (p ∷ ps) qs apart are also = absurd are
panes_drawn s looks bars rows [] [] (q ∷ qs) apart are also = absurd also
panes_drawn s looks bars rows (at ∷ more) [] qs apart are also = absurd are
panes_drawn s looks bars rows (at ∷ more) (p ∷ ps) [] apart are also = absurd also
panes_drawn s looks bars rows (at ∷ more) (p ∷ ps) (q ∷ qs) apart are also =
    ap (λ (rs : List (List Cell)). with_panes looks bars rs ps)
    (pane_drawn looks bars rows p q (pane_like s at.window (without_status at.rect) p q apart are.0 also.0))
    ∙ panes_drawn s looks bars (with_pane looks bars rows q) more ps qs apart are.1 also.1

cursors_alike : (s : Seen) (cursor : Spot) (placed : List Placed) (ps qs : List Pane) → AreNamedApart s → ArePanesIn s placed ps → ArePanesIn s placed qs
    → cursor_among ps cursor ≡ cursor_among qs cursor
cursors_alike s cursor [] [] [] apart are also = refl
cursors_alike s cursor [] (p ∷ ps) qs apart are also = absurd are
cursors_alike s cursor [] [] (q ∷ qs) apart are also = absurd also
cursors_alike s cursor (at ∷ more) [] qs apart are also = absurd are
cursors_alike s cursor (at ∷ more) (p ∷ ps) [] apart are also = absurd also
cursors_alike s cursor (at ∷ more) (p ∷ ps) (q ∷ qs) apart are also =
    let like = pane_like s at.window (without_status at.rect) p q apart are.0 also.0 in
    let window = like.window in
    let here = cursor_like p q cursor like in
    let rest = cursors_alike s cursor more ps qs apart are.1 also.1 in
    λ i. if int_eq (window i) cursor.window then here i else rest i

pub scenes_are_drawn_alike : ScenesAreDrawnAlike
unfolding drawn_rows
scenes_are_drawn_alike s a b apart is also =
    let ws : Workspace = s.stage.workspace in
    let pages : Some is.page ≡ Some also.page = sym is.page_is ∙ also.page_is in
    let page : is.page ≡ also.page = cc in
    let windows : Some is.window ≡ Some also.window = sym is.window_is ∙ also.window_is in
    let window : is.window ≡ also.window = cc in
    let panes : ArePanesIn s (rects also.page.tree (windows_area ws)) a.panes.items =
    subst (λ (t : Page). ArePanesIn s (rects t.tree (windows_area ws)) a.panes.items) page is.panes in
    let width = is.width ∙ sym also.width in
    let height = is.height ∙ sym also.height in
    let looks = is.looks ∙ sym also.looks in
    let bars = is.bars ∙ sym also.bars in
    let columns = is.separators ∙ ap (λ (t : Page). separators t.tree (windows_area ws)) page ∙ sym also.separators in
    let cursor = is.cursor ∙ ap spot_of window ∙ sym also.cursor in
    let patches = is.patches ∙ sym also.patches in
    let drawn : drawn_rows a ≡ drawn_rows b =
    (λ i. with_patches
    (with_separators (bars i) (with_panes (looks i) (bars i) (blank_rows (width i) (height i)) a.panes.items) (columns i))
    (patches i))
    ∙ ap (λ (rs : List (List Cell)). with_patches (with_separators b.bars rs b.separators.items) b.patches.items)
    (panes_drawn s b.looks b.bars (blank_rows b.width b.height) (rects also.page.tree (windows_area ws)) a.panes.items b.panes.items apart panes also.panes) in
    record {
      screen = λ i. record { width = width i; height = height i; rows = drawn i };
      cursor =
          ap (cursor_among a.panes.items) cursor
          ∙ cursors_alike s b.cursor (rects also.page.tree (windows_area ws)) a.panes.items b.panes.items apart panes also.panes;
      colours = is.colours ∙ sym also.colours;
    }
