-- A sound scene is a whole screen with its cursor and its windows on it.
use Rattle.std.proofs.Common.{◌≡◌, ℕ, ◌+◌, ◌-◌, ◌/◌, ◌%◌, ◌<◌, ◌^◌, ℤ, min, List, [], ◌∷◌, ◌++◌, length, map, take, Bool, true, false, cond, All, MatchOption, Some, sym, ◌∙◌, arith, mod-lt}
use Rattle.std.proofs.lemmas.Bool.Decides.{Decides-int_eq}
use Rattle.std.proofs.lemmas.List.Elements.{All-cons, All-nil}
use Rattle.std.proofs.lemmas.Map.Keys.{IsDistinct-cons, IsDistinct-head, IsDistinct-tail}
use Rattle.std.specs.Bool.{one_answer}
use Rattle.std.specs.List.{AllByRecursion, IsDistinct, find}
use Rattle.std.specs.Ordering.{int_eq}
use Rattle.std.specs.Prelude.{int_lt}
use Rattle.nv_hl.specs.declared.cell.Cell.{Cell}
use Rattle.nv_layout.specs.declared.nodes.Rect.{Rect}
use Rattle.nv_layout.specs.Tiling.{LiesIn}
use Rattle.nv_linedraw.specs.LineCells.{cell_of_byte}
use Rattle.nv_screen.specs.declared.scene.Pane.{Pane}
use Rattle.nv_screen.specs.declared.scene.Scene.{Scene}
use Rattle.nv_screen.specs.declared.scene.Spot.{Spot}
use Rattle.nv_screen.specs.Cursor.{bytes_at, cursor_among, cursor_in_pane, rows_together}
use Rattle.nv_screen.specs.Sound.{HasCursor, IsSoundPane, IsSoundSpot, pane_area, whole_screen}
use Rattle.nv_screen.proofs.WholeScreens.{screens_are_whole}
use Rattle.nv_linegrid.specs.Told.{IsInScreen, View, is_same_window}
use Rattle.nv_painter.specs.Laws.{SoundScenesAreShown}
use Rattle.nv_painter.specs.Pictures.{view_of, views_with, with_view}
use Rattle.nv_painter.specs.inside.Moving.{EndsInReach}

-- ---- the cursor

record IsOn (width height : ℕ) (cell : ℕ × ℕ) : Type 0 where
  row : cell.0 < height
  col : cell.1 < width

on_pane : (s : Scene) (p : Pane) (cursor : Spot) → IsSoundPane p → LiesIn (whole_screen s) (pane_area p) → IsOn s.width s.height (cursor_in_pane p cursor)
on_pane s p cursor sound lies =
    let n = cursor.row - p.top in
    let cell = cell_of_byte p.rect.width p.tabstop (bytes_at p.lines.items n) cursor.byte in
    let above = rows_together p.rect.width p.tabstop (take n p.lines.items) in
    let row : min (p.rect.height - 1) (above + cell / p.rect.width) < p.rect.height = omega (arith, sound.high) in
    let col : cell % p.rect.width < p.rect.width = mod-lt cell sound.wide in record {
      row = omega (arith, row, lies.bottom);
      col = omega (arith, col, lies.right);
    }

cursor_is_on : (s : Scene) (ps : List Pane) (rs : List Rect) (cursor : Spot) → AllByRecursion IsSoundPane ps
    → AllByRecursion (LiesIn (whole_screen s)) (map pane_area ps ++ rs) → HasCursor ps cursor → IsOn s.width s.height (cursor_among ps cursor)
cursor_is_on s [] rs cursor sound lies has = absurd has
cursor_is_on s (p ∷ ps) rs cursor sound lies has = by (int_eq p.window cursor.window) has (cursor_is_on s ps rs cursor sound.1 lies.1)
  where
    by : (b : Bool) → MatchOption (cond b (Some p) (find (λ q. int_eq q.window cursor.window) ps)) ⊥ (λ q. IsSoundSpot q cursor)
        → (HasCursor ps cursor → IsOn s.width s.height (cursor_among ps cursor))
        → IsOn s.width s.height (cond b (cursor_in_pane p cursor) (cursor_among ps cursor))
    by true h more = on_pane s p cursor sound.0 lies.0
    by false h more = more h

-- ---- windows

with_view_all : (P : View → Type 0) (v : View) (vs : List View) → P v → AllByRecursion P vs → AllByRecursion P (with_view v vs)
with_view_all P v [] p all = (p, tt)
with_view_all P v (w ∷ ws) p all = by (int_lt v.window w.window) (with_view_all P v ws p all.1)
  where
    by : (b : Bool) → AllByRecursion P (with_view v ws) → AllByRecursion P (cond b (v ∷ w ∷ ws) (w ∷ with_view v ws))
    by true rest = (p, all)
    by false rest = (all.0, rest)

views_with_all : (P : View → Type 0) (sorted vs : List View) → AllByRecursion P sorted → AllByRecursion P vs → AllByRecursion P (views_with sorted vs)
views_with_all P sorted [] all more = all
views_with_all P sorted (v ∷ vs) all more = views_with_all P (with_view v sorted) vs (with_view_all P v sorted more.0 all) more.1

views_in_screen : (s : Scene) (ps : List Pane) (rs : List Rect) → AllByRecursion IsSoundPane ps
    → AllByRecursion (LiesIn (whole_screen s)) (map pane_area ps ++ rs) → AllByRecursion (IsInScreen s.width s.height) (map view_of ps)
views_in_screen s [] rs sound lies = tt
views_in_screen s (p ∷ ps) rs sound lies = (
  record { wide = sound.0.wide; cols = omega (arith, lies.0.right); rows = omega (arith, lies.0.bottom) },
  views_in_screen s ps rs sound.1 lies.1,
)

-- ---- windows apart

turned : (a b : ℤ) → int_eq a b ≡ int_eq b a
turned a b =
    one_answer (int_eq a b) (int_eq b a) (Decides-int_eq a b) (λ e. sym ((Decides-int_eq b a).0 e), λ e. (Decides-int_eq b a).1 (sym e))

abbrev ApartFrom : View → List View → Type 0
ApartFrom v vs = AllByRecursion (λ w. is_same_window v w ≡ false) vs

with_view_apart : (v : View) (vs : List View) → ApartFrom v vs → IsDistinct is_same_window vs → IsDistinct is_same_window (with_view v vs)
with_view_apart v [] apart distinct = IsDistinct-cons is_same_window v [] tt distinct
with_view_apart v (w ∷ ws) apart distinct =
    by (int_lt v.window w.window) (with_view_apart v ws apart.1 (IsDistinct-tail is_same_window w ws distinct))
  where
    head : ApartFrom w (with_view v ws)
    head = with_view_all (λ u. is_same_window w u ≡ false) v ws (turned w.window v.window ∙ apart.0) (IsDistinct-head is_same_window w ws distinct)

    by : (b : Bool) → IsDistinct is_same_window (with_view v ws) → IsDistinct is_same_window (cond b (v ∷ w ∷ ws) (w ∷ with_view v ws))
    by true rest = IsDistinct-cons is_same_window v (w ∷ ws) apart distinct
    by false rest = IsDistinct-cons is_same_window w (with_view v ws) head rest

each_apart : (v : View) (sorted vs : List View) → ApartFrom v vs → AllByRecursion (λ u. ApartFrom u sorted) vs
    → AllByRecursion (λ u. ApartFrom u (with_view v sorted)) vs
each_apart v sorted [] apart all = tt
each_apart v sorted (u ∷ vs) apart all = (
  with_view_all (λ w. is_same_window u w ≡ false) v sorted (turned u.window v.window ∙ apart.0) all.0,
  each_apart v sorted vs apart.1 all.1,
)

views_apart : (sorted vs : List View) → IsDistinct is_same_window sorted → IsDistinct is_same_window vs
    → AllByRecursion (λ u. ApartFrom u sorted) vs → IsDistinct is_same_window (views_with sorted vs)
views_apart sorted [] distinct more apart = distinct
views_apart sorted (v ∷ vs) distinct more apart =
    views_apart (with_view v sorted) vs (with_view_apart v sorted apart.0 distinct) (IsDistinct-tail is_same_window v vs more)
    (each_apart v sorted vs (IsDistinct-head is_same_window v vs more) apart.1)

panes_apart : (ps : List Pane) → IsDistinct int_eq (map (λ p. p.window) ps) → IsDistinct is_same_window (map view_of ps)
unfolding IsDistinct
panes_apart [] distinct = distinct
panes_apart (p ∷ ps) distinct = (others ps distinct.0, panes_apart ps distinct.1)
  where
    others : (qs : List Pane) → AllByRecursion (λ w. int_eq p.window w ≡ false) (map (λ q. q.window) qs)
        → AllByRecursion (λ v. is_same_window (view_of p) v ≡ false) (map view_of qs)
    others [] h = tt
    others (q ∷ qs) h = (h.0, others qs h.1)

none_apart : (vs : List View) → AllByRecursion (λ u. ApartFrom u []) vs
none_apart [] = tt
none_apart (v ∷ vs) = (tt, none_apart vs)

no_views_apart : IsDistinct is_same_window []
unfolding IsDistinct
no_views_apart = tt

-- ---- scenes

pub sound_is_shown : SoundScenesAreShown
sound_is_shown s sound =
    let on = cursor_is_on s s.panes.items s.separators.items s.cursor sound.panes sound.inside sound.cursor in
    let views = map view_of s.panes.items in record {
      sized = screens_are_whole s;
      row = on.row;
      col = on.col;
      views = views_with_all (IsInScreen s.width s.height) [] views tt (views_in_screen s s.panes.items s.separators.items sound.panes sound.inside);
      apart = views_apart [] views no_views_apart (panes_apart s.panes.items sound.windows) (none_apart views);
    }

-- ---- pictures

-- the views of a picture end in reach
pub views_end_in_reach : (width height : ℕ) (vs : List View) → width < 2 ^ 32 → height < 2 ^ 32 → AllByRecursion (IsInScreen width height) vs
    → All EndsInReach vs
views_end_in_reach width height [] wide high all = All-nil EndsInReach
views_end_in_reach width height (v ∷ vs) wide high all =
    All-cons EndsInReach v vs (record { rows = omega (arith, all.0.rows, high); cols = omega (arith, all.0.cols, wide) })
    (views_end_in_reach width height vs wide high all.1)

pub rows_are_short : (width : ℕ) (rows : List (List Cell)) → width < 2 ^ 32 → AllByRecursion (λ r. length r ≡ width) rows
    → All (λ r. length r < 2 ^ 32) rows
rows_are_short width [] wide all = All-nil (λ r. length r < 2 ^ 32)
rows_are_short width (r ∷ rs) wide all =
    All-cons (λ x. length x < 2 ^ 32) r rs (omega (arith, all.0, wide)) (rows_are_short width rs wide all.1)
