-- Folding whole batches.
use Rattle.std.proofs.Common.{◌≡◌, ℕ, zero, suc, ◌+◌, ltb, leb, ℤ, pos, List, [], ◌∷◌, ◌++◌, length, map, drop, replicate, Bool, true, false, cond, not, ◌&&◌, Option, Some, None, unwrap_or, refl, ap, sym, ◌∙◌, subst, arith}
use Rattle.std.proofs.lemmas.List.{length-map, length-replicate}
use Rattle.std.specs.List.{AllByRecursion}
use Rattle.nv_hl.specs.declared.attribute.Attr.{Attr}
use Rattle.nv_hl.specs.declared.cell.Cell.{Cell}
use Rattle.nv_linegrid.specs.declared.event.Redraw.TheVariants.{Resize, DefaultColors, Clear, Goto, Flush}
use Rattle.nv_linegrid.specs.Client.{Shown, shown_of, ShownRows, Client, first_client, client_after_all, cells_from, row_from, row_between, scrolled_from, ShowsScreen}
use Rattle.nv_linegrid.specs.Told.{Told, Wanted, nothing_told, client_of, table_of, blank_shown_rows, shown_cell, shown_rows, known_rows, AreSized, IsWhole, IsDrawn}
use Rattle.nv_linegrid.specs.Rows.{lines_of_rows}
use Rattle.nv_linegrid.specs.Scrolls.{Shift, rows_after_shift, rows_after_shifts, scroll_of}
use Rattle.nv_linegrid.specs.Batch.{event_if, attrs_defined, same_colours, is_place, is_resized, attrs_after, shifts_of, rows_to_scroll, rows_before_lines, cursor_before, batch_by, batch, told_after, batches}
use Rattle.nv_linegrid.specs.Laws.{ShowsWanted}
use Rattle.nv_linegrid.proofs.TableLemmas.{rows_grow, rows_have, known_shown, rows_seen, fold_defined, table_told}
use Rattle.nv_linegrid.proofs.FoldLemmas.{folds_then, AreAlike, fold_lines, known_client, rows_before_clear, is_size_told, resize_step, colours_step, clear_step, FitsSize, fold_scrolls, shifts_fit, goto_step}

-- ---- shapes

abbrev pub IsWide : ℕ → List (Option Shown) → Type 0
IsWide width row = length row ≡ width

all_replicate : {A : Type 0} (P : A → Type 0) (n : ℕ) (x : A) → P x → AllByRecursion P (replicate n x)
all_replicate P zero x h = tt
all_replicate P (suc n) x h = (h, all_replicate P n x h)

blank_is_sized : (width height : ℕ) → AreSized width height (blank_shown_rows width height)
blank_is_sized width height = record {
  high = length-replicate height (replicate width (Some (shown_of (32 ∷ []) 0)));
  wide =
      all_replicate (IsWide width) height (replicate width (Some (shown_of (32 ∷ []) 0)))
      (length-replicate width (Some (shown_of (32 ∷ []) 0)));
}

between_length : (left right : ℕ) (source : List (Option Shown)) (i : ℕ) (row : List (Option Shown))
    → length (row_between left right source i row) ≡ length row
between_length left right source i [] = refl
between_length left right source i (c ∷ cs) = ap suc (between_length left right source (i + 1) cs)

scrolled_high : (top bot left right : ℕ) (d : ℤ) (all : ShownRows) (k : ℕ) (rows : ShownRows)
    → length (scrolled_from top bot left right d all k rows) ≡ length rows
scrolled_high top bot left right d all k [] = refl
scrolled_high top bot left right d all k (r ∷ rs) = ap suc (scrolled_high top bot left right d all (k + 1) rs)

scrolled_wide : (width top bot left right : ℕ) (d : ℤ) (all : ShownRows) (k : ℕ) (rows : ShownRows) → AllByRecursion (IsWide width) rows
    → AllByRecursion (IsWide width) (scrolled_from top bot left right d all k rows)
scrolled_wide width top bot left right d all k [] h = tt
scrolled_wide width top bot left right d all k (r ∷ rs) h =
    (by (leb top k && ltb k bot), scrolled_wide width top bot left right d all (k + 1) rs h.1)
  where
    by : (b : Bool) → IsWide width (cond b (row_between left right (cells_from all (row_from top bot d k)) 0 r) r)
    by true = between_length left right (cells_from all (row_from top bot d k)) 0 r ∙ h.0
    by false = h.0

shifts_sized : (width height : ℕ) (ss : List Shift) (rows : ShownRows) → AreSized width height rows
    → AreSized width height (rows_after_shifts ss rows)
shifts_sized width height [] rows h = h
shifts_sized width height (s ∷ ss) rows h =
    shifts_sized width height ss (rows_after_shift s rows)
    (record {
      high = scrolled_high s.top s.bot s.left s.right s.rows rows 0 rows ∙ h.high;
      wide = scrolled_wide width s.top s.bot s.left s.right s.rows rows 0 rows h.wide;
    })

base_sized : (r : Bool) (t : Told) (w : Wanted) → is_resized t w ≡ r → IsWhole t
    → AreSized w.screen.width w.screen.height (rows_to_scroll r t w)
base_sized true t w e whole = blank_is_sized w.screen.width w.screen.height
base_sized false t w e whole = whole (w.screen.width, w.screen.height) (is_size_told t w e)

shown_wide : (width : ℕ) (attrs : List Attr) (rows : List (List Cell)) → AllByRecursion (λ r. length r ≡ width) rows
    → AllByRecursion (λ r. length r ≡ width) (shown_rows attrs rows)
shown_wide width attrs [] h = tt
shown_wide width attrs (r ∷ rs) h = (length-map r (shown_cell attrs) ∙ h.0, shown_wide width attrs rs h.1)

known_wide : (width : ℕ) (rows : List (List Shown)) → AllByRecursion (λ r. length r ≡ width) rows
    → AllByRecursion (IsWide width) (known_rows rows)
known_wide width [] h = tt
known_wide width (r ∷ rs) h = (length-map r Some ∙ h.0, known_wide width rs h.1)

alike_of : (width : ℕ) (olds : ShownRows) (news : List (List Shown)) → length olds ≡ length news → AllByRecursion (IsWide width) olds
    → AllByRecursion (λ r. length r ≡ width) news → AreAlike olds news
alike_of width [] [] e h k = tt
alike_of width [] (n ∷ ns) e h k = absurd (omega arith)
alike_of width (o ∷ os) [] e h k = absurd (omega arith)
alike_of width (o ∷ os) (n ∷ ns) e h k = (h.0 ∙ sym k.0, alike_of width os ns (omega arith) h.1 k.1)

-- ---- one batch

shifts_fit_batch : (r : Bool) (t : Told) (w : Wanted) → IsDrawn w
    → AllByRecursion (FitsSize (Some (w.screen.width, w.screen.height))) (shifts_of r t w)
shifts_fit_batch true t w d = tt
shifts_fit_batch false t w d = shifts_fit w.screen.width w.screen.height t.views w.views d.views

batch_folds_by : (r : Bool) (t : Told) (w : Wanted) → is_resized t w ≡ r → IsWhole t → IsDrawn w
    → client_after_all (client_of t) (batch_by r t w (attrs_after t w)) ≡ Some (client_of (told_after t w))
unfolding told_after
batch_folds_by r t w e whole d =
    let attrs = attrs_after t w in
    let width = w.screen.width in
    let height = w.screen.height in
    let clear_rows = rows_before_clear r t w in
    let base_rows = rows_to_scroll r t w in
    let old_rows = rows_before_lines r t w in
    let new = shown_rows attrs w.screen.rows in
    let old_table = table_of t.attrs in
    let table = table_of attrs in
    let cursor = cursor_before r t in
    let c1 = known_client width height clear_rows old_table t.colours cursor in
    let c2 = known_client width height clear_rows old_table (Some w.colours) cursor in
    let c3 = known_client width height clear_rows table (Some w.colours) cursor in
    let c4 = known_client width height base_rows table (Some w.colours) cursor in
    let c5 = known_client width height old_rows table (Some w.colours) cursor in
    let c6 = known_client width height (known_rows new) table (Some w.colours) cursor in
    let c7 = known_client width height (known_rows new) table (Some w.colours) (Some w.cursor) in
    let e1 = event_if r (Resize (pos 1) width height) in
    let e2 = event_if (not (same_colours t.colours w.colours)) (DefaultColors w.colours) in
    let e3 = attrs_defined (suc (length t.attrs)) (drop (length t.attrs) attrs) in
    let e4 = event_if r (Clear (pos 1)) in
    let e5 = map scroll_of (shifts_of r t w) in
    let e6 = lines_of_rows 0 old_rows new in
    let e7 = event_if (not (is_place cursor w.cursor)) (Goto (pos 1) w.cursor.0 w.cursor.1) in
    let new_wide = shown_wide width attrs w.screen.rows d.sized.wide in
    let sized = shifts_sized width height (shifts_of r t w) base_rows (base_sized r t w e whole) in
    let high : length old_rows ≡ length new = sized.high ∙ sym (length-map w.screen.rows (map (shown_cell attrs)) ∙ d.sized.high) in
    let s1 = resize_step r t w e in
    let s2 = colours_step width height clear_rows old_table t.colours cursor w.colours in
    let s3 : client_after_all c2 e3 ≡ Some c3 =
    fold_defined (suc (length t.attrs)) c2 (drop (length t.attrs) attrs)
    ∙ ap (λ x. Some (known_client width height clear_rows x (Some w.colours) cursor)) (table_told t.attrs attrs (rows_grow t.attrs w.screen.rows)) in
    let s4 : client_after_all c3 e4 ≡ Some c4 = clear_step r t w table (Some w.colours) cursor in
    let s5 : client_after_all c4 e5 ≡ Some c5 = fold_scrolls c4 (shifts_of r t w) base_rows (shifts_fit_batch r t w d) in
    let s6 : client_after_all c5 e6 ≡ Some c6 =
    fold_lines c5 [] 0 old_rows new refl (alike_of width old_rows new high sized.wide new_wide)
    (known_shown attrs w.screen.rows (rows_have t.attrs w.screen.rows)) in
    let s7 : client_after_all c6 e7 ≡ Some c7 =
    goto_step width height (known_rows new) table (Some w.colours) cursor w.cursor d.row d.col in
    let t2 = folds_then (client_of t) c1 (Some c2) e1 e2 s1 s2 in
    let t3 = folds_then (client_of t) c2 (Some c3) (e1 ++ e2) e3 t2 s3 in
    let t4 = folds_then (client_of t) c3 (Some c4) (e1 ++ e2 ++ e3) e4 t3 s4 in
    let t5 = folds_then (client_of t) c4 (Some c5) (e1 ++ e2 ++ e3 ++ e4) e5 t4 s5 in
    let t6 = folds_then (client_of t) c5 (Some c6) (e1 ++ e2 ++ e3 ++ e4 ++ e5) e6 t5 s6 in
    let t7 = folds_then (client_of t) c6 (Some c7) (e1 ++ e2 ++ e3 ++ e4 ++ e5 ++ e6) e7 t6 s7 in
    folds_then (client_of t) c7 (Some c7) (e1 ++ e2 ++ e3 ++ e4 ++ e5 ++ e6 ++ e7) (Flush ∷ []) t7 refl

told_is_whole : (t : Told) (w : Wanted) → IsDrawn w → IsWhole (told_after t w)
unfolding told_after
told_is_whole t w d s e =
    let attrs = attrs_after t w in
    let new = shown_rows attrs w.screen.rows in
    let is : (w.screen.width, w.screen.height) ≡ s = ap (λ o. unwrap_or o s) e in
    let sized : AreSized w.screen.width w.screen.height (known_rows new) = record {
      high = length-map new (map Some) ∙ length-map w.screen.rows (map (shown_cell attrs)) ∙ d.sized.high;
      wide = known_wide w.screen.width new (shown_wide w.screen.width attrs w.screen.rows d.sized.wide);
    } in
    subst (λ (q : ℕ × ℕ). AreSized q.0 q.1 (known_rows new)) is sized

told_shows : (t : Told) (w : Wanted) → ShowsScreen (client_of (told_after t w)) w.screen w.colours w.cursor
unfolding told_after
told_shows t w = record {
  size = refl;
  cells = rows_seen (attrs_after t w) w.screen.rows (rows_have t.attrs w.screen.rows);
  colours = refl;
  cursor = refl;
}

pub batch_shows : (t : Told) (w : Wanted) → IsWhole t → IsDrawn w → ShowsWanted t w
unfolding batch
batch_shows t w whole d = record {
  folds = batch_folds_by (is_resized t w) t w refl whole d;
  shows = told_shows t w;
  whole = told_is_whole t w d;
}

-- ---- batches one after another

from_told : (t : Told) (ws : List Wanted) (last : Wanted) → IsWhole t → AllByRecursion IsDrawn ws → IsDrawn last
    → (c : Client) × (client_after_all (client_of t) (batches t (ws ++ last ∷ [])) ≡ Some c)
    × ShowsScreen c last.screen last.colours last.cursor
from_told t [] last whole all d =
    let one = batch_shows t last whole d in (
      client_of (told_after t last),
      folds_then (client_of t) (client_of (told_after t last)) (Some (client_of (told_after t last))) (batch t last) [] one.folds refl,
      one.shows,
    )
from_told t (w ∷ ws) last whole all d =
    let one = batch_shows t w whole all.0 in
    let rest = from_told (told_after t w) ws last one.whole all.1 d in (
      rest.0,
      folds_then (client_of t) (client_of (told_after t w)) (Some rest.0) (batch t w) (batches (told_after t w) (ws ++ last ∷ [])) one.folds rest.1,
      rest.2,
    )

none_is_some : {A : Type 0} (x : A) → None ≡ Some x → ⊥
none_is_some x e = absurd (cc)

pub batches_show_the_last : (ws : List Wanted) (last : Wanted) → AllByRecursion IsDrawn ws → IsDrawn last
    → (c : Client) × (client_after_all first_client (batches nothing_told (ws ++ last ∷ [])) ≡ Some c)
    × ShowsScreen c last.screen last.colours last.cursor
batches_show_the_last ws last all d =
    from_told nothing_told ws last (λ s e. absurd (none_is_some s e)) all d
