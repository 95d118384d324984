-- A batch made of its parts.
use Rattle.std.proofs.Common.{◌≡◌, ℕ, suc, ◌+◌, pos, eqb, List, [], ◌∷◌, ◌++◌, length, map, drop, Bool, true, false, cond, not, Option, Some, None, refl, ap, sym, subst, ◌∙◌}
use Rattle.std.proofs.lemmas.List.{length-replicate}
use Rattle.std.proofs.lemmas.Bool.{and_parts, eqb-true, false≢true}
use Rattle.nv_hl.specs.declared.attribute.Attr.{Attr}
use Rattle.nv_hl.specs.declared.colours.Colours.{Colours}
use Rattle.nv_linegrid.specs.declared.event.Redraw.{Redraw}
use Rattle.nv_linegrid.specs.declared.event.Redraw.TheVariants.{Resize, DefaultColors, Clear, Goto, Flush}
use Rattle.nv_linegrid.specs.Client.{ShownRows, ShowsScreen, client_after_all, scrolled_from}
use Rattle.nv_linegrid.specs.Laws.{ShowsWanted}
use Rattle.nv_linegrid.proofs.BatchLemmas.{batch_shows}
use Rattle.nv_screen.specs.declared.scene.Scene.{Scene}
use Rattle.nv_painter.specs.Painters.{ShowsScene}
use Rattle.nv_painter.specs.Pictures.{picture_of}
use Rattle.nv_linegrid.specs.Batch.{attrs_after, attrs_defined, batch, batch_by, cursor_before, event_if, is_place, is_resized, is_size, rows_before_lines, same_colours, shifts_of, told_after}
use Rattle.nv_linegrid.specs.Rows.{lines_of_rows}
use Rattle.nv_linegrid.specs.Scrolls.{Shift, rows_after_shifts, scroll_of, shifts_between}
use Rattle.nv_linegrid.specs.Told.{IsDrawn, IsWhole, Told, View, Wanted, client_of, known_rows, shown_rows}
use Rattle.nv_painter.specs.inside.Moving.{moves, rows_to_move}
use Rattle.nv_painter.specs.inside.Screens.{IsToldNext, TellsScreen}

moves_are : (r : Bool) (t : Told) (w : Wanted) → moves r t.views w.views ≡ shifts_of r t w
moves_are true t w = refl
moves_are false t w = refl

rows_are : (r : Bool) (t : Told) (w : Wanted)
    → rows_after_shifts (moves r t.views w.views) (rows_to_move r t.rows w.screen) ≡ rows_before_lines r t w
rows_are true t w = refl
rows_are false t w = refl

cursor_is : (r : Bool) (t : Told) → cond r None t.cursor ≡ cursor_before r t
cursor_is true t = refl
cursor_is false t = refl

pub batch_made : (t : Told) (w : Wanted) (r : Bool) (count : ℕ) (attrs : List Attr) (rows : ShownRows) (place : Option (ℕ × ℕ))
    (e1 e2 e3 e4 e5 e6 e7 e8 : List Redraw)
    → r ≡ is_resized t w → count ≡ length t.attrs → attrs ≡ attrs_after t w
    → place ≡ cond r None t.cursor
    → rows ≡ rows_after_shifts (moves r t.views w.views) (rows_to_move r t.rows w.screen)
    → e1 ≡ event_if r (Resize (pos 1) w.screen.width w.screen.height)
    → e2 ≡ e1 ++ event_if (not (same_colours t.colours w.colours)) (DefaultColors w.colours)
    → e3 ≡ e2 ++ attrs_defined (suc count) (drop count attrs)
    → e4 ≡ e3 ++ event_if r (Clear (pos 1))
    → e5 ≡ e4 ++ map scroll_of (moves r t.views w.views)
    → e6 ≡ e5 ++ lines_of_rows 0 rows (shown_rows attrs w.screen.rows)
    → e7 ≡ e6 ++ event_if (not (is_place place w.cursor)) (Goto (pos 1) w.cursor.0 w.cursor.1)
    → e8 ≡ e7 ++ Flush ∷ []
    → e8 ≡ batch t w
unfolding batch
batch_made t w r count attrs rows place e1 e2 e3 e4 e5 e6 e7 e8 r_is count_is attrs_is place_is rows_is s1 s2 s3 s4 s5 s6 s7 s8 =
    let p3 : e3 ≡ e2 ++ attrs_defined (suc (length t.attrs)) (drop (length t.attrs) attrs) =
    s3 ∙ ap (λ n. e2 ++ attrs_defined (suc n) (drop n attrs)) count_is in
    let p5 = s5 ∙ ap (λ m. e4 ++ map scroll_of m) (moves_are r t w) in
    let p6 = s6 ∙ ap (λ l. e5 ++ lines_of_rows 0 l (shown_rows attrs w.screen.rows)) (rows_is ∙ rows_are r t w) in
    let p7 = s7 ∙ ap (λ p. e6 ++ event_if (not (is_place p w.cursor)) (Goto (pos 1) w.cursor.0 w.cursor.1)) (place_is ∙ cursor_is r t) in
    let all : e8 ≡ batch_by r t w attrs =
    s8 ∙ ap (λ l. l ++ Flush ∷ [])
    (p7 ∙ ap (λ l. l ++ event_if (not (is_place (cursor_before r t) w.cursor)) (Goto (pos 1) w.cursor.0 w.cursor.1))
    (p6 ∙ ap (λ l. l ++ lines_of_rows 0 (rows_before_lines r t w) (shown_rows attrs w.screen.rows))
    (p5 ∙ ap (λ l. l ++ map scroll_of (shifts_of r t w))
    (s4 ∙ ap (λ l. l ++ event_if r (Clear (pos 1)))
    (p3 ∙ ap (λ l. l ++ attrs_defined (suc (length t.attrs)) (drop (length t.attrs) attrs))
    (s2 ∙ ap (λ l. l ++ event_if (not (same_colours t.colours w.colours)) (DefaultColors w.colours)) s1)))))) in
    all ∙ (λ i. batch_by (r_is i) t w (attrs_is i))

pub told_made : (t : Told) (w : Wanted) (size : Option (ℕ × ℕ)) (rows : ShownRows) (attrs : List Attr) (colours : Option Colours)
    (cursor : Option (ℕ × ℕ)) (views : List View) → size ≡ Some (w.screen.width, w.screen.height) → attrs ≡ attrs_after t w
    → rows ≡ known_rows (shown_rows attrs w.screen.rows) → colours ≡ Some w.colours → cursor ≡ Some w.cursor → views ≡ w.views
    → ◌≡◌ {A = Told} (record { size = size; rows = rows; attrs = attrs; colours = colours; cursor = cursor; views = views }) (told_after t w)
unfolding told_after
told_made t w size rows attrs colours cursor views size_is attrs_is rows_is colours_is cursor_is views_is =
    let all = rows_is ∙ ap (λ l. known_rows (shown_rows l w.screen.rows)) attrs_is in
    λ i. record {
      size = size_is i;
      rows = all i;
      attrs = attrs_is i;
      colours = colours_is i;
      cursor = cursor_is i;
      views = views_is i;
    }

-- a batch whose rows were told as a screen
pub told_by : (t : Told) (w : Wanted) (r : Bool) (size : Option (ℕ × ℕ)) (shifts : List Shift) (attrs : List Attr) (rows after : ShownRows) (place : Option (ℕ × ℕ))
    (e1 e2 e6 e8 : List Redraw)
    → IsWhole t → IsDrawn w → r ≡ is_resized t w → size ≡ Some (w.screen.width, w.screen.height) → shifts ≡ moves r t.views w.views
    → rows ≡ rows_after_shifts shifts (rows_to_move r t.rows w.screen)
    → place ≡ cond r None t.cursor
    → e1 ≡ event_if r (Resize (pos 1) w.screen.width w.screen.height)
    → e2 ≡ e1 ++ event_if (not (same_colours t.colours w.colours)) (DefaultColors w.colours)
    → TellsScreen r shifts w.screen.rows t.attrs attrs rows after e2 e6
    → e8 ≡ e6 ++ event_if (not (is_place place w.cursor)) (Goto (pos 1) w.cursor.0 w.cursor.1) ++ Flush ∷ []
    → IsToldNext t w e8 (record {
      size = size;
      rows = after;
      attrs = attrs;
      colours = Some w.colours;
      cursor = Some w.cursor;
      views = w.views;
    })
told_by t w r size shifts attrs rows after place e1 e2 e6 e8 whole drawn r_is sized moved rows_is place_is s1 s2 tells s8 =
    let e3 = e2 ++ attrs_defined (suc (length t.attrs)) (drop (length t.attrs) attrs) in
    let e4 = e3 ++ event_if r (Clear (pos 1)) in
    let e5 = e4 ++ map scroll_of shifts in
    let e7 = e6 ++ event_if (not (is_place place w.cursor)) (Goto (pos 1) w.cursor.0 w.cursor.1) in record {
      events_are = batch_made t w r (length t.attrs) attrs rows place e1 e2 e3 e4 e5 e6 e7 e8 r_is refl tells.attrs_are place_is
          (rows_is ∙ ap (λ m. rows_after_shifts m (rows_to_move r t.rows w.screen)) moved) s1 s2 refl refl (ap (λ m. e4 ++ map scroll_of m) moved)
          tells.events_are refl s8;
      told_is = told_made t w size after attrs (Some w.colours) (Some w.cursor) w.views sized tells.attrs_are
          tells.rows_are refl refl refl;
      shows = batch_shows t w whole drawn;
    }

-- what is told next is whole
pub next_is_whole : (t : Told) (w : Wanted) (events : List Redraw) (told : Told) → IsWhole t → IsDrawn w → IsToldNext t w events told → IsWhole told
next_is_whole t w events told whole drawn next = subst IsWhole (sym next.told_is) (batch_shows t w whole drawn).whole

-- a scene is shown
pub scene_is_shown : (before after : Told) (events : List Redraw) (s : Scene) (w : Wanted) → w ≡ picture_of s
    → events ≡ batch before w → after ≡ told_after before w → ShowsWanted before w → ShowsScene before after events s
scene_is_shown before after events s w w_is events_is after_is shows = record {
  folds = ap (client_after_all (client_of before)) events_is ∙ shows.folds ∙ ap (λ t. Some (client_of t)) (sym after_is);
  shows = subst (λ (q : Told × Wanted). ShowsScreen (client_of q.0) q.1.screen q.1.colours q.1.cursor) (λ i. (sym after_is i, w_is i)) shows.shows;
}

-- ---- the rows before the lines are as many as the screen's

shifts_keep : (ss : List Shift) (rows : ShownRows) (n : ℕ) → length rows ≡ n → length (rows_after_shifts ss rows) ≡ n
shifts_keep [] rows n is = is
shifts_keep (s ∷ ss) rows n is = shifts_keep ss _ n (scrolled_keeps 0 rows ∙ is)
  where
    scrolled_keeps : (k : ℕ) (rs : ShownRows)
        → length (scrolled_from s.top s.bot s.left s.right s.rows rows k rs) ≡ length rs
    scrolled_keeps k [] = refl
    scrolled_keeps k (r ∷ rs) = ap suc (scrolled_keeps (k + 1) rs)

-- the size that was told is the screen's, where it isn't new
pub size_is : (o : Option (ℕ × ℕ)) (width height : ℕ) → not (is_size o width height) ≡ false → o ≡ Some (width, height)
size_is None width height e = absurd (false≢true (sym e))
size_is (Some s) width height e =
    let p = and_parts (eqb s.0 width) (eqb s.1 height) (yes (is_size (Some s) width height) e) in
    let w = eqb-true s.0 width p.0 in
    let h = eqb-true s.1 height p.1 in
    λ i. Some (w i, h i)
  where
    yes : (b : Bool) → not b ≡ false → b ≡ true
    yes true k = refl
    yes false k = absurd (false≢true (sym k))

pub rows_are_high : (r : Bool) (t : Told) (w : Wanted) → r ≡ is_resized t w → IsWhole t → IsDrawn w
    → length (rows_after_shifts (moves r t.views w.views) (rows_to_move r t.rows w.screen)) ≡ length w.screen.rows
rows_are_high true t w e whole d = length-replicate w.screen.height _ ∙ sym d.sized.high
rows_are_high false t w e whole d =
    shifts_keep (shifts_between t.views w.views) t.rows (length w.screen.rows)
    ((whole (w.screen.width, w.screen.height) (size_is t.size w.screen.width w.screen.height (sym e))).high ∙ sym d.sized.high)
