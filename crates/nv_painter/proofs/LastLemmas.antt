-- The scene that was painted last.
use Rattle.std.proofs.Common.{◌≡◌, ◌<◌, ◌≤◌, ℕ, zero, suc, pos, List, [], ◌∷◌, ◌++◌, length, length-append, map, get_or, Bool, true, false, not, IfSome, Option, None, Some, refl, ap, sym, subst, ◌∙◌, arith, ◌⊎◌, ⊎_elim}
use Rattle.std.proofs.lemmas.Bool.{cases_lt}
use Rattle.std.proofs.lemmas.List.{length-map, get_or_append_left, get_or_past, get_or_push}
use Rattle.std.specs.List.{AllByRecursion}
use Rattle.nv_hl.specs.declared.attribute.Attr.{Attr}
use Rattle.nv_hl.specs.declared.cell.Cell.{Cell}
use Rattle.nv_linegrid.specs.declared.event.Redraw.{Redraw}
use Rattle.nv_linegrid.specs.declared.event.Redraw.TheVariants.{DefaultColors, Goto, Flush}
use Rattle.nv_linegrid.specs.Batch.{attrs_after, event_if, is_place, is_resized, is_size, same_colours, told_after}
use Rattle.nv_linegrid.specs.Client.{Shown, ShownRows}
use Rattle.nv_linegrid.specs.Scrolls.{Shift, rows_after_shifts}
use Rattle.nv_linegrid.specs.Told.{AreSized, IsDrawn, IsWhole, Told, View, Wanted, known_rows, shown_cell, shown_rows, with_attrs_of_rows}
use Rattle.nv_linegrid.proofs.TableLemmas.{rows_have}
use Rattle.nv_screen.specs.declared.scene.Scene.{Scene}
use Rattle.nv_screen.specs.Cursor.{cursor_of_scene}
use Rattle.nv_painter.specs.Pictures.{picture_of, views_of}
use Rattle.nv_painter.specs.inside.Last.{IsSketchOf}
use Rattle.nv_painter.specs.inside.Due.{AreKnown, ShowsBut}
use Rattle.nv_painter.specs.inside.Lent.{AreLent, AreLike, IsLikeBut}
use Rattle.nv_painter.specs.inside.Moving.{ComesWhole, StayBut, StaysIn}
use Rattle.nv_painter.proofs.MovedLemmas.{brought_is, there_is}
use Rattle.nv_painter.specs.inside.Screens.{IsToldNext, TellsScreen}
use Rattle.nv_painter.specs.inside.Sketch.{AreDrawn, AreShown, HaveIds, ShowsCells}
use Rattle.nv_painter.proofs.DueLemmas.{shows_but}
use Rattle.nv_painter.proofs.MoveLemmas.{stays}
use Rattle.nv_painter.proofs.SketchLemmas.{adds_none}
use Rattle.nv_painter.proofs.ToldLemmas.{told_by}

-- ---- what is told twice

rows_add_none : (attrs : List Attr) (rows : List (List Cell)) → AllByRecursion (HaveIds attrs) rows → with_attrs_of_rows attrs rows ≡ attrs
rows_add_none attrs [] h = refl
rows_add_none attrs (r ∷ rows) h = ap (λ l. with_attrs_of_rows l rows) (adds_none attrs r h.0) ∙ rows_add_none attrs rows h.1

pub told_again : (t : Told) (w : Wanted) → told_after t w ≡ told_after (told_after t w) w
unfolding told_after
told_again t w =
    let same : attrs_after t w ≡ with_attrs_of_rows (attrs_after t w) w.screen.rows =
    sym (rows_add_none (attrs_after t w) w.screen.rows (rows_have t.attrs w.screen.rows)) in
    λ i. record {
      size = Some (w.screen.width, w.screen.height);
      rows = known_rows (shown_rows (same i) w.screen.rows);
      attrs = same i;
      colours = Some w.colours;
      cursor = Some w.cursor;
      views = w.views;
    }

-- what was told of a scene stays so when it is told again
pub told_stays : (before t : Told) (w : Wanted) → t ≡ told_after before w → t ≡ told_after t w
told_stays before t w is = is ∙ told_again before w ∙ ap (λ l. told_after l w) (sym is)

-- ---- its rows

known_at : (attrs : List Attr) (rows : List (List Cell)) (k : ℕ)
    → get_or (known_rows (shown_rows attrs rows)) k [] ≡ map Some (map (shown_cell attrs) (get_or rows k []))
known_at attrs [] k = refl
known_at attrs (r ∷ rows) zero = refl
known_at attrs (r ∷ rows) (suc k) = known_at attrs rows k

have_at : (attrs : List Attr) (rows : List (List Cell)) (k : ℕ) → AllByRecursion (HaveIds attrs) rows → HaveIds attrs (get_or rows k [])
have_at attrs [] k h = tt
have_at attrs (r ∷ rows) zero h = h.0
have_at attrs (r ∷ rows) (suc k) h = have_at attrs rows k h.1

pub last_shows : (t : Told) (w : Wanted) (k : ℕ) → t ≡ told_after t w → ShowsCells t.attrs (get_or w.screen.rows k []) (get_or t.rows k [])
unfolding told_after
last_shows t w k same =
    let rows = w.screen.rows in
    let attrs_are : t.attrs ≡ attrs_after t w = ap (λ (x : Told). x.attrs) same in
    let rows_are : t.rows ≡ known_rows (shown_rows (attrs_after t w) rows) = ap (λ (x : Told). x.rows) same in record {
      ids = subst (λ l. HaveIds l (get_or rows k [])) (sym attrs_are) (have_at (attrs_after t w) rows k (rows_have t.attrs rows));
      row_is = ap (λ l. get_or l k []) rows_are ∙ known_at (attrs_after t w) rows k
          ∙ ap (λ l. map Some (map (shown_cell l) (get_or rows k []))) (sym attrs_are);
    }

-- rows that stay the same, and that no shift moves, are shown
pub steady_are_shown : (t : Told) (w : Wanted) (shifts : List Shift) (flags : List Bool) (screen : List (List Cell)) → t ≡ told_after t w
    → ((k : ℕ) → get_or flags k false ≡ true → (get_or w.screen.rows k [] ≡ get_or screen k []) × StaysIn shifts k)
    → AreShown flags t.attrs screen (rows_after_shifts shifts t.rows)
steady_are_shown t w shifts flags screen same steady k e =
    subst (λ (q : List Cell × List (Option Shown)). ShowsCells t.attrs q.0 q.1) (λ i. ((steady k e).0 i, sym (stays shifts t.rows k (steady k e).1) i))
    (last_shows t w k same)

-- so are rows that the only shift brings as they are
brought_are_shown : (t : Told) (w : Wanted) (shifts : List Shift) (width height k : ℕ) (drawn screen : List (List Cell)) → t ≡ told_after t w
    → AreSized width height t.rows → length drawn ≡ height → AreLent drawn screen → ComesWhole shifts width w.screen.rows drawn k
    → ShowsCells t.attrs (get_or screen k []) (get_or (rows_after_shifts shifts t.rows) k [])
brought_are_shown t w shifts width height k drawn screen same sized high lent c =
    let row = c.row in
    let shown = last_shows t w row.from same in
    let cells : get_or w.screen.rows row.from [] ≡ get_or screen k [] = row.same ∙ lent k row.some in
    let count : length (get_or t.rows row.from []) ≡ length (get_or drawn k []) =
    ap length shown.row_is ∙ length-map (map (shown_cell t.attrs) (get_or w.screen.rows row.from [])) Some
    ∙ length-map (get_or w.screen.rows row.from []) (shown_cell t.attrs) ∙ ap length row.same in
    let below : k < height = omega (arith, there_is drawn k row.some, high) in
    let brought = brought_is c.shift width height t.rows k row.from sized c.left c.right row.is below (omega (arith, count, row.some)) in
    subst (λ (q : List Cell × List (Option Shown)). ShowsCells t.attrs q.0 q.1)
    (λ i. (cells i, sym (ap (λ ss. get_or (rows_after_shifts ss t.rows) k []) c.only ∙ brought) i)) shown

pub all_are_shown : (t : Told) (w : Wanted) (shifts : List Shift) (width height : ℕ) (before flags : List Bool) (drawn screen : List (List Cell))
    → t ≡ told_after t w → AreSized width height t.rows → length drawn ≡ height → AreLent drawn screen
    → ((k : ℕ) → get_or flags k false ≡ true → (get_or before k false ≡ true) ⊎ ComesWhole shifts width w.screen.rows drawn k)
    → ((k : ℕ) → get_or before k false ≡ true → (get_or w.screen.rows k [] ≡ get_or screen k []) × StaysIn shifts k)
    → AreShown flags t.attrs screen (rows_after_shifts shifts t.rows)
all_are_shown t w shifts width height before flags drawn screen same sized high lent either steady k e =
    ⊎_elim (λ (b : get_or before k false ≡ true). steady_are_shown t w shifts before screen same steady k b)
    (λ (c : ComesWhole shifts width w.screen.rows drawn k). brought_are_shown t w shifts width height k drawn screen same sized high lent c)
    (either k e)

-- one row more
pub like_more : (known after : List (Option (ℕ × ℕ))) (places : Option (ℕ × ℕ)) (before drawn : List (List Cell)) (k : ℕ)
    → length known ≡ k → after ≡ known ++ places ∷ []
    → IfSome places (λ d. IsLikeBut (get_or before k []) (get_or drawn k []) d.0 d.1)
    → AreLike known before drawn → AreLike after before drawn
like_more known after places before drawn k count is here all j =
    subst (λ (l : List (Option (ℕ × ℕ))). At (get_or l j None) j) (sym is)
    (⊎_elim
    (λ (front : j < k). subst (λ o. At o j) (sym (get_or_append_left known (places ∷ []) None j (omega (arith, front, count)))) (all j))
    (λ (le : k ≤ j).
    ⊎_elim
    (λ (past : k < j).
    subst (λ o. At o j) (sym (get_or_past (known ++ places ∷ []) j None (omega (arith, past, count, length-append known (places ∷ []))))) tt)
    (λ (last : j ≤ k).
    let same : k ≡ j = omega (arith, le, last) in
    subst (λ o. At o j) (sym (get_or_push known places None j (count ∙ same))) (subst (λ i. At places i) same here))
    (cases_lt k j))
    (cases_lt j k))
  where
    At : Option (ℕ × ℕ) → ℕ → Type 0
    At o i = IfSome o (λ d. IsLikeBut (get_or before i []) (get_or drawn i []) d.0 d.1)

-- rows of a screen that are lent, where no window's text moved
pub stay_but : (shifts : List Shift) (known : List (Option (ℕ × ℕ))) (before screen drawn : List (List Cell)) → shifts ≡ []
    → AreLent before screen → AreLike known before drawn → StayBut shifts known screen drawn
stay_but shifts known before screen drawn none lent like k = by (get_or known k None) (like k)
  where
    by : (o : Option (ℕ × ℕ)) → IfSome o (λ d. IsLikeBut (get_or before k []) (get_or drawn k []) d.0 d.1)
        → IfSome o (λ d. (shifts ≡ []) × IsLikeBut (get_or screen k []) (get_or drawn k []) d.0 d.1)
    by None p = tt
    by (Some d) p = (none, subst (λ cs. IsLikeBut cs (get_or drawn k []) d.0 d.1) (lent k (omega (arith, p.count, p.some))) p)

-- rows that are the same but for some cells show all others
pub known_are_shown : (t : Told) (w : Wanted) (shifts : List Shift) (known : List (Option (ℕ × ℕ))) (drawn : List (List Cell))
    → t ≡ told_after t w → StayBut shifts known w.screen.rows drawn → AreKnown known t.attrs drawn (rows_after_shifts shifts t.rows)
known_are_shown t w shifts known drawn same stay k = by (get_or known k None) (stay k)
  where
    by : (o : Option (ℕ × ℕ)) → IfSome o (λ d. (shifts ≡ []) × IsLikeBut (get_or w.screen.rows k []) (get_or drawn k []) d.0 d.1)
        → IfSome o (λ d. ShowsBut t.attrs (get_or drawn k []) (get_or (rows_after_shifts shifts t.rows) k []) d.0 d.1)
    by None p = tt
    by (Some d) p =
        subst (λ ss. ShowsBut t.attrs (get_or drawn k []) (get_or (rows_after_shifts ss t.rows) k []) d.0 d.1) (sym p.0)
        (shows_but t.attrs (get_or w.screen.rows k []) (get_or drawn k []) (get_or t.rows k []) d.0 d.1 (last_shows t w k same) p.1)

pub last_size : (t : Told) (w : Wanted) → t ≡ told_after t w → t.size ≡ Some (w.screen.width, w.screen.height)
unfolding told_after
last_size t w same = ap (λ (x : Told). x.size) same

-- ---- rows that are drawn

-- each row below the height is drawn, and the others are none
pub all_drawn : (flags : List Bool) (drawn screen : List (List Cell)) → length drawn ≡ length screen
    → ((k : ℕ) → k < length drawn → get_or flags k false ≡ false → get_or drawn k [] ≡ get_or screen k [])
    → AreDrawn flags drawn screen
all_drawn flags drawn screen same below k e =
    ⊎_elim
    (λ (lt : k < length drawn). below k lt e)
    (λ (le : length drawn ≤ k). get_or_past drawn k [] le ∙ sym (get_or_past screen k [] (omega (arith, same, le))))
    (cases_lt k (length drawn))

-- ---- the batch of a scene of the size that was told

pub not_resized : (t : Told) (w : Wanted) → is_size t.size w.screen.width w.screen.height ≡ true → is_resized t w ≡ false
not_resized t w e = ap not e

pub sketch_told : (t : Told) (s : Scene) (shifts : List Shift) (flags : List Bool) (known : List (Option (ℕ × ℕ))) (drawn : List (List Cell)) (attrs : List Attr)
    (rows after : ShownRows) (cursor : ℕ × ℕ) (views : List View) (e2 e6 e8 : List Redraw)
    → IsWhole t → IsDrawn (picture_of s) → IsSketchOf t shifts flags known drawn s → rows ≡ rows_after_shifts shifts t.rows
    → cursor ≡ cursor_of_scene s → views ≡ views_of s.panes.items
    → e2 ≡ event_if (not (same_colours t.colours s.colours)) (DefaultColors s.colours)
    → TellsScreen false shifts (picture_of s).screen.rows t.attrs attrs rows after e2 e6
    → e8 ≡ e6 ++ event_if (not (is_place t.cursor cursor)) (Goto (pos 1) cursor.0 cursor.1) ++ Flush ∷ []
    → IsToldNext t (picture_of s) e8 (record {
      size = Some (s.width, s.height);
      rows = after;
      attrs = attrs;
      colours = Some s.colours;
      cursor = Some cursor;
      views = views;
    })
sketch_told t s shifts flags known drawn attrs rows after cursor views e2 e6 e8 whole is_drawn is rows_are cursor_is views_are s2 tells s8 =
    let w = picture_of s in
    subst (λ (q : (ℕ × ℕ) × List View). IsToldNext t w e8 (record {
      size = Some (s.width, s.height);
      rows = after;
      attrs = attrs;
      colours = Some s.colours;
      cursor = Some q.0;
      views = q.1;
    }))
    (λ i. (sym cursor_is i, sym views_are i))
    (told_by t w false (Some (s.width, s.height)) shifts attrs rows after t.cursor [] e2 e6 e8 whole is_drawn (sym (not_resized t w is.size)) refl is.moves rows_are refl refl s2 tells
    (s8 ∙ (λ i. e6 ++ event_if (not (is_place t.cursor (cursor_is i))) (Goto (pos 1) (cursor_is i).0 (cursor_is i).1) ++ Flush ∷ [])))
