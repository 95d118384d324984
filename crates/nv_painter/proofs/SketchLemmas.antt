-- Rows that are shown already.
use Rattle.std.proofs.Common.{◌≡◌, ◌≢◌, ℕ, suc, ◌+◌, ◌<◌, ◌≤◌, List, [], ◌∷◌, ◌++◌, length, map, take, drop, get_or, set, Bool, true, false, cond, ◌||◌, Option, Some, None, refl, ap, sym, subst, ◌∙◌, append-nil, arith}
use Rattle.std.proofs.Math.ListN.{drop_of_length-le}
use Rattle.std.proofs.lemmas.Bool.{false≢true}
use Rattle.std.proofs.lemmas.List.{drop-drop, drop-set-lt, take_all, take_more}
use Rattle.std.proofs.lemmas.List.Folds.{list_any-append}
use Rattle.std.specs.List.{list_any}
use Rattle.nv_hl.specs.declared.attribute.Attr.{Attr}
use Rattle.nv_hl.specs.declared.cell.Cell.{Cell}
use Rattle.nv_hl.specs.Attributes.{empty_attr, same_attr}
use Rattle.nv_hl.proofs.LawLemmas.{same_attrs_are_equal}
use Rattle.nv_linegrid.specs.declared.event.Redraw.{Redraw}
use Rattle.nv_linegrid.specs.Client.{Shown, ShownRows, shown_of}
use Rattle.nv_linegrid.specs.Rows.{lines_of_rows}
use Rattle.nv_linegrid.specs.Told.{has_id, id_from, id_of, known_rows, shown_cell, shown_rows, with_attrs_of}
use Rattle.nv_painter.specs.inside.Sketch.{HaveIds, IsIdOf, ShowsCells}
use Rattle.nv_painter.proofs.IdLemmas.{empty_has_id, id_of_empty, with_known}
use Rattle.nv_painter.proofs.LineLemmas.{shown_more}

-- ---- attributes that have ids

-- an id that isn't 0 is one
pub id_is_there : (n : ℕ) (attrs : List Attr) (a : Attr) → id_from n attrs a ≢ 0 → list_any (same_attr a) attrs ≡ true
id_is_there n [] a some = absurd (some refl)
id_is_there n (b ∷ attrs) a some = by (same_attr a b) some (id_is_there (suc n) attrs a)
  where
    by : (s : Bool) → cond s n (id_from (suc n) attrs a) ≢ 0 → (id_from (suc n) attrs a ≢ 0 → list_any (same_attr a) attrs ≡ true)
        → (s || list_any (same_attr a) attrs) ≡ true
    by true some more = refl
    by false some more = more some

pub empty_is_id_0 : (attrs : List Attr) → IsIdOf attrs empty_attr 0
empty_is_id_0 attrs = record { has = empty_has_id attrs; is = sym (id_of_empty attrs) }

-- the id of an attribute, by what the code asks
pub id_of_same_empty : (attrs : List Attr) (a : Attr) → same_attr a empty_attr ≡ true → IsIdOf attrs a 0
id_of_same_empty attrs a e = record {
  has = ap (λ b. b || list_any (same_attr a) attrs) e;
  is = sym (ap (λ b. cond b 0 (id_from 1 attrs a)) e);
}

pub id_of_found : (attrs : List Attr) (a : Attr) (id : ℕ) → same_attr a empty_attr ≡ false → id ≡ id_from 1 attrs a → id ≢ 0 → IsIdOf attrs a id
id_of_found attrs a id e is some = record {
  has = ap (λ b. b || list_any (same_attr a) attrs) e ∙ id_is_there 1 attrs a (λ z. some (is ∙ z));
  is = is ∙ sym (ap (λ b. cond b 0 (id_from 1 attrs a)) e);
}

pub id_as_last : (attrs : List Attr) (a last : Attr) (id : ℕ) → same_attr a last ≡ true → IsIdOf attrs last id → IsIdOf attrs a id
id_as_last attrs a last id same k = subst (λ x. IsIdOf attrs x id) (sym ((same_attrs_are_equal a last).0 same)) k

or_left : (a b c : Bool) → (a || b) ≡ true → (a || (b || c)) ≡ true
or_left true b c h = refl
or_left false true c h = refl
or_left false false c h = absurd (false≢true h)

-- more attributes leave an id
has_more : (xs ys : List Attr) (a : Attr) → has_id xs a ≡ true → has_id (xs ++ ys) a ≡ true
has_more xs ys a h =
    ap (λ b. same_attr a empty_attr || b) (list_any-append (same_attr a) xs ys)
    ∙ or_left (same_attr a empty_attr) (list_any (same_attr a) xs) (list_any (same_attr a) ys) h

id_from_more : (n : ℕ) (xs ys : List Attr) (a : Attr) → list_any (same_attr a) xs ≡ true → id_from n (xs ++ ys) a ≡ id_from n xs a
id_from_more n [] ys a h = absurd (false≢true h)
id_from_more n (b ∷ xs) ys a h = by (same_attr a b) h (id_from_more (suc n) xs ys a)
  where
    by : (s : Bool) → (s || list_any (same_attr a) xs) ≡ true
        → (list_any (same_attr a) xs ≡ true → id_from (suc n) (xs ++ ys) a ≡ id_from (suc n) xs a)
        → cond s n (id_from (suc n) (xs ++ ys) a) ≡ cond s n (id_from (suc n) xs a)
    by true h more = refl
    by false h more = more h

id_more : (xs ys : List Attr) (a : Attr) → has_id xs a ≡ true → id_of (xs ++ ys) a ≡ id_of xs a
id_more xs ys a h = by (same_attr a empty_attr) h
  where
    by : (s : Bool) → (s || list_any (same_attr a) xs) ≡ true → cond s 0 (id_from 1 (xs ++ ys) a) ≡ cond s 0 (id_from 1 xs a)
    by true h = refl
    by false h = id_from_more 1 xs ys a h

pub have_more : (xs ys : List Attr) (cells : List Cell) → HaveIds xs cells → HaveIds (xs ++ ys) cells
have_more xs ys [] h = tt
have_more xs ys (c ∷ cells) h = (has_more xs ys c.attr h.0, have_more xs ys cells h.1)

cells_stay : (xs ys : List Attr) (cells : List Cell) → HaveIds xs cells → map (shown_cell (xs ++ ys)) cells ≡ map (shown_cell xs) cells
cells_stay xs ys [] h = refl
cells_stay xs ys (c ∷ cells) h =
    let one = id_more xs ys c.attr h.0 in
    let rest = cells_stay xs ys cells h.1 in
    λ i. shown_of c.text (one i) ∷ rest i

pub shows_more : (xs ys : List Attr) (cells : List Cell) (row : List (Option Shown)) → ShowsCells xs cells row → ShowsCells (xs ++ ys) cells row
shows_more xs ys cells row s = record {
  ids = have_more xs ys cells s.ids;
  row_is = s.row_is ∙ ap (map Some) (sym (cells_stay xs ys cells s.ids));
}

-- cells whose attributes have ids add none
pub adds_none : (attrs : List Attr) (cells : List Cell) → HaveIds attrs cells → with_attrs_of attrs cells ≡ attrs
adds_none attrs [] h = refl
adds_none attrs (c ∷ cells) h = ap (λ l. with_attrs_of l cells) (with_known attrs c.attr h.0) ∙ adds_none attrs cells h.1

-- ---- a row that shows its cells, one cell after another

pub shows_none : (attrs : List Attr) → ShowsCells attrs [] []
shows_none attrs = record { ids = tt; row_is = refl }

have_push : (attrs : List Attr) (cells : List Cell) (c : Cell) → HaveIds attrs cells → has_id attrs c.attr ≡ true → HaveIds attrs (cells ++ c ∷ [])
have_push attrs [] c h one = (one, tt)
have_push attrs (x ∷ cells) c h one = (h.0, have_push attrs cells c h.1 one)

pub shows_next : (attrs : List Attr) (row : List (Option Shown)) (cells : List Cell) (k id : ℕ) (cell : Cell)
    → k < length row → k < length cells → cell ≡ get_or cells k cell
    → get_or row k None ≡ Some (record { text = cell.text; id = id }) → IsIdOf attrs cell.attr id
    → ShowsCells attrs (take k cells) (take k row)
    → ShowsCells attrs (take (k + 1) cells) (take (k + 1) row)
shows_next attrs row cells k id cell in_row in_cells is there known front =
    let more : take (k + 1) cells ≡ take k cells ++ cell ∷ [] =
    take_more cells k cell in_cells ∙ ap (λ c. take k cells ++ c ∷ []) (sym is) in record {
      ids = subst (HaveIds attrs) (sym more) (have_push attrs (take k cells) cell front.ids known.has);
      row_is = shown_more attrs row cells k id cell in_row in_cells is there known.is front.row_is;
    }

pub shows_all : (attrs : List Attr) (row : List (Option Shown)) (cells : List Cell) (k : ℕ) → length cells ≡ length row → length cells ≤ k
    → ShowsCells attrs (take k cells) (take k row) → ShowsCells attrs cells row
shows_all attrs row cells k same le s =
    subst (λ (q : List Cell × List (Option Shown)). ShowsCells attrs q.0 q.1)
    (λ i. (take_all k cells le i, take_all k row (omega (arith, same, le)) i)) s

-- ---- one row after another

-- what is told once the rows before number k are
pub record ToldTo (k : ℕ) (attrs : List Attr) (screen : List (List Cell)) (rows : ShownRows) (events all : List Redraw) : Type 0 where
  pub events_are : events ++ lines_of_rows k (drop k rows) (shown_rows attrs (drop k screen)) ≡ all
  pub rows_are : take k rows ≡ known_rows (shown_rows attrs (take k screen))

pub rest_step : (k : ℕ) (first rows after : ShownRows) (row : List (Option Shown)) → after ≡ set rows k row → drop k rows ≡ drop k first
    → drop (k + 1) after ≡ drop (k + 1) first
rest_step k first rows after row is rest =
    ap (drop (k + 1)) is ∙ drop-set-lt (k + 1) rows k row (omega arith)
    ∙ more rows ∙ ap (drop 1) rest ∙ sym (more first)
  where
    more : (l : ShownRows) → drop (k + 1) l ≡ drop 1 (drop k l)
    more l = sym (drop-drop 1 k l)

pub told_first : (attrs : List Attr) (screen : List (List Cell)) (rows : ShownRows) (events : List Redraw)
    → ToldTo 0 attrs screen rows events (events ++ lines_of_rows 0 rows (shown_rows attrs screen))
told_first attrs screen rows events = record { events_are = refl; rows_are = refl }

pub told_events : (k : ℕ) (attrs : List Attr) (screen : List (List Cell)) (rows : ShownRows) (events all : List Redraw)
    → length rows ≤ k → ToldTo k attrs screen rows events all → events ≡ all
told_events k attrs screen rows events all le e =
    let none : drop k rows ≡ [] = drop_of_length-le rows le in
    sym (append-nil events) ∙ ap (λ (l : ShownRows). events ++ lines_of_rows k l (shown_rows attrs (drop k screen))) (sym none) ∙ e.events_are

pub told_rows : (k : ℕ) (attrs : List Attr) (screen : List (List Cell)) (rows : ShownRows) (events all : List Redraw)
    → length rows ≤ k → length screen ≤ k → ToldTo k attrs screen rows events all → rows ≡ known_rows (shown_rows attrs screen)
told_rows k attrs screen rows events all le high e =
    sym (take_all k rows le) ∙ e.rows_are ∙ ap (λ l. known_rows (shown_rows attrs l)) (take_all k screen high)
