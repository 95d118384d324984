-- What a client was told, as plain data, and what it is to be shown.
use Rattle.std.specs.Prelude.{◌≡◌, ℕ, suc, ℤ, ◌+◌, ◌<◌, ◌≤◌, Bool, ◌||◌, if◌then◌else◌, List, [], ◌∷◌, ◌++◌, length, map, replicate, Option, Some, None}
use Rattle.std.specs.List.{list_any, AllByRecursion, IsDistinct}
use Rattle.std.specs.Ordering.{int_eq}
use Rattle.nv_hl.specs.declared.attribute.Attr.{Attr}
use Rattle.nv_hl.specs.declared.cell.Cell.{Cell}
use Rattle.nv_hl.specs.declared.colours.Colours.{Colours}
use Rattle.nv_hl.specs.Attributes.{empty_attr, same_attr}
use Rattle.nv_hl.specs.Cells.{Screen, IsSized}
use Rattle.nv_linegrid.specs.Client.{Shown, shown_of, ShownRows, Client, first_table}

-- a window on a screen: its handle, the place and size of its text in cells, its buffer with
-- changedtick and 'tabstop', its first line, and how many rows each line from there on takes
pub record View : Type 0 where
  pub window : ℤ
  pub row : ℕ
  pub col : ℕ
  pub width : ℕ
  pub height : ℕ
  pub buffer : ℤ
  pub tick : ℤ
  pub tabstop : ℕ
  pub first : ℕ
  pub heights : List ℕ

-- what a client is to show: a screen, the default colours, the cursor's row and column, and the
-- windows by rising handles
pub record Wanted : Type 0 where
  pub screen : Screen
  pub colours : Colours
  pub cursor : ℕ × ℕ
  pub views : List View

-- what a client was told: its size, the cells that it shows, the attributes of the ids from 1 on,
-- default colours and cursor; and the windows that it was shown
pub record Told : Type 0 where
  pub size : Option (ℕ × ℕ)
  pub rows : ShownRows
  pub attrs : List Attr
  pub colours : Option Colours
  pub cursor : Option (ℕ × ℕ)
  pub views : List View

abbrev pub nothing_told : Told
nothing_told =
    record { size = None; rows = []; attrs = []; colours = None; cursor = None; views = [] }

-- the table of a client to which attributes were told, the first of them with id n
abbrev pub table_from : ℕ → List (ℕ × Attr) → List Attr → List (ℕ × Attr)
table_from n table [] = table
table_from n table (a ∷ attrs) = table_from (suc n) ((n, a) ∷ table) attrs

abbrev pub table_of : List Attr → List (ℕ × Attr)
table_of attrs = table_from 1 first_table attrs

-- the client to which this was told
abbrev pub client_of : Told → Client
client_of t = record {
  size = t.size;
  rows = t.rows;
  table = table_of t.attrs;
  colours = t.colours;
  cursor = t.cursor;
}

-- ---- ids of attributes: 0 is the empty one, and the others count from 1 as they were told

abbrev pub has_id : List Attr → Attr → Bool
has_id attrs a = same_attr a empty_attr || list_any (same_attr a) attrs

abbrev pub with_attr : List Attr → Attr → List Attr
with_attr attrs a = if has_id attrs a then attrs else attrs ++ a ∷ []

-- the attributes once those of these cells have ids too, in order of their first cell
abbrev pub with_attrs_of : List Attr → List Cell → List Attr
with_attrs_of attrs [] = attrs
with_attrs_of attrs (c ∷ cs) = with_attrs_of (with_attr attrs c.attr) cs

abbrev pub with_attrs_of_rows : List Attr → List (List Cell) → List Attr
with_attrs_of_rows attrs [] = attrs
with_attrs_of_rows attrs (r ∷ rs) = with_attrs_of_rows (with_attrs_of attrs r) rs

abbrev pub id_from : ℕ → List Attr → Attr → ℕ
id_from n [] a = 0
id_from n (b ∷ bs) a = if same_attr a b then n else id_from (suc n) bs a

abbrev pub id_of : List Attr → Attr → ℕ
id_of attrs a = if same_attr a empty_attr then 0 else id_from 1 attrs a

abbrev pub shown_cell : List Attr → Cell → Shown
shown_cell attrs c = shown_of c.text (id_of attrs c.attr)

abbrev pub shown_rows : List Attr → List (List Cell) → List (List Shown)
shown_rows attrs rows = map (map (shown_cell attrs)) rows

-- rows in which each cell is known
abbrev pub known_rows : List (List Shown) → ShownRows
known_rows rows = map (map Some) rows

-- spaces without an attribute
abbrev pub blank_shown_rows : ℕ → ℕ → ShownRows
blank_shown_rows width height = replicate height (replicate width (Some (shown_of (32 ∷ []) 0)))

-- ---- whole screens

-- rows of a size
pub record AreSized {A : Type 0} (width height : ℕ) (rows : List (List A)) : Type 0 where
  pub high : length rows ≡ height
  pub wide : AllByRecursion (λ r. length r ≡ width) rows

-- what was told is a whole screen, once it has a size
abbrev pub IsWhole : Told → Type 0
IsWhole t = (s : ℕ × ℕ) → t.size ≡ Some s → AreSized s.0 s.1 t.rows

-- a window has a column at least, and lies in a screen of this size
pub record IsInScreen (width height : ℕ) (v : View) : Type 0 where
  pub wide : 0 < v.width
  pub cols : v.col + v.width ≤ width
  pub rows : v.row + v.height ≤ height

abbrev pub is_same_window : View → View → Bool
is_same_window a b = int_eq a.window b.window

-- what is wanted is a whole screen with the cursor on it, and windows in it of which no two are the
-- same
pub record IsDrawn (w : Wanted) : Type 0 where
  pub sized : IsSized w.screen
  pub row : w.cursor.0 < w.screen.height
  pub col : w.cursor.1 < w.screen.width
  pub views : AllByRecursion (IsInScreen w.screen.width w.screen.height) w.views
  pub apart : IsDistinct is_same_window w.views
