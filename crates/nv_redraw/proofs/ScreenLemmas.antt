-- Cells put in rows, runs told, and what a screen shows.
use Rattle.std.proofs.Common.{ℕ, suc, ◌+◌, ◌<◌, ◌≡◌, ◌↔◌, Bool, true, false, eqb, List, [], ◌∷◌, ◌++◌, length, map, take, drop, set, get_or, replicate, Option, None, Some, is_some, refl, sym, ap, ◌∙◌, subst, arith, length-append}
use Rattle.std.proofs.lemmas.List.{append_assoc, append-nil, drop_more, drop-set-lt, length-replicate, take_more_set, take-append-drop}
use Rattle.std.specs.Prelude.{◌&&◌, option_map, nat_le, if◌then◌else◌}
use Rattle.std.proofs.lemmas.Bool.{and_parts, eqb-true, eq-eqb, leb-true, false≢true}
use Rattle.nv_hl.specs.Cells.{Screen}
use Rattle.nv_hl.proofs.LawLemmas.{same_attrs_are_equal}
use Rattle.nv_linegrid.specs.Batch.{is_size, is_place}
use Rattle.nv_redraw.specs.Taking.{ShowsGrid}
use Rattle.std.specs.Str.{bytes_eq}
use Rattle.std.proofs.lemmas.Slice.Eq.{bytes_eq-Decides}
use Rattle.nv_hl.specs.declared.attribute.Attr.{Attr}
use Rattle.nv_hl.specs.declared.cell.Cell.{Cell}
use Rattle.nv_hl.specs.Attributes.{same_attr}
use Rattle.nv_linegrid.specs.declared.event.Run.{Run}
use Rattle.nv_linegrid.specs.declared.event.Run.TheVariants.{Same, One, Times}
use Rattle.nv_linegrid.specs.Client.{Shown, ShownRows, shown_of, attr_of_id, names_known_ids, Client, cells_before, cells_told, row_with, cell_seen}
use Rattle.nv_redraw.specs.inside.Taking.{within_room, CellsPut, RunPut, cell_shows, is_text_in, row_shows, rows_show}

-- ---- ids

-- the ids that runs name are those of the first and of the others
pub known_first : (table : List (ℕ × Attr)) (run : Run) (runs : List Run) → names_known_ids table (run ∷ runs) ≡ (names_known_ids table (run ∷ []) && names_known_ids table runs)
known_first table (Same text) runs = refl
known_first table (One text id) runs = by (is_some (attr_of_id table id)) where
  by : (b : Bool) → (b && names_known_ids table runs) ≡ ((b && true) && names_known_ids table runs)
  by true = refl
  by false = refl
known_first table (Times text id n) runs = by (is_some (attr_of_id table id)) where
  by : (b : Bool) → (b && names_known_ids table runs) ≡ ((b && true) && names_known_ids table runs)
  by true = refl
  by false = refl

-- ---- cells that runs tell

pub before_before : (a b : List Shown) (o : Option (List Shown)) → cells_before a (cells_before b o) ≡ cells_before (a ++ b) o
before_before a b None = refl
before_before a b (Some cs) = ap Some (sym (append_assoc a b cs))

-- too many cells don't fit, whatever follows
pub too_many : (room : ℕ) (a b : List Shown) (o : Option (List Shown)) → room < length a + length b → within_room room (cells_before a (cells_before b o)) ≡ None
too_many room a b None h = refl
too_many room a b (Some cs) h = by (nat_le (length (a ++ (b ++ cs))) room) refl where
  by : (t : Bool) → nat_le (length (a ++ (b ++ cs))) room ≡ t → (if t then Some (a ++ (b ++ cs)) else None) ≡ None
  by true e = absurd (omega (arith, leb-true (length (a ++ (b ++ cs))) room e, length-append a (b ++ cs), length-append b cs))
  by false e = refl

-- equal cells that fit are told
pub run_fits : (room : ℕ) (old new : List Shown) (c : Shown) (n : ℕ) (o : Option (List Shown)) → CellsPut room old new c n true
    → within_room room (cells_before new o) ≡ within_room room (cells_before old (cells_before (replicate n c) o))
run_fits room old new c n o h =
    ap (λ (l : List Shown). within_room room (cells_before l o)) h.0 ∙ ap (within_room room) (sym (before_before old (replicate n c) o))

pub run_passes : (room : ℕ) (old new : List Shown) (c : Shown) (n : ℕ) (o : Option (List Shown)) → CellsPut room old new c n false
    → within_room room (cells_before old (cells_before (replicate n c) o)) ≡ None
run_passes room old new c n o h = too_many room old (replicate n c) o (omega (arith, h, length-replicate {A = Shown} n c))

pub none_before : (room : ℕ) (old : List Shown) → within_room room (cells_before old None) ≡ None
none_before room old = refl

-- what a run tells
pub told_same : (last : Option ℕ) (run : Run) (text : List ℕ) (id : ℕ) → last ≡ Some id → run ≡ Same text
    → (runs : List Run) → cells_told last (run ∷ runs) ≡ cells_before (replicate 1 (shown_of text id)) (cells_told (Some id) runs)
told_same last run text id e f runs = ap (λ l. cells_told l (run ∷ runs)) e ∙ ap (λ (r : Run). cells_told (Some id) (r ∷ runs)) f

pub told_one : (last : Option ℕ) (run : Run) (text : List ℕ) (id : ℕ) → run ≡ One text id
    → (runs : List Run) → cells_told last (run ∷ runs) ≡ cells_before (replicate 1 (shown_of text id)) (cells_told (Some id) runs)
told_one last run text id f runs = ap (λ (r : Run). cells_told last (r ∷ runs)) f

pub told_times : (last : Option ℕ) (run : Run) (text : List ℕ) (id n : ℕ) → run ≡ Times text id n
    → (runs : List Run) → cells_told last (run ∷ runs) ≡ cells_before (replicate n (shown_of text id)) (cells_told (Some id) runs)
told_times last run text id n f runs = ap (λ (r : Run). cells_told last (r ∷ runs)) f

pub told_nothing : (room : ℕ) (last : Option ℕ) (old new : List Shown) (run : Run) (text : List ℕ) → last ≡ None → run ≡ Same text → RunPut room last old new run None
told_nothing room last old new run text e f runs =
    ap (λ o. within_room room (cells_before old o)) (ap (λ l. cells_told l (run ∷ runs)) e ∙ ap (λ (r : Run). cells_told None (r ∷ runs)) f)

pub run_put : (room : ℕ) (last : Option ℕ) (old new : List Shown) (run : Run) (c : Shown) (n : ℕ) (fits : Bool)
    → ((runs : List Run) → cells_told last (run ∷ runs) ≡ cells_before (replicate n c) (cells_told (Some c.id) runs))
    → CellsPut room old new c n fits → fits ≡ true → RunPut room last old new run (Some c.id)
run_put room last old new run c n fits told h e =
    let put : CellsPut room old new c n true = subst (CellsPut room old new c n) e h in
    ((λ runs. run_fits room old new c n (cells_told (Some c.id) runs) put ∙ ap (λ o. within_room room (cells_before old o)) (sym (told runs))), put.1)

pub run_refused : (room : ℕ) (last : Option ℕ) (old new : List Shown) (run : Run) (c : Shown) (n : ℕ) (fits : Bool)
    → ((runs : List Run) → cells_told last (run ∷ runs) ≡ cells_before (replicate n c) (cells_told (Some c.id) runs))
    → CellsPut room old new c n fits → fits ≡ false → RunPut room last old new run None
run_refused room last old new run c n fits told h e =
    let put : CellsPut room old new c n false = subst (CellsPut room old new c n) e h in
    λ runs. ap (λ o. within_room room (cells_before old o)) (told runs) ∙ run_passes room old new c n (cells_told (Some c.id) runs) put

-- the run at a place, and those behind it
pub known_at : (table : List (ℕ × Attr)) (runs : List Run) (i : ℕ) (run : Run) → i < length runs → run ≡ get_or runs i run
    → names_known_ids table (drop i runs) ≡ (names_known_ids table (run ∷ []) && names_known_ids table (drop (i + 1) runs))
known_at table runs i run l is =
    ap (λ (rs : List Run). names_known_ids table rs) (drop_more runs i run l ∙ ap (λ (r : Run). r ∷ drop (i + 1) runs) (sym is))
    ∙ known_first table run (drop (i + 1) runs)

-- ---- cells put in a row

-- a row with cells has the first of them, and then the others
pub row_with_next : (row : List (Option Shown)) (at : ℕ) (c : Shown) (cs : List Shown) → at < length row
    → row_with (set row at (Some c)) (at + 1) cs ≡ row_with row at (c ∷ cs)
row_with_next row at c cs lt =
    let k = length cs in
    let m : List (Option Shown) = map Some cs in
    let new = set row at (Some c) in
    let e : at + 1 + k ≡ at + suc k = omega arith in
    let same : drop (at + 1 + k) new ≡ drop (at + suc k) row = drop-set-lt (at + 1 + k) row at (Some c) (omega arith) ∙ ap (λ (n : ℕ). drop n row) e in
    ap (λ (l : List (Option Shown)). (l ++ m) ++ drop (at + 1 + k) new) (take_more_set row at (Some c) lt)
    ∙ ap (λ (l : List (Option Shown)). l ++ drop (at + 1 + k) new) (append_assoc (take at row) (Some c ∷ []) m)
    ∙ ap (λ (l : List (Option Shown)). (take at row ++ (Some c ∷ m)) ++ l) same

pub row_with_none : (row : List (Option Shown)) (at : ℕ) → row_with row at [] ≡ row
row_with_none row at =
    let e : at + 0 ≡ at = omega arith in
    ap (λ (l : List (Option Shown)). l ++ drop (at + 0) row) (append-nil (take at row))
    ∙ ap (λ (n : ℕ). take at row ++ drop n row) e ∙ take-append-drop at row

-- ---- what is seen

and_false : (b c : Bool) → false ≡ c → false ≡ (b && c)
and_false true c h = h
and_false false c h = refl

eqb_same : (n : ℕ) → eqb n n ≡ true
eqb_same n = eq-eqb n n refl

both : (a b : Bool) → a ≡ true → b ≡ true → (a && b) ≡ true
both a b e f = ap (λ x. x && b) e ∙ f

same_texts : (x y : List ℕ) → x ≡ y → bytes_eq x y ≡ true
same_texts x y e = (bytes_eq-Decides x y).1 e

text_seen : (o : Option Attr) (text : List ℕ) (c : Cell) → is_text_in o text c ≡ true → option_map (λ (a : Attr). record { text = text; attr = a }) o ≡ Some c
text_seen None text c e = absurd (false≢true e)
text_seen (Some a) text c e =
    let p = and_parts (same_attr a c.attr) (bytes_eq text c.text) e in
    let attr : a ≡ c.attr = (same_attrs_are_equal a c.attr).0 p.0 in
    let texts : text ≡ c.text = (bytes_eq-Decides text c.text).0 p.1 in
    λ i. Some (record { text = texts i; attr = attr i })

seen_text : (o : Option Attr) (text : List ℕ) (c : Cell) → option_map (λ (a : Attr). record { text = text; attr = a }) o ≡ Some c → is_text_in o text c ≡ true
seen_text None text c e = absurd (cc)
seen_text (Some a) text c e =
    let cell : Option Cell → Cell = λ o. cell_or o c in
    let same : record { text = text; attr = a } ≡ c = ap cell e in
    both (same_attr a c.attr) (bytes_eq text c.text) ((same_attrs_are_equal a c.attr).1 (ap (λ (x : Cell). x.attr) same)) (same_texts text c.text (ap (λ (x : Cell). x.text) same)) where
      cell_or : Option Cell → Cell → Cell
      cell_or None d = d
      cell_or (Some x) d = x

cell_seen_is : (table : List (ℕ × Attr)) (o : Option Shown) (c : Cell) → cell_shows table o c ≡ true → cell_seen table o ≡ Some c
cell_seen_is table None c e = absurd (false≢true e)
cell_seen_is table (Some s) c e = text_seen (attr_of_id table s.id) s.text c e

cell_shows_is : (table : List (ℕ × Attr)) (o : Option Shown) (c : Cell) → cell_seen table o ≡ Some c → cell_shows table o c ≡ true
cell_shows_is table None c e = absurd (cc)
cell_shows_is table (Some s) c e = seen_text (attr_of_id table s.id) s.text c e

row_seen_is : (table : List (ℕ × Attr)) (ss : List (Option Shown)) (cs : List Cell) → row_shows table ss cs ≡ true → map (cell_seen table) ss ≡ map Some cs
row_seen_is table [] [] e = refl
row_seen_is table [] (c ∷ cs) e = absurd (false≢true e)
row_seen_is table (s ∷ ss) [] e = absurd (false≢true e)
row_seen_is table (s ∷ ss) (c ∷ cs) e =
    let p = and_parts (cell_shows table s c) (row_shows table ss cs) e in
    let here = cell_seen_is table s c p.0 in
    let rest = row_seen_is table ss cs p.1 in
    λ i. here i ∷ rest i

abbrev first_of : {X : Type 0} → List X → X → X
first_of [] d = d
first_of (x ∷ xs) d = x

abbrev rest_of : {X : Type 0} → List X → List X
rest_of [] = []
rest_of (x ∷ xs) = xs

row_shows_is : (table : List (ℕ × Attr)) (ss : List (Option Shown)) (cs : List Cell) → map (cell_seen table) ss ≡ map Some cs → row_shows table ss cs ≡ true
row_shows_is table [] [] e = refl
row_shows_is table [] (c ∷ cs) e = absurd (cc)
row_shows_is table (s ∷ ss) [] e = absurd (cc)
row_shows_is table (s ∷ ss) (c ∷ cs) e =
    both (cell_shows table s c) (row_shows table ss cs)
    (cell_shows_is table s c (ap (λ (l : List (Option Cell)). first_of l None) e))
    (row_shows_is table ss cs (ap (λ (l : List (Option Cell)). rest_of l) e))

pub row_lengths_differ : (table : List (ℕ × Attr)) (ss : List (Option Shown)) (cs : List Cell) → (length ss ≡ length cs → ⊥) → false ≡ row_shows table ss cs
row_lengths_differ table [] [] h = absurd (h refl)
row_lengths_differ table [] (c ∷ cs) h = refl
row_lengths_differ table (s ∷ ss) [] h = refl
row_lengths_differ table (s ∷ ss) (c ∷ cs) h =
    and_false (cell_shows table s c) (row_shows table ss cs) (row_lengths_differ table ss cs (λ e. h (ap (λ (n : ℕ). suc n) e)))

pub rows_lengths_differ : (table : List (ℕ × Attr)) (rs : ShownRows) (cs : List (List Cell)) → (length rs ≡ length cs → ⊥) → false ≡ rows_show table rs cs
rows_lengths_differ table [] [] h = absurd (h refl)
rows_lengths_differ table [] (c ∷ cs) h = refl
rows_lengths_differ table (r ∷ rs) [] h = refl
rows_lengths_differ table (r ∷ rs) (c ∷ cs) h =
    and_false (row_shows table r c) (rows_show table rs cs) (rows_lengths_differ table rs cs (λ e. h (ap (λ (n : ℕ). suc n) e)))

rows_seen_is : (table : List (ℕ × Attr)) (rs : ShownRows) (cs : List (List Cell)) → rows_show table rs cs ≡ true → map (map (cell_seen table)) rs ≡ map (map Some) cs
rows_seen_is table [] [] e = refl
rows_seen_is table [] (c ∷ cs) e = absurd (false≢true e)
rows_seen_is table (r ∷ rs) [] e = absurd (false≢true e)
rows_seen_is table (r ∷ rs) (c ∷ cs) e =
    let p = and_parts (row_shows table r c) (rows_show table rs cs) e in
    let here = row_seen_is table r c p.0 in
    let rest = rows_seen_is table rs cs p.1 in
    λ i. here i ∷ rest i

rows_show_is : (table : List (ℕ × Attr)) (rs : ShownRows) (cs : List (List Cell)) → map (map (cell_seen table)) rs ≡ map (map Some) cs → rows_show table rs cs ≡ true
rows_show_is table [] [] e = refl
rows_show_is table [] (c ∷ cs) e = absurd (cc)
rows_show_is table (r ∷ rs) [] e = absurd (cc)
rows_show_is table (r ∷ rs) (c ∷ cs) e =
    both (row_shows table r c) (rows_show table rs cs)
    (row_shows_is table r c (ap (λ (l : List (List (Option Cell))). first_of l []) e))
    (rows_show_is table rs cs (ap (λ (l : List (List (Option Cell))). rest_of l) e))

size_is : (o : Option (ℕ × ℕ)) (width height : ℕ) → is_size o width height ≡ true → o ≡ Some (width, height)
size_is None width height e = absurd (false≢true e)
size_is (Some s) width height e =
    let p = and_parts (eqb s.0 width) (eqb s.1 height) e in
    let w = eqb-true s.0 width p.0 in
    let h = eqb-true s.1 height p.1 in
    λ i. Some (w i, h i)

place_is : (o : Option (ℕ × ℕ)) (p : ℕ × ℕ) → is_place o p ≡ true → o ≡ Some p
place_is None p e = absurd (false≢true e)
place_is (Some q) p e =
    let x = and_parts (eqb q.0 p.0) (eqb q.1 p.1) e in
    let r = eqb-true q.0 p.0 x.0 in
    let c = eqb-true q.1 p.1 x.1 in
    λ i. Some (r i, c i)

is_size_of : (o : Option (ℕ × ℕ)) (width height : ℕ) → o ≡ Some (width, height) → is_size o width height ≡ true
is_size_of o width height e = ap (λ q. is_size q width height) e ∙ both (eqb width width) (eqb height height) (eqb_same width) (eqb_same height)

is_place_of : (o : Option (ℕ × ℕ)) (p : ℕ × ℕ) → o ≡ Some p → is_place o p ≡ true
is_place_of o p e = ap (λ q. is_place q p) e ∙ both (eqb p.0 p.0) (eqb p.1 p.1) (eqb_same p.0) (eqb_same p.1)

-- the tests that a screen shows a grid, and what they say
pub shows_grid : (c : Client) (s : Screen) (row col : ℕ) → ((is_size c.size s.width s.height && is_place c.cursor (row, col) && rows_show c.table c.rows s.rows) ≡ true) ↔ ShowsGrid c s (row, col)
shows_grid c s row col = (there, back) where
  there : (is_size c.size s.width s.height && is_place c.cursor (row, col) && rows_show c.table c.rows s.rows) ≡ true → ShowsGrid c s (row, col)
  there e =
      let p = and_parts (is_size c.size s.width s.height && is_place c.cursor (row, col)) (rows_show c.table c.rows s.rows) e in
      let q = and_parts (is_size c.size s.width s.height) (is_place c.cursor (row, col)) p.0 in
      record { size = size_is c.size s.width s.height q.0; cells = rows_seen_is c.table c.rows s.rows p.1; cursor = place_is c.cursor (row, col) q.1 }

  back : ShowsGrid c s (row, col) → (is_size c.size s.width s.height && is_place c.cursor (row, col) && rows_show c.table c.rows s.rows) ≡ true
  back h =
      both (is_size c.size s.width s.height && is_place c.cursor (row, col)) (rows_show c.table c.rows s.rows)
      (both (is_size c.size s.width s.height) (is_place c.cursor (row, col)) (is_size_of c.size s.width s.height h.size) (is_place_of c.cursor (row, col) h.cursor))
      (rows_show_is c.table c.rows s.rows h.cells)

-- a list of no length has nothing
pub nothing_in : {X : Type 0} (xs : List X) → length xs ≡ 0 → xs ≡ []
nothing_in [] h = refl
nothing_in (x ∷ xs) h = absurd (omega (arith, h))
