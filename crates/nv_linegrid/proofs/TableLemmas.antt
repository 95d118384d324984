-- Ids and the attributes that they stand for.
use Rattle.std.proofs.Common.{◌≡◌, ℕ, suc, ◌+◌, ◌<◌, eqb, List, [], ◌∷◌, ◌++◌, length, map, drop, Bool, true, false, cond, ◌||◌, Option, Some, None, is_some, option_map, refl, ap, sym, ◌∙◌, append_assoc, arith}
use Rattle.std.proofs.Math.Seq.{drop-append_seam}
use Rattle.std.proofs.lemmas.Bool.{false≢true}
use Rattle.std.proofs.lemmas.Bool.Decides.{nat_tests}
use Rattle.std.proofs.lemmas.List.Folds.{list_any-append}
use Rattle.std.specs.Cmp.Derive.{both_true}
use Rattle.std.specs.List.{list_any, AllByRecursion}
use Rattle.nv_hl.specs.declared.attribute.Attr.{Attr}
use Rattle.nv_hl.specs.declared.cell.Cell.{Cell}
use Rattle.nv_hl.specs.Attributes.{empty_attr, same_attr, same_colour, same_flag}
use Rattle.nv_linegrid.specs.Client.{Client, attr_of_id, first_table, client_after_all, cell_seen}
use Rattle.nv_linegrid.specs.Told.{table_from, table_of, has_id, with_attr, with_attrs_of, with_attrs_of_rows, id_from, id_of, shown_cell, shown_rows, known_rows}
use Rattle.nv_linegrid.specs.Batch.{attrs_defined}
use Rattle.nv_linegrid.proofs.SameLemmas.{same_attr_is}
use Rattle.nv_linegrid.proofs.RunLemmas.{IsKnown}

-- ids told later don't hide earlier ones
table_keeps : (n : ℕ) (table : List (ℕ × Attr)) (attrs : List Attr) (id : ℕ) → id < n
    → attr_of_id (table_from n table attrs) id ≡ attr_of_id table id
table_keeps n table [] id below = refl
table_keeps n table (a ∷ attrs) id below =
    let other : eqb n id ≡ false = grind (arith, nat_tests) in
    table_keeps (suc n) ((n, a) ∷ table) attrs id (omega arith)
    ∙ ap (λ b. cond b (Some a) (attr_of_id table id)) other

same_id : (n : ℕ) → eqb n n ≡ true
same_id n = grind (arith, nat_tests)

-- an attribute that was told is what its id stands for
told_has : (n : ℕ) (table : List (ℕ × Attr)) (attrs : List Attr) (a : Attr) → list_any (same_attr a) attrs ≡ true
    → attr_of_id (table_from n table attrs) (id_from n attrs a) ≡ Some a
told_has n table [] a h = absurd (false≢true h)
told_has n table (b ∷ attrs) a h = by (same_attr a b) refl h (told_has (suc n) ((n, b) ∷ table) attrs a)
  where
    by : (s : Bool) → same_attr a b ≡ s → (s || list_any (same_attr a) attrs) ≡ true
        → (list_any (same_attr a) attrs ≡ true → attr_of_id (table_from (suc n) ((n, b) ∷ table) attrs) (id_from (suc n) attrs a) ≡ Some a)
        → attr_of_id (table_from (suc n) ((n, b) ∷ table) attrs) (cond s n (id_from (suc n) attrs a)) ≡ Some a
    by true e k more =
        table_keeps (suc n) ((n, b) ∷ table) attrs n (omega arith)
        ∙ ap (λ t. cond t (Some b) (attr_of_id table n)) (same_id n)
        ∙ ap Some (sym (same_attr_is a b e))
    by false e k more = more k

pub id_stands : (attrs : List Attr) (a : Attr) → has_id attrs a ≡ true → attr_of_id (table_of attrs) (id_of attrs a) ≡ Some a
id_stands attrs a h = by (same_attr a empty_attr) refl h
  where
    by : (s : Bool) → same_attr a empty_attr ≡ s → (s || list_any (same_attr a) attrs) ≡ true
        → attr_of_id (table_of attrs) (cond s 0 (id_from 1 attrs a)) ≡ Some a
    by true e k = table_keeps 1 first_table attrs 0 (omega arith) ∙ ap Some (sym (same_attr_is a empty_attr e))
    by false e k = told_has 1 first_table attrs a k

-- ---- attributes grow

abbrev pub Grows : List Attr → List Attr → Type 0
Grows xs ys = (more : List Attr) × (ys ≡ xs ++ more)

grows_then : (xs ys zs : List Attr) → Grows xs ys → Grows ys zs → Grows xs zs
grows_then xs ys zs g h =
    (g.0 ++ h.0, h.1 ∙ ap (λ l. l ++ h.0) g.1 ∙ append_assoc xs g.0 h.0)

grows_none : (xs : List Attr) → Grows xs xs
grows_none [] = ([], refl)
grows_none (x ∷ xs) = ([], ap (λ l. x ∷ l) (grows_nil xs))
  where
    grows_nil : (l : List Attr) → l ≡ l ++ []
    grows_nil [] = refl
    grows_nil (y ∷ l) = ap (λ m. y ∷ m) (grows_nil l)

attr_grows : (attrs : List Attr) (a : Attr) → Grows attrs (with_attr attrs a)
attr_grows attrs a = by (has_id attrs a)
  where
    by : (b : Bool) → Grows attrs (cond b attrs (attrs ++ a ∷ []))
    by true = grows_none attrs
    by false = (a ∷ [], refl)

cells_grow : (attrs : List Attr) (cs : List Cell) → Grows attrs (with_attrs_of attrs cs)
cells_grow attrs [] = grows_none attrs
cells_grow attrs (c ∷ cs) =
    grows_then attrs (with_attr attrs c.attr) (with_attrs_of (with_attr attrs c.attr) cs) (attr_grows attrs c.attr)
    (cells_grow (with_attr attrs c.attr) cs)

pub rows_grow : (attrs : List Attr) (rows : List (List Cell)) → Grows attrs (with_attrs_of_rows attrs rows)
rows_grow attrs [] = grows_none attrs
rows_grow attrs (r ∷ rs) =
    grows_then attrs (with_attrs_of attrs r) (with_attrs_of_rows (with_attrs_of attrs r) rs) (cells_grow attrs r)
    (rows_grow (with_attrs_of attrs r) rs)

or_left : (a b c : Bool) → (a || b) ≡ true → (a || (b || c)) ≡ true
or_left true b c h = refl
or_left false true c h = refl
or_left false false c h = absurd (false≢true h)

has_more : (xs ys : List Attr) (a : Attr) → Grows xs ys → has_id xs a ≡ true → has_id ys a ≡ true
has_more xs ys a g h =
    ap (λ l. has_id l a) g.1 ∙ ap (λ b. same_attr a empty_attr || b) (list_any-append (same_attr a) xs g.0)
    ∙ or_left (same_attr a empty_attr) (list_any (same_attr a) xs) (list_any (same_attr a) g.0) h

same_colour_refl : (a : Option ℕ) → same_colour a a ≡ true
same_colour_refl None = refl
same_colour_refl (Some x) = same_id x

same_flag_refl : (a : Bool) → same_flag a a ≡ true
same_flag_refl true = refl
same_flag_refl false = refl

same_attr_refl : (a : Attr) → same_attr a a ≡ true
unfolding same_attr
same_attr_refl a =
    both_true (both_true (both_true (both_true (both_true (both_true (both_true (both_true (both_true (both_true
    (same_colour_refl a.fg) (same_colour_refl a.bg)) (same_colour_refl a.sp)) (same_colour_refl a.ctermfg))
    (same_colour_refl a.ctermbg)) (same_flag_refl a.reverse)) (same_flag_refl a.italic)) (same_flag_refl a.bold))
    (same_flag_refl a.underline)) (same_flag_refl a.undercurl)) (same_flag_refl a.strikethrough)

has_added : (attrs : List Attr) (a : Attr) → has_id (with_attr attrs a) a ≡ true
has_added attrs a = by (has_id attrs a) refl
  where
    last : (b c : Bool) → (b || (c || (true || false))) ≡ true
    last true c = refl
    last false true = refl
    last false false = refl

    by : (b : Bool) → has_id attrs a ≡ b → has_id (cond b attrs (attrs ++ a ∷ [])) a ≡ true
    by true e = e
    by false e =
        ap (λ b. same_attr a empty_attr || b) (list_any-append (same_attr a) attrs (a ∷ []))
        ∙ ap (λ s. same_attr a empty_attr || (list_any (same_attr a) attrs || (s || false))) (same_attr_refl a)
        ∙ last (same_attr a empty_attr) (list_any (same_attr a) attrs)

-- the cells' attributes have ids
abbrev pub HasIds : List Attr → List Cell → Type 0
HasIds attrs cs = AllByRecursion (λ c. has_id attrs c.attr ≡ true) cs

ids_more : (xs ys : List Attr) (cs : List Cell) → Grows xs ys → HasIds xs cs → HasIds ys cs
ids_more xs ys [] g h = h
ids_more xs ys (c ∷ cs) g h = (has_more xs ys c.attr g h.0, ids_more xs ys cs g h.1)

cells_have : (attrs : List Attr) (cs : List Cell) → HasIds (with_attrs_of attrs cs) cs
cells_have attrs [] = tt
cells_have attrs (c ∷ cs) = (
  has_more (with_attr attrs c.attr) (with_attrs_of (with_attr attrs c.attr) cs) c.attr (cells_grow (with_attr attrs c.attr) cs) (has_added attrs c.attr),
  cells_have (with_attr attrs c.attr) cs,
)

pub rows_have : (attrs : List Attr) (rows : List (List Cell)) → AllByRecursion (HasIds (with_attrs_of_rows attrs rows)) rows
rows_have attrs [] = tt
rows_have attrs (r ∷ rs) = (
  ids_more (with_attrs_of attrs r) (with_attrs_of_rows (with_attrs_of attrs r) rs) r (rows_grow (with_attrs_of attrs r) rs) (cells_have attrs r),
  rows_have (with_attrs_of attrs r) rs,
)

-- ---- the table that a client has

known_cells : (attrs : List Attr) (cs : List Cell) → HasIds attrs cs → AllByRecursion (IsKnown (table_of attrs)) (map (shown_cell attrs) cs)
known_cells attrs [] h = tt
known_cells attrs (c ∷ cs) h = (ap is_some (id_stands attrs c.attr h.0), known_cells attrs cs h.1)

pub known_shown : (attrs : List Attr) (rows : List (List Cell)) → AllByRecursion (HasIds attrs) rows
    → AllByRecursion (AllByRecursion (IsKnown (table_of attrs))) (shown_rows attrs rows)
known_shown attrs [] h = tt
known_shown attrs (r ∷ rs) h = (known_cells attrs r h.0, known_shown attrs rs h.1)

cells_seen : (attrs : List Attr) (cs : List Cell) → HasIds attrs cs
    → map (cell_seen (table_of attrs)) (map Some (map (shown_cell attrs) cs)) ≡ map Some cs
cells_seen attrs [] h = refl
cells_seen attrs (c ∷ cs) h =
    let one = ap (option_map (λ (attr : Attr). record { text = c.text; attr = attr })) (id_stands attrs c.attr h.0) in
    let rest = cells_seen attrs cs h.1 in
    λ i. one i ∷ rest i

pub rows_seen : (attrs : List Attr) (rows : List (List Cell)) → AllByRecursion (HasIds attrs) rows
    → map (map (cell_seen (table_of attrs))) (known_rows (shown_rows attrs rows)) ≡ map (map Some) rows
rows_seen attrs [] h = refl
rows_seen attrs (r ∷ rs) h =
    let one = cells_seen attrs r h.0 in
    let rest = rows_seen attrs rs h.1 in
    λ i. one i ∷ rest i

-- ---- definitions of attributes

pub fold_defined : (n : ℕ) (c : Client) (attrs : List Attr)
    → client_after_all c (attrs_defined n attrs) ≡ Some (record c { table = table_from n c.table attrs })
fold_defined n c [] = refl
fold_defined n c (a ∷ attrs) = fold_defined (suc n) (record c { table = (n, a) ∷ c.table }) attrs

table_of_both : (n : ℕ) (table : List (ℕ × Attr)) (xs ys : List Attr)
    → table_from n table (xs ++ ys) ≡ table_from (n + length xs) (table_from n table xs) ys
table_of_both n table [] ys = ap (λ k. table_from k table ys) (omega arith)
table_of_both n table (x ∷ xs) ys =
    table_of_both (suc n) ((n, x) ∷ table) xs ys
    ∙ ap (λ k. table_from k (table_from (suc n) ((n, x) ∷ table) xs) ys) (omega arith)

pub table_told : (old new : List Attr) → Grows old new
    → table_from (suc (length old)) (table_of old) (drop (length old) new) ≡ table_of new
table_told old new g =
    ap (λ l. table_from (suc (length old)) (table_of old) (drop (length old) l)) g.1
    ∙ ap (table_from (suc (length old)) (table_of old)) (drop-append_seam old g.0)
    ∙ ap (λ k. table_from k (table_of old) g.0) (omega arith)
    ∙ sym (table_of_both 1 first_table old g.0)
    ∙ ap table_of (sym g.1)
