-- Rows of bytes, each in a cell without an attribute.
use Rattle.std.proofs.Common.{◌≡◌, ℕ, zero, suc, ◌+◌, ◌-◌, ◌*◌, ◌<◌, ◌≤◌, ltb, ◌==◌, List, [], ◌∷◌, ◌++◌, length, length-append, map, replicate, take, drop, get_or, Bool, true, false, not, ◌&&◌, ◌||◌, Option, Some, None, refl, ap, sym, subst, ◌∙◌, ⊎_elim, arith}
use Rattle.std.proofs.Math.ListN.{drop_of_length-le}
use Rattle.std.proofs.lemmas.Bool.{cases_lt}
use Rattle.std.proofs.lemmas.Bool.Decides.{nat_tests}
use Rattle.std.proofs.lemmas.Slice.Eq.{bytes_eq-Decides}
use Rattle.std.specs.Prelude.{bytes_eq}
use Rattle.std.proofs.lemmas.List.{drop-take, get_or-take, length-map, length-replicate, length-take, length-take-le, map-append, take_all}
use Rattle.nv_hl.specs.declared.attribute.Attr.{Attr}
use Rattle.nv_hl.specs.declared.cell.Cell.{Cell}
use Rattle.nv_hl.specs.Attributes.{empty_attr}
use Rattle.nv_hl.specs.Cells.{space}
use Rattle.nv_linedraw.specs.inside.Plain.{byte_cell}
use Rattle.nv_linegrid.specs.Client.{Shown, shown_of}
use Rattle.nv_linedraw.proofs.LayLemmas.{drop_at}
use Rattle.nv_linegrid.specs.Rows.{are_one_run, differs_at, is_due, is_right_at, is_right_shown, no_cell, shows_cell, starts_with_right}
use Rattle.nv_linegrid.specs.Told.{id_of, shown_cell, with_attrs_of}
use Rattle.nv_painter.specs.inside.Due.{IsDue}
use Rattle.nv_painter.specs.inside.Lent.{plain_cells}
use Rattle.nv_painter.specs.inside.Plain.{byte_shown, plain_shown}
use Rattle.nv_painter.specs.inside.Sketch.{HaveIds}
use Rattle.nv_painter.specs.inside.Telling.{half_at, joins_at}
use Rattle.nv_painter.proofs.IdLemmas.{empty_has_id, id_of_empty}
use Rattle.nv_painter.proofs.SketchLemmas.{adds_none}

-- ---- how many they are

pub cells_length : (w : ℕ) (bytes : List ℕ) → length (plain_cells w bytes) ≡ length bytes + (w - length bytes)
cells_length w bytes =
    length-append (map byte_cell bytes) (replicate (w - length bytes) (space empty_attr))
    ∙ (λ i. length-map bytes byte_cell i + length-replicate (w - length bytes) (space empty_attr) i)

pub shown_length : (w : ℕ) (bytes : List ℕ) → length (plain_shown w bytes) ≡ length bytes + (w - length bytes)
shown_length w bytes =
    length-append (map byte_shown bytes) (replicate (w - length bytes) (byte_shown 32))
    ∙ (λ i. length-map bytes byte_shown i + length-replicate (w - length bytes) (byte_shown 32) i)

pub as_many : (w : ℕ) (bytes : List ℕ) → length (plain_cells w bytes) ≡ length (plain_shown w bytes)
as_many w bytes = cells_length w bytes ∙ sym (shown_length w bytes)

-- the row that they are of a line of them
pub plain_whole : (n w all : ℕ) (bytes : List ℕ) → n ≡ 0 → all ≡ w → length bytes ≤ w
    → take w (drop (n * w) (plain_cells all bytes)) ≡ plain_cells all bytes
plain_whole n w all bytes first same le =
    let zero_rows : 0 * w ≡ 0 = omega arith in
    let none : n * w ≡ 0 = ap (λ m. m * w) first ∙ zero_rows in
    ap (λ m. take w (drop m (plain_cells all bytes))) none
    ∙ take_all w (plain_cells all bytes) (omega (arith, cells_length all bytes, same, le))

-- ---- how they are shown

pub plain_shown_is : (attrs : List Attr) (w : ℕ) (bytes : List ℕ) → map (shown_cell attrs) (plain_cells w bytes) ≡ plain_shown w bytes
plain_shown_is attrs w bytes =
    map-append (shown_cell attrs) (map byte_cell bytes) (replicate (w - length bytes) (space empty_attr))
    ∙ (λ i. bytes_are bytes i ++ blanks_are (w - length bytes) i)
  where
    one_is : (b : ℕ) → shown_cell attrs (byte_cell b) ≡ byte_shown b
    one_is b = ap (λ id. shown_of (b ∷ []) id) (id_of_empty attrs)

    bytes_are : (bs : List ℕ) → map (shown_cell attrs) (map byte_cell bs) ≡ map byte_shown bs
    bytes_are [] = refl
    bytes_are (b ∷ bs) = λ i. one_is b i ∷ bytes_are bs i

    blanks_are : (n : ℕ) → map (shown_cell attrs) (replicate n (space empty_attr)) ≡ replicate n (byte_shown 32)
    blanks_are zero = refl
    blanks_are (suc n) = λ i. one_is 32 i ∷ blanks_are n i

one_of_many : (n k : ℕ) (x d : Shown) → k < length (replicate n x) → get_or (replicate n x) k d ≡ x
one_of_many zero k x d lt = let none : k < 0 = lt in absurd (omega (arith, none))
one_of_many (suc n) zero x d lt = refl
one_of_many (suc n) (suc k) x d lt =
    let less : suc k < suc (length (replicate n x)) = lt in
    one_of_many n k x d (omega (arith, less))

-- the cell at a place
pub plain_at : (w : ℕ) (bytes : List ℕ) (k : ℕ) (d : Shown) → k < length (plain_shown w bytes)
    → get_or (plain_shown w bytes) k d ≡ byte_shown (get_or bytes k 32)
plain_at w [] k d lt = one_of_many (w - length {A = ℕ} []) k (byte_shown 32) d lt
plain_at w (b ∷ bytes) zero d lt = refl
plain_at w (b ∷ bytes) (suc k) d lt =
    let less : w - suc (length bytes) ≡ w - 1 - length bytes = omega arith in
    let count = ap (λ n. length (map byte_shown bytes ++ replicate n (byte_shown 32))) less in
    let here : suc k < suc (length (map byte_shown bytes ++ replicate (w - suc (length bytes)) (byte_shown 32))) = lt in
    let there : k < length (map byte_shown bytes ++ replicate (w - 1 - length bytes) (byte_shown 32)) = omega (arith, here, count) in
    ap (λ n. get_or (map byte_shown bytes ++ replicate n (byte_shown 32)) k d) less ∙ plain_at (w - 1) bytes k d there

-- ---- which are due

more_is : (a b : ℕ) → ltb a b ≡ true → a < b
more_is a b e = grind (arith, nat_tests)

less_is : (a b : ℕ) → a < b → ltb a b ≡ true
less_is a b lt = grind (arith, nat_tests)

no_halves : (w : ℕ) (bytes : List ℕ) (i : ℕ) → is_right_at (plain_shown w bytes) i ≡ false
no_halves w bytes i = by (ltb i (length (plain_shown w bytes))) refl
  where
    by : (b : Bool) → ltb i (length (plain_shown w bytes)) ≡ b → (b && is_right_shown (get_or (plain_shown w bytes) i no_cell)) ≡ false
    by true e = ap is_right_shown (plain_at w bytes i no_cell (more_is i (length (plain_shown w bytes)) e))
    by false e = refl

pub plain_due : (old : List (Option Shown)) (w : ℕ) (bytes : List ℕ) (k : ℕ) → k < length (plain_shown w bytes)
    → is_due old (plain_shown w bytes) k ≡ not (shows_cell (get_or old k None) (byte_shown (get_or bytes k 32)))
unfolding is_due
plain_due old w bytes k lt =
    rw (no_halves w bytes k) (rw (no_halves w bytes (k + 1)) (by (differs_at old (plain_shown w bytes) k) ∙ differs))
  where
    by : (b : Bool) → (b || false || false) ≡ b
    by true = refl
    by false = refl

    differs : differs_at old (plain_shown w bytes) k ≡ not (shows_cell (get_or old k None) (byte_shown (get_or bytes k 32)))
    differs = λ i. less_is k (length (plain_shown w bytes)) lt i && not (shows_cell (get_or old k None) (plain_at w bytes k no_cell lt i))

-- ---- the cells before one

-- the cell at a place
pub front_at : (w : ℕ) (bytes : List ℕ) (end k : ℕ) (d : Shown) → k < end → end ≤ length (plain_shown w bytes)
    → get_or (take end (plain_shown w bytes)) k d ≡ byte_shown (get_or bytes k 32)
front_at w bytes end k d lt le = get_or-take end (plain_shown w bytes) k d lt ∙ plain_at w bytes k d (omega (arith, lt, le))

-- the cells from a place on
pub front_next : (w : ℕ) (bytes : List ℕ) (end k : ℕ) → k < end → end ≤ length (plain_shown w bytes)
    → drop k (take end (plain_shown w bytes)) ≡ byte_shown (get_or bytes k 32) ∷ drop (k + 1) (take end (plain_shown w bytes))
front_next w bytes end k lt le =
    let cells = take end (plain_shown w bytes) in
    drop_at cells k no_cell (omega (arith, lt, length-take-le end (plain_shown w bytes) le))
    ∙ ap (λ c. c ∷ drop (k + 1) cells) (front_at w bytes end k no_cell lt le)

pub front_end : (w : ℕ) (bytes : List ℕ) (end k : ℕ) → end ≤ k → drop k (take end (plain_shown w bytes)) ≡ []
front_end w bytes end k le =
    drop_of_length-le (take end (plain_shown w bytes)) (omega (arith, le, length-take end (plain_shown w bytes)))

-- the cells from one to before another
pub front_part : (w : ℕ) (bytes : List ℕ) (first end : ℕ) → first ≤ end
    → drop first (take end (plain_shown w bytes)) ≡ take (end - first) (drop first (plain_shown w bytes))
front_part w bytes first end le =
    let split : end ≡ first + (end - first) = omega (arith, le) in
    ap (λ n. drop first (take n (plain_shown w bytes))) split ∙ drop-take first (end - first) (plain_shown w bytes)

-- ---- runs of them

no_right : (w : ℕ) (bytes : List ℕ) (end k : ℕ) → end ≤ length (plain_shown w bytes) → starts_with_right (drop k (take end (plain_shown w bytes))) ≡ false
no_right w bytes end k le =
    ⊎_elim (λ (lt : k < end). ap starts_with_right (front_next w bytes end k lt le))
    (λ (past : end ≤ k). ap starts_with_right (front_end w bytes end k past))
    (cases_lt k end)

no_half : (w : ℕ) (bytes : List ℕ) (end k : ℕ) → k < end → end ≤ length (plain_shown w bytes) → half_at (take end (plain_shown w bytes)) k ≡ false
no_half w bytes end k lt le = λ i. is_right_shown (front_at w bytes end k no_cell lt le i) || no_right w bytes end (k + 1) le i

same_bytes : (a b : ℕ) → bytes_eq (a ∷ []) (b ∷ []) ≡ (a == b)
same_bytes a b = by (bytes_eq (a ∷ []) (b ∷ [])) (a == b) refl refl
  where
    is_same : (a b : ℕ) → a ≡ b → (a == b) ≡ true
    is_same a b e = grind (arith, nat_tests)

    are_same : (a b : ℕ) → (a == b) ≡ true → a ≡ b
    are_same a b e = grind (arith, nat_tests)

    by : (x y : Bool) → bytes_eq (a ∷ []) (b ∷ []) ≡ x → (a == b) ≡ y → x ≡ y
    by true true e f = refl
    by false false e f = refl
    by true false e f =
        let same : a ≡ b = ap (λ l. get_or l 0 0) ((bytes_eq-Decides (a ∷ []) (b ∷ [])).0 e) in
        sym (is_same a b same) ∙ f
    by false true e f = sym e ∙ (bytes_eq-Decides (a ∷ []) (b ∷ [])).1 (ap (λ n. n ∷ []) (are_same a b f))

-- whether the cell at a place and the next one are one run
pub plain_joins : (w : ℕ) (bytes : List ℕ) (end k : ℕ) → k < end → end ≤ length (plain_shown w bytes)
    → joins_at (take end (plain_shown w bytes)) k ≡ (ltb (k + 1) end && (get_or bytes k 32 == get_or bytes (k + 1) 32))
plain_joins w bytes end k lt le =
    ap (λ n. ltb (k + 1) n && are_one_run (get_or (take end (plain_shown w bytes)) k no_cell) (half_at (take end (plain_shown w bytes)) k)
    (get_or (take end (plain_shown w bytes)) (k + 1) no_cell) (half_at (take end (plain_shown w bytes)) (k + 1)))
    (length-take-le end (plain_shown w bytes) le)
    ∙ by (ltb (k + 1) end) refl
  where
    both : (b : Bool) → (b && true && true) ≡ b
    both true = refl
    both false = refl

    by : (b : Bool) → ltb (k + 1) end ≡ b
        → (b && are_one_run (get_or (take end (plain_shown w bytes)) k no_cell) (half_at (take end (plain_shown w bytes)) k)
        (get_or (take end (plain_shown w bytes)) (k + 1) no_cell) (half_at (take end (plain_shown w bytes)) (k + 1)))
        ≡ (b && (get_or bytes k 32 == get_or bytes (k + 1) 32))
    by true e =
        let more = more_is (k + 1) end e in
        (λ i. are_one_run (front_at w bytes end k no_cell lt le i) (no_half w bytes end k lt le i) (front_at w bytes end (k + 1) no_cell more le i)
        (no_half w bytes end (k + 1) more le i))
        ∙ both (bytes_eq (get_or bytes k 32 ∷ []) (get_or bytes (k + 1) 32 ∷ []))
        ∙ same_bytes (get_or bytes k 32) (get_or bytes (k + 1) 32)
    by false e = refl

-- ---- attributes

have_ids : (attrs : List Attr) (bytes : List ℕ) (n : ℕ) → HaveIds attrs (map byte_cell bytes ++ replicate n (space empty_attr))
have_ids attrs [] zero = tt
have_ids attrs [] (suc n) = (empty_has_id attrs, have_ids attrs [] n)
have_ids attrs (b ∷ bytes) n = (empty_has_id attrs, have_ids attrs bytes n)

-- they add none
pub plain_adds_none : (due : Option (ℕ × ℕ)) (attrs : List Attr) (drawn screen : List Cell) (row : List (Option Shown)) (w : ℕ) (bytes : List ℕ)
    → drawn ≡ plain_cells w bytes → IsDue due attrs drawn screen row → attrs ≡ with_attrs_of attrs screen
plain_adds_none None attrs drawn screen row w bytes is s = sym (adds_none attrs screen s.ids)
plain_adds_none (Some d) attrs drawn screen row w bytes is s =
    sym (adds_none attrs screen (subst (HaveIds attrs) (sym is ∙ s.0) (have_ids attrs bytes (w - length bytes))))
