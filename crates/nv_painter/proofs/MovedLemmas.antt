-- Rows that are moved whole.
use Rattle.std.proofs.Common.{◌≡◌, ℕ, zero, suc, pos, neg_ℤ, ◌+◌, ◌-◌, ◌<◌, ◌≤◌, ltb, leb, List, [], ◌∷◌, length, drop, get_or, min, replicate, Bool, true, false, cond, ◌&&◌, Option, None, refl, ap, subst, sym, ◌∙◌, arith, inl, inr}
use Rattle.std.specs.List.{AllByRecursion}
use Rattle.std.specs.Result.{OnOk}
use Rattle.std.specs.declared.result.Result.{Result}
use Rattle.std.specs.declared.result.Result.TheVariants.{Ok, Err}
use Rattle.std.proofs.lemmas.Bool.{cases_lt}
use Rattle.std.proofs.lemmas.Bool.Decides.{nat_tests}
use Rattle.std.proofs.lemmas.List.{drop_all, get_or_default, same_lists}
use Rattle.nv_linedraw.proofs.LayLemmas.{drop_at}
use Rattle.nv_linegrid.specs.Client.{Shown, ShownRows, cells_from, row_between, row_from, scrolled_from}
use Rattle.nv_linegrid.specs.Scrolls.{Shift, rows_after_shift}
use Rattle.nv_linegrid.specs.Told.{AreSized}
use Rattle.nv_painter.specs.inside.Moving.{AreForgotten, AreTurned, AreWide, ComesFrom, row_after_shift}
use Rattle.nv_painter.proofs.MoveLemmas.{comes_down, comes_down_none, comes_up, comes_up_none, past_rows}

-- ---- a row between its first column and its last

between_whole : (w : ℕ) (source : List (Option Shown)) (i : ℕ) (row : List (Option Shown)) → i + length row ≡ w → length source ≡ w
    → row_between 0 w source i row ≡ drop i source
between_whole w source i [] count long =
    sym (drop_all i source (omega (arith, count, long)))
between_whole w source i (c ∷ row) count long =
    let in_row : (leb 0 i && ltb i w) ≡ true = inside (omega (arith, count)) in
    (λ j. cond (in_row j) (get_or source i None) c ∷ between_whole w source (i + 1) row (omega (arith, count)) long j)
    ∙ sym (drop_at source i None (omega (arith, count, long)))
  where
    inside : i < w → (leb 0 i && ltb i w) ≡ true
    inside lt = grind (arith, nat_tests)

between_unknown : (w i : ℕ) (row : List (Option Shown)) → i + length row ≡ w → row_between 0 w [] i row ≡ replicate (length row) None
between_unknown w i [] count = refl
between_unknown w i (c ∷ row) count =
    let in_row : (leb 0 i && ltb i w) ≡ true = inside (omega (arith, count)) in
    (λ j. cond (in_row j) None c ∷ between_unknown w (i + 1) row (omega (arith, count)) j)
  where
    inside : i < w → (leb 0 i && ltb i w) ≡ true
    inside lt = grind (arith, nat_tests)

-- ---- the row at a place after a shift

scrolled_count : (s : Shift) (all : ShownRows) (i : ℕ) (rows : ShownRows) → length (scrolled_from s.top s.bot s.left s.right s.rows all i rows) ≡ length rows
scrolled_count s all i [] = refl
scrolled_count s all i (r ∷ rows) = ap suc (scrolled_count s all (i + 1) rows)

scrolled_at : (s : Shift) (all : ShownRows) (i : ℕ) (rows : ShownRows) (k : ℕ) → k < length rows
    → get_or (scrolled_from s.top s.bot s.left s.right s.rows all i rows) k []
    ≡ cond (leb s.top (i + k) && ltb (i + k) s.bot) (row_between s.left s.right (cells_from all (row_from s.top s.bot s.rows (i + k))) 0 (get_or rows k [])) (get_or rows k [])
scrolled_at s all i [] k lt = absurd (omega (arith, lt))
scrolled_at s all i (r ∷ rows) zero lt =
    let here : i ≡ i + 0 = omega arith in
    ap (λ j. cond (leb s.top j && ltb j s.bot) (row_between s.left s.right (cells_from all (row_from s.top s.bot s.rows j)) 0 r) r) here
scrolled_at s all i (r ∷ rows) (suc k) lt =
    let next : i + 1 + k ≡ i + suc k = omega arith in
    let row = get_or rows k [] in
    scrolled_at s all (i + 1) rows k (omega (arith, lt))
    ∙ ap (λ j. cond (leb s.top j && ltb j s.bot) (row_between s.left s.right (cells_from all (row_from s.top s.bot s.rows j)) 0 row) row) next

pub after_at : (s : Shift) (rows : ShownRows) (k : ℕ) → k < length rows → get_or (rows_after_shift s rows) k [] ≡ row_after_shift s rows k
after_at s rows k lt =
    let here : 0 + k ≡ k = omega arith in
    let row = get_or rows k [] in
    scrolled_at s rows 0 rows k lt
    ∙ ap (λ j. cond (leb s.top j && ltb j s.bot) (row_between s.left s.right (cells_from rows (row_from s.top s.bot s.rows j)) 0 row) row) here

-- rows that are at each place what a shift brings there are those after the shift
shifted_is : (s : Shift) (rows after : ShownRows) → length after ≡ length rows
    → ((k : ℕ) → k < length rows → get_or after k [] ≡ row_after_shift s rows k) → after ≡ rows_after_shift s rows
shifted_is s rows after count all =
    let long : length after ≡ length (rows_after_shift s rows) = count ∙ sym (scrolled_count s rows 0 rows) in
    same_lists after (rows_after_shift s rows) long (λ k d lt. at k d lt)
  where
    at : (k : ℕ) (d : List (Option Shown)) → k < length after → get_or after k d ≡ get_or (rows_after_shift s rows) k d
    at k d lt =
        let there : k < length rows = omega (arith, lt, count) in
        let below : k < length (rows_after_shift s rows) = omega (arith, there, scrolled_count s rows 0 rows) in
        get_or_default after k d [] lt ∙ all k there ∙ sym (after_at s rows k there)
        ∙ get_or_default (rows_after_shift s rows) k [] d below

-- ---- which row it is

-- a shift that is as wide as the rows
record IsWhole (s : Shift) (rows : ShownRows) : Type 0 where
  left : s.left ≡ 0
  wide : AreWide rows s.right

-- a row outside of a shift stays
out_of : (s : Shift) (rows : ShownRows) (k : ℕ) → (leb s.top k && ltb k s.bot) ≡ false → get_or rows k [] ≡ row_after_shift s rows k
out_of s rows k out =
    let row = get_or rows k [] in
    sym (ap (λ b. cond b (row_between s.left s.right (cells_from rows (row_from s.top s.bot s.rows k)) 0 row) row) out)

-- where another row comes, it comes whole
comes_whole : (s : Shift) (rows : ShownRows) (k j : ℕ) → IsWhole s rows → k < length rows → j < length rows → (leb s.top k && ltb k s.bot) ≡ true
    → cells_from rows (row_from s.top s.bot s.rows k) ≡ get_or rows j [] → get_or rows j [] ≡ row_after_shift s rows k
comes_whole s rows k j w here there within comes =
    let row = get_or rows k [] in
    sym
    (ap (λ b. cond b (row_between s.left s.right (cells_from rows (row_from s.top s.bot s.rows k)) 0 row) row) within
    ∙ ap (λ l. row_between l s.right (cells_from rows (row_from s.top s.bot s.rows k)) 0 row) w.left
    ∙ ap (λ cells. row_between 0 s.right cells 0 row) comes
    ∙ between_whole s.right (get_or rows j []) 0 row (omega (arith, w.wide k here)) (w.wide j there))

-- where none comes, the row is unknown
comes_none : (s : Shift) (rows : ShownRows) (k : ℕ) → IsWhole s rows → k < length rows → (leb s.top k && ltb k s.bot) ≡ true
    → cells_from rows (row_from s.top s.bot s.rows k) ≡ [] → replicate s.right None ≡ row_after_shift s rows k
comes_none s rows k w here within comes =
    let row = get_or rows k [] in
    sym
    (ap (λ b. cond b (row_between s.left s.right (cells_from rows (row_from s.top s.bot s.rows k)) 0 row) row) within
    ∙ ap (λ l. row_between l s.right (cells_from rows (row_from s.top s.bot s.rows k)) 0 row) w.left
    ∙ ap (λ cells. row_between 0 s.right cells 0 row) comes
    ∙ between_unknown s.right 0 row (omega (arith, w.wide k here)) ∙ ap (λ n. replicate n None) (w.wide k here))

is_within : (top bot k : ℕ) → top ≤ k → k < bot → (leb top k && ltb k bot) ≡ true
is_within top bot k above below = grind (arith, nat_tests)

is_above : (top bot k : ℕ) → k < top → (leb top k && ltb k bot) ≡ false
is_above top bot k lt = grind (arith, nat_tests)

is_below : (top bot k : ℕ) → bot ≤ k → (leb top k && ltb k bot) ≡ false
is_below top bot k le = ap (λ b. leb top k && b) (no k bot le) ∙ none (leb top k)
  where
    no : (k bot : ℕ) → bot ≤ k → ltb k bot ≡ false
    no k bot le = grind (arith, nat_tests)

    none : (b : Bool) → (b && false) ≡ false
    none true = refl
    none false = refl

-- ---- a turn, of which the rows that come in are forgotten

-- what stands at a place that is forgotten, and at one that isn't
forgotten_at : (turned after : ShownRows) (from to width k : ℕ) → AreForgotten turned after from to width → from ≤ k → k < to → get_or after k [] ≡ replicate width None
forgotten_at turned after from to width k f above below =
    f.cells k ∙ ap (λ b. cond b (replicate width None) (get_or turned k [])) (is_within from to k above below)

kept_above : (turned after : ShownRows) (from to width k : ℕ) → AreForgotten turned after from to width → k < from → get_or after k [] ≡ get_or turned k []
kept_above turned after from to width k f lt =
    f.cells k ∙ ap (λ b. cond b (replicate width None) (get_or turned k [])) (is_above from to k lt)

kept_below : (turned after : ShownRows) (from to width k : ℕ) → AreForgotten turned after from to width → to ≤ k → get_or after k [] ≡ get_or turned k []
kept_below turned after from to width k f le =
    f.cells k ∙ ap (λ b. cond b (replicate width None) (get_or turned k [])) (is_below from to k le)

-- which row stands at a place after a turn
turned_above : (rows turned : ShownRows) (top end n k : ℕ) → AreTurned rows turned top end n → k < top → get_or turned k [] ≡ get_or rows k []
turned_above rows turned top end n k t lt =
    t.comes k ∙ ap (λ b. get_or rows (cond b (cond (ltb (k + n) end) (k + n) (k + n - (end - top))) k) []) (is_above top end k lt)

turned_below : (rows turned : ShownRows) (top end n k : ℕ) → AreTurned rows turned top end n → end ≤ k → get_or turned k [] ≡ get_or rows k []
turned_below rows turned top end n k t le =
    t.comes k ∙ ap (λ b. get_or rows (cond b (cond (ltb (k + n) end) (k + n) (k + n - (end - top))) k) []) (is_below top end k le)

turned_up : (rows turned : ShownRows) (top end n k : ℕ) → AreTurned rows turned top end n → top ≤ k → k + n < end → get_or turned k [] ≡ get_or rows (k + n) []
turned_up rows turned top end n k t above below =
    t.comes k
    ∙ ap (λ b. get_or rows (cond b (cond (ltb (k + n) end) (k + n) (k + n - (end - top))) k) []) (is_within top end k above (omega (arith, below)))
    ∙ ap (λ b. get_or rows (cond b (k + n) (k + n - (end - top))) []) (less (k + n) end below)
  where
    less : (a b : ℕ) → a < b → ltb a b ≡ true
    less a b lt = grind (arith, nat_tests)

turned_in : (rows turned : ShownRows) (top end n k : ℕ) → AreTurned rows turned top end n → top ≤ k → k < end → end ≤ k + n → get_or turned k [] ≡ get_or rows (k + n - (end - top)) []
turned_in rows turned top end n k t above below past =
    t.comes k
    ∙ ap (λ b. get_or rows (cond b (cond (ltb (k + n) end) (k + n) (k + n - (end - top))) k) []) (is_within top end k above below)
    ∙ ap (λ b. get_or rows (cond b (k + n) (k + n - (end - top))) []) (no (k + n) end past)
  where
    no : (a b : ℕ) → b ≤ a → ltb a b ≡ false
    no a b le = grind (arith, nat_tests)

-- the bounds of the rows that move, of which there are some
record AreBounds (s : Shift) (rows : ShownRows) (n top end c : ℕ) : Type 0 where
  last : end ≡ min (length rows) s.bot
  first : top ≡ min end s.top
  count : c ≡ min (end - top) n

up_row : (s : Shift) (rows turned after : ShownRows) (n top end c k : ℕ) → IsWhole s rows → s.rows ≡ pos n → AreBounds s rows n top end c
    → AreTurned rows turned top end c → AreForgotten turned after (end - c) end s.right → k < length rows → get_or after k [] ≡ row_after_shift s rows k
up_row s rows turned after n top end c k w up b t f lt =
    elim (cases_lt k s.top) [ inl above ↦ from_above above | inr le ↦ elim (cases_lt k s.bot) [ inl below ↦ from_within le below | inr past ↦ from_below past ] ]
  where
    stays_above : k < end - c → k < top → get_or after k [] ≡ get_or rows k []
    stays_above first second = kept_above turned after (end - c) end s.right k f first ∙ turned_above rows turned top end c k t second

    stays_below : end ≤ k → get_or after k [] ≡ get_or rows k []
    stays_below le = kept_below turned after (end - c) end s.right k f le ∙ turned_below rows turned top end c k t le

    from_above : k < s.top → get_or after k [] ≡ row_after_shift s rows k
    from_above above =
        elim (cases_lt k end) [ inl first ↦ stays_above (omega (arith, b.last, b.first, b.count, above, first)) (omega (arith, b.first, above, first)) | inr le ↦ stays_below le ]
        ∙ out_of s rows k (is_above s.top s.bot k above)

    from_below : s.bot ≤ k → get_or after k [] ≡ row_after_shift s rows k
    from_below past = stays_below (omega (arith, b.last, past)) ∙ out_of s rows k (is_below s.top s.bot k past)

    from_within : s.top ≤ k → k < s.bot → get_or after k [] ≡ row_after_shift s rows k
    from_within le below =
        elim (cases_lt (k + n) end) [
          | inl there ↦
              let all : c ≡ n = omega (arith, b.last, b.first, b.count, le, there) in
              let source : k + c ≡ k + n = ap (λ m. k + m) all in
              kept_above turned after (end - c) end s.right k f (omega (arith, all, there))
              ∙ turned_up rows turned top end c k t (omega (arith, b.first, le, there)) (omega (arith, all, there))
              ∙ ap (λ j. get_or rows j []) source
              ∙ comes_whole s rows k (k + n) w lt (omega (arith, b.last, there)) (is_within s.top s.bot k le below)
              (ap (λ d. cells_from rows (row_from s.top s.bot d k)) up ∙ comes_up rows s.top s.bot n k (omega (arith, b.last, there)))
          | inr past ↦
              forgotten_at turned after (end - c) end s.right k f (omega (arith, b.last, b.first, b.count, le, below, lt, past)) (omega (arith, b.last, lt, below))
              ∙ comes_none s rows k w lt (is_within s.top s.bot k le below)
              (ap (λ d. cells_from rows (row_from s.top s.bot d k)) up ∙ elim (cases_lt (k + n) s.bot)
              [ inl still ↦ comes_up rows s.top s.bot n k still ∙ past_rows rows (k + n) (omega (arith, b.last, past, still)) | inr gone ↦ comes_up_none rows s.top s.bot n k gone ])
        ]

pub moved_up : (s : Shift) (rows turned after : ShownRows) (n top end c : ℕ) → s.left ≡ 0 → AreWide rows s.right → s.rows ≡ pos n
    → end ≡ min (length rows) s.bot → top ≡ min end s.top → c ≡ min (end - top) n
    → AreTurned rows turned top end c → AreForgotten turned after (end - c) end s.right → after ≡ rows_after_shift s rows
moved_up s rows turned after n top end c left wide up last first count t f =
    let w : IsWhole s rows = record { left = left; wide = wide } in
    let b : AreBounds s rows n top end c = record { last = last; first = first; count = count } in
    shifted_is s rows after (f.count ∙ t.count) (λ k lt. up_row s rows turned after n top end c k w up b t f lt)

down_row : (s : Shift) (rows turned after : ShownRows) (n top end c k : ℕ) → IsWhole s rows → 0 < n → s.rows ≡ neg_ℤ (pos n) → AreBounds s rows n top end c
    → AreTurned rows turned top end (end - top - c) → AreForgotten turned after top (top + c) s.right → k < length rows → get_or after k [] ≡ row_after_shift s rows k
down_row s rows turned after n top end c k w some down b t f lt =
    elim (cases_lt k s.top) [ inl above ↦ from_above above | inr le ↦ elim (cases_lt k s.bot) [ inl below ↦ from_within le below | inr past ↦ from_below past ] ]
  where
    m : ℕ
    m = end - top - c

    stays_above : k < top → get_or after k [] ≡ get_or rows k []
    stays_above first = kept_above turned after top (top + c) s.right k f first ∙ turned_above rows turned top end (end - top - c) k t first

    stays_below : end ≤ k → get_or after k [] ≡ get_or rows k []
    stays_below le =
        kept_below turned after top (top + c) s.right k f (omega (arith, b.last, b.first, b.count, le)) ∙ turned_below rows turned top end (end - top - c) k t le

    from_above : k < s.top → get_or after k [] ≡ row_after_shift s rows k
    from_above above =
        elim (cases_lt k end) [ inl first ↦ stays_above (omega (arith, b.first, above, first)) | inr le ↦ stays_below le ]
        ∙ out_of s rows k (is_above s.top s.bot k above)

    from_below : s.bot ≤ k → get_or after k [] ≡ row_after_shift s rows k
    from_below past = stays_below (omega (arith, b.last, past)) ∙ out_of s rows k (is_below s.top s.bot k past)

    from_within : s.top ≤ k → k < s.bot → get_or after k [] ≡ row_after_shift s rows k
    from_within le below =
        elim (cases_lt k (s.top + n)) [
          | inl new ↦
              forgotten_at turned after top (top + c) s.right k f (omega (arith, b.last, b.first, le, below, lt)) (omega (arith, b.last, b.first, b.count, le, below, lt, new))
              ∙ comes_none s rows k w lt (is_within s.top s.bot k le below)
              (ap (λ d. cells_from rows (row_from s.top s.bot d k)) down ∙ comes_down_none rows s.top s.bot n k some new)
          | inr old ↦
              let all : c ≡ n = omega (arith, b.last, b.first, b.count, le, below, lt, old) in
              let source : k + (end - top - c) - (end - top) ≡ k - n = omega (arith, all, b.last, b.first, b.count, le, below, lt, old) in
              kept_below turned after top (top + c) s.right k f (omega (arith, b.last, b.first, all, le, below, lt, old))
              ∙ turned_in rows turned top end (end - top - c) k t (omega (arith, b.last, b.first, le, below, lt)) (omega (arith, b.last, le, below, lt)) (omega (arith, all, b.last, b.first, b.count, le, below, lt, old))
              ∙ ap (λ j. get_or rows j []) source
              ∙ comes_whole s rows k (k - n) w lt (omega (arith, lt)) (is_within s.top s.bot k le below)
              (ap (λ d. cells_from rows (row_from s.top s.bot d k)) down ∙ comes_down rows s.top s.bot n k some old)
        ]

-- down by no rows is up by none
none_down : (s : Shift) (rows turned after : ShownRows) (top end c : ℕ) → IsWhole s rows → s.rows ≡ neg_ℤ (pos 0) → AreBounds s rows 0 top end c
    → AreTurned rows turned top end (end - top - c) → AreForgotten turned after top (top + c) s.right → (k : ℕ) → k < length rows → get_or after k [] ≡ row_after_shift s rows k
none_down s rows turned after top end c w down b t f k lt =
    by_turn ∙ elim (cases_lt k s.top) [ inl above ↦ out_of s rows k (is_above s.top s.bot k above) | inr le ↦ elim (cases_lt k s.bot) [ inl below ↦ stays le below | inr past ↦ out_of s rows k (is_below s.top s.bot k past) ] ]
  where
    none : c ≡ 0
    none = omega (arith, b.count)

    kept : get_or after k [] ≡ get_or turned k []
    kept =
        elim (cases_lt k top) [ inl above ↦ kept_above turned after top (top + c) s.right k f above | inr le ↦ kept_below turned after top (top + c) s.right k f (omega (arith, none, le)) ]

    by_turn : get_or after k [] ≡ get_or rows k []
    by_turn =
        kept
        ∙ elim (cases_lt k top) [
          | inl above ↦ turned_above rows turned top end (end - top - c) k t above
          | inr le ↦ elim (cases_lt k end) [
            | inl below ↦
                let same : k + (end - top - c) - (end - top) ≡ k = omega (arith, none, le, below) in
                turned_in rows turned top end (end - top - c) k t le below (omega (arith, none, le, below)) ∙ ap (λ j. get_or rows j []) same
            | inr past ↦ turned_below rows turned top end (end - top - c) k t past
          ]
        ]

    stays : s.top ≤ k → k < s.bot → get_or rows k [] ≡ row_after_shift s rows k
    stays le below =
        let here : k + 0 ≡ k = omega arith in
        comes_whole s rows k k w lt lt (is_within s.top s.bot k le below)
        (ap (λ d. cells_from rows (row_from s.top s.bot d k)) down ∙ comes_up rows s.top s.bot 0 k (omega (arith, below)) ∙ ap (λ j. get_or rows j []) here)

pub moved_down : (s : Shift) (rows turned after : ShownRows) (n top end c : ℕ) → s.left ≡ 0 → AreWide rows s.right → s.rows ≡ neg_ℤ (pos n)
    → end ≡ min (length rows) s.bot → top ≡ min end s.top → c ≡ min (end - top) n
    → AreTurned rows turned top end (end - top - c) → AreForgotten turned after top (top + c) s.right → after ≡ rows_after_shift s rows
moved_down s rows turned after zero top end c left wide down last first count t f =
    let w : IsWhole s rows = record { left = left; wide = wide } in
    let b : AreBounds s rows 0 top end c = record { last = last; first = first; count = count } in
    shifted_is s rows after (f.count ∙ t.count) (none_down s rows turned after top end c w down b t f)
moved_down s rows turned after (suc n) top end c left wide down last first count t f =
    let w : IsWhole s rows = record { left = left; wide = wide } in
    let b : AreBounds s rows (suc n) top end c = record { last = last; first = first; count = count } in
    shifted_is s rows after (f.count ∙ t.count) (λ k lt. down_row s rows turned after (suc n) top end c k w (omega arith) down b t f lt)

-- what follows from what holds on success holds on success
pub on_ok_then : {T E P Q : Type 0} (r : Result T E) → (P → Q) → OnOk r P → OnOk r Q
on_ok_then (Ok x) f p = f p
on_ok_then (Err e) f p = p

-- ---- a row that a shift brings as it is

wide_at : (width : ℕ) (rows : ShownRows) → AllByRecursion (λ r. length r ≡ width) rows → AreWide rows width
wide_at width [] all k lt = absurd (omega (arith, lt))
wide_at width (r ∷ rows) all zero lt = all.0
wide_at width (r ∷ rows) all (suc k) lt = wide_at width rows all.1 k (omega (arith, lt))

pub there_is : {A : Type 0} (xs : List (List A)) (k : ℕ) → 0 < length (get_or xs k []) → k < length xs
there_is [] k some = absurd (omega (arith, some))
there_is (x ∷ xs) zero some = omega arith
there_is (x ∷ xs) (suc k) some = let more = there_is xs k some in omega (arith, more)

pub brought_is : (s : Shift) (width height : ℕ) (rows : ShownRows) (k from : ℕ) → AreSized width height rows → s.left ≡ 0 → s.right ≡ width
    → ComesFrom s k from → k < height → 0 < length (get_or rows from []) → get_or (rows_after_shift s rows) k [] ≡ get_or rows from []
brought_is s width height rows k from sized left right is lt some =
    let here : k < length rows = omega (arith, lt, sized.high) in
    let whole : IsWhole s rows = record { left = left; wide = subst (AreWide rows) (sym right) (wide_at width rows sized.wide) } in
    after_at s rows k here ∙ sym (comes_whole s rows k from whole here (there_is rows from some) is.within (ap (cells_from rows) is.comes))
