-- Marks that are picked, and those that are removed.
use Rattle.std.proofs.Common.{◌≡◌, ◌∙◌, refl, sym, ap, subst, ℕ, suc, ◌-◌, ◌^◌, ◌<◌, ◌≤◌, min, eqb, Bool, true, false, cond, List, [], ◌∷◌, ◌++◌, length, take, reverse, arith, Option, Some, None, Result, Ok, Err, IfOk}
use Rattle.std.specs.Option.{option_map_or}
use Rattle.std.specs.Prelude.{not, ◌&&◌, ◌||◌, nat_le, nat_lt, filter, All}
use Rattle.std.proofs.lemmas.Bool.Decides.{nat_tests}
use Rattle.std.proofs.lemmas.List.{take_all}
use Rattle.std.proofs.lemmas.List.Elements.{All-filter, All-head, All-tail, All-take, All-weaker}
use Rattle.std.proofs.lemmas.List.Sorted.{All-permutation, IsPermutation-reverse}
use Rattle.nv_places.specs.Places.{IsNarrow, is_before}
use Rattle.nv_places.specs.declared.place.Pos.{Pos}
use Rattle.nv_buffer.specs.Marks.{IsMarkIn}
use Rattle.nv_buffer.specs.Splices.{IsNarrowText}
use Rattle.nv_buffer.proofs.Placing.{narrow_place}
use Rattle.nv_marks.specs.Queries.{is_cleared, is_meant, is_selected, stops_from}
use Rattle.nv_marks.specs.declared.extmark.Far.{Far}
use Rattle.nv_marks.specs.declared.extmark.Mark.{Mark}
use Rattle.nv_marks.specs.declared.query.Query.{Query}
use Rattle.nv_api_mark.specs.Listing.{first_marks, lies_in, marks_between, marks_from}
use Rattle.nv_api_mark.specs.inside.Picking.{CoversRows, EndsRows, is_in_rows, is_picked}
use Rattle.nv_api_mark.specs.declared.clearing.Rows.{Rows}
use Rattle.nv_api_mark.specs.declared.listing.Picks.{Picks}

-- a filter leaves no more than there was
pub filter_few : {X : Type 0} (p : X → Bool) (xs : List X) → length (filter p xs) ≤ length xs
filter_few p [] = omega arith
filter_few {X} p (x ∷ xs) = by_case (filter_few p xs) (p x)
  where
    by_case : length (filter p xs) ≤ length xs → (b : Bool) → length (cond b (x ∷ filter p xs) (filter p xs)) ≤ suc (length xs)
    by_case few true = omega (arith, few)
    by_case few false = omega (arith, few)

-- two tests that are the same of what is there
filter_alike : {X : Type 0} (P : X → Type 0) (p q : X → Bool) → ((x : X) → P x → p x ≡ q x) → (xs : List X) → All P xs → filter p xs ≡ filter q xs
filter_alike P p q same [] all = refl
filter_alike {X} P p q same (x ∷ xs) all =
    ap (λ (b : Bool). cond b (x ∷ filter p xs) (filter p xs)) (same x (All-head P x xs all))
    ∙ ap (λ (l : List X). cond (q x) (x ∷ l) l) (filter_alike P p q same xs (All-tail P x xs all))

alike_all : {X : Type 0} (p q : X → Bool) → ((x : X) → p x ≡ q x) → (xs : List X) → filter p xs ≡ filter q xs
alike_all p q same [] = refl
alike_all {X} p q same (x ∷ xs) =
    ap (λ (b : Bool). cond b (x ∷ filter p xs) (filter p xs)) (same x)
    ∙ ap (λ (l : List X). cond (q x) (x ∷ l) l) (alike_all p q same xs)

-- ---- picked
-- the query that picks ask for
abbrev pub query_of : Picks → Query
query_of picks = record { ns = picks.meant; from = picks.low; to = picks.high; reaching = picks.overlap }

-- a start before the first place isn't behind the last
before_both : (low high p : Pos) → is_before high low ≡ false → is_before p low ≡ true → is_before high p ≡ false
before_both low high p order e = grind (arith, nat_tests)

stops_as : (p : Pos) (stop : Option Far) → stops_from p stop ≡ option_map_or (λ far. not (is_before far.pos p)) stop false
stops_as p None = refl
stops_as p (Some far) = refl

selected_as : (a b o t : Bool) → (a ≡ true → b ≡ false) → (not b && (not a || (o && t))) ≡ ((not a && not b) || (o && (a && t)))
selected_as true true o t order = absurd (let no : true ≡ false = order refl in cc)
selected_as true false o t order = refl
selected_as false true true t order = refl
selected_as false true false t order = refl
selected_as false false o t order = refl

picked_selected : (picks : Picks) → is_before picks.high picks.low ≡ false → (m : Mark) → is_selected (query_of picks) m ≡ is_picked picks m
picked_selected picks order m =
    ap (λ (t : Bool). is_meant picks.meant m.ns && (not (is_before picks.high m.start) && (not (is_before m.start picks.low) || (picks.overlap && t))))
    (stops_as picks.low m.stop)
    ∙ ap (λ (t : Bool). is_meant picks.meant m.ns && t)
    (selected_as (is_before m.start picks.low) (is_before picks.high m.start) picks.overlap
    (option_map_or (λ far. not (is_before far.pos picks.low)) m.stop false) (before_both picks.low picks.high m.start order))

pub picked_are : (picks : Picks) (wanted : ℕ) (ms had found : List Mark) → is_before picks.high picks.low ≡ false → had ≡ []
    → found ≡ had ++ take wanted (filter (is_selected (query_of picks)) ms) → found ≡ take wanted (filter (is_picked picks) ms)
picked_are picks wanted ms had found order none is =
    is ∙ ap (λ (l : List Mark). l ++ take wanted (filter (is_selected (query_of picks)) ms)) none
    ∙ ap (take wanted) (alike_all (is_selected (query_of picks)) (is_picked picks) (picked_selected picks order) ms)

-- as many as there are marks are all
pub all_taken : {V E : Type 0} (items : V → List Mark) (r : Result V E) (p : Mark → Bool) (n : ℕ) (ms : List Mark) → n ≡ length ms
    → IfOk r (λ found. items found ≡ take n (filter p ms)) → IfOk r (λ found. items found ≡ filter p ms)
all_taken items (Ok found) p n ms count is = is ∙ take_all n (filter p ms) (omega (arith, filter_few p ms, count))
all_taken items (Err e) p n ms count is = is

-- ---- removed
rows_cleared : (rows : Rows) (places : Pos × Pos) → CoversRows rows (Some places) → (m : Mark) → IsNarrow m.start
    → is_in_rows rows m ≡ is_cleared rows.meant places.0 places.1 m
rows_cleared rows places covers m narrow = ap (λ (b : Bool). is_meant rows.meant m.ns && b) (covers m narrow)

pub cleared_are : (rows : Rows) (found : Option (Pos × Pos)) (places : Pos × Pos) (ms : List Mark) → found ≡ Some places → CoversRows rows found
    → All (λ (m : Mark). IsNarrow m.start) ms → filter (is_in_rows rows) ms ≡ filter (is_cleared rows.meant places.0 places.1) ms
cleared_are rows found places ms is covers narrow =
    filter_alike (λ (m : Mark). IsNarrow m.start) (is_in_rows rows) (is_cleared rows.meant places.0 places.1)
    (λ m here. rows_cleared rows places (subst (λ (o : Option (Pos × Pos)). CoversRows rows o) is covers) m here) ms narrow

none_cleared : (rows : Rows) → CoversRows rows None → (m : Mark) → IsNarrow m.start → is_in_rows rows m ≡ false
none_cleared rows covers m narrow = ap (λ (b : Bool). is_meant rows.meant m.ns && b) (covers m narrow) ∙ never (is_meant rows.meant m.ns)
  where
    never : (b : Bool) → (b && false) ≡ false
    never true = refl
    never false = refl

pub none_are : (rows : Rows) (found : Option (Pos × Pos)) (ms : List Mark) → found ≡ None → CoversRows rows found
    → All (λ (m : Mark). IsNarrow m.start) ms → filter (is_in_rows rows) ms ≡ []
none_are rows found [] is covers narrow = refl
none_are rows found (m ∷ ms) is covers narrow =
    ap (λ (b : Bool). cond b (m ∷ filter (is_in_rows rows) ms) (filter (is_in_rows rows) ms))
    (none_cleared rows (subst (λ (o : Option (Pos × Pos)). CoversRows rows o) is covers) m (All-head (λ (x : Mark). IsNarrow x.start) m ms narrow))
    ∙ none_are rows found ms is covers (All-tail (λ (x : Mark). IsNarrow x.start) m ms narrow)

-- ---- the places of rows
before_last : (row col last to : ℕ) → row < 2 ^ 32 → col < 2 ^ 32 → 0 < last → to ≡ min (last - 1) 4294967295
    → (nat_le 0 row && nat_lt row last) ≡ not (nat_lt to row || (eqb to row && nat_lt 4294967295 col))
before_last row col last to narrow below some is = grind (arith, nat_tests)

up_to_greatest : (row col : ℕ) → row < 2 ^ 32 → col < 2 ^ 32
    → nat_le 0 row ≡ not (nat_lt 4294967295 row || (eqb 4294967295 row && nat_lt 4294967295 col))
up_to_greatest row col narrow below = grind (arith, nat_tests)

before_first : (row : ℕ) → (nat_le 0 row && nat_lt row 0) ≡ false
before_first row = grind (arith, nat_tests)

from_first : (first row col : ℕ) → nat_le first row ≡ (not (nat_lt row first || (eqb row first && nat_lt col 0)) && nat_le 0 row)
from_first first row col = grind (arith, nat_tests)

past_greatest : (first row : ℕ) → row < 2 ^ 32 → 4294967295 < first → nat_le first row ≡ false
past_greatest first row narrow above = grind (arith, nat_tests)

-- where the last of the rows is
abbrev pub end_of_row : ℕ → Pos
end_of_row row = record { row = row; col = 4294967295 }

pub ends_all : (last : Option ℕ) (to : Pos) → last ≡ None → to ≡ end_of_row 4294967295 → EndsRows last (Some to)
ends_all last to is to_is m narrow =
    subst (λ (o : Option ℕ). lies_in 0 o m ≡ not (is_before to m.start)) (sym is)
    (subst (λ (p : Pos). lies_in 0 None m ≡ not (is_before p m.start)) (sym to_is) (up_to_greatest m.start.row m.start.col narrow.0 narrow.1))

pub ends_none : (last : Option ℕ) (n : ℕ) → last ≡ Some n → n ≡ 0 → EndsRows last None
ends_none last n is zero m =
    subst (λ (o : Option ℕ). lies_in 0 o m ≡ false) (sym is)
    (subst (λ (k : ℕ). lies_in 0 (Some k) m ≡ false) (sym zero) (before_first m.start.row))

pub ends_before : (last : Option ℕ) (n row : ℕ) (to : Pos) → last ≡ Some n → 0 < n → row ≡ min (n - 1) 4294967295 → to ≡ end_of_row row
    → EndsRows last (Some to)
ends_before last n row to is some row_is to_is m narrow =
    subst (λ (o : Option ℕ). lies_in 0 o m ≡ not (is_before to m.start)) (sym is)
    (subst (λ (p : Pos). lies_in 0 (Some n) m ≡ not (is_before p m.start)) (sym to_is)
    (before_last m.start.row m.start.col n row narrow.0 narrow.1 some row_is))

-- those from a first row on are those of all rows that don't lie before it
from_row : (first : ℕ) (last : Option ℕ) (m : Mark)
    → lies_in first last m ≡ (not (is_before m.start (record { row = first; col = 0 })) && lies_in 0 last m)
from_row first None m = from_first first m.start.row m.start.col
from_row first (Some last) m =
    ap (λ (t : Bool). t && nat_lt m.start.row last) (from_first first m.start.row m.start.col)
    ∙ grouped (not (is_before m.start (record { row = first; col = 0 }))) (nat_le 0 m.start.row) (nat_lt m.start.row last)
  where
    grouped : (a b c : Bool) → ((a && b) && c) ≡ (a && (b && c))
    grouped true b c = refl
    grouped false b c = refl

and_false : (b : Bool) → (b && false) ≡ false
and_false true = refl
and_false false = refl

pub covers_none : (rows : Rows) (found : Option Pos) → found ≡ None → EndsRows rows.last found → CoversRows rows None
covers_none rows found is ends m narrow =
    from_row rows.first rows.last m
    ∙ ap (λ (t : Bool). not (is_before m.start (record { row = rows.first; col = 0 })) && t)
    (subst (λ (o : Option Pos). EndsRows rows.last o) is ends m)
    ∙ and_false (not (is_before m.start (record { row = rows.first; col = 0 })))

pub covers_past : (rows : Rows) → 4294967295 < rows.first → CoversRows rows None
covers_past rows above m narrow = by_case rows.last
  where
    by_case : (last : Option ℕ) → lies_in rows.first last m ≡ false
    by_case None = past_greatest rows.first m.start.row narrow.0 above
    by_case (Some last) = ap (λ (t : Bool). t && nat_lt m.start.row last) (past_greatest rows.first m.start.row narrow.0 above)

pub covers_between : (rows : Rows) (found : Option Pos) (to : Pos) → found ≡ Some to → EndsRows rows.last found
    → CoversRows rows (Some (record { row = rows.first; col = 0 }, to))
covers_between rows found to is ends m narrow =
    from_row rows.first rows.last m
    ∙ ap (λ (t : Bool). not (is_before m.start (record { row = rows.first; col = 0 })) && t)
    (subst (λ (o : Option Pos). EndsRows rows.last o) is ends m narrow)

-- the starts of the marks of a text are narrow
pub starts_narrow : (text : List (List ℕ)) (ms : List Mark) → IsNarrowText text → All (IsMarkIn text) ms → All (λ (m : Mark). IsNarrow m.start) ms
starts_narrow text ms narrow are =
    All-weaker (IsMarkIn text) (λ (m : Mark). IsNarrow m.start) (λ m here. narrow_place text m.start narrow here.start) ms are

-- ---- what holds of all holds of those that are listed

all-reverse : {X : Type 0} (P : X → Type 0) (xs : List X) → All P xs → All P (reverse xs)
all-reverse P xs all = All-permutation P xs (reverse xs) (IsPermutation-reverse xs) all

all-between : (P : Mark → Type 0) (meant : Option ℕ) (overlap : Bool) (low high : Pos) (ms : List Mark) → All P ms → All P (marks_between meant overlap low high ms)
all-between P meant overlap low high ms all = All-filter _ P ms all

all-from : (P : Mark → Type 0) (meant : Option ℕ) (overlap : Bool) (start end : Pos) (ms : List Mark) → All P ms → All P (marks_from meant overlap start end ms)
all-from P meant overlap start end ms all = by_case (is_before end start)
  where
    by_case : (b : Bool) → All P (cond b (reverse (marks_between meant overlap end start ms)) (marks_between meant overlap start end ms))
    by_case true = all-reverse P _ (all-between P meant overlap end start ms all)
    by_case false = all-between P meant overlap start end ms all

all-first : (P : Mark → Type 0) (limit : Option ℕ) (ms : List Mark) → All P ms → All P (first_marks limit ms)
all-first P None ms all = all
all-first P (Some n) ms all = All-take P n ms all

pub all_listed : (P : Mark → Type 0) (limit meant : Option ℕ) (overlap : Bool) (start end : Pos) (ms : List Mark) → All P ms
    → All P (first_marks limit (marks_from meant overlap start end ms))
all_listed P limit meant overlap start end ms all = all-first P limit _ (all-from P meant overlap start end ms all)
