-- Bands of rows.
use Rattle.std.proofs.Common.{All, ◌≡◌, ◌≤◌, ◌<◌, ◌+◌, ◌-◌, List, [], ◌∷◌, ℕ, zero, suc, length, get_or, set, take, min, refl, ap, sym, ◌∙◌, map, arith, Bool, true, false, cond, eqb, not, ◌&&◌, ◌||◌, subst, Some, None, Option}
use Rattle.std.specs.Prelude.{◌^◌, IfSome, filter, insert, nat_le, nat_lt, option_map}
use Rattle.std.specs.List.{list_any}
use Rattle.std.proofs.lemmas.Bool.{both_ways}
use Rattle.std.proofs.lemmas.Bool.Decides.{nat_tests}
use Rattle.std.proofs.lemmas.List.{take_more}
use Rattle.std.proofs.lemmas.List.Edits.{length-insert}
use Rattle.std.proofs.lemmas.List.Sorted.{IsPermutation-insert, list_any-IsPermutation}
use Rattle.nv_places.specs.declared.place.Pos.{Pos}
use Rattle.nv_places.specs.declared.place.Extent.{Extent}
use Rattle.nv_places.specs.Places.{further, is_before}
use Rattle.nv_places.specs.Moves.{carried_place, moved_place}
use Rattle.nv_marks.specs.declared.bands.Band.{Band}
use Rattle.nv_marks.specs.declared.extmark.Far.{Far}
use Rattle.nv_marks.specs.declared.extmark.Mark.{Mark}
use Rattle.nv_marks.specs.declared.keeping.Kept.{Kept}
use Rattle.nv_marks.specs.declared.query.Query.{Query}
use Rattle.nv_marks.specs.declared.record.Record.{Record}
use Rattle.nv_marks.specs.declared.record.Relative.{Relative}
use Rattle.nv_marks.specs.Keeping.{put_back_mark}
use Rattle.nv_marks.specs.Marks.{is_named, mark_at, without}
use Rattle.nv_marks.specs.Moves.{MovesNarrowly, moved_far, moved_mark}
use Rattle.nv_marks.specs.Order.{IsInOrder, is_within}
use Rattle.nv_marks.specs.Queries.{is_meant, is_selected, stops_from}
use Rattle.nv_marks.specs.Sound.{IsSound}
use Rattle.nv_marks.specs.inside.Bands.{HasBand, IsBanded, IsReachKnown, greatest_row, has_row, is_banded, is_in_band, least_row, meets_rows, moved_band, new_band, reaches_row, widened_band}
use Rattle.nv_marks.specs.inside.Chunks.{Piece, placed_record, spread_records}
use Rattle.nv_marks.specs.inside.Records.{ForEach, Sort, end_among, is_start, mark_among, marks_among, precedes}
use Rattle.nv_marks.specs.inside.Stored.{first_start, listed_marks}
use Rattle.nv_marks.proofs.EachLemmas.{Each-append, Each-both, Each-filter, Each-from_all, Each-get_or, Each-map, Each-permutation, Each-unmap, Each-weaker}
use Rattle.nv_marks.proofs.KeepLemmas.{each_found}
use Rattle.nv_marks.proofs.PlacesLemmas.{before_far, before_itself, follows, further-row, moved-before, moved-behind, moved-inside}
use Rattle.nv_marks.proofs.RestoreLemmas.{other_kept}

-- ---- some of a list
any_else : (x y : Bool) → y ≡ true → (x || y) ≡ true
any_else true y is = refl
any_else false y is = is

any_first : (x y : Bool) → x ≡ true → (x || y) ≡ true
any_first true y is = refl
any_first false y is = absurd cc

neither : (x y : Bool) → (x || y) ≡ false → (x ≡ false) × (y ≡ false)
neither true y is = absurd cc
neither false y is = (refl, is)

any_insert : {X : Type 0} (p : X → Bool) (xs : List X) (i : ℕ) (y : X) → (p y || list_any p xs) ≡ list_any p (insert xs i y)
any_insert p xs i y = list_any-IsPermutation p (y ∷ xs) (insert xs i y) (IsPermutation-insert xs i y)

any_set : {X : Type 0} (p : X → Bool) (xs : List X) (i : ℕ) (d y : X) → (p (get_or xs i d) ≡ true → p y ≡ true) → i < length xs → list_any p xs ≡ true
    → list_any p (set xs i y) ≡ true
any_set p [] i d y more within is = absurd cc
any_set p (x ∷ xs) zero d y more within is = by_case (p x) refl is
  where
    by_case : (b : Bool) → p x ≡ b → (b || list_any p xs) ≡ true → (p y || list_any p xs) ≡ true
    by_case true has holds = any_first (p y) (list_any p xs) (more has)
    by_case false has holds = any_else (p y) (list_any p xs) holds
any_set p (x ∷ xs) (suc i) d y more within is = by_case (any_set p xs i d y more (omega (arith, within))) (p x) is
  where
    by_case : (list_any p xs ≡ true → list_any p (set xs i y) ≡ true) → (b : Bool) → (b || list_any p xs) ≡ true → (b || list_any p (set xs i y)) ≡ true
    by_case rest true holds = refl
    by_case rest false holds = rest holds

any_set_at : {X : Type 0} (p : X → Bool) (xs : List X) (i : ℕ) (y : X) → i < length xs → p y ≡ true → list_any p (set xs i y) ≡ true
any_set_at p [] i y within is = absurd (omega (arith, within))
any_set_at p (x ∷ xs) zero y within is = any_first (p y) (list_any p xs) is
any_set_at p (x ∷ xs) (suc i) y within is = any_else (p x) (list_any p (set xs i y)) (any_set_at p xs i y (omega (arith, within)) is)

any_map : {X Y : Type 0} (p : X → Bool) (q : Y → Bool) (f : X → Y) → ((x : X) → p x ≡ true → q (f x) ≡ true) → (xs : List X) → list_any p xs ≡ true
    → list_any q (map f xs) ≡ true
any_map p q f goes [] is = absurd cc
any_map p q f goes (x ∷ xs) is = by_case (any_map p q f goes xs) (p x) refl is
  where
    by_case : (list_any p xs ≡ true → list_any q (map f xs) ≡ true) → (b : Bool) → p x ≡ b → (b || list_any p xs) ≡ true → (q (f x) || list_any q (map f xs)) ≡ true
    by_case rest true has holds = any_first (q (f x)) (list_any q (map f xs)) (goes x has)
    by_case rest false has holds = any_else (q (f x)) (list_any q (map f xs)) (rest holds)

each_unfiltered : {X : Type 0} (P : X → Type 0) (t : X → Bool) (xs : List X) → ForEach P (filter t xs) → ForEach (λ x. t x ≡ true → P x) xs
each_unfiltered P t [] each = tt
each_unfiltered P t (x ∷ xs) each = by_case (each_unfiltered P t xs) (t x) refl each
  where
    by_case : (ForEach P (filter t xs) → ForEach (λ y. t y ≡ true → P y) xs) → (b : Bool) → t x ≡ b → ForEach P (cond b (x ∷ filter t xs) (filter t xs))
        → (t x ≡ true → P x) × ForEach (λ y. t y ≡ true → P y) xs
    by_case rest true is holds = ((λ yes. holds.0), rest holds.1)
    by_case rest false is holds = ((λ yes. absurd (both_ways (t x) is yes)), rest holds)

-- ---- tests of numbers
le_of : (a b : ℕ) → nat_le a b ≡ true → a ≤ b
le_of a b is = grind (arith, nat_tests)

gt_of : (a b : ℕ) → nat_le a b ≡ false → b < a
gt_of a b is = grind (arith, nat_tests)

lt_of : (a b : ℕ) → nat_lt a b ≡ true → a < b
lt_of a b is = grind (arith, nat_tests)

ge_of : (a b : ℕ) → nat_lt a b ≡ false → b ≤ a
ge_of a b is = grind (arith, nat_tests)

le_is : (a b : ℕ) → a ≤ b → nat_le a b ≡ true
le_is a b is = grind (arith, nat_tests)

both_are : (x y : Bool) → x ≡ true → y ≡ true → (x && y) ≡ true
both_are true y first second = second
both_are false y first second = absurd cc

first_is : (x y : Bool) → (x && y) ≡ true → x ≡ true
first_is true y is = refl
first_is false y is = absurd cc

second_is : (x y : Bool) → (x && y) ≡ true → y ≡ true
second_is true y is = is
second_is false y is = absurd cc

-- ---- one band
in_band : (start stop : ℕ) (b : Band) → b.first ≤ start → start ≤ b.last → stop ≤ b.end → is_in_band start stop b ≡ true
in_band start stop b first last end =
    both_are (has_row start b) (nat_le stop b.end)
    (both_are (nat_le b.first start) (nat_le start b.last) (le_is b.first start first) (le_is start b.last last)) (le_is stop b.end end)

first_in : (start stop : ℕ) (b : Band) → is_in_band start stop b ≡ true → b.first ≤ start
first_in start stop b is =
    le_of b.first start (first_is (nat_le b.first start) (nat_le start b.last) (first_is (has_row start b) (nat_le stop b.end) is))

last_in : (start stop : ℕ) (b : Band) → is_in_band start stop b ≡ true → start ≤ b.last
last_in start stop b is =
    le_of start b.last (second_is (nat_le b.first start) (nat_le start b.last) (first_is (has_row start b) (nat_le stop b.end) is))

end_in : (start stop : ℕ) (b : Band) → is_in_band start stop b ≡ true → stop ≤ b.end
end_in start stop b is = le_of stop b.end (second_is (has_row start b) (nat_le stop b.end) is)

pub in_new : (start stop : ℕ) → is_in_band start stop (new_band start stop) ≡ true
in_new start stop = in_band start stop (new_band start stop) (omega arith) (omega arith) (omega arith)

in_widened : (start stop : ℕ) (b : Band) → is_in_band start stop (widened_band start stop b) ≡ true
in_widened start stop b = in_band start stop (widened_band start stop b) (omega arith) (omega arith) (omega arith)

still_in : (start stop s e : ℕ) (b : Band) → is_in_band s e b ≡ true → is_in_band s e (widened_band start stop b) ≡ true
still_in start stop s e b is =
    in_band s e (widened_band start stop b) (omega (arith, first_in s e b is)) (omega (arith, last_in s e b is)) (omega (arith, end_in s e b is))

-- ---- bands that are widened, and one more
pub kept_by_put : (b : Bool) (bs now : List Band) (at : ℕ) (one : Band) → now ≡ cond b (insert bs at one) bs → (s e : ℕ) → is_banded bs s e ≡ true
    → is_banded now s e ≡ true
kept_by_put true bs now at one is s e had =
    ap (λ (l : List Band). is_banded l s e) is ∙ sym (any_insert (is_in_band s e) bs at one) ∙ any_else (is_in_band s e one) (is_banded bs s e) had
kept_by_put false bs now at one is s e had = ap (λ (l : List Band). is_banded l s e) is ∙ had

pub has_put : (b : Bool) (bs now : List Band) (at : ℕ) (one : Band) → now ≡ cond b (insert bs at one) bs → b ≡ true → (s e : ℕ) → is_in_band s e one ≡ true
    → is_banded now s e ≡ true
has_put true bs now at one is put s e has =
    ap (λ (l : List Band). is_banded l s e) is ∙ sym (any_insert (is_in_band s e) bs at one) ∙ any_first (is_in_band s e one) (is_banded bs s e) has
has_put false bs now at one is put s e has = absurd (both_ways true (sym put) refl)

pub kept_by_widening : (start stop : ℕ) (bs : List Band) (at : ℕ) (d one : Band) → at < length bs → one ≡ widened_band start stop (get_or bs at d) → (s e : ℕ)
    → is_banded bs s e ≡ true → is_banded (set bs at one) s e ≡ true
kept_by_widening start stop bs at d one within is s e had =
    any_set (is_in_band s e) bs at d one (λ has. ap (is_in_band s e) is ∙ still_in start stop s e (get_or bs at d) has) within had

pub has_widened : (start stop : ℕ) (bs : List Band) (at : ℕ) (b one : Band) → at < length bs → one ≡ widened_band start stop b → is_banded (set bs at one) start stop ≡ true
has_widened start stop bs at b one within is =
    any_set_at (is_in_band start stop) bs at one within (ap (is_in_band start stop) is ∙ in_widened start stop b)

pub more_bands : (bs now : List Band) → ((s e : ℕ) → is_banded bs s e ≡ true → is_banded now s e ≡ true) → (m : Mark) → HasBand bs m → HasBand now m
more_bands bs now kept m has = by_stop m.stop has
  where
    by_stop : (o : Option Far) → IfSome o (λ far. is_banded bs m.start.row far.pos.row ≡ true) → IfSome o (λ far. is_banded now m.start.row far.pos.row ≡ true)
    by_stop None has = tt
    by_stop (Some far) has = kept m.start.row far.pos.row has

pub more_found : (bs now : List Band) → ((s e : ℕ) → is_banded bs s e ≡ true → is_banded now s e ≡ true) → (o : Option Mark) → IfSome o (HasBand bs)
    → IfSome o (HasBand now)
more_found bs now kept None has = tt
more_found bs now kept (Some m) has = more_bands bs now kept m has

pub min_first : (n a b : ℕ) → n ≡ min a b → n ≤ a
min_first n a b is = omega (arith, is)

pub min_second : (n a b : ℕ) → n ≡ min a b → n ≤ b
min_second n a b is = omega (arith, is)

pub each_more : {X : Type 0} (P Q : X → Type 0) (xs : List X) (i : ℕ) (d : X) → i < length xs → ((x : X) → P x → Q x) → ForEach P (take i xs) → Q (get_or xs i d)
    → ForEach Q (take (i + 1) xs)
each_more P Q xs i d within weaker each own =
    subst (ForEach Q) (sym (take_more xs i d within))
    (Each-append Q (take i xs) (get_or xs i d ∷ []) (Each-weaker P Q weaker (take i xs) each) (own, tt))

pub longer_by_put : (b : Bool) (bs now : List Band) (at : ℕ) (one : Band) → now ≡ cond b (insert bs at one) bs → at ≤ length bs → length bs ≤ length now
longer_by_put true bs now at one is within = omega (arith, ap length is, length-insert bs at one within)
longer_by_put false bs now at one is within = omega (arith, ap length is)

-- ---- rows that move
module _ (start old new : ℕ) (up : start ≤ new) (down : start ≤ old) (fits : new < 2 ^ 32) where
  abbrev least_by : Bool → Bool → ℕ → ℕ
  least_by b c row = cond b row (cond c start (min (row - old + new) 4294967295))

  abbrev greatest_by : Bool → Bool → ℕ → ℕ
  greatest_by b c row = cond b row (cond c new (min (row - old + new) 4294967295))

  least_before : (row low : ℕ) → low ≤ row → row ≤ start → least_row start old new low ≤ row
  least_before row low few before =
      subst (λ (b : Bool). least_by b (nat_le low old) low ≤ row) (sym (le_is low start (omega (arith, few, before)))) few

  least_inside : (row low : ℕ) → low ≤ row → row ≤ old → least_row start old new low ≤ start
  least_inside row low few inside =
      subst (λ (c : Bool). least_by (nat_le low start) c low ≤ start) (sym (le_is low old (omega (arith, few, inside)))) (by_case (nat_le low start) refl)
    where
      by_case : (b : Bool) → nat_le low start ≡ b → least_by b true low ≤ start
      by_case true is = le_of low start is
      by_case false is = omega arith

  least_behind : (row low : ℕ) → low ≤ row → old ≤ row → least_row start old new low ≤ row - old + new
  least_behind row low few behind = by_case (nat_le low start) refl (nat_le low old)
    where
      by_case : (b : Bool) → nat_le low start ≡ b → (c : Bool) → least_by b c low ≤ row - old + new
      by_case true is c = omega (arith, le_of low start is, up)
      by_case false is true = omega (arith, up)
      by_case false is false = omega (arith, few)

  greatest_before : (row high : ℕ) → row ≤ high → row ≤ start → row ≤ greatest_row start old new high
  greatest_before row high few before = by_case (nat_lt high start) (nat_le high old)
    where
      by_case : (b c : Bool) → row ≤ greatest_by b c high
      by_case true c = few
      by_case false true = omega (arith, before, up)
      by_case false false = omega (arith, before, up, fits)

  greatest_inside : (row high : ℕ) → row ≤ high → start ≤ row → new ≤ greatest_row start old new high
  greatest_inside row high few inside = by_case (nat_lt high start) refl (nat_le high old)
    where
      by_case : (b : Bool) → nat_lt high start ≡ b → (c : Bool) → new ≤ greatest_by b c high
      by_case true is c = absurd (omega (arith, lt_of high start is, few, inside))
      by_case false is true = omega arith
      by_case false is false = omega (arith, fits)

  greatest_behind : (row high : ℕ) → row ≤ high → old ≤ row → row - old + new < 2 ^ 32 → row - old + new ≤ greatest_row start old new high
  greatest_behind row high few behind narrow = by_case (nat_lt high start) refl (nat_le high old) refl
    where
      by_case : (b : Bool) → nat_lt high start ≡ b → (c : Bool) → nat_le high old ≡ c → row - old + new ≤ greatest_by b c high
      by_case true is c at = absurd (omega (arith, lt_of high start is, few, behind, down))
      by_case false is true at = omega (arith, le_of high old at, few)
      by_case false is false at = omega (arith, few, narrow)

-- ---- where a row of a place goes
row_before : (p q : Pos) → is_before p q ≡ true → p.row ≤ q.row
row_before p q before = grind (arith, nat_tests)

row_from : (p q : Pos) → is_before q p ≡ false → p.row ≤ q.row
row_from p q not_before = grind (arith, nat_tests)

carried_row : (old new p : Pos) → old.row ≤ p.row → (carried_place old new p).row ≡ p.row - old.row + new.row
carried_row old new p later = by_case (eqb p.row old.row) refl
  where
    by_case : (b : Bool) → eqb p.row old.row ≡ b
        → (let q : Pos = cond b (record { row = new.row; col = p.col - old.col + new.col }) (record { row = p.row - old.row + new.row; col = p.col }) in q).row
        ≡ p.row - old.row + new.row
    by_case true is =
        let same : p.row ≡ old.row = grind (arith, nat_tests) in
        omega (arith, same)
    by_case false is = refl

module _ (right : Bool) (start : Pos) (old new : Extent) (fits : (further start new).row < 2 ^ 32) (p : Pos) where
  abbrev top : ℕ
  top = start.row

  abbrev old_row : ℕ
  old_row = (further start old).row

  abbrev new_row : ℕ
  new_row = (further start new).row

  up : top ≤ new_row
  up = omega (arith, further-row start new)

  down : top ≤ old_row
  down = omega (arith, further-row start old)

  -- what is so of each place that it may go to is so of where it goes
  by_place : (P : ℕ → Type 0) → (p.row ≤ top → P p.row) → (old_row ≤ p.row → (moved_place right start old new p).row ≡ p.row - old_row + new_row → P (p.row - old_row + new_row))
      → (top ≤ p.row → p.row ≤ old_row → P top × P new_row) → P (moved_place right start old new p).row
  by_place P before behind inside = by_start (is_before p start) refl
    where
      by_side : (r : Bool) → P top → P new_row → P (cond r (further start new) start).row
      by_side true at_start at_end = at_end
      by_side false at_start at_end = at_start

      by_end : is_before p start ≡ false → (t : Bool) → is_before (further start old) p ≡ t → P (moved_place right start old new p).row
      by_end from true past =
          let later : old_row ≤ p.row = row_before (further start old) p past in
          let goes : (moved_place right start old new p).row ≡ p.row - old_row + new_row =
          ap (λ (q : Pos). q.row) (moved-behind right start old new p past) ∙ carried_row (further start old) (further start new) p later in
          subst P (sym goes) (behind later goes)
      by_end from false still =
          let two : P top × P new_row = inside (row_from start p from) (row_from p (further start old) still) in
          subst (λ (q : Pos). P q.row) (sym (moved-inside right start old new p from still)) (by_side right two.0 two.1)

      by_start : (t : Bool) → is_before p start ≡ t → P (moved_place right start old new p).row
      by_start true is = subst (λ (q : Pos). P q.row) (sym (moved-before right start old new p is)) (before (row_before p start is))
      by_start false is = by_end is (is_before (further start old) p) refl

  least_moved : (low : ℕ) → low ≤ p.row → least_row top old_row new_row low ≤ (moved_place right start old new p).row
  least_moved low few =
      by_place (λ (n : ℕ). least_row top old_row new_row low ≤ n)
      (λ before. least_before top old_row new_row up down fits p.row low few before)
      (λ behind goes. least_behind top old_row new_row up down fits p.row low few behind)
      (λ from still. (let least : least_row top old_row new_row low ≤ top = least_inside top old_row new_row up down fits p.row low few still in (least, omega (arith, least, up))))

  greatest_moved : (high : ℕ) → p.row ≤ high → (moved_place right start old new p).row < 2 ^ 32 → (moved_place right start old new p).row ≤ greatest_row top old_row new_row high
  greatest_moved high few narrow =
      by_place (λ (n : ℕ). n ≤ greatest_row top old_row new_row high)
      (λ before. greatest_before top old_row new_row up down fits p.row high few before)
      (λ behind goes. greatest_behind top old_row new_row up down fits p.row high few behind (subst (λ (n : ℕ). n < 2 ^ 32) goes narrow))
      (λ from still. (let most : new_row ≤ greatest_row top old_row new_row high = greatest_inside top old_row new_row up down fits p.row high few from in (omega (arith, most, up), most)))

-- ---- marks that move, and their bands
module _ (start : Pos) (old new : Extent) (fits : (further start new).row < 2 ^ 32) where
  abbrev move : Band → Band
  move = moved_band start.row (further start old).row (further start new).row

  moves_in : (right far_right : Bool) (p e : Pos) (b : Band) → (moved_place right start old new p).row < 2 ^ 32 → (moved_place far_right start old new e).row < 2 ^ 32
      → is_in_band p.row e.row b ≡ true
      → is_in_band (moved_place right start old new p).row (moved_place far_right start old new e).row (move b) ≡ true
  moves_in right far_right p e b narrow far_narrow is =
      in_band (moved_place right start old new p).row (moved_place far_right start old new e).row (move b)
      (least_moved right start old new fits p b.first (first_in p.row e.row b is))
      (greatest_moved right start old new fits p b.last (last_in p.row e.row b is) narrow)
      (greatest_moved far_right start old new fits e b.end (end_in p.row e.row b is) far_narrow)

  pub moves_band : (bs : List Band) (m : Mark) → MovesNarrowly start old new m → HasBand bs m → HasBand (map move bs) (moved_mark start old new m)
  moves_band bs m narrow has = by_stop m.stop narrow.1 has
    where
      by_stop : (o : Option Far) → IfSome o (λ far. ((moved_place far.right start old new far.pos).row < 2 ^ 32) × ((moved_place far.right start old new far.pos).col < 2 ^ 32))
          → IfSome o (λ far. is_banded bs m.start.row far.pos.row ≡ true)
          → IfSome (option_map (moved_far start old new) o) (λ far. is_banded (map move bs) (moved_place m.right start old new m.start).row far.pos.row ≡ true)
      by_stop None far_narrow has = tt
      by_stop (Some far) far_narrow has =
          any_map (is_in_band m.start.row far.pos.row)
          (is_in_band (moved_place m.right start old new m.start).row (moved_place far.right start old new far.pos).row) move
          (λ b is. moves_in m.right far.right m.start far.pos b narrow.0.0 far_narrow.0 is) bs has

  -- a row stays where none goes and none comes
  same_row : (right : Bool) (p : Pos) → old.rows ≡ 0 → new.rows ≡ 0 → (moved_place right start old new p).row ≡ p.row
  same_row right p none_old none_new =
      by_place right start old new fits p (λ (n : ℕ). n ≡ p.row) (λ before. refl)
      (λ behind goes. omega (arith, behind, further-row start old, further-row start new, none_old, none_new))
      (λ from still. (omega (arith, from, still, further-row start old, none_old), omega (arith, from, still, further-row start old, further-row start new, none_old, none_new)))

  pub stays_banded : (bs : List Band) (m : Mark) → old.rows ≡ 0 → new.rows ≡ 0 → HasBand bs m → HasBand bs (moved_mark start old new m)
  stays_banded bs m none_old none_new has = by_stop m.stop has
    where
      by_stop : (o : Option Far) → IfSome o (λ far. is_banded bs m.start.row far.pos.row ≡ true)
          → IfSome (option_map (moved_far start old new) o) (λ far. is_banded bs (moved_place m.right start old new m.start).row far.pos.row ≡ true)
      by_stop None has = tt
      by_stop (Some far) has =
          ap (λ (s : ℕ). is_banded bs s (moved_place far.right start old new far.pos).row) (same_row m.right m.start none_old none_new)
          ∙ ap (λ (e : ℕ). is_banded bs m.start.row e) (same_row far.right far.pos none_old none_new) ∙ has

module _ (start : Pos) (old new : Extent) where
  pub banded_moved : (bs nows : List Band) (ms now : List Mark) → IsBanded bs ms → length nows ≡ length bs
      → ((m : Mark) → MovesNarrowly start old new m → HasBand bs m → HasBand nows (moved_mark start old new m))
      → All (MovesNarrowly start old new) ms → IsInOrder (map (moved_mark start old new) ms) now → IsBanded nows now
  banded_moved bs nows ms now banded len moved narrow ordered = record {
    some = omega (arith, banded.some, len);
    each = Each-permutation (HasBand nows) (map (moved_mark start old new) ms) now ordered.same_marks
        (Each-map (HasBand nows) (moved_mark start old new) ms
        (Each-weaker (λ (m : Mark). MovesNarrowly start old new m × HasBand bs m) (λ (m : Mark). HasBand nows (moved_mark start old new m))
        (λ m both. moved m both.0 both.1) ms
        (Each-both (MovesNarrowly start old new) (HasBand bs) ms (Each-from_all (MovesNarrowly start old new) ms narrow) banded.each)));
  }

-- ---- marks that go and that come
pub banded_none : (bs : List Band) (ps : List Piece) → 0 < length bs → ps ≡ [] → IsBanded bs (marks_among (spread_records ps))
banded_none bs ps some none = record {
  some = some;
  each = subst (λ (l : List Piece). ForEach (HasBand bs) (marks_among (spread_records l))) (sym none) tt;
}

pub banded_without : (ns id : ℕ) (bs : List Band) (ms now : List Mark) → IsBanded bs ms → now ≡ without ns id ms → IsBanded bs now
banded_without ns id bs ms now banded is = record {
  some = banded.some;
  each = subst (λ (l : List Mark). ForEach (HasBand bs) l) (sym is) (Each-filter (HasBand bs) (λ (m : Mark). not (is_named ns id m)) ms banded.each);
}

pub banded_filter : (t : Mark → Bool) (bs : List Band) (ms now : List Mark) → IsBanded bs ms → now ≡ filter t ms → IsBanded bs now
banded_filter t bs ms now banded is = record {
  some = banded.some;
  each = subst (λ (l : List Mark). ForEach (HasBand bs) l) (sym is) (Each-filter (HasBand bs) t ms banded.each);
}

pub banded_with : (m : Mark) (bs nows : List Band) (ms now : List Mark) → IsBanded bs ms → 0 < length nows
    → ((s e : ℕ) → is_banded bs s e ≡ true → is_banded nows s e ≡ true) → HasBand nows m → IsInOrder (m ∷ without m.ns m.id ms) now → IsBanded nows now
banded_with m bs nows ms now banded some kept own ordered = record {
  some = some;
  each = Each-permutation (HasBand nows) (m ∷ without m.ns m.id ms) now ordered.same_marks (
    own,
    Each-weaker (HasBand bs) (HasBand nows) (λ k has. more_bands bs nows kept k has) (without m.ns m.id ms)
        (Each-filter (HasBand bs) (λ (k : Mark). not (is_named m.ns m.id k)) ms banded.each),
  );
}

-- ---- marks that were put back
module _ (nows : List Band) where
  put_on : (ks : List Kept) (m last : Mark) → ForEach (λ k. is_named k.ns k.id m ≡ true → HasBand nows last) ks → put_back_mark ks m ≡ last
      → (m ≡ last → HasBand nows last) → HasBand nows last
  put_on [] m last each is stays = stays is
  put_on (k ∷ ks) m last each is stays = by_case (λ same. put_on ks m last each.1 same stays) (is_named k.ns k.id m) refl
    where
      by_case : (put_back_mark ks m ≡ last → HasBand nows last) → (b : Bool) → is_named k.ns k.id m ≡ b → HasBand nows last
      by_case rest true named = each.0 named
      by_case rest false other = rest (sym (ap (put_back_mark ks) (other_kept k m other)) ∙ is)

  named_is : (ns id : ℕ) (m : Mark) → is_named ns id m ≡ true → (m.ns ≡ ns) × (m.id ≡ id)
  named_is ns id m is = (grind (arith, nat_tests), grind (arith, nat_tests))

  own_of : (ks : List Kept) (all : List Kept) (ms now : List Mark) (m : Mark) → ((ns id : ℕ) → mark_at now ns id ≡ option_map (put_back_mark all) (mark_at ms ns id))
      → mark_at ms m.ns m.id ≡ Some m → ForEach (λ k. IfSome (mark_at now k.ns k.id) (HasBand nows)) ks
      → ForEach (λ k. is_named k.ns k.id m ≡ true → HasBand nows (put_back_mark all m)) ks
  own_of [] all ms now m found here each = tt
  own_of (k ∷ ks) all ms now m found here each = (of_one, own_of ks all ms now m found here each.1)
    where
      of_one : is_named k.ns k.id m ≡ true → HasBand nows (put_back_mark all m)
      of_one named =
          let is = named_is k.ns k.id m named in
          let there : mark_at now k.ns k.id ≡ Some (put_back_mark all m) =
          ap (λ (n : ℕ). mark_at now n k.id) (sym is.0) ∙ ap (λ (i : ℕ). mark_at now m.ns i) (sym is.1)
          ∙ found m.ns m.id ∙ ap (option_map (put_back_mark all)) here in
          subst (λ (o : Option Mark). IfSome o (HasBand nows)) there each.0

  pub banded_back : (ks : List Kept) (bs : List Band) (ms now : List Mark) (greatest : List (ℕ × ℕ)) → IsSound ms greatest → IsBanded bs ms → length nows ≡ length bs
      → ((s e : ℕ) → is_banded bs s e ≡ true → is_banded nows s e ≡ true)
      → ForEach (λ k. IfSome (mark_at now k.ns k.id) (HasBand nows)) ks
      → ((ns id : ℕ) → mark_at now ns id ≡ option_map (put_back_mark ks) (mark_at ms ns id)) → IsInOrder (map (put_back_mark ks) ms) now → IsBanded nows now
  banded_back ks bs ms now greatest sound banded len kept own found ordered = record {
    some = omega (arith, len, banded.some);
    each = Each-permutation (HasBand nows) (map (put_back_mark ks) ms) now ordered.same_marks
        (Each-map (HasBand nows) (put_back_mark ks) ms
        (Each-weaker (λ (m : Mark). HasBand bs m × (mark_at ms m.ns m.id ≡ Some m)) (λ (m : Mark). HasBand nows (put_back_mark ks m))
        (λ m both. put_on ks m (put_back_mark ks m) (own_of ks ks ms now m found both.1 own) refl
        (λ is. subst (HasBand nows) is (more_bands bs nows kept m both.0)))
        ms (Each-both (HasBand bs) (λ (m : Mark). mark_at ms m.ns m.id ≡ Some m) ms banded.each (each_found ms sound.distinct))));
  }

-- ---- which rows the marks start in that reach a row
near_has : (row start stop : ℕ) (bs : List Band) → start ≤ row → row ≤ stop → list_any (is_in_band start stop) bs ≡ true
    → list_any (has_row start) (filter (reaches_row row) bs) ≡ true
near_has row start stop [] before behind is = absurd cc
near_has row start stop (b ∷ bs) before behind is =
    by_case (near_has row start stop bs before behind) (is_in_band start stop b) refl is (reaches_row row b) refl
  where
    reaches : is_in_band start stop b ≡ true → reaches_row row b ≡ true
    reaches has =
        both_are (nat_le b.first row) (nat_le row b.end) (le_is b.first row (omega (arith, first_in start stop b has, before)))
        (le_is row b.end (omega (arith, behind, end_in start stop b has)))

    by_case : (list_any (is_in_band start stop) bs ≡ true → list_any (has_row start) (filter (reaches_row row) bs) ≡ true) → (c : Bool)
        → is_in_band start stop b ≡ c → (c || list_any (is_in_band start stop) bs) ≡ true → (d : Bool) → reaches_row row b ≡ d
        → list_any (has_row start) (cond d (b ∷ filter (reaches_row row) bs) (filter (reaches_row row) bs)) ≡ true
    by_case rest true has holds true far =
        any_first (has_row start b) (list_any (has_row start) (filter (reaches_row row) bs)) (first_is (has_row start b) (nat_le stop b.end) has)
    by_case rest true has holds false far = absurd (both_ways (reaches_row row b) far (reaches has))
    by_case rest false has holds true far = any_else (has_row start b) (list_any (has_row start) (filter (reaches_row row) bs)) (rest holds)
    by_case rest false has holds false far = rest holds

from_row : (far from : Pos) → not (is_before far from) ≡ true → from.row ≤ far.row
from_row far from is = row_from from far (by_case (is_before far from) is)
  where
    by_case : (b : Bool) → not b ≡ true → b ≡ false
    by_case true is = absurd cc
    by_case false is = refl

pub reach_known : (bs near : List Band) (q : Query) (rs : List Record) → IsBanded bs (marks_among rs)
    → (q.reaching ≡ true → near ≡ filter (reaches_row q.from.row) bs) → ForEach (IsReachKnown near q rs) rs
reach_known bs near q rs banded is =
    Each-weaker (λ (r : Record). is_start r ≡ true → HasBand bs (mark_among rs r)) (IsReachKnown near q rs)
    (λ r has reach start before stops. of_one r (end_among rs r.info.ns r.info.id) (has (ap not start)) reach before stops) rs
    (each_unfiltered (λ (r : Record). HasBand bs (mark_among rs r)) is_start rs (Each-unmap (HasBand bs) (mark_among rs) (filter is_start rs) banded.each))
  where
    of_one : (r : Record) (o : Option Far) → IfSome o (λ far. is_banded bs r.pos.row far.pos.row ≡ true) → q.reaching ≡ true → is_before r.pos q.from ≡ true
        → stops_from q.from o ≡ true → list_any (has_row r.pos.row) near ≡ true
    of_one r None has reach before stops = absurd cc
    of_one r (Some far) has reach before stops =
        subst (λ (l : List Band). list_any (has_row r.pos.row) l ≡ true) (sym (is reach))
        (near_has q.from.row r.pos.row far.pos.row bs (row_before r.pos q.from before) (from_row far.pos q.from stops) has)

-- ---- a chunk from which none reaches
no_row : (low high row : ℕ) (bs : List Band) → low ≤ row → row ≤ high → list_any (meets_rows low high) bs ≡ false → list_any (has_row row) bs ≡ false
no_row low high row [] from to none = refl
no_row low high row (b ∷ bs) from to none =
    let apart = neither (meets_rows low high b) (list_any (meets_rows low high) bs) none in
    ap (λ (c : Bool). c || list_any (has_row row) bs) (by_case (has_row row b) refl apart.0) ∙ no_row low high row bs from to apart.1
  where
    by_case : (c : Bool) → has_row row b ≡ c → meets_rows low high b ≡ false → has_row row b ≡ false
    by_case false is apart = is
    by_case true is apart =
        let first : b.first ≤ row = le_of b.first row (first_is (nat_le b.first row) (nat_le row b.last) is) in
        let last : row ≤ b.last = le_of row b.last (second_is (nat_le b.first row) (nat_le row b.last) is) in
        absurd (both_ways (meets_rows low high b) apart
        (both_are (nat_le b.first high) (nat_le low b.last) (le_is b.first high (omega (arith, first, to))) (le_is low b.last (omega (arith, from, last)))))

up_to_last : (base : Pos) (d : Relative) (ks : List Relative) (i : ℕ) → length ks ≡ i + 1 → Sort (map (placed_record base) ks)
    → ForEach (λ (r : Record). is_before (further base (get_or ks i d).by) r.pos ≡ false) (map (placed_record base) ks)
up_to_last base d [] i len up = tt
up_to_last base d (k ∷ ks) zero len up = (before_itself (further base k.by), of_none ks (omega (arith, len)))
  where
    of_none : (js : List Relative) → length js ≡ 0 → ForEach (λ (r : Record). is_before (further base k.by) r.pos ≡ false) (map (placed_record base) js)
    of_none [] none = tt
    of_none (j ∷ js) none = absurd (omega (arith, none))
up_to_last base d (k ∷ ks) (suc i) len up =
    let few : length ks ≡ i + 1 = omega (arith, len) in (
      follows (placed_record base (get_or ks i d)) (placed_record base k)
          (Each-get_or (λ (j : Relative). precedes (placed_record base j) (placed_record base k) ≡ false) ks i d (omega (arith, few))
          (Each-unmap (λ (r : Record). precedes r (placed_record base k) ≡ false) (placed_record base) ks up.0)),
      up_to_last base d ks i few up.1,
    )

row_of : (base : Pos) (ks : List Relative) → ForEach (λ (r : Record). base.row ≤ r.pos.row) (map (placed_record base) ks)
row_of base [] = tt
row_of base (k ∷ ks) = (omega (arith, further-row base k.by), row_of base ks)

low_row : (row s : ℕ) (bs : List Band) → ForEach (λ (b : Band). row ≤ b.first) bs → list_any (has_row s) bs ≡ true → row ≤ s
low_row row s [] each is = absurd cc
low_row row s (b ∷ bs) each is = by_case (low_row row s bs each.1) (has_row s b) refl is
  where
    by_case : (list_any (has_row s) bs ≡ true → row ≤ s) → (c : Bool) → has_row s b ≡ c → (c || list_any (has_row s) bs) ≡ true → row ≤ s
    by_case rest true has holds = omega (arith, each.0, le_of b.first s (first_is (nat_le b.first s) (nat_le s b.last) has))
    by_case rest false has holds = rest holds

row_early : (row : ℕ) (p : Pos) → is_before p (record { row = row; col = 0 }) ≡ true → p.row < row
row_early row p before = grind (arith, nat_tests)

before_row : (p q : Pos) → p.row < q.row → is_before p q ≡ true
before_row p q above = grind (arith, nat_tests)

module _ (all : List Record) (q : Query) (bs : List Band) where
  unreached : (r : Record) → is_before r.pos q.from ≡ true → (q.reaching ≡ true → stops_from q.from (end_among all r.info.ns r.info.id) ≡ true → true ≡ false)
      → is_selected q (mark_among all r) ≡ false
  unreached r before never =
      ap (λ (b : Bool). is_meant q.ns r.info.ns && (not (is_before q.to r.pos) && (not b || (q.reaching && stops_from q.from (end_among all r.info.ns r.info.id))))) before
      ∙ tests (is_meant q.ns r.info.ns) (is_before q.to r.pos) q.reaching (stops_from q.from (end_among all r.info.ns r.info.id)) never
    where
      tests : (a b g s : Bool) → (g ≡ true → s ≡ true → true ≡ false) → (a && (not b && (not true || (g && s)))) ≡ false
      tests false b g s none = refl
      tests true true g s none = refl
      tests true false false s none = refl
      tests true false true false none = refl
      tests true false true true none = none refl refl

  pub early_from : (r : Record) → q.reaching ≡ false → is_before r.pos q.from ≡ true → is_selected q (mark_among all r) ≡ false
  early_from r plain before = unreached r before (λ reach stops. sym reach ∙ plain)

  pub early_row : (row : ℕ) (r : Record) → IsReachKnown bs q all r → r.info.is_end ≡ false → row ≤ q.from.row → ForEach (λ (b : Band). row ≤ b.first) bs
      → is_before r.pos (record { row = row; col = 0 }) ≡ true → is_selected q (mark_among all r) ≡ false
  early_row row r known start up each before =
      let low : r.pos.row < row = row_early row r.pos before in
      let early : is_before r.pos q.from ≡ true = before_row r.pos q.from (omega (arith, low, up)) in
      unreached r early (λ reach stops. absurd (omega (arith, low, low_row row r.pos.row bs each (known reach start early stops))))

  unasked : (r : Record) (low : ℕ) (last : Pos) → IsReachKnown bs q all r → is_before last q.from ≡ true → is_before last r.pos ≡ false → low ≤ r.pos.row
      → list_any (meets_rows low last.row) bs ≡ false → r.info.is_end ≡ false → is_selected q (mark_among all r) ≡ false
  unasked r low last known above up_to from apart start =
      let before : is_before r.pos q.from ≡ true = before_far r.pos last q.from up_to above in
      unreached r before (λ reach stops. sym (known reach start before stops) ∙ no_row low last.row r.pos.row bs from (row_from r.pos last up_to) apart)

  none_listed : (xs : List Record) → ForEach (λ (r : Record). r.info.is_end ≡ false → is_selected q (mark_among all r) ≡ false) xs → listed_marks all q xs ≡ []
  none_listed [] each = refl
  none_listed (x ∷ xs) each = by_case (none_listed xs each.1) x.info.is_end refl (is_within (first_start q) q.to x.pos)
    where
      by_case : listed_marks all q xs ≡ [] → (b : Bool) → x.info.is_end ≡ b → (c : Bool)
          → filter (is_selected q) (map (mark_among all) (cond (not b && c) (x ∷ filter (λ r. is_start r && is_within (first_start q) q.to r.pos) xs)
          (filter (λ r. is_start r && is_within (first_start q) q.to r.pos) xs))) ≡ []
      by_case rest true is c = rest
      by_case rest false is true =
          ap (λ (b : Bool). cond b (mark_among all x ∷ listed_marks all q xs) (listed_marks all q xs)) (each.0 is) ∙ rest
      by_case rest false is false = rest

  pub passed_chunk : (base : Pos) (ks : List Relative) (i : ℕ) (d : Relative) → is_before (further base (get_or ks i d).by) q.from ≡ true
      → list_any (meets_rows base.row (further base (get_or ks i d).by).row) bs ≡ false → length ks ≡ i + 1 → Sort (map (placed_record base) ks)
      → ForEach (IsReachKnown bs q all) (map (placed_record base) ks) → listed_marks all q (map (placed_record base) ks) ≡ []
  passed_chunk base ks i d above apart len up known =
      let last : Pos = further base (get_or ks i d).by in
      none_listed (map (placed_record base) ks)
      (Each-weaker (λ (r : Record). IsReachKnown bs q all r × ((is_before last r.pos ≡ false) × (base.row ≤ r.pos.row)))
      (λ (r : Record). r.info.is_end ≡ false → is_selected q (mark_among all r) ≡ false)
      (λ r facts start. unasked r base.row last facts.0 above facts.1.0 facts.1.1 apart start) (map (placed_record base) ks)
      (Each-both (IsReachKnown bs q all) (λ (r : Record). (is_before last r.pos ≡ false) × (base.row ≤ r.pos.row)) (map (placed_record base) ks) known
      (Each-both (λ (r : Record). is_before last r.pos ≡ false) (λ (r : Record). base.row ≤ r.pos.row) (map (placed_record base) ks)
      (up_to_last base d ks i len up) (row_of base ks))))
