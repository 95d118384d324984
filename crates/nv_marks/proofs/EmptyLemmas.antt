-- A set with no marks keeps and clears none, and marks stay if nothing was kept.
use Rattle.std.proofs.Common.{◌≡◌, List, [], ◌∷◌, ◌++◌, ℕ, length, refl, ap, sym, map, arith, Bool, true, eqb, subst, Some, None, Option}
use Rattle.std.specs.Prelude.{filter, option_map}
use Rattle.std.proofs.lemmas.Bool.Decides.{nat_tests}
use Rattle.std.proofs.lemmas.List.{append-nil}
use Rattle.std.proofs.lemmas.List.Sorted.{IsPermutation-refl}
use Rattle.nv_places.specs.declared.place.Pos.{Pos}
use Rattle.nv_places.specs.declared.place.Extent.{Extent}
use Rattle.nv_marks.specs.Keeping.{kept_marks, put_back_mark}
use Rattle.nv_marks.specs.Order.{IsInOrder}
use Rattle.nv_marks.specs.Queries.{is_cleared}
use Rattle.nv_marks.specs.Sound.{IsSound}
use Rattle.nv_marks.specs.declared.extmark.Mark.{Mark}
use Rattle.nv_marks.specs.declared.keeping.Kept.{Kept}

pub none_kept : (had : List Kept) (start : Pos) (old : Extent) (ms : List Mark) → length ms ≡ 0 → had ≡ had ++ kept_marks start old ms
none_kept had start old [] none = sym (append-nil had)
none_kept had start old (m ∷ ms) none = absurd (omega (arith, none))

pub none_cleared : (ns : Option ℕ) (from to : Pos) (ms found : List Mark) → length ms ≡ 0 → found ≡ [] → found ≡ filter (is_cleared ns from to) ms
none_cleared ns from to [] found none is = is
none_cleared ns from to (m ∷ ms) found none is = absurd (omega (arith, none))

pub is_nothing : (b : Bool) (n : ℕ) → b ≡ eqb n 0 → b ≡ true → n ≡ 0
is_nothing b n tells is = grind (arith, nat_tests)

each_stays : (ms : List Mark) → ms ≡ map (put_back_mark []) ms
each_stays [] = refl
each_stays (m ∷ ms) = ap (λ (l : List Mark). m ∷ l) (each_stays ms)

pub stay_in_order : (ks : List Kept) (ms : List Mark) (greatest : List (ℕ × ℕ)) → length ks ≡ 0 → IsSound ms greatest → IsInOrder (map (put_back_mark ks) ms) ms
stay_in_order [] ms greatest none sound =
    subst (λ (l : List Mark). IsInOrder l ms) (each_stays ms) (record { same_marks = IsPermutation-refl ms; in_order = sound.in_order })
stay_in_order (k ∷ ks) ms greatest none sound = absurd (omega (arith, none))

pub stays_found : (ks : List Kept) (o : Option Mark) → length ks ≡ 0 → o ≡ option_map (put_back_mark ks) o
stays_found [] None none = refl
stays_found [] (Some m) none = refl
stays_found (k ∷ ks) o none = absurd (omega (arith, none))
