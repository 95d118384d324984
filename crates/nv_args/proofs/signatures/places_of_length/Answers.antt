use Rattle.std.proofs.Common.{◌≡◌, ℕ, List, [], ◌∷◌, length, map, Some, refl, sym, ap, ◌∙◌, arith}
use Rattle.std.specs.Prelude.{◌==◌, slice_get}
use Rattle.std.specs.List.{filter}
use Rattle.nv_args.specs.Table.{table}
use Rattle.nv_args.specs.inside.Lookup.{of_length}
use Rattle.nv_args.proofs.NameLookup.{neither, none_of_length, not_same}
use Rattle.nv_args.proofs.signatures.places_of_length.Goals as goal

-- the methods whose names have a length
by_count : (places : List ℕ) (n count : ℕ) → map (slice_get table) places ≡ map Some (filter (λ signature. length signature.name == n) table) → count ≡ n
    → map (slice_get table) places ≡ map Some (of_length count table)
unfolding of_length
by_count places n count are is = are ∙ ap (λ (k : ℕ). map Some (of_length k table)) (sym is)

pub returns-in-11 : goal.returns-in-11
returns-in-11 c = by_count (31 ∷ 32 ∷ []) 11 c.args.count refl c.in-11.is

pub returns-in-12 : goal.returns-in-12
returns-in-12 c = by_count (3 ∷ []) 12 c.args.count refl c.in-12.is

pub returns-in-13 : goal.returns-in-13
returns-in-13 c = by_count (4 ∷ 37 ∷ 61 ∷ []) 13 c.args.count refl c.in-13.is

pub returns-in-14 : goal.returns-in-14
returns-in-14 c = by_count (7 ∷ 34 ∷ 38 ∷ 57 ∷ 58 ∷ []) 14 c.args.count refl c.in-14.is

pub returns-in-15 : goal.returns-in-15
returns-in-15 c = by_count (10 ∷ 11 ∷ 22 ∷ 23 ∷ []) 15 c.args.count refl c.in-15.is

pub returns-in-16 : goal.returns-in-16
returns-in-16 c = by_count (2 ∷ 40 ∷ 41 ∷ []) 16 c.args.count refl c.in-16.is

pub returns-in-17 : goal.returns-in-17
returns-in-17 c = by_count (0 ∷ 12 ∷ 13 ∷ 14 ∷ 20 ∷ 21 ∷ 39 ∷ []) 17 c.args.count refl c.in-17.is

pub returns-in-18 : goal.returns-in-18
returns-in-18 c = by_count (18 ∷ 19 ∷ 45 ∷ 47 ∷ 50 ∷ 59 ∷ 60 ∷ []) 18 c.args.count refl c.in-18.is

pub returns-in-19 : goal.returns-in-19
returns-in-19 c = by_count (15 ∷ 17 ∷ 25 ∷ 42 ∷ 43 ∷ 44 ∷ 46 ∷ []) 19 c.args.count refl c.in-19.is

pub returns-in-20 : goal.returns-in-20
returns-in-20 c = by_count (1 ∷ 8 ∷ 9 ∷ 26 ∷ 27 ∷ 35 ∷ 36 ∷ 49 ∷ 55 ∷ []) 20 c.args.count refl c.in-20.is

pub returns-in-21 : goal.returns-in-21
returns-in-21 c = by_count (5 ∷ 6 ∷ 24 ∷ 29 ∷ 48 ∷ 53 ∷ []) 21 c.args.count refl c.in-21.is

pub returns-in-22 : goal.returns-in-22
returns-in-22 c = by_count (33 ∷ 54 ∷ []) 22 c.args.count refl c.in-22.is

pub returns-in-23 : goal.returns-in-23
returns-in-23 c = by_count (56 ∷ []) 23 c.args.count refl c.in-23.is

pub returns-in-24 : goal.returns-in-24
returns-in-24 c = by_count (16 ∷ 30 ∷ 51 ∷ 52 ∷ []) 24 c.args.count refl c.in-24.is

pub returns-in-26 : goal.returns-in-26
returns-in-26 c = by_count (28 ∷ []) 26 c.args.count refl c.in-26.is

pub returns-in_default : goal.returns-in_default
returns-in_default c = sym (ap (map Some) (none_of_length c.args.count (
    neither _ _ (not_same 11 c.args.count (omega arith))
    (neither _ _ (not_same 12 c.args.count (omega arith))
    (neither _ _ (not_same 13 c.args.count (omega arith))
    (neither _ _ (not_same 14 c.args.count (omega arith))
    (neither _ _ (not_same 15 c.args.count (omega arith))
    (neither _ _ (not_same 16 c.args.count (omega arith))
    (neither _ _ (not_same 17 c.args.count (omega arith))
    (neither _ _ (not_same 18 c.args.count (omega arith))
    (neither _ _ (not_same 19 c.args.count (omega arith))
    (neither _ _ (not_same 20 c.args.count (omega arith))
    (neither _ _ (not_same 21 c.args.count (omega arith))
    (neither _ _ (not_same 22 c.args.count (omega arith))
    (neither _ _ (not_same 23 c.args.count (omega arith))
    (neither _ _ (not_same 24 c.args.count (omega arith))
    (neither _ _ (not_same 26 c.args.count (omega arith))
    refl)))))))))))))))))
