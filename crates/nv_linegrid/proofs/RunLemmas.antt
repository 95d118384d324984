-- Runs tell their cells, and name only ids of these.
use Rattle.std.proofs.Common.{◌≡◌, ℕ, ◌+◌, ◌<◌, ltb, List, [], ◌∷◌, ◌++◌, replicate, Bool, true, false, cond, Option, Some, None, is_some, refl, ap, sym, ◌∙◌, append_assoc, subst, arith}
use Rattle.std.proofs.lemmas.Bool.{and_parts, eqb-true, false≢true}
use Rattle.std.proofs.lemmas.Bool.Decides.{nat_tests}
use Rattle.std.proofs.lemmas.List.{replicate-append-replicate}
use Rattle.std.specs.Cmp.Derive.{both_true}
use Rattle.std.specs.List.{AllByRecursion}
use Rattle.nv_hl.specs.declared.attribute.Attr.{Attr}
use Rattle.nv_linegrid.specs.declared.event.Run.{Run}
use Rattle.nv_linegrid.specs.declared.event.Run.TheVariants.{Same, One, Times}
use Rattle.nv_linegrid.specs.Client.{Shown, attr_of_id, cells_before, cells_told, names_known_ids}
use Rattle.nv_linegrid.specs.Rows.{is_half, are_one_run, is_last_id, run_of, runs_from, runs_of}
use Rattle.nv_linegrid.proofs.SameLemmas.{same_shown_is}

one_cell : (n : ℕ) → 0 < n → ltb 1 n ≡ false → n ≡ 1
one_cell n some few = grind (arith, nat_tests)

-- a run tells its cells
run_tells : (last : Option ℕ) (c : Shown) (n : ℕ) (rest : List Run) → 0 < n
    → cells_told last (run_of last c n ∷ rest) ≡ cells_before (replicate n c) (cells_told (Some c.id) rest)
run_tells last c n rest some = by (ltb 1 n) (is_last_id last c.id) refl refl
  where
    one : cells_before (c ∷ []) (cells_told (Some c.id) rest) ≡ cells_before (replicate 1 c) (cells_told (Some c.id) rest)
    one = refl

    same : (l : Option ℕ) → is_last_id l c.id ≡ true
        → cells_told l (Same c.text ∷ rest) ≡ cells_before (replicate 1 c) (cells_told (Some c.id) rest)
    same None e = absurd (false≢true e)
    same (Some id) e =
        subst (λ (k : ℕ). cells_told (Some k) (Same c.text ∷ rest) ≡ cells_before (replicate 1 c) (cells_told (Some c.id) rest))
        (sym (eqb-true id c.id e)) refl

    by : (many known : Bool) → ltb 1 n ≡ many → is_last_id last c.id ≡ known
        → cells_told last (cond many (Times c.text c.id n) (cond known (Same c.text) (One c.text c.id)) ∷ rest)
        ≡ cells_before (replicate n c) (cells_told (Some c.id) rest)
    by true known e f = refl
    by false true e f =
        same last f ∙ ap (λ k. cells_before (replicate k c) (cells_told (Some c.id) rest)) (sym (one_cell n some e))
    by false false e f =
        one ∙ ap (λ k. cells_before (replicate k c) (cells_told (Some c.id) rest)) (sym (one_cell n some e))

-- one cell more of the same
one_more : (n : ℕ) (c : Shown) (ys : List Shown) → replicate (n + 1) c ++ ys ≡ replicate n c ++ c ∷ ys
one_more n c ys =
    ap (λ xs. xs ++ ys) (sym (replicate-append-replicate n 1 c)) ∙ append_assoc (replicate n c) (replicate 1 c) ys

from_tells : (last : Option ℕ) (c : Shown) (half : Bool) (n : ℕ) (ys : List Shown) → 0 < n
    → cells_told last (runs_from last c half n ys) ≡ Some (replicate n c ++ ys)
from_tells last c half n [] some = run_tells last c n [] some
from_tells last c half n (y ∷ ys) some =
    by (are_one_run c half y (is_half y ys)) refl (from_tells last c half (n + 1) ys (omega arith))
    (from_tells (Some c.id) y (is_half y ys) 1 ys (omega arith))
  where
    by : (b : Bool) → are_one_run c half y (is_half y ys) ≡ b
        → cells_told last (runs_from last c half (n + 1) ys) ≡ Some (replicate (n + 1) c ++ ys)
        → cells_told (Some c.id) (runs_from (Some c.id) y (is_half y ys) 1 ys) ≡ Some (replicate 1 y ++ ys)
        → cells_told last (cond b (runs_from last c half (n + 1) ys) (run_of last c n ∷ runs_from (Some c.id) y (is_half y ys) 1 ys))
        ≡ Some (replicate n c ++ y ∷ ys)
    by true e more behind =
        let p = and_parts _ _ (and_parts _ _ e).0 in
        let is = same_shown_is c y p.0 in
        more ∙ ap Some (one_more n c ys) ∙ ap (λ x. Some (replicate n c ++ x ∷ ys)) is
    by false e more behind =
        run_tells last c n (runs_from (Some c.id) y (is_half y ys) 1 ys) some
        ∙ ap (cells_before (replicate n c)) behind

pub runs_tell : (cs : List Shown) → cells_told None (runs_of cs) ≡ Some cs
runs_tell [] = refl
runs_tell (c ∷ cs) = from_tells None c (is_half c cs) 1 cs (omega arith)

-- ---- ids

abbrev pub IsKnown : List (ℕ × Attr) → Shown → Type 0
IsKnown table c = is_some (attr_of_id table c.id) ≡ true

run_names : (table : List (ℕ × Attr)) (last : Option ℕ) (c : Shown) (n : ℕ) (rest : List Run) → IsKnown table c
    → names_known_ids table rest ≡ true → names_known_ids table (run_of last c n ∷ rest) ≡ true
run_names table last c n rest known more = by (ltb 1 n) (is_last_id last c.id)
  where
    by : (many same : Bool) → names_known_ids table (cond many (Times c.text c.id n) (cond same (Same c.text) (One c.text c.id)) ∷ rest) ≡ true
    by true same = both_true known more
    by false true = more
    by false false = both_true known more

from_names : (table : List (ℕ × Attr)) (last : Option ℕ) (c : Shown) (half : Bool) (n : ℕ) (ys : List Shown)
    → IsKnown table c → AllByRecursion (IsKnown table) ys → names_known_ids table (runs_from last c half n ys) ≡ true
from_names table last c half n [] known all = run_names table last c n [] known refl
from_names table last c half n (y ∷ ys) known all =
    by (are_one_run c half y (is_half y ys)) (from_names table last c half (n + 1) ys known all.1)
    (run_names table last c n (runs_from (Some c.id) y (is_half y ys) 1 ys) known (from_names table (Some c.id) y (is_half y ys) 1 ys all.0 all.1))
  where
    by : (b : Bool) → names_known_ids table (runs_from last c half (n + 1) ys) ≡ true
        → names_known_ids table (run_of last c n ∷ runs_from (Some c.id) y (is_half y ys) 1 ys) ≡ true
        → names_known_ids table (cond b (runs_from last c half (n + 1) ys) (run_of last c n ∷ runs_from (Some c.id) y (is_half y ys) 1 ys)) ≡ true
    by true more behind = more
    by false more behind = behind

pub runs_name : (table : List (ℕ × Attr)) (cs : List Shown) → AllByRecursion (IsKnown table) cs
    → names_known_ids table (runs_of cs) ≡ true
runs_name table [] all = refl
runs_name table (c ∷ cs) all = from_names table None c (is_half c cs) 1 cs all.0 all.1
