-- What is found of a part among what the last steps of parts kept, once a step of a part kept this.
use Rattle.std.proofs.Common.{◌≡◌, ℕ, List, [], ◌∷◌, ◌++◌, refl, ap, sym, ◌∙◌, arith, Bool, true, false, cond, not, eqb, ◌&&◌, filter, Option, Some, None, unwrap_or}
use Rattle.std.specs.Prelude.{option_map, option_to_list}
use Rattle.std.specs.BTreeMap.{insert_entry, is_at}
use Rattle.std.specs.Map.{lookup}
use Rattle.std.specs.Ordering.{is_eq, match_ordering, nat_cmp, ordering_then}
use Rattle.std.specs.declared.cmp.Ordering.{Ordering}
use Rattle.std.specs.declared.cmp.Ordering.TheVariants.{Less, Equal, Greater}
use Rattle.std.proofs.lemmas.Bool.Decides.{nat_tests}
use Rattle.std.proofs.lemmas.Grind.{common_steps}
use Rattle.nv_marks.specs.declared.keeping.Kept.{Kept}
use Rattle.nv_buffer.specs.KeptMarks.{is_of_part, kept_at, part_order, with_part}
use Rattle.nv_buffer.specs.declared.edit.ChangePart.{ChangePart}
use Rattle.nv_model.specs.Buffers.{KeptState, is_same_part, kept_with, last_kept}

abbrev Entry : Type 0
Entry = (ℕ × ℕ) × List Kept

-- an entry is of a part where its two numbers are those of the part
pub part_test : (a i b j : ℕ) → is_eq (ordering_then (nat_cmp a b) (nat_cmp i j)) ≡ (eqb a b && eqb i j)
part_test a i b j = grind (arith, common_steps, nat_tests)

same_numbers : (a i b j : ℕ) → (eqb a b && eqb i j) ≡ true → (a ≡ b) × (i ≡ j)
same_numbers a i b j is = (let first : a ≡ b = grind (arith, nat_tests) in first, let second : i ≡ j = grind (arith, nat_tests) in second)

other_numbers : (a i b j c k : ℕ) → (eqb a b && eqb i j) ≡ false → (eqb b c && eqb j k) ≡ true → (eqb a c && eqb i k) ≡ false
other_numbers a i b j c k other is = grind (arith, nat_tests)

-- ---- among entries by part
-- an entry of a part isn't one of another part
apart : (q p : ChangePart) → is_same_part q p ≡ false → (e : ℕ × ℕ) → is_of_part p e ≡ true → is_of_part q e ≡ false
apart q p other e is =
    part_test q.change q.part e.0 e.1
    ∙ other_numbers q.change q.part p.change p.part e.0 e.1 other (sym (part_test p.change p.part e.0 e.1) ∙ is)

of_itself : (p : ChangePart) → is_of_part p (p.change, p.part) ≡ true
of_itself p = part_test p.change p.part p.change p.part ∙ same p.change p.part
  where
    same : (a i : ℕ) → (eqb a a && eqb i i) ≡ true
    same a i = grind (arith, nat_tests)

same_test : (q p : ChangePart) → is_same_part q p ≡ true → is_of_part q ≡ is_of_part p
same_test q p is =
    let same = same_numbers q.change q.part p.change p.part is in
    λ i. is_at (part_order (same.0 i, same.1 i))

none_left : (t : ℕ × ℕ → Bool) (es : List Entry) → lookup t (filter (λ e. not (t e.0)) es) ≡ None
none_left t [] = refl
none_left t (e ∷ es) = by_case (t e.0) refl (none_left t es)
  where
    by_case : (b : Bool) → t e.0 ≡ b → lookup t (filter (λ e. not (t e.0)) es) ≡ None
        → lookup t (cond (not b) (e ∷ filter (λ e. not (t e.0)) es) (filter (λ e. not (t e.0)) es)) ≡ None
    by_case true is rest = rest
    by_case false is rest = ap (λ (c : Bool). cond c (Some e.1) (lookup t (filter (λ e. not (t e.0)) es))) is ∙ rest

others_left : (t u : ℕ × ℕ → Bool) → ((e : ℕ × ℕ) → u e ≡ true → t e ≡ false) → (es : List Entry)
    → lookup t (filter (λ e. not (u e.0)) es) ≡ lookup t es
others_left t u other [] = refl
others_left t u other (e ∷ es) = by_case (u e.0) refl (others_left t u other es)
  where
    by_case : (b : Bool) → u e.0 ≡ b → lookup t (filter (λ e. not (u e.0)) es) ≡ lookup t es
        → lookup t (cond (not b) (e ∷ filter (λ e. not (u e.0)) es) (filter (λ e. not (u e.0)) es)) ≡ cond (t e.0) (Some e.1) (lookup t es)
    by_case true is rest =
        rest
        ∙ sym (ap (λ (c : Bool). cond c (Some e.1) (lookup t es)) (other e.0 is))
    by_case false is rest = ap (λ (o : Option (List Kept)). cond (t e.0) (Some e.1) o) rest

put_there : (p : ChangePart) (ks : List Kept) (es : List Entry)
    → lookup (is_of_part p) (insert_entry part_order es (p.change, p.part) ks) ≡ Some ks
put_there p ks [] = ap (λ (c : Bool). cond c (Some ks) None) (of_itself p)
put_there p ks (e ∷ es) = by_case (part_order (p.change, p.part) e.0) refl (put_there p ks es)
  where
    by_case : (o : Ordering) → part_order (p.change, p.part) e.0 ≡ o
        → lookup (is_of_part p) (insert_entry part_order es (p.change, p.part) ks) ≡ Some ks
        → lookup (is_of_part p)
        (match_ordering o (((p.change, p.part), ks) ∷ e ∷ es) ((e.0, ks) ∷ es) (e ∷ insert_entry part_order es (p.change, p.part) ks))
        ≡ Some ks
    by_case Less is rest = ap (λ (c : Bool). cond c (Some ks) (lookup (is_of_part p) (e ∷ es))) (of_itself p)
    by_case Equal is rest = ap (λ (o : Ordering). cond (is_eq o) (Some ks) (lookup (is_of_part p) es)) is
    by_case Greater is rest =
        ap (λ (o : Ordering). cond (is_eq o) (Some e.1) (lookup (is_of_part p) (insert_entry part_order es (p.change, p.part) ks))) is
        ∙ rest

put_elsewhere : (q p : ChangePart) (ks : List Kept) (es : List Entry) → is_same_part q p ≡ false
    → lookup (is_of_part q) (insert_entry part_order es (p.change, p.part) ks) ≡ lookup (is_of_part q) es
put_elsewhere q p ks [] other = ap (λ (c : Bool). cond c (Some ks) None) (apart q p other (p.change, p.part) (of_itself p))
put_elsewhere q p ks (e ∷ es) other = by_case (part_order (p.change, p.part) e.0) refl (put_elsewhere q p ks es other)
  where
    by_case : (o : Ordering) → part_order (p.change, p.part) e.0 ≡ o
        → lookup (is_of_part q) (insert_entry part_order es (p.change, p.part) ks) ≡ lookup (is_of_part q) es
        → lookup (is_of_part q)
        (match_ordering o (((p.change, p.part), ks) ∷ e ∷ es) ((e.0, ks) ∷ es) (e ∷ insert_entry part_order es (p.change, p.part) ks))
        ≡ cond (is_of_part q e.0) (Some e.1) (lookup (is_of_part q) es)
    by_case Less is rest =
        ap (λ (c : Bool). cond c (Some ks) (lookup (is_of_part q) (e ∷ es))) (apart q p other (p.change, p.part) (of_itself p))
    by_case Equal is rest =
        let none : is_of_part q e.0 ≡ false = apart q p other e.0 (ap is_eq is) in
        ap (λ (c : Bool). cond c (Some ks) (lookup (is_of_part q) es)) none
        ∙ sym (ap (λ (c : Bool). cond c (Some e.1) (lookup (is_of_part q) es)) none)
    by_case Greater is rest = ap (λ (o : Option (List Kept)). cond (is_of_part q e.0) (Some e.1) o) rest

-- the part itself has what was kept last
pub kept_here : (q p : ChangePart) (ks : List Kept) (es : List Entry) → is_same_part q p ≡ true → kept_at (with_part p ks es) q ≡ ks
kept_here q p [] es is =
    ap (λ (t : ℕ × ℕ → Bool). unwrap_or (lookup t (filter (λ e. not (is_of_part p e.0)) es)) []) (same_test q p is)
    ∙ ap (λ (o : Option (List Kept)). unwrap_or o []) (none_left (is_of_part p) es)
kept_here q p (k ∷ ks) es is =
    ap (λ (t : ℕ × ℕ → Bool). unwrap_or (lookup t (insert_entry part_order es (p.change, p.part) (k ∷ ks))) []) (same_test q p is)
    ∙ ap (λ (o : Option (List Kept)). unwrap_or o []) (put_there p (k ∷ ks) es)

-- and each other one what it had
pub kept_elsewhere : (q p : ChangePart) (ks : List Kept) (es : List Entry) → is_same_part q p ≡ false
    → kept_at (with_part p ks es) q ≡ kept_at es q
kept_elsewhere q p [] es other =
    ap (λ (o : Option (List Kept)). unwrap_or o []) (others_left (is_of_part q) (is_of_part p) (apart q p other) es)
kept_elsewhere q p (k ∷ ks) es other =
    ap (λ (o : Option (List Kept)). unwrap_or o []) (put_elsewhere q p (k ∷ ks) es other)

-- ---- in the state of a mark
abbrev States : Type 0
States = List (ChangePart × KeptState)

abbrev only : ChangePart → Option KeptState → States
only p now = option_to_list (option_map (λ k. (p, k)) now)

same_parts : (a b c : ChangePart) → is_same_part a b ≡ true → is_same_part b c ≡ false → is_same_part a c ≡ false
same_parts a b c is other = numbers a.change a.part b.change b.part c.change c.part is other
  where
    numbers : (i j k l m n : ℕ) → (eqb i k && eqb j l) ≡ true → (eqb k m && eqb l n) ≡ false → (eqb i m && eqb j n) ≡ false
    numbers i j k l m n is other = grind (arith, nat_tests)

not_same : (a b c : ChangePart) → is_same_part a b ≡ false → is_same_part b c ≡ true → is_same_part a c ≡ false
not_same a b c other is = other_numbers a.change a.part b.change b.part c.change c.part other is

pub state_kept_here : (q p : ChangePart) (now : Option KeptState) (es : States) → is_same_part q p ≡ true
    → last_kept q (kept_with p now es) ≡ now
state_kept_here q p None [] is = refl
state_kept_here q p (Some k) [] is = ap (λ (c : Bool). cond c (Some k) None) is
state_kept_here q p now (e ∷ es) is = by_case (is_same_part p e.0) refl (state_kept_here q p now es is)
  where
    by_case : (b : Bool) → is_same_part p e.0 ≡ b → last_kept q (kept_with p now es) ≡ now
        → lookup (is_same_part q) (cond (not b) (e ∷ filter (λ e. not (is_same_part p e.0)) es) (filter (λ e. not (is_same_part p e.0)) es) ++ only p now)
        ≡ now
    by_case true of rest = rest
    by_case false of rest =
        ap (λ (c : Bool). cond c (Some e.1) (lookup (is_same_part q) (filter (λ e. not (is_same_part p e.0)) es ++ only p now))) (same_parts q p e.0 is of)
        ∙ rest

pub state_kept_elsewhere : (q p : ChangePart) (now : Option KeptState) (es : States) → is_same_part q p ≡ false
    → last_kept q (kept_with p now es) ≡ last_kept q es
state_kept_elsewhere q p None [] other = refl
state_kept_elsewhere q p (Some k) [] other = ap (λ (c : Bool). cond c (Some k) None) other
state_kept_elsewhere q p now (e ∷ es) other = by_case (is_same_part p e.0) refl (state_kept_elsewhere q p now es other)
  where
    by_case : (b : Bool) → is_same_part p e.0 ≡ b → last_kept q (kept_with p now es) ≡ last_kept q es
        → lookup (is_same_part q) (cond (not b) (e ∷ filter (λ e. not (is_same_part p e.0)) es) (filter (λ e. not (is_same_part p e.0)) es) ++ only p now)
        ≡ cond (is_same_part q e.0) (Some e.1) (lookup (is_same_part q) es)
    by_case true of rest =
        rest
        ∙ sym (ap (λ (c : Bool). cond c (Some e.1) (lookup (is_same_part q) es)) (not_same q p e.0 other of))
    by_case false of rest = ap (λ (o : Option KeptState). cond (is_same_part q e.0) (Some e.1) o) rest
