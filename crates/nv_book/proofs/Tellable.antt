-- What the test of a value says.
use Rattle.std.proofs.Common.{◌≡◌, ◌⊎◌, ℕ, zero, suc, ◌+◌, ◌≤◌, Bool, true, false, List, [], ◌∷◌, length, refl, sym, ap, ◌∙◌, subst, arith, inl, inr, ⊎_elim}
use Rattle.std.specs.Prelude.{◌<◌, ◌-◌, ◌*◌, ◌^◌, ◌==◌, nat_lt, nat_le, max, ◌&&◌, ◌||◌}
use Rattle.std.proofs.lemmas.Bool.{ltb-true, lt-ltb, leb-true, le-leb, eqb-true, eq-eqb}
use Rattle.nv_value.specs.Content.{Tree, Trees, nil, truth, integer, big, text, bin, list, pairs, ext, opaque, no_more, one, count}
use Rattle.nv_msgpack.specs.Shortest.{HasSpelling, HaveSpellings, depth, depths}
use Rattle.nv_book.specs.inside.Fitness.{is_short, is_tellable, are_tellable}

both : (a b : Bool) → (a && b) ≡ true → (a ≡ true) × (b ≡ true)
both true true e = (refl, refl)
both true false e = cc
both false b e = cc

both_back : (a b : Bool) → a ≡ true → b ≡ true → (a && b) ≡ true
both_back true true e f = refl
both_back true false e f = cc
both_back false b e f = cc

either : (a b : Bool) → (a || b) ≡ true → (a ≡ true) ⊎ (b ≡ true)
either true b e = inl refl
either false true e = inr refl
either false false e = cc

either_left : (a b : Bool) → a ≡ true → (a || b) ≡ true
either_left true b e = refl
either_left false b e = cc

either_right : (a b : Bool) → b ≡ true → (a || b) ≡ true
either_right true b e = refl
either_right false b e = e

float_told : (n : ℕ) → ((n == 4) || (n == 8)) ≡ true → (n ≡ 4) ⊎ (n ≡ 8)
float_told n e = ⊎_elim (λ h. inl (eqb-true n 4 h)) (λ h. inr (eqb-true n 8 h)) (either (n == 4) (n == 8) e)

float_back : (n : ℕ) → (n ≡ 4) ⊎ (n ≡ 8) → ((n == 4) || (n == 8)) ≡ true
float_back n (inl h) = either_left (n == 4) (n == 8) (eq-eqb n 4 h)
float_back n (inr h) = either_right (n == 4) (n == 8) (eq-eqb n 8 h)

mutual
  -- a value that passes has a spelling
  pub spelling_told : (d : ℕ) (t : Tree) → is_tellable d t ≡ true → HasSpelling t
  spelling_told d nil e = tt
  spelling_told d (truth b) e = tt
  spelling_told d (integer z) e = tt
  spelling_told d (big n) e = leb-true (2 ^ 63) n e
  spelling_told d (text bytes) e = ltb-true (length bytes) (2 ^ 32) e
  spelling_told d (bin bytes) e = ltb-true (length bytes) (2 ^ 32) e
  spelling_told d (ext kind bytes) e = ltb-true (length bytes) (2 ^ 32) e
  spelling_told d (opaque bytes) e = float_told (length bytes) e
  spelling_told d (list ts) e =
      let p = both (nat_lt 0 d) (nat_lt (count ts) (2 ^ 32) && are_tellable (d - 1) ts) e in
      let q = both (nat_lt (count ts) (2 ^ 32)) (are_tellable (d - 1) ts) p.1 in
      (ltb-true (count ts) (2 ^ 32) q.0, spellings_told (d - 1) ts q.1)
  spelling_told d (pairs ts) e =
      let p = both (nat_lt 0 d) (nat_lt (count ts) (2 * 2 ^ 32) && are_tellable (d - 1) ts) e in
      let q = both (nat_lt (count ts) (2 * 2 ^ 32)) (are_tellable (d - 1) ts) p.1 in
      (ltb-true (count ts) (2 * 2 ^ 32) q.0, spellings_told (d - 1) ts q.1)

  spellings_told : (d : ℕ) (ts : Trees) → are_tellable d ts ≡ true → HaveSpellings ts
  spellings_told d no_more e = tt
  spellings_told d (one t ts) e =
      let p = both (is_tellable d t) (are_tellable d ts) e in
      (spelling_told d t p.0, spellings_told d ts p.1)

mutual
  -- and isn't too deep
  pub depth_told : (d : ℕ) (t : Tree) → is_tellable d t ≡ true → depth t ≤ d
  depth_told d nil e = omega arith
  depth_told d (truth b) e = omega arith
  depth_told d (integer z) e = omega arith
  depth_told d (big n) e = omega arith
  depth_told d (text bytes) e = omega arith
  depth_told d (bin bytes) e = omega arith
  depth_told d (ext kind bytes) e = omega arith
  depth_told d (opaque bytes) e = omega arith
  depth_told d (list ts) e =
      let p = both (nat_lt 0 d) (nat_lt (count ts) (2 ^ 32) && are_tellable (d - 1) ts) e in
      let q = both (nat_lt (count ts) (2 ^ 32)) (are_tellable (d - 1) ts) p.1 in
      omega (arith, ltb-true 0 d p.0, depths_told (d - 1) ts q.1)
  depth_told d (pairs ts) e =
      let p = both (nat_lt 0 d) (nat_lt (count ts) (2 * 2 ^ 32) && are_tellable (d - 1) ts) e in
      let q = both (nat_lt (count ts) (2 * 2 ^ 32)) (are_tellable (d - 1) ts) p.1 in
      omega (arith, ltb-true 0 d p.0, depths_told (d - 1) ts q.1)

  depths_told : (d : ℕ) (ts : Trees) → are_tellable d ts ≡ true → depths ts ≤ d
  depths_told d no_more e = omega arith
  depths_told d (one t ts) e =
      let p = both (is_tellable d t) (are_tellable d ts) e in
      omega (arith, depth_told d t p.0, depths_told d ts p.1)

mutual
  -- a value that has a spelling, and isn't too deep, passes
  pub told_back : (d : ℕ) (t : Tree) → HasSpelling t → depth t ≤ d → is_tellable d t ≡ true
  told_back d nil h l = refl
  told_back d (truth b) h l = refl
  told_back d (integer z) h l = refl
  told_back d (big n) h l = le-leb (2 ^ 63) n h
  told_back d (text bytes) h l = lt-ltb (length bytes) (2 ^ 32) h
  told_back d (bin bytes) h l = lt-ltb (length bytes) (2 ^ 32) h
  told_back d (ext kind bytes) h l = lt-ltb (length bytes) (2 ^ 32) h
  told_back d (opaque bytes) h l = float_back (length bytes) h
  told_back d (list ts) h l =
      both_back (nat_lt 0 d) (nat_lt (count ts) (2 ^ 32) && are_tellable (d - 1) ts) (lt-ltb 0 d (omega arith))
      (both_back (nat_lt (count ts) (2 ^ 32)) (are_tellable (d - 1) ts) (lt-ltb (count ts) (2 ^ 32) h.0) (all_told_back (d - 1) ts h.1 (omega arith)))
  told_back d (pairs ts) h l =
      both_back (nat_lt 0 d) (nat_lt (count ts) (2 * 2 ^ 32) && are_tellable (d - 1) ts) (lt-ltb 0 d (omega arith))
      (both_back (nat_lt (count ts) (2 * 2 ^ 32)) (are_tellable (d - 1) ts) (lt-ltb (count ts) (2 * 2 ^ 32) h.0) (all_told_back (d - 1) ts h.1 (omega arith)))

  all_told_back : (d : ℕ) (ts : Trees) → HaveSpellings ts → depths ts ≤ d → are_tellable d ts ≡ true
  all_told_back d no_more h l = refl
  all_told_back d (one t ts) h l =
      both_back (is_tellable d t) (are_tellable d ts) (told_back d t h.0 (omega arith)) (all_told_back d ts h.1 (omega arith))

-- ---- a list, by its length

pub none_deep : (d : ℕ) (b : Bool) → d ≡ 0 → false ≡ (nat_lt 0 d && b)
none_deep zero b e = refl
none_deep (suc d) b e = absurd (omega arith)

lesser : (a b c : Bool) → (b ≡ true → ⊥) → false ≡ (a && (b && c))
lesser false b c h = refl
lesser true false c h = refl
lesser true true c h = absurd (h refl)

pub none_many : (d n m : ℕ) (b : Bool) → m ≤ n → false ≡ (nat_lt 0 d && (nat_lt n m && b))
none_many d n m b h = lesser (nat_lt 0 d) (nat_lt n m) b (λ e. omega (arith, ltb-true n m e))

holds : (a b c : Bool) → a ≡ true → b ≡ true → c ≡ (a && (b && c))
holds true true c e f = refl
holds true false c e f = cc
holds false b c e f = cc

pub those_told : (d n m : ℕ) (b : Bool) → 0 < d → n < m → b ≡ (nat_lt 0 d && (nat_lt n m && b))
those_told d n m b h k = holds (nat_lt 0 d) (nat_lt n m) b (lt-ltb 0 d h) (lt-ltb n m k)
