-- What the shortest spelling is said to be is a spelling.
use Rattle.std.proofs.Common.{◌≡◌, ℕ, ℤ, pos, negsuc, zero, suc, ◌+◌, ◌*◌, ◌/◌, ◌^◌, ◌<◌, ◌≤◌, inl, inr, List, [], ◌∷◌, ◌++◌, length, refl, sym, ap, ◌∙◌, subst, arith, cond, ltb, true, false}
use Rattle.std.specs.Int.{w8, w16, w32, w64, to_be_bytes, cast_unsigned}
use Rattle.std.specs.Prelude.{FitsSigned, ◌-ℤ◌}
use Rattle.std.proofs.lemmas.Bool.{cases_lt}
use Rattle.std.proofs.lemmas.Bool.Decides.{nat_tests}
use Rattle.std.proofs.lemmas.Int.{ints}
use Rattle.nv_value.specs.Content.{Tree, Trees, nil, truth, integer, big, text, bin, list, pairs, ext, opaque, no_more, one, count}
use Rattle.nv_msgpack.specs.Spelling.{fixed, Raw, of_text, of_bin, of_ext, unsigned, signed, float, Many, of_list, of_map, Form, alone, raw, many, form, middle, big_endian, extra, raw_value, values, many_value, two's_complement, unsigned_number, SpelledBy, SpelledWith, Each, SpellsIn}
use Rattle.nv_msgpack.specs.Shortest.{unsigned_spelling, negative_spelling, integer_spelling, text_head, bin_head, ext_head, float_head, list_head, map_head, shortest, all_shortest, depth, depths, HasSpelling, HaveSpellings, IsInRange, AreInRange}
use Rattle.nv_msgpack.proofs.HeadForms.{IsHead, bytes_2, bytes_4, bytes_8, byte_1, text_head_is, bin_head_is, ext_head_is, float_head_is, list_head_is, map_head_is}

-- How the values inside are spelled at a depth.
abbrev pub inside_at : ℕ → Trees → List ℕ → Type 0
inside_at zero = λ ts body. ⊥
inside_at (suc d) = Each (SpellsIn d)

pub at_depth : (d : ℕ) (t : Tree) (bytes : List ℕ) → SpelledWith (inside_at d) t bytes → SpellsIn d t bytes
at_depth zero t bytes h = h
at_depth (suc d) t bytes h = h

-- What a first byte and the rest say of a value.
first_and_rest : (inside : Trees → List ℕ → Type 0) (b : ℕ) (f : Form) (t : Tree) (rest all : List ℕ) → form b ≡ f → all ≡ b ∷ rest → SpelledBy inside f t rest → SpelledWith inside t all
first_and_rest inside b f t rest all e a h =
    subst (λ (l : List ℕ). SpelledWith inside t l) (sym a) (subst (λ (g : Form). SpelledBy inside g t rest) (sym e) h)

-- A head with the length of the bytes behind it.
raw_spelled : (inside : Trees → List ℕ → Type 0) (r : Raw) (n : ℕ) (head bytes : List ℕ) (t : Tree) → IsHead (raw r) n head → length bytes ≡ n + extra r → t ≡ raw_value r bytes → SpelledWith inside t (head ++ bytes)
raw_spelled inside r n head bytes t h long e =
    first_and_rest inside h.first (raw r h.size) t (h.rest ++ bytes) (head ++ bytes) h.form_is (ap (λ (l : List ℕ). l ++ bytes) h.is)
    (h.rest, bytes, h.width_is, long ∙ ap (λ (k : ℕ). k + extra r) (sym h.number_is), refl, e)

-- A head with the number of values behind it.
many_spelled : (inside : Trees → List ℕ → Type 0) (m : Many) (n : ℕ) (head body : List ℕ) (ts : Trees) → IsHead (many m) n head → count ts ≡ values m n → inside ts body → SpelledWith inside (many_value m ts) (head ++ body)
many_spelled inside m n head body ts h counted i =
    first_and_rest inside h.first (many m h.size) (many_value m ts) (h.rest ++ body) (head ++ body) h.form_is (ap (λ (l : List ℕ). l ++ body) h.is)
    (h.rest, body, ts, h.width_is, counted ∙ ap (values m) (sym h.number_is), refl, refl, i)

-- A number of w bytes behind its first byte.
number_spelled : (inside : Trees → List ℕ → Type 0) (r : Raw) (w b : ℕ) (bytes : List ℕ) (t : Tree) → form b ≡ raw r (fixed w) → length bytes ≡ w + extra r → t ≡ raw_value r bytes → SpelledWith inside t (b ∷ bytes)
number_spelled inside r w b bytes t f long e = first_and_rest inside b (raw r (fixed w)) t bytes (b ∷ bytes) f refl ([], bytes, refl, long, refl, e)

form_of_fixint : (n : ℕ) → n < 0x80 → form n ≡ alone (integer (pos n))
unfolding form
form_of_fixint n h = grind (arith, nat_tests)

-- A number below 0 as two's complement.
pub below_zero : (m k n : ℕ) → m + suc n ≡ k → pos m -ℤ pos k ≡ negsuc n
below_zero m k n e = omega (arith, ints)

two's_negative : (w m n : ℕ) → m + suc n ≡ 256 ^ w → 256 ^ w ≤ 2 * m → two's_complement w m ≡ negsuc n
two's_negative w m n e h =
    let f : ltb (2 * m) (256 ^ w) ≡ false = grind (arith, nat_tests) in
    ap (λ b. cond b (pos m) (pos m -ℤ pos (256 ^ w))) f ∙ below_zero m (256 ^ w) n e

form_at_negative : (b n : ℕ) → b + suc n ≡ 0x100 → n < 0x20 → form b ≡ alone (integer (negsuc n))
unfolding form
form_at_negative b n e h =
    let z : pos b -ℤ pos 0x100 ≡ negsuc n = below_zero b 0x100 n e in
    grind (arith, nat_tests, z)

switched : (inside : Trees → List ℕ → Type 0) (t u : Tree) (all other : List ℕ) → t ≡ u → all ≡ other → SpelledWith inside u other → SpelledWith inside t all
switched inside t u all other e a h = subst (λ (x : Tree). SpelledWith inside x all) (sym e) (subst (λ (l : List ℕ). SpelledWith inside u l) (sym a) h)

unsigned_spelled : (inside : Trees → List ℕ → Type 0) (n : ℕ) → n < 2 ^ 64 → SpelledWith inside (unsigned_number n) (unsigned_spelling n)
unfolding unsigned_spelling form middle
unsigned_spelled inside n h = elim (cases_lt n 0x80) [
  | inl a ↦ switched inside (unsigned_number n) (integer (pos n)) (unsigned_spelling n) (n ∷ []) (grind (arith, nat_tests)) (grind (arith, nat_tests)) (first_and_rest inside n (alone (integer (pos n))) (integer (pos n)) [] (n ∷ []) (form_of_fixint n a) refl (refl, refl))
  | inr a ↦ elim (cases_lt n 0x100) [
    | inl b ↦ switched inside (unsigned_number n) (unsigned_number n) (unsigned_spelling n) (0xcc ∷ n ∷ []) refl (grind (arith, nat_tests)) (number_spelled inside unsigned 1 0xcc (n ∷ []) (unsigned_number n) refl refl (ap unsigned_number (sym (byte_1 n))))
    | inr b ↦ elim (cases_lt n 0x10000) [
      | inl c ↦ switched inside (unsigned_number n) (unsigned_number n) (unsigned_spelling n) (0xcd ∷ to_be_bytes w16 n) refl (grind (arith, nat_tests)) (number_spelled inside unsigned 2 0xcd (to_be_bytes w16 n) (unsigned_number n) refl refl (ap unsigned_number (sym (bytes_2 n c))))
      | inr c ↦ elim (cases_lt n 0x100000000) [
        | inl d ↦ switched inside (unsigned_number n) (unsigned_number n) (unsigned_spelling n) (0xce ∷ to_be_bytes w32 n) refl (grind (arith, nat_tests)) (number_spelled inside unsigned 4 0xce (to_be_bytes w32 n) (unsigned_number n) refl refl (ap unsigned_number (sym (bytes_4 n d))))
        | inr d ↦ switched inside (unsigned_number n) (unsigned_number n) (unsigned_spelling n) (0xcf ∷ to_be_bytes w64 n) refl (grind (arith, nat_tests)) (number_spelled inside unsigned 8 0xcf (to_be_bytes w64 n) (unsigned_number n) refl refl (ap unsigned_number (sym (bytes_8 n h))))
      ]
    ]
  ]
]

-- The bytes of a number below 0 stand for it.
signed_is : (w m n : ℕ) (bytes : List ℕ) → length bytes ≡ w → big_endian w bytes ≡ m → m + suc n ≡ 256 ^ w → 256 ^ w ≤ 2 * m → integer (negsuc n) ≡ raw_value signed bytes
signed_is w m n bytes long number e h =
    let read : big_endian (length bytes) bytes ≡ m = ap (λ (k : ℕ). big_endian k bytes) long ∙ number in
    ap integer (sym (ap (λ (k : ℕ). two's_complement k (big_endian (length bytes) bytes)) long ∙ ap (two's_complement w) read ∙ two's_negative w m n e h))

negative_spelled : (inside : Trees → List ℕ → Type 0) (n : ℕ) → n < 2 ^ 63 → SpelledWith inside (integer (negsuc n)) (negative_spelling n)
unfolding negative_spelling form middle
negative_spelled inside n h = elim (cases_lt n 0x20) [
  | inl a ↦ switched inside (integer (negsuc n)) (integer (negsuc n)) (negative_spelling n) (cast_unsigned w8 (negsuc n) ∷ []) refl (grind (arith, nat_tests))
      (first_and_rest inside (cast_unsigned w8 (negsuc n)) (alone (integer (negsuc n))) (integer (negsuc n)) [] (cast_unsigned w8 (negsuc n) ∷ []) (form_at_negative (cast_unsigned w8 (negsuc n)) n (omega arith) a) refl (refl, refl))
  | inr a ↦ elim (cases_lt n 0x80) [
    | inl b ↦ switched inside (integer (negsuc n)) (integer (negsuc n)) (negative_spelling n) (0xd0 ∷ cast_unsigned w8 (negsuc n) ∷ []) refl (grind (arith, nat_tests))
        (number_spelled inside signed 1 0xd0 (cast_unsigned w8 (negsuc n) ∷ []) (integer (negsuc n)) refl refl (signed_is 1 (cast_unsigned w8 (negsuc n)) n (cast_unsigned w8 (negsuc n) ∷ []) refl (byte_1 (cast_unsigned w8 (negsuc n))) (omega arith) (omega arith)))
    | inr b ↦ elim (cases_lt n 0x8000) [
      | inl c ↦ switched inside (integer (negsuc n)) (integer (negsuc n)) (negative_spelling n) (0xd1 ∷ to_be_bytes w16 (cast_unsigned w16 (negsuc n))) refl (grind (arith, nat_tests))
          (number_spelled inside signed 2 0xd1 (to_be_bytes w16 (cast_unsigned w16 (negsuc n))) (integer (negsuc n)) refl refl (signed_is 2 (cast_unsigned w16 (negsuc n)) n (to_be_bytes w16 (cast_unsigned w16 (negsuc n))) refl (bytes_2 (cast_unsigned w16 (negsuc n)) (omega arith)) (omega arith) (omega arith)))
      | inr c ↦ elim (cases_lt n 0x80000000) [
        | inl d ↦ switched inside (integer (negsuc n)) (integer (negsuc n)) (negative_spelling n) (0xd2 ∷ to_be_bytes w32 (cast_unsigned w32 (negsuc n))) refl (grind (arith, nat_tests))
            (number_spelled inside signed 4 0xd2 (to_be_bytes w32 (cast_unsigned w32 (negsuc n))) (integer (negsuc n)) refl refl (signed_is 4 (cast_unsigned w32 (negsuc n)) n (to_be_bytes w32 (cast_unsigned w32 (negsuc n))) refl (bytes_4 (cast_unsigned w32 (negsuc n)) (omega arith)) (omega arith) (omega arith)))
        | inr d ↦ switched inside (integer (negsuc n)) (integer (negsuc n)) (negative_spelling n) (0xd3 ∷ to_be_bytes w64 (cast_unsigned w64 (negsuc n))) refl (grind (arith, nat_tests))
            (number_spelled inside signed 8 0xd3 (to_be_bytes w64 (cast_unsigned w64 (negsuc n))) (integer (negsuc n)) refl refl (signed_is 8 (cast_unsigned w64 (negsuc n)) n (to_be_bytes w64 (cast_unsigned w64 (negsuc n))) refl (bytes_8 (cast_unsigned w64 (negsuc n)) (omega arith)) (omega arith) (omega arith)))
      ]
    ]
  ]
]

integer_spelled : (inside : Trees → List ℕ → Type 0) (z : ℤ) → FitsSigned w64 z → SpelledWith inside (integer z) (integer_spelling z)
integer_spelled inside (pos n) h =
    let small : n < 2 ^ 63 = h.sfits in
    switched inside _ (unsigned_number n) _ _ (grind (arith, nat_tests)) refl (unsigned_spelled inside n (omega arith))
integer_spelled inside (negsuc n) h = negative_spelled inside n h.sfits

big_spelled : (inside : Trees → List ℕ → Type 0) (n : ℕ) → n < 2 ^ 64 → 2 ^ 63 ≤ n → SpelledWith inside (big n) (unsigned_spelling n)
big_spelled inside n h large = switched inside _ (unsigned_number n) _ _ (grind (arith, nat_tests)) refl (unsigned_spelled inside n h)

-- The type of an extension is its first byte as two's complement.
type_read : (kind : ℤ) → FitsSigned w8 kind → kind ≡ two's_complement 1 (cast_unsigned w8 kind)
type_read (pos n) h = let small : n < 2 ^ 7 = h.sfits in grind (arith, nat_tests)
type_read (negsuc n) h = let small : n < 2 ^ 7 = h.sfits in sym (two's_negative 1 (cast_unsigned w8 (negsuc n)) n (omega arith) (omega arith))

ext_is : (kind : ℤ) (bytes : List ℕ) → FitsSigned w8 kind → ext kind bytes ≡ raw_value of_ext (cast_unsigned w8 kind ∷ bytes)
unfolding big_endian
ext_is kind bytes h =
    let first : big_endian 1 (cast_unsigned w8 kind ∷ bytes) ≡ cast_unsigned w8 kind = omega arith in
    ap (λ z. ext z bytes) (type_read kind h ∙ ap (two's_complement 1) (sym first))

form_of_nil : form 0xc0 ≡ alone nil
unfolding form middle
form_of_nil = refl

form_of_true : form 0xc3 ≡ alone (truth true)
unfolding form middle
form_of_true = refl

form_of_false : form 0xc2 ≡ alone (truth false)
unfolding form middle
form_of_false = refl

mutual
  pub spelled : (t : Tree) → IsInRange t → HasSpelling t → (d : ℕ) → depth t ≤ d → SpellsIn d t (shortest t)
  spelled nil r h d e = at_depth d nil (0xc0 ∷ []) (first_and_rest (inside_at d) 0xc0 (alone nil) nil [] (0xc0 ∷ []) form_of_nil refl (refl, refl))
  spelled (truth true) r h d e = at_depth d (truth true) (0xc3 ∷ []) (first_and_rest (inside_at d) 0xc3 (alone (truth true)) (truth true) [] (0xc3 ∷ []) form_of_true refl (refl, refl))
  spelled (truth false) r h d e = at_depth d (truth false) (0xc2 ∷ []) (first_and_rest (inside_at d) 0xc2 (alone (truth false)) (truth false) [] (0xc2 ∷ []) form_of_false refl (refl, refl))
  spelled (integer z) r h d e = at_depth d (integer z) (integer_spelling z) (integer_spelled (inside_at d) z r)
  spelled (big n) r h d e = at_depth d (big n) (unsigned_spelling n) (big_spelled (inside_at d) n r h)
  spelled (text bytes) r h d e =
      at_depth d (text bytes) (text_head (length bytes) ++ bytes) (raw_spelled (inside_at d) of_text (length bytes) (text_head (length bytes)) bytes (text bytes) (text_head_is (length bytes) h) (omega arith) refl)
  spelled (bin bytes) r h d e =
      at_depth d (bin bytes) (bin_head (length bytes) ++ bytes) (raw_spelled (inside_at d) of_bin (length bytes) (bin_head (length bytes)) bytes (bin bytes) (bin_head_is (length bytes) h) (omega arith) refl)
  spelled (list ts) r h zero e = absurd (omega arith)
  spelled (list ts) r h (suc d) e = many_spelled (Each (SpellsIn d)) of_list (count ts) (list_head (count ts)) (all_shortest ts) ts (list_head_is (count ts) h.0) refl (each_spelled ts r h.1 d (omega arith))
  spelled (pairs ts) r h zero e = absurd (omega arith)
  spelled (pairs ts) r h (suc d) e =
      many_spelled (Each (SpellsIn d)) of_map (count ts / 2) (map_head (count ts / 2)) (all_shortest ts) ts (map_head_is (count ts / 2) (omega arith)) r.0 (each_spelled ts r.1 h.1 d (omega arith))
  spelled (ext kind bytes) r h d e =
      at_depth d (ext kind bytes) (ext_head (length bytes) ++ cast_unsigned w8 kind ∷ bytes)
      (raw_spelled (inside_at d) of_ext (length bytes) (ext_head (length bytes)) (cast_unsigned w8 kind ∷ bytes) (ext kind bytes) (ext_head_is (length bytes) h) (omega arith) (ext_is kind bytes r))
  spelled (opaque bytes) r h d e =
      at_depth d (opaque bytes) (float_head (length bytes) ++ bytes) (raw_spelled (inside_at d) float (length bytes) (float_head (length bytes)) bytes (opaque bytes) (float_head_is (length bytes) h) (omega arith) refl)

  pub each_spelled : (ts : Trees) → AreInRange ts → HaveSpellings ts → (d : ℕ) → depths ts ≤ d → Each (SpellsIn d) ts (all_shortest ts)
  each_spelled no_more r h d e = refl
  each_spelled (one t ts) r h d e = (shortest t, all_shortest ts, spelled t r.0 h.0 d (omega arith), refl, each_spelled ts r.1 h.1 d (omega arith))
