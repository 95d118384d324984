-- Facts about lengths: a length counts no byte behind it, grows as its bytes come, and stays where zeros come.
use Rattle.std.proofs.Common.{◌≡◌, ℕ, ◌+◌, ◌*◌, ◌^◌, ◌≤◌, zero, suc, List, [], ◌∷◌, ◌++◌, length, take, drop, refl, sym, ap, ◌∙◌, subst, arith}
use Rattle.std.proofs.lemmas.List.{append_assoc, length-take, take-append-drop, length-take-le}
use Rattle.std.proofs.Math.ListN.{replicate}
use Rattle.nv_msgpack.specs.Spelling.{Size, fixed, field, width, number_in, big_endian}

big_endian-front : (w : ℕ) (size rest : List ℕ) → length size ≡ w → big_endian w (size ++ rest) ≡ big_endian w size
unfolding big_endian
big_endian-front zero size rest e = refl
big_endian-front (suc w) [] rest e = cc
big_endian-front (suc w) (b ∷ size) rest e = ap (λ n. b * 256 ^ w + n) (big_endian-front w size rest (omega arith))

big_endian-grows : (w : ℕ) (bytes tail : List ℕ) → big_endian w bytes ≤ big_endian w (bytes ++ tail)
unfolding big_endian
big_endian-grows zero bytes tail = omega arith
big_endian-grows (suc w) [] tail = omega arith
big_endian-grows (suc w) (b ∷ bytes) tail = omega (arith, big_endian-grows w bytes tail)

big_endian-zeros_alone : (w n : ℕ) → big_endian w (replicate n 0) ≡ 0
unfolding big_endian
big_endian-zeros_alone zero n = refl
big_endian-zeros_alone (suc w) zero = refl
big_endian-zeros_alone (suc w) (suc n) = omega (arith, big_endian-zeros_alone w n)

big_endian-zeros : (w n : ℕ) (bytes : List ℕ) → big_endian w (bytes ++ replicate n 0) ≡ big_endian w bytes
unfolding big_endian
big_endian-zeros zero n bytes = refl
big_endian-zeros (suc w) n [] = big_endian-zeros_alone (suc w) n
big_endian-zeros (suc w) n (b ∷ bytes) = ap (λ m. b * 256 ^ w + m) (big_endian-zeros w n bytes)

-- a length depends on its own bytes alone
pub number_in-front : (s : Size) (size rest : List ℕ) → length size ≡ width s → number_in s (size ++ rest) ≡ number_in s size
number_in-front (fixed n) size rest e = refl
number_in-front (field w) size rest e = big_endian-front w size rest e

-- a length that has come stays
pub number_in-stays : (s : Size) (bytes tail : List ℕ) → width s ≤ length bytes → number_in s (bytes ++ tail) ≡ number_in s bytes
number_in-stays (fixed n) bytes tail h = refl
number_in-stays (field w) bytes tail h =
    let split = take-append-drop w bytes in
    let size : length (take w bytes) ≡ w = length-take-le w bytes h in
    let long : big_endian w ((take w bytes ++ drop w bytes) ++ tail) ≡ big_endian w (take w bytes) =
    ap (λ (l : List ℕ). big_endian w l) (append_assoc (take w bytes) (drop w bytes) tail) ∙ big_endian-front w (take w bytes) (drop w bytes ++ tail) size in
    let short : big_endian w (take w bytes ++ drop w bytes) ≡ big_endian w (take w bytes) = big_endian-front w (take w bytes) (drop w bytes) size in
    let P : List ℕ → Type 0 = λ l. big_endian w (l ++ tail) ≡ big_endian w l in
    subst P split (long ∙ sym short)

-- the front that has the length has all of it
pub number_in-take : (s : Size) (n : ℕ) (bytes : List ℕ) → width s ≤ n → width s ≤ length bytes → number_in s (take n bytes) ≡ number_in s bytes
number_in-take s n bytes h l =
    let split = take-append-drop n bytes in
    let long : width s ≤ length (take n bytes) = omega (arith, length-take {A = ℕ}) in
    sym (ap (λ (x : List ℕ). number_in s x) (sym split) ∙ number_in-stays s (take n bytes) (drop n bytes) long)

-- a length is at least what its bytes so far say
pub number_in-grows : (s : Size) (bytes tail : List ℕ) → number_in s bytes ≤ number_in s (bytes ++ tail)
number_in-grows (fixed n) bytes tail = omega arith
number_in-grows (field w) bytes tail = big_endian-grows w bytes tail

-- zeros say no more
pub number_in-zeros : (s : Size) (n : ℕ) (bytes : List ℕ) → number_in s (bytes ++ replicate n 0) ≡ number_in s bytes
number_in-zeros (fixed k) n bytes = refl
number_in-zeros (field w) n bytes = big_endian-zeros w n bytes
