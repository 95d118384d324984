-- A handle stands for one number.
use Rattle.std.proofs.Common.{◌≡◌, ℕ, ℤ, List, [], ◌++◌, Option, Some, None, IfSome, inl, inr, FitsSigned, w64, refl, ap, sym, ◌∙◌, arith}
use Rattle.std.specs.Option.{IfNone}
use Rattle.nv_value.specs.Content.{Tree, integer, ext}
use Rattle.nv_msgpack.specs.Spelling.{Spells}
use Rattle.nv_msgpack.specs.Handle.{IsHandle, handle_in}
use Rattle.nv_msgpack.specs.Shortest.{shortest}
use Rattle.nv_msgpack.proofs.Apart.{apart}
use Rattle.nv_msgpack.proofs.Integers.{handle_some, handle_none}
use Rattle.nv_msgpack.proofs.Spelled.{spelled}

spelled_once : (bytes xs ys : List ℕ) (m n : ℤ) → bytes ≡ xs → bytes ≡ ys → Spells (integer m) xs → Spells (integer n) ys → m ≡ n
spelled_once bytes xs ys m n e f p q =
    let same : xs ++ [] ≡ ys ++ [] = ap (λ l. l ++ []) (sym e ∙ f) in
    let k : integer m ≡ integer n = (apart (integer m) (integer n) xs ys [] [] p q same).1 in
    (cc)

one_number : (kind : ℤ) (t : Tree) (m n : ℤ) → IsHandle kind t m → IsHandle kind t n → m ≡ n
one_number kind t m n (inl e) (inl f) = (cc)
one_number kind t m n (inl e) (inr q) = (cc)
one_number kind t m n (inr p) (inl f) = (cc)
one_number kind t m n (inr p) (inr q) =
    let e : ext kind p.0 ≡ ext kind q.0 = sym p.1 ∙ q.1 in
    let f : p.0 ≡ q.0 = (cc) in
    spelled_once p.0 p.0 q.0 m n refl f p.2 q.2

read_of : (kind : ℤ) (t : Tree) (n : ℤ) → IsHandle kind t n → (found : Option ℤ) → handle_in kind t ≡ found → found ≡ Some n
read_of kind t n h (Some m) e = ap (λ z. Some z) (one_number kind t m n (handle_some kind t m e) h)
read_of kind t n h None e = absurd (handle_none kind t e n h)

-- A handle is read.
pub handle_read : (kind : ℤ) (t : Tree) (n : ℤ) → IsHandle kind t n → handle_in kind t ≡ Some n
handle_read kind t n h = read_of kind t n h (handle_in kind t) refl

-- The shortest spelling of an i64 spells it.
pub integer_spelled : (n : ℤ) → FitsSigned w64 n → Spells (integer n) (shortest (integer n))
integer_spelled n fits = (0, spelled (integer n) fits tt 0 (omega arith))

seen_of : (kind : ℤ) (t : Tree) (r : Option ℤ) → IfSome r (IsHandle kind t) → IfNone r ((n : ℤ) → IsHandle kind t n → ⊥) →
    (found : Option ℤ) → handle_in kind t ≡ found → r ≡ found
seen_of kind t (Some n) some none found e = sym (handle_read kind t n some) ∙ e
seen_of kind t None some none (Some m) e = absurd (none m (handle_some kind t m e))
seen_of kind t None some none None e = refl

-- What `handle_of` answers is what is read.
pub handle_seen : (kind : ℤ) (t : Tree) (r : Option ℤ) → IfSome r (IsHandle kind t) → IfNone r ((n : ℤ) → IsHandle kind t n → ⊥) → r ≡ handle_in kind t
handle_seen kind t r some none = seen_of kind t r some none (handle_in kind t) refl
