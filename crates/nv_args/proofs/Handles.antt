-- A value has one handle at most.
use Rattle.std.proofs.Common.{◌≡◌, ℕ, ℤ, List, [], ◌++◌, Option, Some, None, refl, sym, ap, ◌∙◌, inl, inr}
use Rattle.std.specs.Option.{IfSome, IfNone}
use Rattle.nv_value.specs.Content.{Tree, integer, ext}
use Rattle.nv_msgpack.specs.Spelling.{Spells}
use Rattle.nv_msgpack.specs.Handle.{IsHandle, handle_in}
use Rattle.nv_msgpack.proofs.Integers.{handle_some, handle_none}
use Rattle.nv_msgpack.proofs.Apart.{apart}

same_integer : (m n : ℤ) → integer m ≡ integer n → m ≡ n
same_integer m n e = cc

-- bytes spell one integer at most
one_integer : (m n : ℤ) (bytes others : List ℕ) → bytes ≡ others → Spells (integer m) bytes → Spells (integer n) others → m ≡ n
one_integer m n bytes others e a b =
    same_integer m n (apart (integer m) (integer n) bytes others [] [] a b (ap (λ (xs : List ℕ). xs ++ []) e)).1

-- an extension value has one data
same_data : (kind : ℤ) (bytes others : List ℕ) → ext kind bytes ≡ ext kind others → bytes ≡ others
same_data kind bytes others e = cc

-- a value has one handle of a kind at most
pub one_handle : (kind : ℤ) (t : Tree) (m n : ℤ) → IsHandle kind t m → IsHandle kind t n → m ≡ n
one_handle kind t m n (inl a) (inl b) = same_integer m n (sym a ∙ b)
one_handle kind t m n (inl a) (inr b) = let e : integer m ≡ ext kind b.0 = sym a ∙ b.1 in cc
one_handle kind t m n (inr a) (inl b) = let e : ext kind a.0 ≡ integer n = sym a.1 ∙ b in cc
one_handle kind t m n (inr a) (inr b) = one_integer m n a.0 b.0 (same_data kind a.0 b.0 (sym a.1 ∙ b.1)) a.2 b.2

-- what is found exactly where there is a handle is the handle that is defined
pub handle_is : (kind : ℤ) (t : Tree) (found : Option ℤ) → IfSome found (IsHandle kind t) → IfNone found ((n : ℤ) → IsHandle kind t n → ⊥) → found ≡ handle_in kind t
handle_is kind t found some none = go found (handle_in kind t) refl some none
  where
    go : (found defined : Option ℤ) → handle_in kind t ≡ defined → IfSome found (IsHandle kind t) → IfNone found ((n : ℤ) → IsHandle kind t n → ⊥) → found ≡ handle_in kind t
    go (Some n) (Some m) e some none = ap Some (one_handle kind t n m some (handle_some kind t m e)) ∙ sym e
    go (Some n) None e some none = absurd (handle_none kind t e n some)
    go None (Some m) e some none = absurd (none m (handle_some kind t m e))
    go None None e some none = sym e
