-- inside: how many buffers have each name, as that is kept.
use Rattle.std.specs.Prelude.{◌≡◌, ℕ, ◌+◌, ◌==◌, ◌&&◌, not, ℤ, Bool, false, List, [], ◌∷◌, length, Option, None, Some, option_map, unwrap_or, bytes_eq, Vec, if◌then◌else◌}
use Rattle.std.specs.BTreeMap.{BTreeMap, get_by}
use Rattle.std.specs.Cmp.Lexicographic.{slice_cmp}
use Rattle.std.specs.Ordering.{int_eq, nat_cmp}
use Rattle.nv_buffer.specs.Content.{Content}
use Rattle.nv_model.specs.Seen.{is_name_of}
use Rattle.nv_model.specs.Standing.{seen_buffer_now}

-- whether there is a buffer, and it has a name
abbrev pub is_of_name : List ℕ → Option Content → Bool
is_of_name name o = is_name_of name (option_map seen_buffer_now o)

-- one where a name is another, else none
abbrev pub one_if : List ℕ → List ℕ → ℕ
one_if name other = if bytes_eq name other then 1 else 0

-- how many buffers have a name
abbrev pub number_named : List (ℤ × Content) → List ℕ → ℕ
number_named [] name = 0
number_named (e ∷ es) name = one_if name e.1.name + number_named es name

-- whether a buffer is another one than that of a handle, of a name
abbrev pub is_other_named : ℤ → List ℕ → ℤ × Content → Bool
is_other_named n name e = not (int_eq e.0 n) && bytes_eq e.1.name name

-- how many buffers of a handle have a name: one, or none
abbrev pub own_number : List ℕ → Option Content → ℕ
own_number name o = if is_of_name name o then 1 else 0

-- the numbers with one more of a name
abbrev pub with_one_of : List ℕ → (List ℕ → ℕ) → List ℕ → ℕ
with_one_of name numbers other = one_if other name + numbers other

-- the number of a name that a map has: none where it has no number
abbrev pub number_under : {A : Type 0} → BTreeMap (Vec ℕ A) ℕ → List ℕ → ℕ
number_under counts name = unwrap_or (get_by (λ k. slice_cmp nat_cmp name k.items) counts) 0

-- a map, where there is one, has these numbers of all names but the empty one
abbrev pub AreNameCounts : {A : Type 0} → Option (BTreeMap (Vec ℕ A) ℕ) → (List ℕ → ℕ) → Type 0
AreNameCounts None numbers = Unit {0}
AreNameCounts (Some counts) numbers =
    (name : List ℕ) → (length name == 0) ≡ false → number_under counts name ≡ numbers name
