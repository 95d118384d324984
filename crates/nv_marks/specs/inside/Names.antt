-- inside: namespaces and ids that have a mark.
use Rattle.std.specs.Prelude.{◌≡◌, ℕ, ◌==◌, Bool, ◌&&◌, List, is_some}
use Rattle.std.specs.List.{list_any}
use Rattle.std.specs.BTreeMap.{is_at}
use Rattle.std.specs.declared.cmp.Ordering.{Ordering}
use Rattle.std.specs.declared.cmp.Reverse.{Reverse}
use Rattle.std.specs.Ordering.{ordering_then, nat_cmp}
use Rattle.nv_marks.specs.Marks.{mark_at}
use Rattle.nv_marks.specs.declared.extmark.Mark.{Mark}

-- a namespace and id as the index has it
abbrev pub name_of : ℕ → ℕ → ℕ × Reverse ℕ
name_of ns id = (ns, record { 0 = id })

-- the order of names: by namespace, then the greatest id first
abbrev pub name_order : ℕ × Reverse ℕ → ℕ × Reverse ℕ → Ordering
name_order a b = ordering_then (nat_cmp a.0 b.0) (nat_cmp b.1.0 a.1.0)

-- a namespace and id is among some names
abbrev pub is_indexed : List (ℕ × Reverse ℕ) → ℕ → ℕ → Bool
is_indexed names ns id = list_any (is_at (name_order (name_of ns id))) names

-- two namespaces and ids are one
abbrev pub is_one_name : ℕ → ℕ → ℕ → ℕ → Bool
is_one_name ns id n i = n == ns && i == id

-- the names are those of the marks
abbrev pub IsIndexOf : List (ℕ × Reverse ℕ) → List Mark → Type 0
IsIndexOf names marks = (ns id : ℕ) → is_indexed names ns id ≡ is_some (mark_at marks ns id)
