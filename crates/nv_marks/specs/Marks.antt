-- A set of marks as its callers see it, and the look-ups in it.
use Rattle.std.specs.Prelude.{ℕ, suc, ◌==◌, Bool, not, ◌&&◌, List, Option, find, filter, min, unwrap_or}
use Rattle.std.specs.Map.{lookup}
use Rattle.std.specs.BTreeMap.{is_at}
use Rattle.std.specs.Ordering.{nat_cmp}
use Rattle.nv_marks.specs.declared.extmark.Mark.{Mark}

-- the marks of a buffer
pub record Marks : Type 0 where
  -- in the order of `mark_order`
  pub marks : List Mark
  -- each namespace that a mark was ever set in, with the greatest id of them
  pub greatest : List (ℕ × ℕ)
  -- how many settings were made
  pub settings : ℕ

-- a mark has this namespace and id
abbrev pub is_named : ℕ → ℕ → Mark → Bool
is_named ns id m = m.ns == ns && m.id == id

-- the mark of a namespace and id, where there is one
abbrev pub mark_at : List Mark → ℕ → ℕ → Option Mark
mark_at marks ns id = find (is_named ns id) marks

-- all marks but that of a namespace and id
abbrev pub without : ℕ → ℕ → List Mark → List Mark
without ns id marks = filter (λ m. not (is_named ns id m)) marks

-- the greatest id that was ever set in a namespace, and 0 where none was
abbrev pub greatest_id : List (ℕ × ℕ) → ℕ → ℕ
greatest_id greatest ns = unwrap_or (lookup (is_at (nat_cmp ns)) greatest) 0

-- the number of the next setting after so many; such a number stands still at the greatest of 64
-- bits
abbrev pub next_setting : ℕ → ℕ
next_setting settings = min (suc settings) 18446744073709551615

-- a mark as it is kept once it is set, after so many settings
abbrev pub numbered_mark : ℕ → Mark → Mark
numbered_mark settings m = record m { set = next_setting settings }
