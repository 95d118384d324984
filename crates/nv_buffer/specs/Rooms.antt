-- inside: the entries of what steps kept of marks, as they are held: some are empty.
use Rattle.std.specs.Prelude.{ℕ, ◌==◌, Bool, not, List, length, filter, Vec}
use Rattle.nv_marks.specs.declared.keeping.Kept.{Kept}

-- an entry of a map of vectors, as one of lists
abbrev pub held_entry : {A : Type 0} → (ℕ × ℕ) × Vec Kept A → (ℕ × ℕ) × List Kept
held_entry e = (e.0, e.1.items)

-- an entry that has something
abbrev pub is_filled : (ℕ × ℕ) × List Kept → Bool
is_filled e = not (length e.1 == 0)

-- what steps kept: the entries that have something
abbrev pub kept_entries : List ((ℕ × ℕ) × List Kept) → List ((ℕ × ℕ) × List Kept)
kept_entries entries = filter is_filled entries
