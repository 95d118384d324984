-- What the last step of each part of each change kept of marks, and what of it is put back (help:
-- nvim_buf_set_extmark(), key undo_restore).
use Rattle.std.specs.Prelude.{ℕ, Bool, true, not, ◌&&◌, nat_le, List, [], ◌∷◌, length, filter, unwrap_or}
use Rattle.std.specs.BTreeMap.{insert_entry, is_at}
use Rattle.std.specs.Map.{lookup}
use Rattle.std.specs.Option.{option_map_or}
use Rattle.std.specs.Ordering.{nat_cmp, ordering_then}
use Rattle.std.specs.declared.cmp.Ordering.{Ordering}
use Rattle.nv_places.specs.Flat.{line_at}
use Rattle.nv_places.specs.declared.place.Pos.{Pos}
use Rattle.nv_marks.specs.declared.keeping.Kept.{Kept}
use Rattle.nv_buffer.specs.declared.edit.ChangePart.{ChangePart}

-- the order of parts: by change, then by part
abbrev pub part_order : ℕ × ℕ → ℕ × ℕ → Ordering
part_order p q = ordering_then (nat_cmp p.0 q.0) (nat_cmp p.1 q.1)

-- whether an entry is that of a part
abbrev pub is_of_part : ChangePart → ℕ × ℕ → Bool
is_of_part part = is_at (part_order (part.change, part.part))

-- what the last step of a part kept: nothing where there is no entry
abbrev pub kept_at : List ((ℕ × ℕ) × List Kept) → ChangePart → List Kept
kept_at entries part = unwrap_or (lookup (is_of_part part) entries) []

-- the entries once a step of a part kept this: a step that keeps nothing leaves no entry
abbrev pub with_part : ChangePart → List Kept → List ((ℕ × ℕ) × List Kept)
    → List ((ℕ × ℕ) × List Kept)
with_part part [] entries = filter (λ e. not (is_of_part part e.0)) entries
with_part part (k ∷ ks) entries =
    insert_entry part_order entries (part.change, part.part) (k ∷ ks)

-- a place is one of a text: in one of its rows, up to the end of the line, or at the end of it all
abbrev pub is_place_in : List (List ℕ) → Pos → Bool
is_place_in text p = nat_le p.row (length text) && nat_le p.col (length (line_at text p.row))

-- the places that were kept are places of a text
abbrev pub is_kept_in : List (List ℕ) → Kept → Bool
is_kept_in text k =
    option_map_or (is_place_in text) k.start true && option_map_or (is_place_in text) k.stop true
