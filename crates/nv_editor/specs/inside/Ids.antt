-- inside: the ids of namespaces by their names, as they are kept.
use Rattle.std.specs.Prelude.{◌≡◌, ℕ, ◌==◌, List, length, map, Vec, if◌then◌else◌}
use Rattle.std.specs.BTreeMap.{BTreeMap}
use Rattle.nv_editor.specs.Namespaces.{in_name_order, named_namespaces}

-- names with their ids, as a map has them
abbrev pub ids_kept : {A : Type 0} → BTreeMap (Vec ℕ A) ℕ → List (List ℕ × ℕ)
ids_kept ids = map (λ e. (e.0.items, e.1)) ids.entries

-- the map has the ids of these namespaces by their names
abbrev pub AreIdsOf : {A : Type 0} → BTreeMap (Vec ℕ A) ℕ → List (List ℕ) → Type 0
AreIdsOf ids names = ids_kept ids ≡ named_namespaces 1 names

-- names and ids with one more, unless the name is empty
abbrev pub with_name : List ℕ → ℕ → List (List ℕ × ℕ) → List (List ℕ × ℕ)
with_name name id entries = if length name == 0 then entries else in_name_order (name, id) entries
