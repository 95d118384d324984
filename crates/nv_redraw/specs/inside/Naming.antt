-- inside: events at the front that have one name.
use Rattle.std.specs.Prelude.{ℕ, suc, if◌then◌else◌, List, [], ◌∷◌, bytes_eq}
use Rattle.nv_linegrid.specs.declared.event.Redraw.{Redraw}
use Rattle.nv_redraw.specs.Values.{event_name}

-- how many events at the front have this name
abbrev pub count_named : List ℕ → List Redraw → ℕ
count_named name [] = 0
count_named name (e ∷ es) =
    if bytes_eq name (event_name e) then suc (count_named name es) else 0
