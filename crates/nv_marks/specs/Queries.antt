-- Which marks are asked for, by namespace and place (help: nvim_buf_get_extmarks(),
-- nvim_buf_clear_namespace()).
use Rattle.std.specs.Prelude.{ℕ, ◌==◌, Bool, true, false, not, ◌&&◌, ◌||◌, List, filter, Option, Some, None}
use Rattle.nv_places.specs.declared.place.Pos.{Pos}
use Rattle.nv_places.specs.Places.{is_before}
use Rattle.nv_marks.specs.Order.{starts_within}
use Rattle.nv_marks.specs.declared.extmark.Far.{Far}
use Rattle.nv_marks.specs.declared.extmark.Mark.{Mark}
use Rattle.nv_marks.specs.declared.query.Query.{Query}

-- a namespace is the one that is meant, or any if none is named
abbrev pub is_meant : Option ℕ → ℕ → Bool
is_meant None ns = true
is_meant (Some meant) ns = ns == meant

-- an end is there and doesn't lie before a place
abbrev pub stops_from : Pos → Option Far → Bool
stops_from p None = false
stops_from p (Some far) = not (is_before far.pos p)

-- a mark is asked for: it is of the namespace, starts up to the last place, and starts from the
-- first place on or, if that is asked for, ends there
abbrev pub is_selected : Query → Mark → Bool
is_selected q m =
    is_meant q.ns m.ns && (not (is_before q.to m.start)
    && (not (is_before m.start q.from) || (q.reaching && stops_from q.from m.stop)))

-- a mark is of the namespace and starts from one place to another, both included
abbrev pub is_cleared : Option ℕ → Pos → Pos → Mark → Bool
is_cleared ns from to m = is_meant ns m.ns && starts_within from to m

-- the marks without those
abbrev pub cleared_marks : Option ℕ → Pos → Pos → List Mark → List Mark
cleared_marks ns from to marks = filter (λ m. not (is_cleared ns from to m)) marks
