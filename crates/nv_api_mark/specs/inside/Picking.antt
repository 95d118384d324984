-- inside: which marks a call lists or removes, and how.
use Rattle.std.specs.Prelude.{◌≡◌, ℕ, ℤ, Bool, false, ◌&&◌, ◌||◌, List, [], Option, None, Some, not, filter}
use Rattle.nv_value.specs.Content.{Tree, nil}
use Rattle.nv_places.specs.Places.{IsNarrow, is_before}
use Rattle.nv_places.specs.declared.place.Pos.{Pos}
use Rattle.nv_rpc.specs.declared.outcome.Triple.{Triple}
use Rattle.nv_args.specs.Faults.{out_of_bounds}
use Rattle.nv_args.specs.Maps.{map_fault}
use Rattle.nv_args.specs.Reading.{Arg, number_at, object_at}
use Rattle.nv_marks.specs.Order.{starts_within}
use Rattle.nv_marks.specs.Queries.{is_meant}
use Rattle.nv_marks.specs.declared.extmark.Mark.{Mark}
use Rattle.nv_model.specs.Answers.{Answer, replied, or_refused}
use Rattle.nv_model.specs.Answering.{fault_or, removal_operations}
use Rattle.nv_model.specs.Seen.{Seen, SeenBuffer}
use Rattle.nv_api_mark.specs.Listing.{first_row, last_row, lies_in, listing_answer, listing_keys, meant_namespace, place_of_value, reaches}
use Rattle.nv_api_mark.specs.declared.listing.Picks.{Picks}
use Rattle.nv_api_mark.specs.declared.listing.Span.{Span}
use Rattle.nv_api_mark.specs.declared.clearing.Rows.{Rows}

-- a mark is picked
abbrev pub is_picked : Picks → Mark → Bool
is_picked picks m = is_meant picks.meant m.ns
    && (starts_within picks.low picks.high m || (picks.overlap && reaches picks.low m))

-- a mark as it is listed without its details: its id and its place
abbrev pub listed_triple : Mark → Triple
listed_triple m = record { first = m.id; second = m.start.row; third = m.start.col }

-- a mark is removed from rows
abbrev pub is_in_rows : Rows → Mark → Bool
is_in_rows rows m = is_meant rows.meant m.ns && lies_in rows.first rows.last m

-- what is answered by the marks that are meant and the places that values name
abbrev pub spanned_answer : Seen → ℤ → SeenBuffer → List (Tree × Tree) → Span → Answer
spanned_answer s n b pairs span = listing_answer s n b span.meant span.start span.stop pairs

abbrev pub span_answer : Seen → SeenBuffer → List Arg → (Span → Answer) → Answer
span_answer s b args next =
    or_refused (meant_namespace s.stage (number_at args 1)) out_of_bounds (λ meant.
    or_refused (place_of_value b meant (object_at args 2)) out_of_bounds (λ start.
    or_refused (place_of_value b meant (object_at args 3)) out_of_bounds (λ stop.
    next (record { meant = meant; start = start; stop = stop }))))

abbrev pub marks_answer : Seen → ℤ → SeenBuffer → List Arg → List (Tree × Tree) → Answer
marks_answer s n b args pairs =
    fault_or (map_fault listing_keys pairs) (span_answer s b args (spanned_answer s n b pairs))

-- an answer by the rows that are cleared
abbrev pub clearing_answer : Seen → List Arg → (Rows → Answer) → Answer
clearing_answer s args next =
    or_refused (meant_namespace s.stage (number_at args 1)) out_of_bounds (λ meant.
    or_refused (first_row (number_at args 2)) out_of_bounds (λ first.
    or_refused (last_row (number_at args 3)) out_of_bounds (λ last.
    next (record { meant = meant; first = first; last = last }))))

-- what is answered by the rows, of a buffer
abbrev pub cleared_answer : ℤ → SeenBuffer → Rows → Answer
cleared_answer n b rows = replied nil (removal_operations n (filter (is_in_rows rows) b.marks)) []

-- the last of the places that marks in rows may start at; none where there is no such row
abbrev pub EndsRows : Option ℕ → Option Pos → Type 0
EndsRows last None = (m : Mark) → lies_in 0 last m ≡ false
EndsRows last (Some to) =
    (m : Mark) → IsNarrow m.start → lies_in 0 last m ≡ not (is_before to m.start)

-- the places that marks in rows lie between, both included; none where there is none such
abbrev pub CoversRows : Rows → Option (Pos × Pos) → Type 0
CoversRows rows None = (m : Mark) → IsNarrow m.start → lies_in rows.first rows.last m ≡ false
CoversRows rows (Some places) =
    (m : Mark) → IsNarrow m.start
    → lies_in rows.first rows.last m ≡ starts_within places.0 places.1 m
