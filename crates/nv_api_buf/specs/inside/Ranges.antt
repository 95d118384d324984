-- inside: rows that a range of the second to the fourth argument names.
use Rattle.std.specs.Prelude.{ℕ, nat_lt, List, [], ◌∷◌}
use Rattle.nv_args.specs.Arguments.{row_of_index}
use Rattle.nv_args.specs.Faults.{out_of_bounds, start_after_end}
use Rattle.nv_args.specs.Reading.{Arg, number_at}
use Rattle.nv_model.specs.Answers.{Answer, unless}
use Rattle.nv_api_buf.specs.TextRows.{range_leaves}
use Rattle.nv_api_buf.specs.declared.lines.Rows.{Rows}

-- the rows of a text of so many lines
abbrev pub range_rows : List Arg → ℕ → Rows
range_rows args count = record {
  from = row_of_index (number_at args 1) count;
  to = row_of_index (number_at args 2) count;
}

-- an answer to these, unless the range leaves the text, or its end is before its start
abbrev pub ordered_rows : List Arg → ℕ → (Rows → Answer) → Answer
ordered_rows args count answer =
    unless (
    (range_leaves args count, out_of_bounds)
    ∷ (nat_lt (range_rows args count).to (range_rows args count).from, start_after_end)
    ∷ [])
    (answer (range_rows args count))
