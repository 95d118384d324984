-- Requests that are drawn (own rule; help: the tag of each method).
use Rattle.std.specs.Prelude.{ℕ, ◌+◌, ◌==◌, nat_lt, negsuc, true, false, if◌then◌else◌, List, [], ◌∷◌, codes}
use Rattle.nv_value.specs.Content.{Tree, Trees, trees_of, in_turn, integer, truth, text, list, pairs}
use Rattle.nv_args.specs.Texts.{strings}
use Rattle.nv_model.specs.Answering.{natural}
use Rattle.nv_gen.specs.Draws.{Draws, ◌>>=◌, drawn, draw, several}

-- what is asked: the session that asks, the method, and the arguments
pub record Question : Type 0 where
  pub session : ℕ
  pub method : List ℕ
  pub arguments : Trees

abbrev pub question : ℕ → List ℕ → List Tree → Question
question s method arguments =
    record { session = s; method = method; arguments = trees_of arguments }

-- a small letter, and a line of fewer than 20 of them
abbrev pub drawn_letter : Draws ℕ
drawn_letter = do
  n ← draw 26
  drawn (97 + n)

abbrev pub drawn_line : Draws (List ℕ)
drawn_line = do
  length ← draw 20
  several length drawn_letter

-- up to three lines in place of up to two
abbrev pub drawn_edit : Draws Question
drawn_edit = do
  from ← draw 12
  more ← draw 3
  count ← draw 4
  lines ← several count drawn_line
  drawn (question 1 (codes "nvim_buf_set_lines") (natural 0 ∷ natural from ∷ natural (from + more)
      ∷ truth false
      ∷ list (strings lines)
      ∷ []))

-- one of fifty marks, in the first namespace; a row past the last is clamped
abbrev pub drawn_mark : Draws Question
drawn_mark = do
  row ← draw 6
  col ← draw 10
  id ← draw 50
  gravity ← draw 2
  drawn (question 1 (codes "nvim_buf_set_extmark") (natural 0 ∷ natural 1 ∷ natural row
      ∷ natural col
      ∷ pairs (in_turn ((text (codes "id"), natural (1 + id))
      ∷ (text (codes "strict"), truth false)
      ∷ (text (codes "right_gravity"), truth (gravity == 1))
      ∷ []))
      ∷ []))

-- back in the history of the text, or forth
abbrev pub drawn_command : Draws Question
drawn_command = do
  side ← draw 2
  drawn (question 1 (codes "nvim_command")
      (text (if side == 0 then codes "undo" else codes "redo") ∷ []))

-- the cursor's place
abbrev pub drawn_cursor : Draws Question
drawn_cursor = do
  row ← draw 3
  col ← draw 8
  drawn (question 1 (codes "nvim_win_set_cursor") (natural 0
      ∷ list (trees_of (natural (1 + row) ∷ natural col ∷ []))
      ∷ []))

-- all lines, which a second session reads
abbrev pub reading : Question
reading = question 2 (codes "nvim_buf_get_lines") (natural 0 ∷ natural 0 ∷ integer (negsuc 0)
    ∷ truth false
    ∷ [])

-- what is asked in a round, of ten that are equally likely: five edits, two marks, a command, a
-- cursor's place, a reading
abbrev pub question_by : ℕ → Draws Question
question_by kind =
    if nat_lt kind 5 then drawn_edit
    else if nat_lt kind 7 then drawn_mark
    else if kind == 7 then drawn_command
    else if kind == 8 then drawn_cursor
    else drawn reading

abbrev pub drawn_round : Draws Question
drawn_round = do
  kind ← draw 10
  question_by kind

-- the second session attaches to the buffer
abbrev pub to_follow_buffer : Question
to_follow_buffer =
    question 2 (codes "nvim_buf_attach") (natural 0 ∷ truth true ∷ pairs (in_turn []) ∷ [])

-- the third attaches a UI of 40 columns and 12 rows
abbrev pub to_show_12_rows : Question
to_show_12_rows =
    question 3 (codes "nvim_ui_attach") (natural 40 ∷ natural 12
    ∷ pairs (in_turn ((text (codes "ext_linegrid"), truth true) ∷ []))
    ∷ [])

-- the first makes the namespace of the marks
abbrev pub to_name_marks : Question
to_name_marks = question 1 (codes "nvim_create_namespace") (text (codes "g") ∷ [])

-- what every script begins with
abbrev pub first_questions : List Question
first_questions = to_follow_buffer ∷ to_show_12_rows ∷ to_name_marks ∷ []
