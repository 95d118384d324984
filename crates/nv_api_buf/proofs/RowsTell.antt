-- Each row tells its splices.
use Rattle.std.proofs.Common.{◌≡◌, refl, ℤ, true, List, [], ◌∷◌, Some}
use Rattle.nv_args.specs.declared.methods.BufferMethod.TheVariants.{Command, BufSetLines, BufSetText}
use Rattle.nv_undo.specs.declared.legs.Leg.{Leg}
use Rattle.nv_value.specs.Content.{nil}
use Rattle.nv_model.specs.Seen.{Seen, SeenBuffer}
use Rattle.nv_model.specs.Operations.{buffer_made, tab_made, tab_closed}
use Rattle.nv_model.specs.Answers.{replied, quit}
use Rattle.nv_model.specs.Rows.{TellsSplices, RowTells}
use Rattle.nv_model.proofs.AnswersTell.{tells_none, tells_splice, tells_answers, tells_unless, tells_barred, tells_found, tells_on_buffer, made_by_legs}
use Rattle.nv_model.proofs.Making.{silent_tells}
use Rattle.nv_api_buf.specs.TextRows.{nvim_buf_set_lines, nvim_buf_set_text}
use Rattle.nv_api_buf.specs.Commands.{Command as Order, undo, redo, undo_to, tabnew, tabclose, quit_all}
use Rattle.nv_api_buf.specs.CommandRows.{command_answer, legs_answer, nvim_command}
use Rattle.nv_api_buf.specs.Rows.{buffer_row, buffer_effects}
use Rattle.nv_api_buf.specs.Laws.{EachSpliceIsTold}
use Rattle.nv_api_buf.proofs.RowsMake.{buffer_makes}

-- ---- the rows that splice

tells_legs : (s : Seen) (n : ℤ) (b : SeenBuffer) (legs : List Leg) → s.buffer n ≡ Some b → TellsSplices s (legs_answer s n b legs)
tells_legs s n b legs is = search (tells_unless, made_by_legs)

ruleset words = (tells_on_buffer, tells_found, tells_unless, tells_barred, tells_answers, tells_splice, tells_legs)

tells_tab_made : (s : Seen) (n : ℤ) → TellsSplices s (replied nil (buffer_made true ∷ tab_made n ∷ []) [])
tells_tab_made s n = tells_none s nil (buffer_made true ∷ tab_made n ∷ []) [] (λ k. refl) (λ k. refl)

tells_tab_closed : (s : Seen) (t : ℤ) → TellsSplices s (replied nil (tab_closed t ∷ []) [])
tells_tab_closed s t = tells_none s nil (tab_closed t ∷ []) [] (λ k. refl) (λ k. refl)

tells_quit : (s : Seen) → TellsSplices s (replied nil [] (quit ∷ []))
tells_quit s = tells_none s nil [] (quit ∷ []) (λ k. refl) (λ k. refl)

tells_commands : (s : Seen) (c : Order) → TellsSplices s (command_answer s c)
tells_commands s undo = search words
tells_commands s redo = search words
tells_commands s (undo_to k) = search words
tells_commands s tabnew = search (words, tells_tab_made)
tells_commands s tabclose = search (words, tells_tab_closed)
tells_commands s quit_all = tells_quit s

command : RowTells nvim_command
command s session args = search (words, tells_commands)

set_lines : RowTells nvim_buf_set_lines
set_lines s session args = search words

set_text : RowTells nvim_buf_set_text
set_text s session args = search words depth 9

-- ---- all rows; the others make no splice
pub each_splice_is_told : EachSpliceIsTold
unfolding EachSpliceIsTold
each_splice_is_told Command = command
each_splice_is_told BufSetLines = set_lines
each_splice_is_told BufSetText = set_text
each_splice_is_told method = silent_tells (buffer_effects method) (buffer_row method) refl (buffer_makes method)
