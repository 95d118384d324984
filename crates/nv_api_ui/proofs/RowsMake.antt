-- What each row makes.
use Rattle.std.proofs.Common.{◌≡◌, inl, refl, true, ℕ, List, [], ◌∷◌}
use Rattle.nv_args.specs.declared.methods.UiMethod.{UiMethod}
use Rattle.nv_args.specs.declared.methods.UiMethod.TheVariants.{UiAttach, UiDetach, UiTryResize, UiSetOption}
use Rattle.nv_value.specs.Content.{nil}
use Rattle.nv_model.specs.Operations.{ui_put, uis_dropped}
use Rattle.nv_model.specs.Answers.{replied}
use Rattle.nv_model.specs.Kinds.{MakesOnly, HasEffects}
use Rattle.nv_model.specs.declared.parts.Ui.{Ui}
use Rattle.nv_model.proofs.Making.{making_words, makes_one, makes_no_splice, silent_tells}
use Rattle.nv_api_ui.specs.UiRows.{ui_row, ui_effects}
use Rattle.nv_api_ui.specs.Laws.{UiRowsHaveEffects, UiRowsTell}

-- ---- the operations that the rows make

puts : (ui : Ui) → MakesOnly (ui_effects UiAttach) (replied nil (ui_put ui ∷ []) [])
puts ui = makes_one (ui_effects UiAttach) nil (ui_put ui) (inl refl)

drops : (sessions : List ℕ) → MakesOnly (ui_effects UiDetach) (replied nil (uis_dropped sessions ∷ []) [])
drops sessions = makes_one (ui_effects UiDetach) nil (uis_dropped sessions) (inl refl)

-- ---- row by row; the others make nothing
pub ui_rows_make : UiRowsHaveEffects
unfolding UiRowsHaveEffects
ui_rows_make UiAttach s session args = search (making_words, puts) depth 9
ui_rows_make UiDetach s session args = search (making_words, drops)
ui_rows_make UiTryResize s session args = search (making_words, puts) depth 9
ui_rows_make UiSetOption s session args = search (making_words, puts) depth 9
ui_rows_make method s session args = search making_words

pub ui_makes : (method : UiMethod) → HasEffects (ui_effects method) (ui_row method)
unfolding UiRowsHaveEffects
ui_makes = ui_rows_make

-- ---- no row makes a splice
makes_none : (method : UiMethod) → makes_no_splice (ui_effects method) ≡ true
makes_none UiAttach = refl
makes_none method = refl

pub no_splice_is_told : UiRowsTell
no_splice_is_told method = silent_tells (ui_effects method) (ui_row method) (makes_none method) (ui_makes method)
