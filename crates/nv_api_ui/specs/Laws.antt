-- Laws of the rows of UIs.
use Rattle.nv_args.specs.declared.methods.UiMethod.{UiMethod}
use Rattle.nv_model.specs.Kinds.{HasEffects}
use Rattle.nv_model.specs.Rows.{RowTells}
use Rattle.nv_api_ui.specs.UiRows.{ui_row, ui_effects}

-- no row makes a splice, and none tells of one
abbrev pub UiRowsTell : Type 0
UiRowsTell = (method : UiMethod) → RowTells (ui_row method)

-- each row makes operations and tells facts of the kinds of its method, and no others
unfoldable pub UiRowsHaveEffects : Type 0
UiRowsHaveEffects = (method : UiMethod) → HasEffects (ui_effects method) (ui_row method)
