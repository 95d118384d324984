-- Laws of the rows on windows and tabpages.
use Rattle.nv_args.specs.declared.methods.WindowMethod.{WindowMethod}
use Rattle.nv_model.specs.Kinds.{HasEffects}
use Rattle.nv_model.specs.Rows.{RowTells}
use Rattle.nv_api_win.specs.WindowRows.{window_row, window_effects}

-- no row makes a splice, and none tells of one
abbrev pub WindowRowsTell : Type 0
WindowRowsTell = (method : WindowMethod) → RowTells (window_row method)

-- each row makes operations and tells facts of the kinds of its method, and no others
unfoldable pub WindowRowsHaveEffects : Type 0
WindowRowsHaveEffects = (method : WindowMethod)
    → HasEffects (window_effects method) (window_row method)
