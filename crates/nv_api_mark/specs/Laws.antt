-- Laws of the rows on marks and groups.
use Rattle.nv_args.specs.declared.methods.MarkMethod.{MarkMethod}
use Rattle.nv_model.specs.Kinds.{HasEffects}
use Rattle.nv_model.specs.Rows.{RowTells}
use Rattle.nv_api_mark.specs.Rows.{mark_row, mark_effects}

-- no row makes a splice, and none tells of one
abbrev pub MarkRowsTell : Type 0
MarkRowsTell = (method : MarkMethod) → RowTells (mark_row method)

-- each row makes operations and tells facts of the kinds of its method, and no others
unfoldable pub MarkRowsHaveEffects : Type 0
MarkRowsHaveEffects = (method : MarkMethod) → HasEffects (mark_effects method) (mark_row method)
