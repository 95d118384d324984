-- Laws of the rows on buffers.
use Rattle.nv_args.specs.declared.methods.BufferMethod.{BufferMethod}
use Rattle.nv_model.specs.Kinds.{HasEffects}
use Rattle.nv_model.specs.Rows.{RowTells}
use Rattle.nv_api_buf.specs.Rows.{buffer_row, buffer_effects}

-- what a row answers tells of each buffer just its splices
unfoldable pub EachSpliceIsTold : Type 0
EachSpliceIsTold = (method : BufferMethod) → RowTells (buffer_row method)

-- each row makes operations and tells facts of the kinds of its method, and no others
unfoldable pub BufferRowsHaveEffects : Type 0
BufferRowsHaveEffects = (method : BufferMethod)
    → HasEffects (buffer_effects method) (buffer_row method)
