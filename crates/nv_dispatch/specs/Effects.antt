-- The kinds of operations that the row of each method makes, and of facts that it tells.
use Rattle.std.specs.Prelude.{IfSome}
use Rattle.nv_args.specs.declared.methods.Method.{Method}
use Rattle.nv_args.specs.declared.methods.Method.TheVariants.{Atomic, PassedOver, Buffer, Mark, Window, Ui}
use Rattle.nv_model.specs.Kinds.{Effects, no_effects, HasEffects}
use Rattle.nv_api_buf.specs.Rows.{buffer_effects}
use Rattle.nv_api_mark.specs.Rows.{mark_effects}
use Rattle.nv_api_win.specs.WindowRows.{window_effects}
use Rattle.nv_api_ui.specs.UiRows.{ui_effects}
use Rattle.nv_dispatch.specs.Calls.{row_of}

abbrev pub effects_of : Method → Effects
effects_of Atomic = no_effects
effects_of PassedOver = no_effects
effects_of (Buffer method) = buffer_effects method
effects_of (Mark method) = mark_effects method
effects_of (Window method) = window_effects method
effects_of (Ui method) = ui_effects method

-- each row has the effects of its method and no others
unfoldable pub RowsHaveEffects : Type 0
RowsHaveEffects = (method : Method) → IfSome (row_of method) (HasEffects (effects_of method))
