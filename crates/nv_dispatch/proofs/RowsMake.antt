-- What each row makes and tells.
use Rattle.std.specs.Prelude.{IfSome, Option, Some, None}
use Rattle.nv_value.specs.Content.{nil}
use Rattle.nv_args.specs.declared.methods.Method.TheVariants.{Atomic, PassedOver, Buffer, Mark, Window, Ui}
use Rattle.nv_model.specs.Kinds.{no_effects, HasEffects}
use Rattle.nv_model.proofs.Making.{makes_answers}
use Rattle.nv_api_buf.proofs.RowsMake.{buffer_makes}
use Rattle.nv_api_mark.proofs.RowsMake.{mark_makes}
use Rattle.nv_api_win.proofs.RowsMake.{window_makes}
use Rattle.nv_api_ui.proofs.RowsMake.{ui_makes}
use Rattle.nv_dispatch.specs.Calls.{passed_over, row_of}
use Rattle.nv_dispatch.specs.Effects.{RowsHaveEffects}

-- a method that is passed over makes nothing
pub passed_over_makes : HasEffects no_effects passed_over
passed_over_makes s session args = makes_answers no_effects nil

pub rows_make : RowsHaveEffects
unfolding RowsHaveEffects row_of
rows_make Atomic = tt
rows_make PassedOver = passed_over_makes
rows_make (Buffer method) = buffer_makes method
rows_make (Mark method) = mark_makes method
rows_make (Window method) = window_makes method
rows_make (Ui method) = ui_makes method

-- what follows from what holds of a row
pub if_some : {X : Type 0} (P Q : X → Type 0) → ((x : X) → P x → Q x) → (o : Option X) → IfSome o P → IfSome o Q
if_some P Q each None h = tt
if_some P Q each (Some x) h = each x h
