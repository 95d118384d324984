use Rattle.nv_dispatch.proofs.CallLaws.{names_stand_once, methods_have_rows}
use Rattle.nv_dispatch.proofs.RowsMake.{rows_make}
use Rattle.nv_dispatch.proofs.laws.table_laws.Goals as goal

pub returns : goal.returns
returns c = record { once = names_stand_once; rows = methods_have_rows; effects = rows_make }
