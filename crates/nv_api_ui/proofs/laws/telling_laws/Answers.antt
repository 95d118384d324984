use Rattle.nv_api_ui.proofs.RowsMake.{no_splice_is_told, ui_rows_make}
use Rattle.nv_api_ui.proofs.laws.telling_laws.Goals as goal

pub returns : goal.returns
returns c = record { effects = ui_rows_make; told = no_splice_is_told }
