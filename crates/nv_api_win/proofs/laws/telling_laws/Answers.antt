use Rattle.nv_api_win.proofs.RowsMake.{no_splice_is_told, window_rows_make}
use Rattle.nv_api_win.proofs.laws.telling_laws.Goals as goal

pub returns : goal.returns
returns c = record { effects = window_rows_make; told = no_splice_is_told }
