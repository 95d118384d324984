use Rattle.nv_api_mark.proofs.RowsMake.{no_splice_is_told, mark_rows_make}
use Rattle.nv_api_mark.proofs.laws.telling_laws.Goals as goal

pub returns : goal.returns
returns c = record { effects = mark_rows_make; told = no_splice_is_told }
