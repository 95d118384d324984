-- Each row tells its splices.
use Rattle.nv_api_buf.proofs.RowsMake.{buffer_rows_make}
use Rattle.nv_api_buf.proofs.RowsTell.{each_splice_is_told}
use Rattle.nv_api_buf.proofs.laws.telling_laws.Goals as goal

pub returns : goal.returns
returns c = record { effects = buffer_rows_make; told = each_splice_is_told }
