use Rattle.nv_model.proofs.Told.{splice_tells_text, rows_are_spliced, text_is_spliced}
use Rattle.nv_model.proofs.laws.edit_laws.Goals as goal

pub returns : goal.returns
returns c = record { rows = rows_are_spliced; text = text_is_spliced; told = splice_tells_text }
