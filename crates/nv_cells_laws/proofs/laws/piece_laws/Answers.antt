use Rattle.nv_cells_laws.proofs.Spelling.{pieces_spell_lines}
use Rattle.nv_cells_laws.proofs.laws.piece_laws.Goals as goal

pub returns : goal.returns
returns c = pieces_spell_lines
