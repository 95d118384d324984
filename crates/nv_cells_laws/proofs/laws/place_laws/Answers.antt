use Rattle.nv_cells_laws.proofs.Places.{bytes_past_stand_first, empty_lines_are_blank, first_pieces_stand_first, pieces_follow, pieces_stand, rests_are_blank}
use Rattle.nv_cells_laws.proofs.laws.place_laws.Goals as goal

pub returns-clause-stand : goal.returns-clause-stand
returns-clause-stand c = pieces_stand

pub returns-clause-first : goal.returns-clause-first
returns-clause-first c = first_pieces_stand_first

pub returns-clause-follow : goal.returns-clause-follow
returns-clause-follow c = pieces_follow

pub returns-clause-rest : goal.returns-clause-rest
returns-clause-rest c = rests_are_blank

pub returns-clause-empty : goal.returns-clause-empty
returns-clause-empty c = empty_lines_are_blank

pub returns-clause-past : goal.returns-clause-past
returns-clause-past c = bytes_past_stand_first
