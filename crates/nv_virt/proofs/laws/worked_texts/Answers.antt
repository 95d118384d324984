use Rattle.nv_virt.proofs.WorkedTexts.{cut_pair_is_space, eol_is_after_free_column, eol_of_full_row_is_outside, overlay_is_at_byte, parts_are_one_behind_another, right_is_at_edge}
use Rattle.nv_virt.proofs.laws.worked_texts.Goals as goal

pub returns-clause-eol : goal.returns-clause-eol
returns-clause-eol c = eol_is_after_free_column

pub returns-clause-full : goal.returns-clause-full
returns-clause-full c = eol_of_full_row_is_outside

pub returns-clause-overlay : goal.returns-clause-overlay
returns-clause-overlay c = overlay_is_at_byte

pub returns-clause-right : goal.returns-clause-right
returns-clause-right c = right_is_at_edge

pub returns-clause-parts : goal.returns-clause-parts
returns-clause-parts c = parts_are_one_behind_another

pub returns-clause-cut : goal.returns-clause-cut
returns-clause-cut c = cut_pair_is_space
