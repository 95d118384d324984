use Rattle.nv_model.proofs.Telling.{refused_keeps_editor, first_is_answered}
use Rattle.nv_model.proofs.laws.answer_laws.Goals as goal

pub returns : goal.returns
returns c = record { unchanged = refused_keeps_editor; first = first_is_answered }
