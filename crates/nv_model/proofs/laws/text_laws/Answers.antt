use Rattle.nv_model.proofs.Growing.{operations_add_splices, splice_raises_one_tick}
use Rattle.nv_model.proofs.Texts.{operations_make_texts, deleted_are_kept}
use Rattle.nv_model.proofs.laws.text_laws.Goals as goal

pub returns : goal.returns
returns c = record { splices = operations_add_splices; ticks = splice_raises_one_tick; texts = operations_make_texts; deleted = deleted_are_kept }
