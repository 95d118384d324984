use Rattle.nv_book_laws.proofs.OneOutput.{outputs_are_one}
use Rattle.nv_book_laws.proofs.laws.outputs_are_one.Goals as goal

pub returns : goal.returns
returns c = outputs_are_one
