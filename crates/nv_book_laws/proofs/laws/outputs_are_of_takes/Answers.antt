use Rattle.nv_book_laws.proofs.Takes.{outputs_are_of_takes}
use Rattle.nv_book_laws.proofs.laws.outputs_are_of_takes.Goals as goal

pub returns : goal.returns
returns c = outputs_are_of_takes
