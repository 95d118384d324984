use Rattle.nv_replay.proofs.Closings.{no_book_written}
use Rattle.nv_replay.proofs.generating.generate.Goals as goal

pub returns-in-Err-clause-ends : goal.returns-in-Err-clause-ends
returns-in-Err-clause-ends g c = no_book_written _ _ _
