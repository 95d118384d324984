use Rattle.nv_book_laws.proofs.WentOut.{wrote_is_book}
use Rattle.nv_book_laws.proofs.laws.wrote_is_book.Goals as goal

pub returns : goal.returns
returns c = wrote_is_book
