use Rattle.nv_book_laws.proofs.Written.{written_is_book}
use Rattle.nv_book_laws.proofs.laws.written_is_book.Goals as goal

pub returns : goal.returns
returns c = written_is_book
