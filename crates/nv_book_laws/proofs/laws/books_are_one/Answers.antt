use Rattle.nv_book_laws.proofs.OneBook.{books_are_one}
use Rattle.nv_book_laws.proofs.laws.books_are_one.Goals as goal

pub returns : goal.returns
returns c = books_are_one
