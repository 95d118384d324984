use Rattle.std.proofs.Common.{sym}
use Rattle.nv_book.proofs.Cutting.{piece_number}
use Rattle.nv_book.proofs.writing.count_of.Goals as goal

pub returns : goal.returns
returns c = sym (piece_number c.args.output.now)
