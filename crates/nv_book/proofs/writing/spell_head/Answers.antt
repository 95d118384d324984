use Rattle.std.proofs.Common.{length}
use Rattle.nv_value.specs.View.{content}
use Rattle.nv_core.specs.Contents.{plain_entry}
use Rattle.nv_book.specs.Books.{output_pieces}
use Rattle.nv_book.proofs.Results.{on_ok}
use Rattle.nv_book.proofs.Spelling.{head_spelled}
use Rattle.nv_book.proofs.writing.spell_head.Goals as goal

pub returns-in_ok-head-in-Book : goal.returns-in_ok-head-in-Book
returns-in_ok-head-in-Book c =
    on_ok c.encode.result _ _
    (λ p. head_spelled c.args.form (plain_entry c.args.entry.now) (length (output_pieces c.args.output.now)) c.count_of.result (content c.in_ok-head-in-Book.head) c.clear.new.self.items c.encode.new.into.items
    c.in-Book.is c.clear.ensures.items p c.in_ok-head-in-Book.ensures c.count_of.ensures)
    c.encode.ensures.ok
