use Rattle.std.proofs.Common.{◌≡◌, ◌++◌, map, length}
use Rattle.nv_book.specs.Books.{output_pieces, shortest_of_all}
use Rattle.nv_book.specs.inside.Steps.{piece_tree}
use Rattle.nv_book.proofs.writing.spell_output.Given as goal

abbrev pub invariant-loop-rest : goal.invariant-loop-rest
invariant-loop-rest l =
    l.room.items ++ shortest_of_all (map (piece_tree l.form l.at l.session) (output_pieces l.rest))
    ≡ l.initial.room.items ++ shortest_of_all (map (piece_tree l.form l.at l.session) (output_pieces l.output))

abbrev pub decreases-loop-rest : goal.decreases-loop-rest
decreases-loop-rest l = length l.rest
