use Rattle.std.proofs.Common.{◌≡◌, List, ℕ, ◌++◌, map, ap, ◌∙◌, arith}
use Rattle.nv_book.specs.Books.{output_pieces, shortest_of_all}
use Rattle.nv_book.specs.inside.Steps.{piece_tree}
use Rattle.nv_book.proofs.Cutting.{piece_on}
use Rattle.nv_book.proofs.writing.spell_output.Goals as goal

pub loop-rest-preserved : goal.loop-rest-preserved
loop-rest-preserved c =
    let P = piece_tree c.args.form c.args.at c.args.session in
    let others = c.split_at.result.1.now in
    ap (λ (l : List ℕ). l ++ shortest_of_all (map P (output_pieces others))) c.in_ok-spell_piece.ensures
    ∙ piece_on P c.loop-rest.room.items c.loop-rest.rest.now c.split_at.result.0.now others c.min.result (omega arith) c.min.ensures c.split_at.ensures.front c.split_at.ensures.back
    ∙ c.loop-rest.invariant
