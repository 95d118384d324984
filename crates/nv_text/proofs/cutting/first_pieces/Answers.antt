use Rattle.std.proofs.Common.{◌≡◌, take, rules}
use Rattle.nv_text.specs.Pieces.{pieces_of}
use Rattle.nv_text.proofs.PartLemmas.{pieces_lie_within}
use Rattle.nv_text.proofs.cutting.first_pieces.Goals as goal

pub returns-in-Some-clause-within : goal.returns-in-Some-clause-within
returns-in-Some-clause-within c =
    let first : c.in-Some.pieces.items ≡ take c.args.most (pieces_of c.args.line.now) = search rules in
    pieces_lie_within c.args.line.now c.args.most c.in-Some.pieces.items first

pub returns-clause-within : goal.returns-clause-within
returns-clause-within c =
    let first : c.truncate.new.self.items ≡ take c.args.most (pieces_of c.args.line.now) = search rules in
    pieces_lie_within c.args.line.now c.args.most c.truncate.new.self.items first
