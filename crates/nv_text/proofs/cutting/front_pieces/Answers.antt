use Rattle.std.proofs.Common.{◌≡◌, ◌≤◌, ◌+◌, length, arith, rules}
use Rattle.nv_text.specs.Pieces.{pieces_of}
use Rattle.nv_text.proofs.PrefixLemmas.{front_first}
use Rattle.nv_text.proofs.cutting.front_pieces.Goals as goal

pub returns : goal.returns
returns c =
    let ps = c.in_ok-pieces.pieces.items in
    let front = c.text_at_front-front.result.now in
    let is : ps ≡ pieces_of front = search rules in
    let enough : c.args.most + 2 ≤ length ps =
    omega (arith, c.if-len-lt2.false, c.if-len-most.false, c.len.ensures, c.len-else-len-lt2.ensures, c.in_ok-pieces.pieces.ok.0) in
    front_first c.args.line.now c.split_at.result.0.now front c.saturating_add-window.result c.args.most ps c.truncate.new.self.items
    c.split_at.ensures.front c.text_at_front-front.ensures.value is enough c.truncate.ensures.items
