use Rattle.std.proofs.Common.{◌≡◌, ◌+◌, ◌∙◌, ap, take, map, refl, rules}
use Rattle.nv_text.specs.Pieces.{pieces_of}
use Rattle.nv_linedraw.specs.inside.OneRow.{recoloured}
use Rattle.nv_linedraw.proofs.OneRowLemmas.{one_row_laid}
use Rattle.nv_linedraw.proofs.one_row.cells_in_one_row.Goals as goal

pub returns : goal.returns
returns c =
    let most = c.args.most in
    let ps = c.as_slice.result.now in
    let wide : c.in-Some.width ≡ most + 2 = search rules in
    let is : ps ≡ take most (pieces_of c.args.text.now) = search rules in
    c.recolour.ensures
    ∙ ap (map (recoloured c.args.attr)) c.truncate.ensures.items
    ∙ one_row_laid _ most c.args.attr _ _ ps is c.in_ok-lay_pieces.ensures.laid wide (search rules) (search rules) (search rules)
