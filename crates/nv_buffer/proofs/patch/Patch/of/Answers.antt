use Rattle.std.proofs.Common.{◌≡◌, List, ℕ, [], ◌∷◌, length, ap, sym, ◌∙◌, arith, rules}
use Rattle.nv_buffer.specs.Patches.{IsInRow}
use Rattle.nv_buffer.proofs.Patching.{only_line, patch_given}
use Rattle.nv_buffer.proofs.patch.Patch.of.Goals as goal

pub returns : goal.returns
returns c =
    let count : length c.as_slice.result.now ≡ 1 = omega (arith, c.in-len1.len_at_least, c.in-len1.len_below) in
    let in_row : IsInRow c.args.edit.now = search rules in
    let lines : c.args.edit.now.lines ≡ c.as_slice-2.result.now ∷ [] =
    sym c.as_slice.ensures.value
    ∙ only_line c.as_slice.result.now c.line-item.result count c.line-item.is
    ∙ ap (λ (l : List ℕ). l ∷ []) (sym c.as_slice-2.ensures.value) in
    patch_given c.changed.result c.args.text.now c.args.edit.now c.row_of.result.now c.as_slice-2.result.now c.requires.text c.requires.fits in_row
    lines c.row_of.ensures.value c.changed.ensures
