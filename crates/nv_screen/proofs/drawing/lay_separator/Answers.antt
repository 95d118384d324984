use Rattle.std.proofs.Common.{◌≡◌, ◌+◌, ◌∷◌, [], arith, refl, rules}
use Rattle.nv_hl.specs.Cells.{cell_of}
use Rattle.nv_screen.proofs.LayLemmas.{equal_next, laid_next}
use Rattle.nv_screen.proofs.drawing.lay_separator.Goals as goal

pub loop-k-preserved : goal.loop-k-preserved
loop-k-preserved c =
    let at = c.loop-k in
    let r = c.args.rect.now in
    let strip = cell_of (0xE2 ∷ 0x94 ∷ 0x82 ∷ []) c.args.bars.now.separator ∷ [] in
    let cells : c.push.new.self.items ≡ strip = search rules in
    laid_next at.canvas c.lay.new.self _ (r.row + at.k) (r.row + (at.k + 1)) r.col c.push.new.self.items _ _ _ _
    (equal_next r.height at.k strip c.loop-k-test.true) cells refl (omega arith) c.in_ok-lay.ensures at.invariant
