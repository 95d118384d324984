use Rattle.std.proofs.Common.{◌≡◌, ◌-◌, ◌∙◌, suc, ap, length, set, rules}
use Rattle.nv_hl.specs.Cells.{space}
use Rattle.nv_screen.proofs.LayLemmas.{last_is_set}
use Rattle.nv_screen.proofs.laying.end_with_space.Goals as goal

pub returns : goal.returns
returns c =
    let cs = c.args.cells.now.items in
    let k = c.len-count.result - 1 in
    let d = c.index.result.now in
    let last : suc k ≡ length cs = search rules in
    ap (set cs k) (c.space.ensures ∙ ap (λ x. space x.attr) c.index.ensures) ∙ last_is_set cs k d last
