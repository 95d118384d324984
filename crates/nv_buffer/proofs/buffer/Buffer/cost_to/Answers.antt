use Rattle.std.proofs.Common.{◌≤◌, ◌∙◌, arith, sym}
use Rattle.nv_undo.specs.Tree.{last}
use Rattle.nv_buffer.proofs.Costs.{cost_to_itself, cost_to_open, way_bounded}
use Rattle.nv_buffer.proofs.buffer.Buffer.cost_to.Goals as goal

pub returns-then-n-changes : goal.returns-then-n-changes
returns-then-n-changes c =
    sym (cost_to_itself c.args.self.now c.args.n (λ none. c.if-unsealed-eq0.false (c.unsealed_len-unsealed.ensures ∙ none)) c.requires
    (omega (arith, c.changes.ensures, c.if-n-changes.true)))

pub overflow_add-result : goal.overflow_add-result
overflow_add-result c =
    let within : c.args.n ≤ last c.args.self.now.undo = omega (arith, c.changes.ensures, c.if-n-changes.false) in
    let tree = c.known.ensures.buffer.tree in
    let most = way_bounded c.args.self.now.undo c.args.self.now.undo.current c.args.n tree tree.within within in
    omega (arith, most, c.way_len-2.ensures, c.unsealed_len-unsealed.ensures, c.known.ensures.small)

pub returns : goal.returns
returns c =
    let within : c.args.n ≤ last c.args.self.now.undo = omega (arith, c.changes.ensures, c.if-n-changes.false) in
    let all =
    cost_to_open c.args.self.now c.args.n c.known.ensures.buffer.tree (λ none. c.if-unsealed-eq0.false (c.unsealed_len-unsealed.ensures ∙ none)) within in
    omega (arith, all, c.way_len-2.ensures, c.unsealed_len-unsealed.ensures)
