use Rattle.std.proofs.Common.{◌≡◌, ◌++◌, ◌∙◌, rules, arith}
use Rattle.nv_undo.proofs.PathLemmas.{walk_back, walk_ahead, walks_meet}
use Rattle.nv_undo.proofs.tree.UndoTree.path_between.Goals as goal

pub loop-from-preserved-then-from-to : goal.loop-from-preserved-then-from-to
loop-from-preserved-then-from-to g c =
    let l = c.loop-from in
    let parent = c.parent_below-from in
    record {
      from_in = omega (arith, parent.ensures.below, l.invariant.from_in);
      to_in = l.invariant.to_in;
      legs =
          walk_back c.args.self.now l.from parent.result l.to l.legs.items c.push.new.self.items l.ahead.items parent.ensures.tree
          parent.ensures.number (omega arith) (search rules)
          ∙ l.invariant.legs;
    }

pub loop-from-preserved : goal.loop-from-preserved
loop-from-preserved g c =
    let l = c.loop-from in
    let parent = c.parent_below-to in
    record {
      from_in = l.invariant.from_in;
      to_in = omega (arith, parent.ensures.below, l.invariant.to_in);
      legs =
          walk_ahead c.args.self.now l.from l.to parent.result l.legs.items l.ahead.items c.push-else-from-to.new.self.items
          parent.ensures.tree parent.ensures.number (omega arith) (search rules)
          ∙ l.invariant.legs;
    }

pub returns : goal.returns
returns g c =
    let l = c.loop-from in
    let joined : c.append.new.self.items ≡ l.legs.items ++ mathlib.Core.List.reverse l.ahead.items = search rules in
    joined ∙ (walks_meet c.args.self.now l.from l.to l.legs.items l.ahead.items (omega arith) ∙ l.invariant.legs)
