use Rattle.std.proofs.Common.{rules, ◌-◌, drop, length, arith}
use Rattle.std.proofs.lemmas.List.{take_all, length-drop}
use Rattle.nv_layout.proofs.Leading.{leads_to, path_some}
use Rattle.nv_layout.proofs.changes.way_on.Goals as goal

pub returns : goal.returns
returns c =
    leads_to c.args.window c.args.trees.now c.args.path.now _ _ c.requires.held c.requires.path (search rules)
    (take_all (length c.args.path.now - 1) (drop 1 c.args.path.now) (omega (arith, length-drop 1 c.args.path.now)))

pub bounds-path-0 : goal.bounds-path-0
bounds-path-0 c = omega (arith, path_some c.args.window c.args.trees.now c.args.path.now c.requires.held c.requires.path)

pub slice_bounds-result-count : goal.slice_bounds-result-count
slice_bounds-result-count c = omega (arith, path_some c.args.window c.args.trees.now c.args.path.now c.requires.held c.requires.path)

pub slice_bounds-result-start : goal.slice_bounds-result-start
slice_bounds-result-start c = omega (arith, path_some c.args.window c.args.trees.now c.args.path.now c.requires.held c.requires.path)
