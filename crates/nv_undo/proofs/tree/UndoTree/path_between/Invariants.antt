use Rattle.std.proofs.Common.{◌≡◌, ◌≤◌, ◌+◌, ◌++◌, reverse}
use Rattle.nv_undo.specs.Tree.{last, path}
use Rattle.nv_undo.proofs.tree.UndoTree.path_between.Given as goal

-- the legs so far, then the path between where the two walks stand, then what was left of the other walk, are the path
abbrev pub invariant-loop-from : goal.invariant-loop-from
invariant-loop-from g l = record {
  from_in : l.from ≤ last l.self;
  to_in : l.to ≤ last l.self;
  legs : l.legs.items ++ (path l.self l.from l.to ++ reverse l.ahead.items) ≡ path l.self l.initial.from l.initial.to;
}

-- each step lowers one of the two numbers
abbrev pub decreases-loop-from : goal.decreases-loop-from
decreases-loop-from g l = l.from + l.to
