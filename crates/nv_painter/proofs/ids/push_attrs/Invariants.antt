use Rattle.std.proofs.Common.{◌≡◌, suc, ◌++◌, drop}
use Rattle.nv_linegrid.specs.Batch.{attrs_defined}
use Rattle.nv_painter.proofs.ids.push_attrs.Given as goal

abbrev pub invariant-loop-k : goal.invariant-loop-k
invariant-loop-k l =
    l.events.items ++ attrs_defined (suc l.k) (drop l.k l.attrs) ≡ l.fn.events.items ++ attrs_defined (suc l.count) (drop l.count l.attrs)
