use Rattle.std.proofs.Common.{◌≡◌, drop}
use Rattle.std.specs.List.{list_any}
use Rattle.nv_hl.specs.Attributes.{same_attr}
use Rattle.nv_painter.proofs.ids.is_among.Given as goal

abbrev pub invariant-loop-other : goal.invariant-loop-other
invariant-loop-other l = list_any (same_attr l.attr) (drop l.other-index l.attrs) ≡ list_any (same_attr l.attr) l.attrs
