use Rattle.std.proofs.Common.{◌≡◌, drop, map, take}
use Rattle.std.specs.Map.{keys_of}
use Rattle.nv_painter.specs.Keys.{keys_with_panes}
use Rattle.nv_painter.specs.Pictures.{view_of}
use Rattle.nv_painter.specs.inside.Kept.{AreKept}
use Rattle.nv_painter.proofs.kept.keep_panes.Given as goal

abbrev pub invariant-loop-pane : goal.invariant-loop-pane
invariant-loop-pane l = record {
  kept : AreKept l.cache;
  keys : keys_with_panes l.looks (keys_of l.cache.entries) (drop l.pane-index l.panes) ≡ keys_with_panes l.looks (keys_of l.fn.cache.entries) l.panes;
  views : l.views.items ≡ map view_of (take l.pane-index l.panes);
}
