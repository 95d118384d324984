use Rattle.std.proofs.Common.{◌≡◌, drop, map, take}
use Rattle.std.specs.Map.{keys_of}
use Rattle.nv_painter.specs.Keys.{keys_with_lines}
use Rattle.nv_painter.specs.Pictures.{rows_in_pane}
use Rattle.nv_painter.specs.inside.Kept.{AreKept}
use Rattle.nv_painter.proofs.kept.keep_lines.Given as goal

abbrev pub invariant-loop-line : goal.invariant-loop-line
invariant-loop-line l = record {
  kept : AreKept l.cache;
  keys : keys_with_lines l.pane.rect.width l.pane.tabstop l.looks (keys_of l.cache.entries) (drop l.line-index l.lines)
      ≡ keys_with_lines l.pane.rect.width l.pane.tabstop l.looks (keys_of l.fn.cache.entries) l.lines;
  rows : l.rows.items ≡ map (rows_in_pane l.pane) (take l.line-index l.lines);
}
