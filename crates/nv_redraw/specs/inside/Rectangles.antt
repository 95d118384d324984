-- inside: the scroll of a rectangle.
use Rattle.std.specs.Prelude.{ℤ}
use Rattle.nv_linegrid.specs.declared.event.Redraw.{Redraw}
use Rattle.nv_linegrid.specs.declared.event.Redraw.TheVariants.{Scroll}
use Rattle.nv_redraw.specs.declared.lines.Rectangle.{Rectangle}

abbrev pub scroll_by : ℤ → Rectangle → Redraw
scroll_by grid r = Scroll grid r.top r.bot r.left r.right r.rows
