-- inside: what telling a screen does.
use Rattle.std.specs.Prelude.{◌≡◌, suc, pos, Bool, List, ◌++◌, length, map, drop}
use Rattle.nv_hl.specs.declared.attribute.Attr.{Attr}
use Rattle.nv_hl.specs.declared.cell.Cell.{Cell}
use Rattle.nv_linegrid.specs.declared.event.Redraw.{Redraw}
use Rattle.nv_linegrid.specs.declared.event.Redraw.TheVariants.{Clear}
use Rattle.nv_linegrid.specs.Batch.{attrs_defined, batch, event_if, told_after}
use Rattle.nv_linegrid.specs.Client.{ShownRows}
use Rattle.nv_linegrid.specs.Laws.{ShowsWanted}
use Rattle.nv_linegrid.specs.Rows.{lines_of_rows}
use Rattle.nv_linegrid.specs.Scrolls.{Shift, scroll_of}
use Rattle.nv_linegrid.specs.Told.{Told, Wanted, known_rows, shown_rows, with_attrs_of_rows}

-- inside: a screen was told: its new attributes, how rows moved, and the rows that differed
pub record TellsScreen (resized : Bool) (shifts : List Shift) (screen : List (List Cell))
    (old attrs : List Attr)
    (rows after : ShownRows)
    (before events : List Redraw) : Type 0 where
  pub attrs_are : attrs ≡ with_attrs_of_rows old screen
  pub rows_are : after ≡ known_rows (shown_rows attrs screen)
  pub events_are : events
      ≡ before ++ attrs_defined (suc (length old)) (drop (length old) attrs)
      ++ event_if resized (Clear (pos 1))
      ++ map scroll_of shifts
      ++ lines_of_rows 0 rows (shown_rows attrs screen)

-- inside: the batch that is due, and what was told once it was
pub record IsToldNext (t : Told) (w : Wanted) (events : List Redraw) (told : Told) : Type 0 where
  pub events_are : events ≡ batch t w
  pub told_is : told ≡ told_after t w
  pub shows : ShowsWanted t w
