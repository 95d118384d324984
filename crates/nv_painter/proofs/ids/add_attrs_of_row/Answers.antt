use Rattle.std.proofs.Common.{◌≡◌, List, Option, OnOk, ap, subst, sym}
use Rattle.nv_hl.specs.declared.cell.Cell.{Cell}
use Rattle.nv_linegrid.specs.Client.{Shown}
use Rattle.nv_linegrid.specs.Told.{with_attrs_of}
use Rattle.nv_painter.specs.inside.Due.{IsDue}
use Rattle.nv_painter.specs.inside.Lent.{cells_lent}
use Rattle.nv_painter.proofs.PlainLemmas.{plain_adds_none}
use Rattle.nv_painter.proofs.ids.add_attrs_of_row.Goals as goal

pub returns-in-Drawn : goal.returns-in-Drawn
returns-in-Drawn c =
    let old = c.args.attrs.now.items in
    subst (λ (l : List Cell). OnOk c.add_attrs_of_drawn.result ((row : List (Option Shown)) (screen : List Cell) → IsDue c.args.due old l screen row
    → c.add_attrs_of_drawn.new.attrs.items ≡ with_attrs_of old screen)) (sym (ap cells_lent c.in-Drawn.is)) c.add_attrs_of_drawn.ensures

pub returns-in-Plain : goal.returns-in-Plain
returns-in-Plain c row screen s =
    plain_adds_none c.args.due c.args.attrs.now.items (cells_lent c.args.cells) screen row c.in-Plain.field-1 c.in-Plain.field-0.now (ap cells_lent c.in-Plain.is) s
