use Rattle.std.proofs.Common.{ap, sym, subst, All}
use Rattle.nv_layout.specs.Content.{shape_of}
use Rattle.nv_layout.specs.Places.{rects, IsRoomy, IsOnScreen}
use Rattle.nv_windows.specs.Kept.{workspace_of}
use Rattle.nv_windows.specs.Pages.{pages_of}
use Rattle.nv_windows.specs.inside.Seats.{IsPlacedIn}
use Rattle.nv_windows.proofs.Seating.{page_sound, page_placed, area_on_screen}
use Rattle.nv_windows.proofs.seats.seat_all.Goals as goal

pub seat_tabpage-requires-clause-filled : goal.seat_tabpage-requires-clause-filled
seat_tabpage-requires-clause-filled c =
    (page_sound (workspace_of c.args.parts.now) c.deref-tabpage-items.result.now c.loop-tabpage.tabpage-index c.tabpage-item.result c.requires.sound (ap pages_of (sym c.deref-tabpage-items.ensures.value)) c.loop-tabpage-test.true c.tabpage-item.is).filled

pub seat_tabpage-requires-clause-roomy : goal.seat_tabpage-requires-clause-roomy
seat_tabpage-requires-clause-roomy c =
    subst (IsRoomy (shape_of c.tabpage-item.result.tree)) (sym c.windows_area-area.ensures)
    (page_sound (workspace_of c.args.parts.now) c.deref-tabpage-items.result.now c.loop-tabpage.tabpage-index c.tabpage-item.result c.requires.sound (ap pages_of (sym c.deref-tabpage-items.ensures.value)) c.loop-tabpage-test.true c.tabpage-item.is).roomy

pub seat_tabpage-requires-clause-on_screen : goal.seat_tabpage-requires-clause-on_screen
seat_tabpage-requires-clause-on_screen c = subst IsOnScreen (sym c.windows_area-area.ensures) (area_on_screen (workspace_of c.args.parts.now) c.requires.sound)

pub returns-in_err-seat_tabpage : goal.returns-in_err-seat_tabpage
returns-in_err-seat_tabpage c =
    c.seat_tabpage.ensures (workspace_of c.args.parts.now)
    (subst (λ a. All (IsPlacedIn (workspace_of c.args.parts.now) c.tabpage-item.result.handle) (rects (shape_of c.tabpage-item.result.tree) a)) (sym c.windows_area-area.ensures)
    (page_placed (workspace_of c.args.parts.now) c.deref-tabpage-items.result.now c.loop-tabpage.tabpage-index c.tabpage-item.result c.requires.sound (ap pages_of (sym c.deref-tabpage-items.ensures.value)) c.loop-tabpage-test.true c.tabpage-item.is))
    c.loop-tabpage.invariant

pub loop-tabpage-preserved : goal.loop-tabpage-preserved
loop-tabpage-preserved c =
    c.seat_tabpage.ensures (workspace_of c.args.parts.now)
    (subst (λ a. All (IsPlacedIn (workspace_of c.args.parts.now) c.tabpage-item.result.handle) (rects (shape_of c.tabpage-item.result.tree) a)) (sym c.windows_area-area.ensures)
    (page_placed (workspace_of c.args.parts.now) c.deref-tabpage-items.result.now c.loop-tabpage.tabpage-index c.tabpage-item.result c.requires.sound (ap pages_of (sym c.deref-tabpage-items.ensures.value)) c.loop-tabpage-test.true c.tabpage-item.is))
    c.loop-tabpage.invariant
