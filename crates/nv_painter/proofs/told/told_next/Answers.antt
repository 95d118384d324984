use Rattle.std.proofs.Common.{subst, sym}
use Rattle.std.specs.Prelude.{IfOk}
use Rattle.nv_linegrid.specs.Told.{IsDrawn, Wanted}
use Rattle.nv_painter.specs.inside.Screens.{IsToldNext}
use Rattle.nv_painter.proofs.told.told_next.Goals as goal

pub told_screen-requires : goal.told_screen-requires
told_screen-requires c = subst IsDrawn (sym c.picture.view_is) c.requires.drawn

pub returns : goal.returns
returns c =
    subst (λ (w : Wanted). IfOk c.told_screen.result (λ next. IsToldNext c.args.old w next.0.items next.1)) c.picture.view_is c.told_screen.ensures
