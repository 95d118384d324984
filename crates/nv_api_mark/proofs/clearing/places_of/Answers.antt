use Rattle.std.proofs.Common.{Option, subst, sym}
use Rattle.nv_places.specs.declared.place.Pos.{Pos}
use Rattle.nv_api_mark.specs.inside.Picking.{CoversRows}
use Rattle.nv_api_mark.proofs.Picked.{covers_between, covers_none, covers_past}
use Rattle.nv_api_mark.proofs.clearing.places_of.Goals as goal

pub returns-in_err-to : goal.returns-in_err-to
returns-in_err-to c =
    subst (λ (o : Option (Pos × Pos)). CoversRows c.args.rows o) (sym c.from_residual.ensures)
    (covers_none c.args.rows c.last_place.result c.in_err-to.was c.last_place.ensures)

pub returns-then-first-gt-GREATEST : goal.returns-then-first-gt-GREATEST
returns-then-first-gt-GREATEST c = covers_past c.args.rows c.if-first-gt-GREATEST.true

pub returns : goal.returns
returns c = covers_between c.args.rows c.last_place.result c.in_ok-to.to c.in_ok-to.was c.last_place.ensures
