use Rattle.std.proofs.Common.{◌≡◌, ℕ, List, ◌++◌, ap}
use Rattle.std.specs.Prelude.{codes, decimal}
use Rattle.nv_run.proofs.Lines.{tells_as}
use Rattle.nv_run.proofs.telling.tell_misfit.Goals as goal

pub returns : goal.returns
returns g c =
    let line : codes "nvimd: event " ++ (c.format-number.result.now ++ codes " does not fit\n") ≡ codes "nvimd: event " ++ (decimal c.args.number ++ codes " does not fit\n") =
    ap (λ (d : List ℕ). codes "nvimd: event " ++ (d ++ codes " does not fit\n")) c.format-number.ensures.text in
    tells_as _ _ _ _ line c.tell.ensures
