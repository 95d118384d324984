use Rattle.std.proofs.Common.{◌≡◌, ◌∙◌, ap, rules}
use Rattle.nv_args.specs.Args.{typed_arguments}
use Rattle.nv_api_win.specs.WindowRows.{coordinate, integer_or_zero}
use Rattle.nv_api_win.proofs.Coordinates.{coordinate_is}
use Rattle.nv_api_win.proofs.cursors.coordinate.Goals as goal

pub returns : goal.returns
returns c =
    let same : c.integer_or_zero.result ≡ coordinate (typed_arguments c.args.args.now) c.args.place =
    c.integer_or_zero.ensures ∙ ap integer_or_zero c.value_at.ensures ∙ coordinate_is (typed_arguments c.args.args.now) c.values.result.now c.args.place c.values.ensures in
    search (rules, same)
