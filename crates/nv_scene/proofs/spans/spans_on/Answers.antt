use Rattle.std.proofs.Common.{◌≡◌, take, ap, ◌∙◌, arith}
use Rattle.std.specs.Prelude.{flat_map}
use Rattle.std.proofs.lemmas.List.{take_all}
use Rattle.nv_scene.specs.inside.Painting.{spans_of_mark}
use Rattle.nv_scene.proofs.Painted.{all_shown}
use Rattle.nv_scene.proofs.spans.spans_on.Goals as goal

pub returns : goal.returns
returns c =
    let all : take c.loop-mark.mark-index c.args.marks.now ≡ c.args.marks.now = take_all c.loop-mark.mark-index c.args.marks.now (omega (arith, c.loop-mark-test.false)) in
    c.loop-mark.invariant
    ∙ ap (flat_map (spans_of_mark c.args.groups.now c.args.row c.args.len)) all
    ∙ all_shown c.args.groups.now c.args.row c.args.len c.args.marks.now
