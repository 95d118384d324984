use Rattle.std.proofs.Common.{◌≡◌, take, ap, ◌∙◌, arith}
use Rattle.std.specs.Prelude.{flat_map}
use Rattle.std.proofs.lemmas.List.{take_all}
use Rattle.nv_scene.specs.inside.Painting.{mark_if_on}
use Rattle.nv_scene.proofs.Painted.{all_on}
use Rattle.nv_scene.proofs.spans.marks_among.Goals as goal

pub returns : goal.returns
returns c =
    let all : take c.loop-mark.mark-index c.args.marks.now ≡ c.args.marks.now = take_all c.loop-mark.mark-index c.args.marks.now (omega (arith, c.loop-mark-test.false)) in
    c.loop-mark.invariant
    ∙ ap (flat_map (mark_if_on c.args.first c.args.behind)) all
    ∙ all_on c.args.first c.args.behind c.args.marks.now
