use Rattle.std.proofs.Common.{◌≡◌, ◌∷◌, [], List, map, take, ap, ◌∙◌, arith}
use Rattle.std.proofs.lemmas.List.{take_all}
use Rattle.nv_model.specs.Stage.{least_of, other_uis}
use Rattle.nv_model.specs.declared.parts.Ui.{Ui}
use Rattle.nv_editor.proofs.UiSizes.{least_among, least_first}
use Rattle.nv_editor.proofs.uis.least_with.Goals as goal

pub returns-clause-width : goal.returns-clause-width
returns-clause-width c =
    let all : take c.loop-other.other-index c.args.uis.now ≡ c.args.uis.now = take_all c.loop-other.other-index c.args.uis.now (omega (arith, c.loop-other-test.false)) in
    c.loop-other.invariant.0
    ∙ ap (λ (us : List Ui). least_of c.args.ui.width (map (λ v. v.width) (other_uis (c.args.ui.session ∷ []) us))) all
    ∙ least_among (λ (v : Ui). v.width) c.args.ui 0 c.args.uis.now c.requires

pub returns-clause-height : goal.returns-clause-height
returns-clause-height c =
    let all : take c.loop-other.other-index c.args.uis.now ≡ c.args.uis.now = take_all c.loop-other.other-index c.args.uis.now (omega (arith, c.loop-other-test.false)) in
    c.loop-other.invariant.1
    ∙ ap (λ (us : List Ui). least_of c.args.ui.height (map (λ v. v.height) (other_uis (c.args.ui.session ∷ []) us))) all
    ∙ least_among (λ (v : Ui). v.height) c.args.ui 0 c.args.uis.now c.requires

pub returns-clause-narrow : goal.returns-clause-narrow
returns-clause-narrow c =
    omega (arith, c.loop-other.invariant.0, least_first c.args.ui.width (map (λ (v : Ui). v.width) (other_uis (c.args.ui.session ∷ []) (take c.loop-other.other-index c.args.uis.now))))

pub returns-clause-low : goal.returns-clause-low
returns-clause-low c =
    omega (arith, c.loop-other.invariant.1, least_first c.args.ui.height (map (λ (v : Ui). v.height) (other_uis (c.args.ui.session ∷ []) (take c.loop-other.other-index c.args.uis.now))))
