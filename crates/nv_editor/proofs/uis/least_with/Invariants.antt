use Rattle.std.proofs.Common.{◌≡◌, ◌∷◌, [], map, take}
use Rattle.nv_model.specs.Stage.{least_of, other_uis}
use Rattle.nv_editor.proofs.uis.least_with.Given as goal

abbrev pub invariant-loop-other : goal.invariant-loop-other
invariant-loop-other l =
    (l.width ≡ least_of l.fn.ui.width (map (λ v. v.width) (other_uis (l.fn.ui.session ∷ []) (take l.other-index l.uis))))
    × (l.height ≡ least_of l.fn.ui.height (map (λ v. v.height) (other_uis (l.fn.ui.session ∷ []) (take l.other-index l.uis))))
