-- One more line.
use Rattle.std.proofs.Common.{◌≡◌, ℕ, suc, ◌+◌, List, [], ◌∷◌, ◌++◌, length, subst, arith}
use Rattle.nv_hl.specs.Groups.{NamedGroup}
use Rattle.nv_screen.specs.declared.scene.SceneLine.{SceneLine}
use Rattle.nv_model.specs.Seen.{SeenBuffer}
use Rattle.nv_scene.specs.Panes.{AreLinesOf, IsLineOf}

pub lines_push : (groups : List NamedGroup) (b : SeenBuffer) (row next : ℕ) (ls : List SceneLine) (l : SceneLine) → AreLinesOf groups b row ls
    → next ≡ row + length ls → IsLineOf groups b next l → AreLinesOf groups b row (ls ++ l ∷ [])
lines_push groups b row next [] l are e is = (subst (λ (n : ℕ). IsLineOf groups b n l) (omega (arith, e)) is, tt)
lines_push groups b row next (k ∷ ls) l are e is = (are.0, lines_push groups b (suc row) next ls l are.1 (omega (arith, e)) is)
