-- inside: the least size of UIs.
use Rattle.std.specs.Prelude.{ℕ, List, [], ◌∷◌, map}
use Rattle.nv_model.specs.Stage.{least_of}
use Rattle.nv_model.specs.declared.parts.Ui.{Ui}

-- the least of the widths, or the heights, of UIs; 0 where there is none
abbrev pub least_size : (Ui → ℕ) → List Ui → ℕ
least_size size [] = 0
least_size size (u ∷ us) = least_of (size u) (map size us)
