-- What the undo commands do: legs in the tree of changes, and the splices of each (help:
-- undo-commands).
use Rattle.std.specs.Prelude.{ℕ, List, [], flat_map}
use Rattle.std.specs.Option.{option_map_or}
use Rattle.nv_undo.specs.Tree.{Undo, change_of}
use Rattle.nv_undo.specs.Ways.{origin}
use Rattle.nv_undo.specs.declared.legs.Leg.{Leg}
use Rattle.nv_undo.specs.declared.legs.Leg.TheVariants.{Back, Ahead}
use Rattle.nv_model.specs.Buffers.{Splice, Kept, inverse_splices, kept_text}

-- the splices of a change, none at 0
abbrev pub splices_at : Undo Kept → ℕ → List Splice
splices_at undo n = option_map_or (λ k. k.splices) (change_of undo n) []

-- the splices of a leg: those that take back the change that is left, from its parent's text on, or
-- those of the change that is entered; `first` is the text of the number 0 (help: undo-commands)
abbrev pub leg_splices : List ℕ → Undo Kept → Leg → List Splice
leg_splices first undo (Back n) =
    inverse_splices (kept_text first undo (origin undo n)) (splices_at undo n)
leg_splices first undo (Ahead n) = splices_at undo n

-- the splices of legs gone one after another
abbrev pub legs_splices : List ℕ → Undo Kept → List Leg → List Splice
legs_splices first undo legs = flat_map (leg_splices first undo) legs
