-- The value in hand, after a write through the loan of it.
use Rattle.nv_turn.specs.Passes.{HeldState}

-- the same pass, with the value w
abbrev pub with_value : {T E D : Type 0} → HeldState T E D → T → HeldState T E D
with_value h w = record h { value = w }
