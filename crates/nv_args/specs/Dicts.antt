-- The keys that a Dict of a call may have, and what its pairs that count give.
use Rattle.std.specs.Prelude.{ℕ, ℤ, Bool, false, List, Option, option_and_then, unwrap_or}
use Rattle.nv_value.specs.Content.{Tree}
use Rattle.nv_msgpack.specs.Handle.{integer_of}
use Rattle.nv_args.specs.Arguments.{truth_in}
use Rattle.nv_args.specs.KeyValues.{takes_flag, colour_in, terminal_colour_in}
use Rattle.nv_args.specs.Maps.{Key, value_of}

-- a key that needn't be there, with the values that it takes
abbrev pub optional_key : List ℕ → (Tree → Bool) → Key
optional_key name takes = record { name = name; takes = takes; required = false }

-- a key that takes a Boolean
abbrev pub flag_key : List ℕ → Key
flag_key name = optional_key name takes_flag

-- a Boolean by its key, and another where it isn't there
abbrev pub flag_or : Bool → List ℕ → List (Tree × Tree) → Bool
flag_or other name pairs = unwrap_or (option_and_then truth_in (value_of name pairs)) other

-- an Integer by its key, and another where it isn't there
abbrev pub integer_or : ℤ → List ℕ → List (Tree × Tree) → ℤ
integer_or other name pairs = unwrap_or (option_and_then integer_of (value_of name pairs)) other

-- a colour by its key
abbrev pub colour_at : List ℕ → List (Tree × Tree) → Option ℕ
colour_at name pairs =
    option_and_then (λ colour. colour) (option_and_then colour_in (value_of name pairs))

abbrev pub terminal_colour_at : List ℕ → List (Tree × Tree) → Option ℕ
terminal_colour_at name pairs = option_and_then terminal_colour_in (value_of name pairs)
