-- The keys of a method's Dict as the code has them.
use Rattle.std.specs.Prelude.{pos, Bool, true, false}
use Rattle.nv_value.specs.Content.{Tree}
use Rattle.nv_args.specs.declared.rules.Rule.{Rule}
use Rattle.nv_args.specs.declared.rules.Takes.{Takes}
use Rattle.nv_args.specs.declared.rules.Takes.TheVariants.{Boolean, True, Integer, Between, From, String, NameOrNumber, Buffer, Window, Tabpage, Colour, TerminalColour, Side, Chunks, TextPlace, Nothing, Any}
use Rattle.nv_args.specs.KeyValues.{takes_flag, takes_true, takes_integer, takes_integer_between, takes_integer_from, takes_string, takes_side, takes_name_or_number, takes_handle, takes_colour, takes_terminal_colour}
use Rattle.nv_args.specs.Chunks.{takes_chunks, takes_text_place}
use Rattle.nv_args.specs.Maps.{Key}

-- which values a key takes, by the word for them
abbrev pub takes_of : Takes → Tree → Bool
takes_of Boolean = takes_flag
takes_of True = takes_true
takes_of Integer = takes_integer
takes_of (Between low high) = takes_integer_between low high
takes_of (From low) = takes_integer_from low
takes_of String = takes_string
takes_of NameOrNumber = takes_name_or_number
takes_of Buffer = takes_handle (pos 0)
takes_of Window = takes_handle (pos 1)
takes_of Tabpage = takes_handle (pos 2)
takes_of Colour = takes_colour
takes_of TerminalColour = takes_terminal_colour
takes_of Side = takes_side
takes_of Chunks = takes_chunks
takes_of TextPlace = takes_text_place
takes_of Nothing = λ t. false
takes_of Any = λ t. true

-- a key that a method knows
abbrev pub key_of : Rule → Key
key_of rule = record { name = rule.name.now; takes = takes_of rule.takes; required = rule.required }
