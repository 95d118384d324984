-- How a window is opened: the keys of its configuration (help: nvim_open_win(), api-win_config).
use Rattle.std.specs.Prelude.{ℕ, ℤ, pos, ◌+◌, true, List, [], ◌∷◌, codes, bytes_eq, Option, Some, None, option_and_then, unwrap_or, if◌then◌else◌}
use Rattle.std.specs.Option.{option_map_or}
use Rattle.nv_value.specs.Content.{Tree}
use Rattle.nv_msgpack.specs.Handle.{handle_in}
use Rattle.nv_args.specs.Arguments.{string_in}
use Rattle.nv_args.specs.Dicts.{optional_key}
use Rattle.nv_args.specs.KeyValues.{number_between, integer_between, takes_handle, takes_integer_between, takes_side}
use Rattle.nv_args.specs.Maps.{Key, value_of}
use Rattle.nv_layout.specs.declared.nodes.Side.{Side}
use Rattle.nv_layout.specs.declared.nodes.Side.TheVariants.{Left, Right, Above, Below}

-- the widths, and the heights, that a window may wish (own rule)
abbrev pub width_in : ℤ → Option ℕ
width_in = number_between 1 2000

abbrev pub height_in : ℤ → Option ℕ
height_in = number_between 1 1000

-- the side that a word names
abbrev pub side_named : List ℕ → Option Side
side_named word =
    if bytes_eq word (codes "left") then Some Left
    else if bytes_eq word (codes "right") then Some Right
    else if bytes_eq word (codes "above") then Some Above
    else if bytes_eq word (codes "below") then Some Below
    else None

abbrev pub side_in : Tree → Option Side
side_in t = option_and_then side_named (string_in t)

-- the keys: on which side, of which window, and the width and height that are wished
abbrev pub opening_keys : List Key
opening_keys =
    (record { name = codes "split"; takes = takes_side; required = true })
    ∷ optional_key (codes "win") (takes_handle (pos 1))
    ∷ optional_key (codes "width") (takes_integer_between 1 2000)
    ∷ optional_key (codes "height") (takes_integer_between 1 1000)
    ∷ []

-- the side, where pairs that count have it
abbrev pub side_of : List (Tree × Tree) → Side
side_of pairs = unwrap_or (option_and_then side_in (value_of (codes "split") pairs)) Right

-- the window beside which it opens, the current one where none is named
abbrev pub beside_of : List (Tree × Tree) → ℤ
beside_of pairs =
    unwrap_or (option_and_then (handle_in (pos 1)) (value_of (codes "win") pairs)) (pos 0)

-- the width that is wished, and the height, which counts the status line; 0 for none (own rule)
abbrev pub wished_width : List (Tree × Tree) → ℕ
wished_width pairs =
    unwrap_or (option_and_then (integer_between 1 2000) (value_of (codes "width") pairs)) 0

abbrev pub wished_height : List (Tree × Tree) → ℕ
wished_height pairs =
    option_map_or (λ n. n + 1)
    (option_and_then (integer_between 1 1000) (value_of (codes "height") pairs)) 0
