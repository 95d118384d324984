-- inside: what the spellings of replies and events begin with.
use Rattle.std.specs.Prelude.{ℕ, ℤ, pos, List, [], ◌∷◌, ◌++◌}
use Rattle.nv_value.specs.Content.{integer}
use Rattle.nv_msgpack.specs.Shortest.{shortest, list_head}
use Rattle.nv_rpc.specs.Messages.{buffer_handle, lines_name}

-- A response without an error, up to its result: an array of four, 1, the msgid and nil.
abbrev pub response_head : ℕ → List ℕ
response_head msgid = 0x94 ∷ 1 ∷ (shortest (integer (pos msgid)) ++ 0xc0 ∷ [])

-- Results of calls one after another, and where they stopped, up to the first result: an array of
-- two, the first of which is an array of so many.
abbrev pub atomic_head : ℕ → List ℕ
atomic_head count = 0x92 ∷ list_head count

-- A lines event up to its lines: an array of three, 2, the name, an array of six, the handle of the
-- buffer, and three numbers.
abbrev pub lines_front : ℤ → ℤ → ℤ → ℤ → List ℕ
lines_front buffer tick first last =
    (0x93 ∷ 2 ∷ 0xb4 ∷ (lines_name ++ 0x96 ∷ []))
    ++ (shortest (buffer_handle buffer) ++ (shortest (integer tick)
    ++ (shortest (integer first) ++ shortest (integer last))))
