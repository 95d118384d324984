-- What the code's first bytes stand for in the table.
use Rattle.std.specs.Prelude.{ℕ}
use Rattle.nv_value.specs.Content.{nil, truth, integer}
use Rattle.nv_msgpack.specs.declared.first_bytes.Width.{Width}
use Rattle.nv_msgpack.specs.declared.first_bytes.Width.TheVariants as widths
use Rattle.nv_msgpack.specs.declared.first_bytes.Length.{Length}
use Rattle.nv_msgpack.specs.declared.first_bytes.Length.TheVariants as lengths
use Rattle.nv_msgpack.specs.declared.first_bytes.FirstByte.{FirstByte}
use Rattle.nv_msgpack.specs.declared.first_bytes.FirstByte.TheVariants as begins
use Rattle.nv_msgpack.specs.Spelling.{Size, fixed, field, of_text, of_bin, of_ext, unsigned, signed, float, of_list, of_map, Form, unused, alone, raw, many}

-- How many bytes a width is.
abbrev pub bytes_of : Width → ℕ
bytes_of widths.One = 1
bytes_of widths.Two = 2
bytes_of widths.Four = 4
bytes_of widths.Eight = 8

-- Where the length stands.
abbrev pub size_of : Length → Size
size_of (lengths.Fixed n) = fixed n
size_of lengths.One = field 1
size_of lengths.Two = field 2
size_of lengths.Four = field 4

-- The entry of the table.
abbrev pub form_seen : FirstByte → Form
form_seen begins.Unused = unused
form_seen begins.Nil = alone nil
form_seen (begins.Truth b) = alone (truth b)
form_seen (begins.Small n) = alone (integer n)
form_seen (begins.Text l) = raw of_text (size_of l)
form_seen (begins.Bin l) = raw of_bin (size_of l)
form_seen (begins.Ext l) = raw of_ext (size_of l)
form_seen (begins.Unsigned w) = raw unsigned (fixed (bytes_of w))
form_seen (begins.Signed w) = raw signed (fixed (bytes_of w))
form_seen (begins.Float w) = raw float (fixed (bytes_of w))
form_seen (begins.List l) = many of_list (size_of l)
form_seen (begins.Map l) = many of_map (size_of l)
