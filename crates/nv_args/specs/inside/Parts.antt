-- inside: the parts of a virtual text, one by one.
use Rattle.std.specs.Prelude.{Bool, true, Option, None, Some, option_and_then, option_map}
use Rattle.std.specs.Option.{option_map_or}
use Rattle.nv_value.specs.Content.{Tree}
use Rattle.nv_args.specs.declared.chunks.GivenChunk.{GivenChunk as LentChunk}
use Rattle.nv_args.specs.Chunks.{GivenChunk, chunk_in}
use Rattle.nv_args.specs.Naming.{is_group_name}

-- a part as it is lent
abbrev pub part_lent : LentChunk → GivenChunk
part_lent c = (c.text.now, option_map (λ name. name.now) c.group)

-- a value is no part with a group, or names one by a name that a group may have
abbrev pub names_group_of : Tree → Bool
names_group_of t = option_map_or is_group_name (option_and_then (λ c. c.1) (chunk_in t)) true
