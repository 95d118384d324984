-- What was written is a spelling, since what the value's types say was seen on the way.
use Rattle.std.proofs.Common.{arith}
use Rattle.nv_value.specs.View.{content}
use Rattle.nv_msgpack.specs.Shortest.{depth}
use Rattle.nv_msgpack.proofs.Spelled.{spelled}
use Rattle.nv_msgpack.proofs.writer.encode.Goals as goal

pub returns-in-Ok-clause-spelled : goal.returns-in-Ok-clause-spelled
returns-in-Ok-clause-spelled c =
    let value = content c.args.value.now in
    spelled value c.in-Ok.ensures.in_range c.requires (depth value) (omega arith)
