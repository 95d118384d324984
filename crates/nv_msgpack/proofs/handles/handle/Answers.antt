-- The number is an i64, so it has a spelling, of at most nine bytes.
use Rattle.std.proofs.Common.{◌≡◌, ◌<◌, ◌^◌, ℕ, length, arith, ap, subst, sym}
use Rattle.nv_value.specs.Content.{integer}
use Rattle.nv_value.proofs.Contents.{content-Ext}
use Rattle.nv_msgpack.specs.Shortest.{integer_spelling, HasSpelling}
use Rattle.nv_msgpack.proofs.Spelled.{spelled}
use Rattle.nv_msgpack.proofs.Least.{integer_length}
use Rattle.nv_msgpack.proofs.handles.handle.Goals as goal

pub returns-in_err-put_integer-clause-spelled : goal.returns-in_err-put_integer-clause-spelled
returns-in_err-put_integer-clause-spelled c = (0, spelled (integer c.args.number) c.ranges.number tt 0 (omega arith))

pub returns-in_err-data-clause-spelled : goal.returns-in_err-data-clause-spelled
returns-in_err-data-clause-spelled c = (0, spelled (integer c.args.number) c.ranges.number tt 0 (omega arith))

pub returns-clause-spelled : goal.returns-clause-spelled
returns-clause-spelled c = (0, spelled (integer c.args.number) c.ranges.number tt 0 (omega arith))

pub returns-clause-has_spelling : goal.returns-clause-has_spelling
returns-clause-has_spelling c =
    let same : c.in_ok-data.data ≡ integer_spelling c.args.number = grind arith in
    let few : length c.in_ok-data.data < 2 ^ 32 = omega (arith, ap (length {A = ℕ}) same, integer_length c.args.number) in
    subst HasSpelling (sym (content-Ext _ c.in_ok-data.data)) few
