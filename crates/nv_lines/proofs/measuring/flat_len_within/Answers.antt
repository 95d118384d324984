use Rattle.std.proofs.Common.{arith, refl}
use Rattle.nv_lines.proofs.FlatLengths.{row_start-le, rows_apart}
use Rattle.nv_lines.proofs.measuring.flat_len_within.Goals as goal

pub flat_len-requires : goal.flat_len-requires
flat_len-requires c =
    omega (
      arith,
      rows_apart c.args.lines.now c.args.lines.now c.args.from c.args.to refl c.requires.order,
      row_start-le c.args.lines.now c.args.to,
      c.requires.small,
    )

pub returns : goal.returns
returns c = (
  omega arith,
  omega (
    arith,
    c.flat_len.ensures,
    rows_apart c.args.lines.now c.args.lines.now c.args.from c.args.to refl c.requires.order,
  ),
)
