use Rattle.std.proofs.Common.{arith, ap}
use Rattle.nv_text.specs.Pieces.{strwidth_of}
use Rattle.nv_text.proofs.PartLemmas.{cells-le, front_cells-le, strwidth_more, strwidth_last}
use Rattle.nv_text.proofs.measuring.strwidth.Goals as goal

pub overflow_add-cells : goal.overflow_add-cells
overflow_add-cells c =
    let front = c.text_at_front-front.result.now in
    omega (
      arith,
      c.requires,
      c.loop-rest.invariant.sum,
      cells-le c.args.text.now,
      c.text_width-cells.ensures.value,
      front_cells-le c.loop-rest.rest.now front (c.text_at_front-front.ensures.value, c.text_at_front-front.ensures.len),
    )

pub returns-then-front-rest : goal.returns-then-front-rest
returns-then-front-rest c =
    let front = c.text_at_front-front.result.now in
    omega (
      arith,
      c.loop-rest.invariant.sum,
      c.text_width-cells.ensures.value,
      strwidth_last c.loop-rest.rest.now front (c.text_at_front-front.ensures.value, c.text_at_front-front.ensures.len) (omega arith),
    )

pub overflow_add-cells-in-loop-rest : goal.overflow_add-cells-in-loop-rest
overflow_add-cells-in-loop-rest c =
    let front = c.text_at_front-front.result.now in
    omega (
      arith,
      c.requires,
      c.loop-rest.invariant.sum,
      cells-le c.args.text.now,
      c.text_width-cells.ensures.value,
      strwidth_more c.loop-rest.rest.now front (c.text_at_front-front.ensures.value, c.text_at_front-front.ensures.len) (omega arith),
    )

pub loop-rest-preserved : goal.loop-rest-preserved
loop-rest-preserved c =
    let front = c.text_at_front-front.result.now in
    record {
      sum = omega (
        arith,
        c.loop-rest.invariant.sum,
        c.text_width-cells.ensures.value,
        ap strwidth_of c.split_at.ensures.back,
        strwidth_more c.loop-rest.rest.now front (c.text_at_front-front.ensures.value, c.text_at_front-front.ensures.len) (omega arith),
      );
      within = omega (arith, c.split_at.ensures.back_len, c.loop-rest.invariant.within);
    }
