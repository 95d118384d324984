use Rattle.std.proofs.Common.{arith}
use Rattle.nv_redraw.proofs.CandidateParts.{nth_is, nth_is_nil}
use Rattle.nv_redraw.proofs.reading.item_at.Goals as goal

pub returns-then-place-items : goal.returns-then-place-items
returns-then-place-items c = nth_is c.args.items.now c.args.place c.index-items-place.result (omega (arith, c.if-place-items.true)) c.index-items-place.is

pub returns-else-place-items : goal.returns-else-place-items
returns-else-place-items c = nth_is_nil c.args.items.now c.args.place (omega (arith, c.if-place-items.false))
