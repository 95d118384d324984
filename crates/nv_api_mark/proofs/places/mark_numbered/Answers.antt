use Rattle.std.proofs.Common.{◌<ℤ◌, pos, rules}
use Rattle.nv_api_mark.proofs.MarkLookups.{numbered_none}
use Rattle.nv_api_mark.proofs.places.mark_numbered.Goals as goal

pub returns-then-number-from : goal.returns-then-number-from
returns-then-number-from c =
    let above : pos 4294967295 <ℤ c.args.number = search rules in
    numbered_none c.args.buffer.now c.marks-marks.result.now c.args.ns c.args.number c.marks-marks.ensures.value c.len.ensures.sound c.next_id.ensures.within above
