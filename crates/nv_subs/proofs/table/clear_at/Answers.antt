use Rattle.std.proofs.Common.{rules, ◌≡◌, None, to_z, of_z, w64}
use Rattle.nv_subs.proofs.Attached.{updated-at}
use Rattle.nv_subs.proofs.table.clear_at.Goals as goal

pub returns : goal.returns
returns c =
    let key : to_z w64 (of_z w64 c.args.buffer) ≡ c.args.buffer = search rules in
    updated-at c.args.table.now.entries _ _ c.args.buffer None key c.remove.ensures.updates.0
