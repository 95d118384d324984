use Rattle.std.proofs.Common.{rules, ◌≡◌, Err}
use Rattle.nv_book.specs.declared.faults.BookFault.TheVariants.{Unfit}
use Rattle.nv_replay.proofs.replaying.write_outputs.Goals as goal

pub unreachable-requires : goal.unreachable-requires
unreachable-requires g c =
    let n = c.in-Err-Unfit.field-0-0 in
    let met : c.write_replay-written.result ≡ Err (Unfit n) = search rules in
    c.requires.fit n (c.write_replay-written.ensures.unfit n met)
