use Rattle.std.proofs.Common.{sym, append-nil}
use Rattle.nv_speech.proofs.Flowing.{only_waits, all_written, front_same}
use Rattle.nv_speech.proofs.saying.put_out.Goals as goal

pub returns-then-not-is_full-clause-ok : goal.returns-then-not-is_full-clause-ok
returns-then-not-is_full-clause-ok g c = only_waits _ c.args.room.now.items _ c.args.room.now.items (sym (append-nil c.args.room.now.items))

pub returns-then-not-put_all-clause-err : goal.returns-then-not-put_all-clause-err
returns-then-not-put_all-clause-err g c =
    let front = c.if-not-put_all.ensures.prefix in
    front_same _ _ c.deref-2.result.now c.args.room.now.items (record { count = front.0; written = front.2 }) c.deref-2.ensures.value

pub returns-clause-ok : goal.returns-clause-ok
returns-clause-ok g c =
    all_written _ _ c.deref-2.result.now c.args.room.now.items c.clear.new.self.items c.if-not-put_all.ensures.all c.deref-2.ensures.value c.clear.ensures.items
