use Rattle.std.proofs.Common.{◌++◌}
use Rattle.nv_msgpack.specs.Shortest.{shortest}
use Rattle.nv_rpc.specs.Outcomes.{call_result_content}
use Rattle.nv_speech.proofs.Flowing.{put_goes, front_told, none_out, ok_goes, err_front}
use Rattle.nv_speech.proofs.saying.send_result.Goals as goal

pub returns-in_default-clause-err : goal.returns-in_default-clause-err
returns-in_default-clause-err g c = none_out _ (c.args.room.now.items ++ shortest (call_result_content c.args.one.now))

pub returns-clause-ok : goal.returns-clause-ok
returns-clause-ok g c =
    ok_goes c.put_out.result (put_goes _ _ c.args.room.now.items (shortest (call_result_content c.args.one.now)) c.put.new.into.items c.put_out.new.room.items c.in-Ok.ensures)
    c.put_out.ensures.ok

pub returns-clause-err : goal.returns-clause-err
returns-clause-err g c =
    err_front c.put_out.result
    (front_told _ _ c.put.new.into.items (c.args.room.now.items ++ shortest (call_result_content c.args.one.now)) c.in-Ok.ensures)
    c.put_out.ensures.err
