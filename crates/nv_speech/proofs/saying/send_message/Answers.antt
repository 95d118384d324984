use Rattle.std.proofs.Common.{◌++◌, sym, ap, ◌∙◌}
use Rattle.std.specs.Prelude.{Err}
use Rattle.std.proofs.lemmas.Result.{err_from_is_err_and}
use Rattle.nv_msgpack.specs.Shortest.{shortest}
use Rattle.nv_rpc.specs.Messages.{message_tree}
use Rattle.nv_core.specs.Contents.{sent_of_shared}
use Rattle.nv_speech.proofs.Flowing.{rose_after, goes_same, goes_flush, flush_cut, front_told, none_out, ok_goes, err_front, passed_on}
use Rattle.nv_speech.proofs.saying.send_message.Goals as goal

pub returns-in_default-clause-err : goal.returns-in_default-clause-err
returns-in_default-clause-err g c = none_out _ (c.args.room.now.items ++ shortest (message_tree (sent_of_shared c.args.message)))

pub returns-in_err-send_left-clause-err : goal.returns-in_err-send_left-clause-err
returns-in_err-send_left-clause-err g c =
    let p = err_from_is_err_and c.from_residual.result c.from_residual.ensures.1 in
    passed_on c.from_residual.result c.in_err-send_left.field-0.0 (p.1 ∙ ap Err p.2) (front_told _ _ _ _ c.in-Ok.ensures.put) c.in_err-send_left.ensures.err

pub returns-clause-ok : goal.returns-clause-ok
returns-clause-ok g c =
    let bytes = shortest (message_tree (sent_of_shared c.args.message)) in
    ok_goes c.put_out.result
    (goes_flush _ _ _ c.args.room.now.items bytes _ _ (goes_same _ _ _ _ c.args.room.now.items bytes _ c.in_ok-send_left.ensures.ok c.in-Ok.ensures.put))
    c.put_out.ensures.ok

pub returns-clause-err : goal.returns-clause-err
returns-clause-err g c =
    let bytes = shortest (message_tree (sent_of_shared c.args.message)) in
    err_front c.put_out.result
    (flush_cut _ _ _ c.args.room.now.items bytes _ (goes_same _ _ _ _ c.args.room.now.items bytes _ c.in_ok-send_left.ensures.ok c.in-Ok.ensures.put))
    c.put_out.ensures.err

pub returns-in_err-send_left-clause-fault : goal.returns-in_err-send_left-clause-fault
returns-in_err-send_left-clause-fault g c =
    let p = err_from_is_err_and c.from_residual.result c.from_residual.ensures.1 in
    λ e. c.in_err-send_left.ensures.fault (sym (p.1 ∙ ap Err p.2) ∙ e)

pub returns-clause-fault : goal.returns-clause-fault
returns-clause-fault g c = λ e. rose_after _ _ _ c.in_ok-send_left.ensures.later (c.put_out.ensures.fault e)
