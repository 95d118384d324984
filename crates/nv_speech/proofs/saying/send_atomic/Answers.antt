use Rattle.std.proofs.Common.{◌++◌, List, map, sym, ap, subst, ◌∙◌}
use Rattle.std.specs.Prelude.{Err}
use Rattle.std.proofs.lemmas.Result.{err_from_is_err_and}
use Rattle.nv_value.specs.View.{content}
use Rattle.nv_value.specs.Content.{trees_of}
use Rattle.nv_msgpack.specs.Shortest.{HaveSpellings, shortest}
use Rattle.nv_rpc.specs.Outcomes.{call_result_content}
use Rattle.nv_rpc.specs.declared.outcome.CallResult.{CallResult}
use Rattle.nv_rpc.proofs.Puts.{all_spelled}
use Rattle.nv_speech.proofs.Flowing.{goes_same, goes_more, goes_cut, front_before_same, none_out, passed_on}
use Rattle.nv_speech.proofs.saying.send_atomic.Goals as goal

pub send_results-requires : goal.send_results-requires
send_results-requires g c =
    subst (λ (rs : List CallResult). HaveSpellings (trees_of (map call_result_content rs))) (sym c.as_slice.ensures.value) c.requires.results

pub encode-requires : goal.encode-requires
encode-requires g c = c.requires.stop

pub returns-in_err-send_results-clause-err : goal.returns-in_err-send_results-clause-err
returns-in_err-send_results-clause-err g c =
    let all = all_spelled call_result_content c.args.atomic.results.items in
    let stop = shortest (content c.args.atomic.stop) in
    let p = err_from_is_err_and c.from_residual.result c.from_residual.ensures.1 in
    passed_on c.from_residual.result c.in_err-send_results.field-0.0 (p.1 ∙ ap Err p.2)
    (front_before_same _ _ c.args.room.now.items _ all stop (ap (λ (rs : List CallResult). all_spelled call_result_content rs) c.as_slice.ensures.value))
    c.in_err-send_results.ensures.err

pub returns-in-Ok-clause-ok : goal.returns-in-Ok-clause-ok
returns-in-Ok-clause-ok g c =
    let room = c.args.room.now.items in
    let all = all_spelled call_result_content c.args.atomic.results.items in
    goes_more _ _ room all c.send_results.new.room.items (shortest (content c.args.atomic.stop)) c.encode.new.into.items
    (goes_same _ _ room _ room all _ c.in_ok-send_results.ensures.ok
    (ap (λ (rs : List CallResult). room ++ all_spelled call_result_content rs) c.as_slice.ensures.value))
    c.in-Ok.ensures.ok

pub returns-clause-err : goal.returns-clause-err
returns-clause-err g c =
    let all = all_spelled call_result_content c.args.atomic.results.items in
    let stop = shortest (content c.args.atomic.stop) in
    let room = c.args.room.now.items in
    let same = ap (λ (rs : List CallResult). room ++ all_spelled call_result_content rs) c.as_slice.ensures.value in
    goes_cut _ _ _ room all c.send_results.new.room.items stop (goes_same _ _ room _ room all _ c.in_ok-send_results.ensures.ok same)
    (none_out _ (c.send_results.new.room.items ++ stop))

pub returns-in_err-send_results-clause-fault : goal.returns-in_err-send_results-clause-fault
returns-in_err-send_results-clause-fault g c =
    let p = err_from_is_err_and c.from_residual.result c.from_residual.ensures.1 in
    λ e. c.in_err-send_results.ensures.fault (sym (p.1 ∙ ap Err p.2) ∙ e)
