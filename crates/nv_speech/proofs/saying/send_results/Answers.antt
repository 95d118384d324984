use Rattle.std.proofs.Common.{◌≡◌, ◌<◌, ◌+◌, ◌++◌, List, ℕ, length, drop, get_or, ap, sym, refl, ◌∙◌, add-one, drop-cons, arith}
use Rattle.std.specs.Prelude.{Err}
use Rattle.std.proofs.lemmas.Result.{err_from_is_err_and}
use Rattle.std.proofs.lemmas.List.{drop_all}
use Rattle.nv_msgpack.specs.Shortest.{shortest}
use Rattle.nv_rpc.specs.Outcomes.{call_result_content}
use Rattle.nv_rpc.specs.declared.outcome.CallResult.{CallResult}
use Rattle.nv_rpc.proofs.Puts.{all_spelled, spelled_at}
use Rattle.nv_speech.proofs.Flowing.{rose_after, going_begins, going_on, going_ends, going_cut, passed_none, passed_on}
use Rattle.nv_speech.proofs.saying.send_results.Goals as goal

-- the spelling of one, and those of what is behind it
first_spelled : (rs : List CallResult) (i : ℕ) (r : CallResult) → i < length rs → r ≡ get_or rs i r
    → all_spelled call_result_content (drop i rs) ≡ shortest (call_result_content r) ++ all_spelled call_result_content (drop (i + 1) rs)
first_spelled rs i r h looked =
    ap (λ (l : List CallResult). all_spelled call_result_content l) (drop-cons rs i r h)
    ∙ ap (λ (n : ℕ). shortest (call_result_content (get_or rs i r)) ++ all_spelled call_result_content (drop n rs)) (sym (add-one i))
    ∙ ap (λ (x : CallResult). shortest (call_result_content x) ++ all_spelled call_result_content (drop (i + 1) rs)) (sym looked)

pub loop-one-init : goal.loop-one-init
loop-one-init g c = record {
  going = going_begins _ c.args.room.now.items _ _ refl;
  later = omega arith;
}

pub send_result-requires : goal.send_result-requires
send_result-requires g c = spelled_at call_result_content c.args.results.now c.loop-one.one-index c.one-item.result (omega arith) c.one-item.is c.requires

pub returns-in_err-send_result-clause-err : goal.returns-in_err-send_result-clause-err
returns-in_err-send_result-clause-err g c =
    let rs = c.args.results.now in
    let i = c.loop-one.one-index in
    let p = err_from_is_err_and c.from_residual.result c.from_residual.ensures.1 in
    passed_on c.from_residual.result c.in_err-send_result.field-0.0 (p.1 ∙ ap Err p.2)
    (going_cut _ _ _ c.args.room.now.items c.loop-one.room.items (shortest (call_result_content c.one-item.result)) (all_spelled call_result_content (drop (i + 1) rs)) _ _ c.loop-one.invariant.going
    (first_spelled rs i c.one-item.result (omega arith) c.one-item.is))
    c.in_err-send_result.ensures.err

pub loop-one-preserved : goal.loop-one-preserved
loop-one-preserved g c =
    let rs = c.args.results.now in
    let i = c.loop-one.one-index in
    record {
      going =
          going_on _ _ _ c.args.room.now.items c.loop-one.room.items c.send_result.new.room.items (shortest (call_result_content c.one-item.result)) (all_spelled call_result_content (drop (i + 1) rs)) _ _
          c.loop-one.invariant.going (first_spelled rs i c.one-item.result (omega arith) c.one-item.is) c.in_ok-send_result.ensures.ok;
      later = omega (arith, c.loop-one.invariant.later, c.in_ok-send_result.ensures.later);
    }

pub returns-clause-ok : goal.returns-clause-ok
returns-clause-ok g c =
    going_ends _ _ c.args.room.now.items c.loop-one.room.items _ _ c.loop-one.invariant.going
    (ap (λ (l : List CallResult). all_spelled call_result_content l) (drop_all c.loop-one.one-index c.args.results.now (omega arith)))

pub returns-in_err-send_result-clause-fault : goal.returns-in_err-send_result-clause-fault
returns-in_err-send_result-clause-fault g c =
    let p = err_from_is_err_and c.from_residual.result c.from_residual.ensures.1 in
    λ e. rose_after _ _ _ c.loop-one.invariant.later (c.in_err-send_result.ensures.fault (sym (p.1 ∙ ap Err p.2) ∙ e))

pub returns-clause-later : goal.returns-clause-later
returns-clause-later g c = omega (arith, c.loop-one.invariant.later)

pub returns-in_err-send_result-clause-ok : goal.returns-in_err-send_result-clause-ok
returns-in_err-send_result-clause-ok g c =
    let p = err_from_is_err_and c.from_residual.result c.from_residual.ensures.1 in
    passed_none _ c.from_residual.result c.in_err-send_result.field-0.0 (p.1 ∙ ap Err p.2)

pub returns-in_err-send_result-clause-later : goal.returns-in_err-send_result-clause-later
returns-in_err-send_result-clause-later g c = omega (arith, c.loop-one.invariant.later, c.in_err-send_result.ensures.later)
