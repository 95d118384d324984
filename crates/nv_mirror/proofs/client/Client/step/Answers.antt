use Rattle.std.proofs.Common.{[], length, Err, sym, ap, subst, ◌∙◌, true, false, arith}
use Rattle.std.proofs.lemmas.Result.{err_from_is_err_and}
use Rattle.nv_stream.specs.State.{State}
use Rattle.nv_stream.specs.Answers.{NeedsMore}
use Rattle.nv_mirror.specs.inside.Steps.{standing_of}
use Rattle.nv_mirror.proofs.Outs.{known_none}
use Rattle.nv_mirror.proofs.Standings.{steps_no_memory, steps_end, steps_value, steps_none, steps_flaw, value_moves, no_read_at, no_server_at}
use Rattle.nv_mirror.proofs.client.Client.step.Goals as goal

pub returns-in_default-clause-steps : goal.returns-in_default-clause-steps
returns-in_default-clause-steps g c = ([], known_none _, steps_no_memory ⊥ [] (standing_of c.args.self.now) (standing_of c.args.self.now))

pub returns-in_err-take_value-in-Value-clause-steps : goal.returns-in_err-take_value-in-Value-clause-steps
returns-in_err-take_value-in-Value-clause-steps g c =
    let n = rw c.in-Value.is at c.in-Ok.ensures.ok in
    let t = c.in_err-take_value-in-Value.ensures.takes in
    let p = err_from_is_err_and c.from_residual.result c.from_residual.ensures.1 in
    rw (p.1, p.2) (t.0, t.1, steps_end c.in-Value.value c.in_err-take_value-in-Value.field-0.0 t.0 (standing_of c.args.self.now) _ (standing_of c.args.self.now) n t.2)

pub returns-in_ok-take_value-in-Value-clause-steps : goal.returns-in_ok-take_value-in-Value-clause-steps
returns-in_ok-take_value-in-Value-clause-steps g c =
    let n = rw c.in-Value.is at c.in-Ok.ensures.ok in
    let t = c.in_ok-take_value-in-Value.ensures.takes in
    (t.0, t.1, steps_value c.in-Value.value t.0 (standing_of c.args.self.now) _ n t.2)

pub returns-in-More-clause-steps : goal.returns-in-More-clause-steps
returns-in-More-clause-steps g c =
    let n = rw c.in-More.is at c.in-Ok.ensures.ok in
    let s = standing_of c.args.self.now in
    ([], known_none _, steps_none ⊥ s _ (ap (λ (x : State). record s { stream = x }) n.0))

pub returns-in-Flaw-clause-steps : goal.returns-in-Flaw-clause-steps
returns-in-Flaw-clause-steps g c =
    let n = rw c.in-Flaw.is at c.in-Ok.ensures.ok in
    ([], known_none _, steps_flaw c.in-Flaw.flaw (standing_of c.args.self.now) _ (standing_of c.args.self.now) n)

pub returns-in_ok-take_value-in-Value-clause-ready : goal.returns-in_ok-take_value-in-Value-clause-ready
returns-in_ok-take_value-in-Value-clause-ready g c =
    let n = rw c.in-Value.is at c.in-Ok.ensures.ok in
    let m = value_moves c.in-Value.value c.args.self.now.stream _ n in
    let t = c.in_ok-take_value-in-Value.ensures.takes in
    record {
      steady = c.in_ok-take_value-in-Value.ensures.steady;
      counted = omega (arith, m.2, t.2.number, c.requires.ready.counted);
    }

pub returns-in_ok-take_value-in-Value-clause-same : goal.returns-in_ok-take_value-in-Value-clause-same
returns-in_ok-take_value-in-Value-clause-same g c =
    let n = rw c.in-Value.is at c.in-Ok.ensures.ok in
    (value_moves c.in-Value.value c.args.self.now.stream _ n).1

pub returns-in_ok-take_value-in-Value-clause-smaller : goal.returns-in_ok-take_value-in-Value-clause-smaller
returns-in_ok-take_value-in-Value-clause-smaller g c =
    let n = rw c.in-Value.is at c.in-Ok.ensures.ok in
    λ e. (value_moves c.in-Value.value c.args.self.now.stream _ n).0

pub returns-in_err-take_value-in-Value-clause-no_read : goal.returns-in_err-take_value-in-Value-clause-no_read
returns-in_err-take_value-in-Value-clause-no_read g c =
    let t = c.in_err-take_value-in-Value.ensures.takes in
    let p = err_from_is_err_and c.from_residual.result c.from_residual.ensures.1 in
    λ e. no_read_at c.from_residual.result c.in_err-take_value-in-Value.field-0.0 _ _ t.0 t.2 (p.1 ∙ ap Err p.2) e

pub returns-in_err-take_value-in-Value-clause-no_server : goal.returns-in_err-take_value-in-Value-clause-no_server
returns-in_err-take_value-in-Value-clause-no_server g c =
    let t = c.in_err-take_value-in-Value.ensures.takes in
    let p = err_from_is_err_and c.from_residual.result c.from_residual.ensures.1 in
    λ e. no_server_at c.from_residual.result c.in_err-take_value-in-Value.field-0.0 _ _ t.0 t.2 (p.1 ∙ ap Err p.2) e

pub returns-in-More-clause-ready : goal.returns-in-More-clause-ready
returns-in-More-clause-ready g c =
    let n = rw c.in-More.is at c.in-Ok.ensures.ok in
    record {
      steady = c.requires.ready.steady;
      counted = omega (arith, ap (λ (s : State). s.start) n.0, c.requires.ready.counted);
    }

pub returns-in-More-clause-same : goal.returns-in-More-clause-same
returns-in-More-clause-same g c =
    let n = rw c.in-More.is at c.in-Ok.ensures.ok in
    omega (arith, ap (λ (s : State). s.start) n.0, ap (λ (s : State). length s.held) n.0)

pub returns-in-More-clause-waits : goal.returns-in-More-clause-waits
returns-in-More-clause-waits g c =
    let n = rw c.in-More.is at c.in-Ok.ensures.ok in
    λ e. subst (λ (s : State). NeedsMore s) (sym n.0) n.2
