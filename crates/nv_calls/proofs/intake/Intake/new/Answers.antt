use Rattle.std.proofs.Common.{length, ap, arith}
use Rattle.nv_stream.specs.State.{State}
use Rattle.nv_calls.specs.Reading.{most_depth}
use Rattle.nv_calls.specs.inside.Bounded.{intake_of}
use Rattle.nv_calls.proofs.intake.Intake.new.Goals as goal

pub invariant_of-result : goal.invariant_of-result
unfolding most_depth
invariant_of-result c =
    let e = c.in_ok-new.ensures in (
      c.in_ok-vec.ensures.len,
      (
        ap (λ (s : State). s.depth) e,
        ap (λ (s : State). s.most) e,
        omega (arith, ap (λ (s : State). s.start) e),
        omega (arith, ap (λ (s : State). s.start) e, ap (λ (s : State). length s.held) e),
      ),
    )

pub returns : goal.returns
returns c = ap (λ (s : State). intake_of s 0) c.in_ok-new.ensures
