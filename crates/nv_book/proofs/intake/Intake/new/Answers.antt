use Rattle.std.proofs.Common.{ℕ, List, length, refl, ap, arith}
use Rattle.nv_stream.specs.State.{State}
use Rattle.nv_book.specs.Books.{most_nested}
use Rattle.nv_book.proofs.intake.Intake.new.Goals as goal

pub invariant_of-result : goal.invariant_of-result
unfolding most_nested
invariant_of-result c =
    let e = c.in_ok-new.ensures in (
      c.in_ok-vec.ensures.len,
      ap (λ (s : State). s.depth) e,
      ap (λ (s : State). s.most) e,
      omega (arith, ap (λ (s : State). s.start) e, ap (λ (s : State). length s.held) e),
      omega arith,
    )

pub returns : goal.returns
unfolding most_nested
returns c = (refl, c.in_ok-new.ensures)
