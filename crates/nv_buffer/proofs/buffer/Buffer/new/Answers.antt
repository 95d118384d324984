use Rattle.std.proofs.Common.{arith, rules, ◌∙◌}
use Rattle.nv_buffer.proofs.TreeAhead.{none_ahead}
use Rattle.nv_buffer.proofs.LeadingBack.{begins}
use Rattle.nv_buffer.proofs.buffer.Buffer.new.Goals as goal

pub invariant_of-result-3 : goal.invariant_of-result-3
invariant_of-result-3 c =
    let first =
    begins _ c.in_ok-new.field-0 c.new-6.result.items c.in_ok-marks.marks (c.text.view_is ∙ c.in_ok-text.ensures) c.in_ok-new.ensures
    c.new-6.ensures.items c.in_ok-marks.ensures in
    (first.narrow, omega arith, omega arith, first.buffer, first.lead, first.places)

pub returns : goal.returns
returns c = search (rules, none_ahead)
