use Rattle.std.proofs.Common.{List, All, sym, subst}
use Rattle.nv_marks.specs.declared.extmark.Mark.{Mark}
use Rattle.nv_buffer.specs.Marks.{IsMarkIn}
use Rattle.nv_buffer.proofs.Placing.{others_stand}
use Rattle.nv_buffer.proofs.buffer.Buffer.remove_mark.Goals as goal

pub invariant_of-self : goal.invariant_of-self
invariant_of-self c =
    let inside = c.self.inside in
    let places =
    subst (λ (ms : List Mark). All (IsMarkIn inside.text) ms) (sym c.remove.ensures.marks)
    (others_stand inside.text c.args.ns c.args.id inside.marks c.self.invariant.5) in
    (c.self.invariant.0, c.self.invariant.1, c.self.invariant.2, c.self.invariant.3, c.self.invariant.4, places)
