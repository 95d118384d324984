use Rattle.std.proofs.Common.{List, ◌∙◌, sym, subst, All}
use Rattle.nv_marks.specs.Moves.{MovesNarrowly}
use Rattle.nv_marks.specs.declared.extmark.Mark.{Mark}
use Rattle.nv_buffer.proofs.MarkOrders.{marks_are, none_moves}
use Rattle.nv_buffer.proofs.Placing.{marks_struck_narrowly}
use Rattle.nv_buffer.proofs.buffer.move_marks.Goals as goal

pub splice-requires-clause-moved : goal.splice-requires-clause-moved
splice-requires-clause-moved c =
    let by = c.args.by.now in
    subst (λ (ms : List Mark). All (MovesNarrowly by.start by.removed by.put) ms) (sym c.strike.ensures.marks)
    (marks_struck_narrowly by.start by.removed by.put c.args.marks.now.marks c.requires.moved)

pub returns : goal.returns
returns c =
    marks_are c.args.marks.now c.strike.new.self c.splice.new.self c.put_back.new.self c.args.kept.now c.args.by.now c.len-count.ensures.sound.distinct
    c.strike.ensures.marks c.splice.ensures.marks c.put_back.ensures.marks
    (c.put_back.ensures.greatest ∙ c.splice.ensures.greatest ∙ c.strike.ensures.greatest)
    (c.put_back.ensures.settings ∙ c.splice.ensures.settings ∙ c.strike.ensures.settings)

pub returns-then-count-eq0 : goal.returns-then-count-eq0
returns-then-count-eq0 c =
    none_moves c.args.kept.now c.args.marks.now c.args.by.now (sym c.len-count.ensures.count ∙ c.if-count-eq0.true)
