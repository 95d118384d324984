use Rattle.std.proofs.Common.{◌∙◌, ap}
use Rattle.nv_buffer.specs.Changes.{rows_edit}
use Rattle.nv_buffer.specs.declared.edit.ChangePart.{ChangePart}
use Rattle.nv_buffer.specs.Content.{Content}
use Rattle.nv_buffer.proofs.Reaches.{rows_edit_is}
use Rattle.nv_buffer.proofs.buffer.Buffer.rows_edit.Goals as goal

pub returns-clause-edit : goal.returns-clause-edit
returns-clause-edit c =
    rows_edit_is c.next_part.result c.self.inside.text c.args.self.now.text c.args.new c.args.from c.args.to c.flat_span-at.result.0 c.flat_span-at.result.1
    c.flat_len_of-bytes.result c.len.result c.rows_reached.result c.rows_reached-put.result (ap (λ (b : Content). b.text) c.self.view_is)
    c.known.ensures.text.lines c.len.ensures.lines c.requires.order c.requires.within c.flat_span-at.ensures.start c.flat_span-at.ensures.len
    c.flat_len_of-bytes.ensures c.rows_reached.ensures c.len.ensures.value c.rows_reached-put.ensures
    ∙ ap (λ (p : ChangePart). rows_edit p c.args.self.now.text c.args.from c.args.to c.args.new) c.next_part.ensures
