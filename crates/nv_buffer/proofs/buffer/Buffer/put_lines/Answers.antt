use Rattle.nv_buffer.specs.Content.{next_part}
use Rattle.nv_buffer.proofs.Edits.{rows_edit_fits, lines_put}
use Rattle.nv_buffer.proofs.buffer.Buffer.put_lines.Goals as goal

pub put_edit-requires-clause-fits : goal.put_edit-requires-clause-fits
put_edit-requires-clause-fits c =
    rows_edit_fits (next_part c.args.self.now) c.args.self.now.text c.args.from c.args.to c.args.new c.rows_edit-edit.result c.rows_edit-edit.ensures.text c.requires.order
    c.requires.within c.requires.left c.requires.count c.requires.columns c.rows_edit-edit.ensures.edit c.rows_edit-edit.ensures.lines

pub returns-clause-edit : goal.returns-clause-edit
returns-clause-edit c =
    lines_put c.args.self.now c.put_edit.new.self c.args.new c.args.from c.args.to c.rows_edit-edit.result c.in_ok-put_edit.field-0
    c.requires.order c.rows_edit-edit.ensures.edit c.in_ok-put_edit.ensures.ok c.in_ok-put_edit.ensures.told
