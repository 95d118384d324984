use Rattle.nv_buffer.specs.Content.{next_part}
use Rattle.nv_buffer.proofs.Edits.{text_edit_fits, text_put}
use Rattle.nv_buffer.proofs.buffer.Buffer.put_text.Goals as goal

pub put_edit-requires-clause-fits : goal.put_edit-requires-clause-fits
put_edit-requires-clause-fits c =
    text_edit_fits (next_part c.args.self.now) c.args.self.now.text c.args.start c.args.stop c.args.new c.in_ok-edit.edit c.text_edit.ensures.text
    (record { start_in = c.requires.start_in; stop_in = c.requires.stop_in; order = c.requires.order; some = c.requires.some_line })
    c.requires.count c.requires.columns c.in_ok-edit.ensures.edit c.in_ok-edit.ensures.lines

pub returns-clause-edit : goal.returns-clause-edit
returns-clause-edit c =
    text_put c.args.self.now c.put_edit.new.self c.args.new c.args.start c.args.stop c.in_ok-edit.edit c.in_ok-spliced.spliced
    (record { start_in = c.requires.start_in; stop_in = c.requires.stop_in; order = c.requires.order; some = c.requires.some_line })
    c.in_ok-edit.ensures.edit c.in_ok-spliced.ensures.ok c.in_ok-spliced.ensures.told
