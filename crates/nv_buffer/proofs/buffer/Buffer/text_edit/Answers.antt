use Rattle.std.proofs.Common.{◌∙◌, ap, arith}
use Rattle.nv_buffer.specs.Changes.{text_edit}
use Rattle.nv_buffer.specs.declared.edit.ChangePart.{ChangePart}
use Rattle.nv_buffer.proofs.Reaches.{narrow_between, some_bytes, text_edit_is}
use Rattle.nv_buffer.proofs.buffer.Buffer.text_edit.Goals as goal

pub joined_reach-put-requires-clause-columns : goal.joined_reach-put-requires-clause-columns
joined_reach-put-requires-clause-columns c = narrow_between c.args.self.now.text c.args.start c.args.stop c.args.new c.requires.columns

pub flat_len_of-bytes-requires-clause-columns : goal.flat_len_of-bytes-requires-clause-columns
flat_len_of-bytes-requires-clause-columns c = narrow_between c.args.self.now.text c.args.start c.args.stop c.args.new c.requires.columns

pub overflow_sub-bytes : goal.overflow_sub-bytes
overflow_sub-bytes c = omega (arith, c.flat_len_of-bytes.ensures, some_bytes c.args.new c.requires.some_line)

pub returns-clause-edit : goal.returns-clause-edit
returns-clause-edit c =
    text_edit_is c.next_part.result c.args.self.now.text c.args.new c.in_ok-lines.lines c.args.start c.args.stop c.offset_of.result c.bytes_between.result
    c.flat_len_of-bytes.result c.extent_between.result c.joined_reach-put.result c.known.ensures.text.lines
    (record { start_in = c.requires.start_in; stop_in = c.requires.stop_in; order = c.requires.order; some = c.requires.some_line })
    c.in_ok-lines.ensures c.offset_of.ensures c.bytes_between.ensures c.flat_len_of-bytes.ensures c.extent_between.ensures
    c.joined_reach-put.ensures
    ∙ ap (λ (p : ChangePart). text_edit p c.args.self.now.text c.args.start c.args.stop c.args.new) c.next_part.ensures
