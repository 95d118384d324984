-- What the value holds where its outline says.
use Rattle.std.proofs.Common.{Some, None, ap, rules, sym, ◌∙◌}
use Rattle.nv_value.specs.Content.{nil}
use Rattle.nv_value.proofs.Contents.{content-Nil}
use Rattle.nv_rpc.specs.Messages.{reply, fault_event}
use Rattle.nv_rpc.proofs.Filling.{has_part, part_is, is_text_of, is_list_of, words_are, lines_are, success_holds, is_there, same_there, failure_holds, fault_holds, lines_hold, lines_same}
use Rattle.nv_rpc.proofs.receiving.filled.Goals as goal

pub argument_of-requires : goal.argument_of-requires
argument_of-requires c = let h = failure_holds _ _ _ _ c.requires c.in-Failure.is in has_part _ _ _ _ h.1

pub words_of-requires : goal.words_of-requires
words_of-requires c =
    let h = failure_holds _ _ _ _ c.requires c.in-Failure.is in
    is_text_of _ _ (part_is _ _ _ _ h.1 _ c.argument_of.ensures)

pub returns-in-Failure : goal.returns-in-Failure
returns-in-Failure c =
    let h = failure_holds _ _ _ _ c.requires c.in-Failure.is in
    let words = words_are _ _ _ (part_is _ _ _ _ h.1 _ c.argument_of.ensures) c.words_of.ensures in
    h.1.read ∙ ap (λ w. Some (reply c.in-Failure.msgid (Some (record { kind = c.in-Failure.kind; code = 0; words = w })) nil)) words
    ∙ ap (λ t. Some (reply c.in-Failure.msgid (Some (record { kind = c.in-Failure.kind; code = 0; words = c.words_of.result })) t)) (sym content-Nil)

pub argument_of-requires-in-Fault : goal.argument_of-requires-in-Fault
argument_of-requires-in-Fault c = let h = fault_holds _ _ _ c.requires c.in-Fault.is in has_part _ _ _ _ h.1

pub words_of-requires-in-Fault : goal.words_of-requires-in-Fault
words_of-requires-in-Fault c =
    let h = fault_holds _ _ _ c.requires c.in-Fault.is in
    is_text_of _ _ (part_is _ _ _ _ h.1 _ c.argument_of-in-Fault.ensures)

pub returns-in-Fault : goal.returns-in-Fault
returns-in-Fault c =
    let h = fault_holds _ _ _ c.requires c.in-Fault.is in
    let words = words_are _ _ _ (part_is _ _ _ _ h.1 _ c.argument_of-in-Fault.ensures) c.words_of-in-Fault.ensures in
    h.1.read ∙ ap (λ w. Some (fault_event (record { kind = c.in-Fault.kind; code = 0; words = w }))) words

pub argument_of-requires-in-Lines : goal.argument_of-requires-in-Lines
argument_of-requires-in-Lines c = let h = lines_hold _ _ _ _ _ _ c.requires c.in-Lines.is in has_part _ _ _ _ h.1

pub params_of-requires : goal.params_of-requires
params_of-requires c =
    let h = lines_hold _ _ _ _ _ _ c.requires c.in-Lines.is in
    is_list_of _ _ (part_is _ _ _ _ h.1 _ c.argument_of-in-Lines.ensures)

pub returns-in-Lines : goal.returns-in-Lines
returns-in-Lines c =
    let h = lines_hold _ _ _ _ _ _ c.requires c.in-Lines.is in
    let ls = lines_are _ _ _ (part_is _ _ _ _ h.1 _ c.argument_of-in-Lines.ensures) c.params_of.ensures in
    h.1.read ∙ lines_same _ _ _ _ _ _ _ _ _ _ (search rules) (search rules) (search rules) (search rules) ls

pub item_of-requires : goal.item_of-requires
item_of-requires c = let h = success_holds _ _ _ c.requires c.in-Success.is in is_there _ _ h.1

pub returns-in-Success : goal.returns-in-Success
returns-in-Success c =
    let h = success_holds _ _ _ c.requires c.in-Success.is in
    h.2 ∙ ap (λ r. Some (reply c.in-Success.msgid None r)) (same_there _ _ _ h.1 c.item_of.ensures)
