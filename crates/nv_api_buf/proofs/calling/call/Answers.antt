use Rattle.nv_args.specs.Args.{typed_arguments}
use Rattle.nv_args.specs.declared.methods.BufferMethod.TheVariants.{GetApiInfo, SetClientInfo, Command, GetOptionValue, SetOptionValue, ListBufs, GetCurrentBuf, SetCurrentBuf, CreateBuf, BufDelete, BufIsValid, BufGetName, BufSetName, BufLineCount, BufGetChangedtick, BufGetOffset, BufGetLines, BufSetLines, BufGetText, BufSetText, BufAttach, BufDetach}
use Rattle.nv_model.specs.Standing.{seen_now}
use Rattle.nv_editor.proofs.Giving.{reads_give, result_row}
use Rattle.nv_api_buf.specs.Rows.{buffer_row}
use Rattle.nv_api_buf.proofs.calling.call.Goals as goal

pub returns-in-GetApiInfo-clause-row : goal.returns-in-GetApiInfo-clause-row
returns-in-GetApiInfo-clause-row c =
    result_row buffer_row c.args.method GetApiInfo (seen_now c.args.editor.now) c.args.session (typed_arguments c.args.args.now) c.as_outcome.result c.args.editor.now c.args.editor.now c.args.happened.now c.args.happened.now c.in-GetApiInfo.is
    (c.as_outcome.ensures.answer (buffer_row GetApiInfo (seen_now c.args.editor.now) c.args.session (typed_arguments c.args.args.now)) c.args.editor.now c.args.editor.now c.args.happened.now c.args.happened.now
    (reads_give (buffer_row GetApiInfo (seen_now c.args.editor.now) c.args.session (typed_arguments c.args.args.now)) c.nvim_get_api_info.result c.args.editor.now c.args.happened.now c.nvim_get_api_info.ensures.row))

pub returns-in-SetClientInfo-clause-row : goal.returns-in-SetClientInfo-clause-row
returns-in-SetClientInfo-clause-row c =
    result_row buffer_row c.args.method SetClientInfo (seen_now c.args.editor.now) c.args.session (typed_arguments c.args.args.now) c.as_outcome-in-SetClientInfo.result c.args.editor.now c.args.editor.now c.args.happened.now c.args.happened.now c.in-SetClientInfo.is
    (c.as_outcome-in-SetClientInfo.ensures.answer (buffer_row SetClientInfo (seen_now c.args.editor.now) c.args.session (typed_arguments c.args.args.now)) c.args.editor.now c.args.editor.now c.args.happened.now c.args.happened.now
    (reads_give (buffer_row SetClientInfo (seen_now c.args.editor.now) c.args.session (typed_arguments c.args.args.now)) c.nvim_set_client_info.result c.args.editor.now c.args.happened.now (c.nvim_set_client_info.ensures.row c.args.session)))

pub returns-in-Command-clause-row : goal.returns-in-Command-clause-row
returns-in-Command-clause-row c =
    result_row buffer_row c.args.method Command (seen_now c.args.editor.now) c.args.session (typed_arguments c.args.args.now) c.as_outcome-in-Command.result c.args.editor.now c.nvim_command.new.editor c.args.happened.now c.nvim_command.new.happened c.in-Command.is
    (c.as_outcome-in-Command.ensures.answer (buffer_row Command (seen_now c.args.editor.now) c.args.session (typed_arguments c.args.args.now)) c.args.editor.now c.nvim_command.new.editor c.args.happened.now c.nvim_command.new.happened (c.nvim_command.ensures.row c.args.session))

pub returns-in-GetOptionValue-clause-row : goal.returns-in-GetOptionValue-clause-row
returns-in-GetOptionValue-clause-row c =
    result_row buffer_row c.args.method GetOptionValue (seen_now c.args.editor.now) c.args.session (typed_arguments c.args.args.now) c.as_outcome-in-GetOptionValue.result c.args.editor.now c.args.editor.now c.args.happened.now c.args.happened.now c.in-GetOptionValue.is
    (c.as_outcome-in-GetOptionValue.ensures.answer (buffer_row GetOptionValue (seen_now c.args.editor.now) c.args.session (typed_arguments c.args.args.now)) c.args.editor.now c.args.editor.now c.args.happened.now c.args.happened.now
    (reads_give (buffer_row GetOptionValue (seen_now c.args.editor.now) c.args.session (typed_arguments c.args.args.now)) c.nvim_get_option_value.result c.args.editor.now c.args.happened.now (c.nvim_get_option_value.ensures.row c.args.session)))

pub returns-in-SetOptionValue-clause-row : goal.returns-in-SetOptionValue-clause-row
returns-in-SetOptionValue-clause-row c =
    result_row buffer_row c.args.method SetOptionValue (seen_now c.args.editor.now) c.args.session (typed_arguments c.args.args.now) c.as_outcome-in-SetOptionValue.result c.args.editor.now c.nvim_set_option_value.new.editor c.args.happened.now c.nvim_set_option_value.new.happened c.in-SetOptionValue.is
    (c.as_outcome-in-SetOptionValue.ensures.answer (buffer_row SetOptionValue (seen_now c.args.editor.now) c.args.session (typed_arguments c.args.args.now)) c.args.editor.now c.nvim_set_option_value.new.editor c.args.happened.now c.nvim_set_option_value.new.happened (c.nvim_set_option_value.ensures.row c.args.session))

pub returns-in-ListBufs-clause-row : goal.returns-in-ListBufs-clause-row
returns-in-ListBufs-clause-row c =
    result_row buffer_row c.args.method ListBufs (seen_now c.args.editor.now) c.args.session (typed_arguments c.args.args.now) c.as_outcome-in-ListBufs.result c.args.editor.now c.args.editor.now c.args.happened.now c.args.happened.now c.in-ListBufs.is
    (c.as_outcome-in-ListBufs.ensures.answer (buffer_row ListBufs (seen_now c.args.editor.now) c.args.session (typed_arguments c.args.args.now)) c.args.editor.now c.args.editor.now c.args.happened.now c.args.happened.now
    (reads_give (buffer_row ListBufs (seen_now c.args.editor.now) c.args.session (typed_arguments c.args.args.now)) c.nvim_list_bufs.result c.args.editor.now c.args.happened.now (c.nvim_list_bufs.ensures.row c.args.session)))

pub returns-in-GetCurrentBuf-clause-row : goal.returns-in-GetCurrentBuf-clause-row
returns-in-GetCurrentBuf-clause-row c =
    result_row buffer_row c.args.method GetCurrentBuf (seen_now c.args.editor.now) c.args.session (typed_arguments c.args.args.now) c.as_outcome-in-GetCurrentBuf.result c.args.editor.now c.args.editor.now c.args.happened.now c.args.happened.now c.in-GetCurrentBuf.is
    (c.as_outcome-in-GetCurrentBuf.ensures.answer (buffer_row GetCurrentBuf (seen_now c.args.editor.now) c.args.session (typed_arguments c.args.args.now)) c.args.editor.now c.args.editor.now c.args.happened.now c.args.happened.now
    (reads_give (buffer_row GetCurrentBuf (seen_now c.args.editor.now) c.args.session (typed_arguments c.args.args.now)) c.nvim_get_current_buf.result c.args.editor.now c.args.happened.now (c.nvim_get_current_buf.ensures.row c.args.session)))

pub returns-in-SetCurrentBuf-clause-row : goal.returns-in-SetCurrentBuf-clause-row
returns-in-SetCurrentBuf-clause-row c =
    result_row buffer_row c.args.method SetCurrentBuf (seen_now c.args.editor.now) c.args.session (typed_arguments c.args.args.now) c.as_outcome-in-SetCurrentBuf.result c.args.editor.now c.nvim_set_current_buf.new.editor c.args.happened.now c.nvim_set_current_buf.new.happened c.in-SetCurrentBuf.is
    (c.as_outcome-in-SetCurrentBuf.ensures.answer (buffer_row SetCurrentBuf (seen_now c.args.editor.now) c.args.session (typed_arguments c.args.args.now)) c.args.editor.now c.nvim_set_current_buf.new.editor c.args.happened.now c.nvim_set_current_buf.new.happened (c.nvim_set_current_buf.ensures.row c.args.session))

pub returns-in-CreateBuf-clause-row : goal.returns-in-CreateBuf-clause-row
returns-in-CreateBuf-clause-row c =
    result_row buffer_row c.args.method CreateBuf (seen_now c.args.editor.now) c.args.session (typed_arguments c.args.args.now) c.as_outcome-in-CreateBuf.result c.args.editor.now c.nvim_create_buf.new.editor c.args.happened.now c.nvim_create_buf.new.happened c.in-CreateBuf.is
    (c.as_outcome-in-CreateBuf.ensures.answer (buffer_row CreateBuf (seen_now c.args.editor.now) c.args.session (typed_arguments c.args.args.now)) c.args.editor.now c.nvim_create_buf.new.editor c.args.happened.now c.nvim_create_buf.new.happened (c.nvim_create_buf.ensures.row c.args.session))

pub returns-in-BufDelete-clause-row : goal.returns-in-BufDelete-clause-row
returns-in-BufDelete-clause-row c =
    result_row buffer_row c.args.method BufDelete (seen_now c.args.editor.now) c.args.session (typed_arguments c.args.args.now) c.as_outcome-in-BufDelete.result c.args.editor.now c.nvim_buf_delete.new.editor c.args.happened.now c.nvim_buf_delete.new.happened c.in-BufDelete.is
    (c.as_outcome-in-BufDelete.ensures.answer (buffer_row BufDelete (seen_now c.args.editor.now) c.args.session (typed_arguments c.args.args.now)) c.args.editor.now c.nvim_buf_delete.new.editor c.args.happened.now c.nvim_buf_delete.new.happened (c.nvim_buf_delete.ensures.row c.args.session))

pub returns-in-BufIsValid-clause-row : goal.returns-in-BufIsValid-clause-row
returns-in-BufIsValid-clause-row c =
    result_row buffer_row c.args.method BufIsValid (seen_now c.args.editor.now) c.args.session (typed_arguments c.args.args.now) c.as_outcome-in-BufIsValid.result c.args.editor.now c.args.editor.now c.args.happened.now c.args.happened.now c.in-BufIsValid.is
    (c.as_outcome-in-BufIsValid.ensures.answer (buffer_row BufIsValid (seen_now c.args.editor.now) c.args.session (typed_arguments c.args.args.now)) c.args.editor.now c.args.editor.now c.args.happened.now c.args.happened.now
    (reads_give (buffer_row BufIsValid (seen_now c.args.editor.now) c.args.session (typed_arguments c.args.args.now)) c.nvim_buf_is_valid.result c.args.editor.now c.args.happened.now (c.nvim_buf_is_valid.ensures.row c.args.session)))

pub returns-in-BufGetName-clause-row : goal.returns-in-BufGetName-clause-row
returns-in-BufGetName-clause-row c =
    result_row buffer_row c.args.method BufGetName (seen_now c.args.editor.now) c.args.session (typed_arguments c.args.args.now) c.as_outcome-in-BufGetName.result c.args.editor.now c.args.editor.now c.args.happened.now c.args.happened.now c.in-BufGetName.is
    (c.as_outcome-in-BufGetName.ensures.answer (buffer_row BufGetName (seen_now c.args.editor.now) c.args.session (typed_arguments c.args.args.now)) c.args.editor.now c.args.editor.now c.args.happened.now c.args.happened.now
    (reads_give (buffer_row BufGetName (seen_now c.args.editor.now) c.args.session (typed_arguments c.args.args.now)) c.nvim_buf_get_name.result c.args.editor.now c.args.happened.now (c.nvim_buf_get_name.ensures.row c.args.session)))

pub returns-in-BufSetName-clause-row : goal.returns-in-BufSetName-clause-row
returns-in-BufSetName-clause-row c =
    result_row buffer_row c.args.method BufSetName (seen_now c.args.editor.now) c.args.session (typed_arguments c.args.args.now) c.as_outcome-in-BufSetName.result c.args.editor.now c.nvim_buf_set_name.new.editor c.args.happened.now c.nvim_buf_set_name.new.happened c.in-BufSetName.is
    (c.as_outcome-in-BufSetName.ensures.answer (buffer_row BufSetName (seen_now c.args.editor.now) c.args.session (typed_arguments c.args.args.now)) c.args.editor.now c.nvim_buf_set_name.new.editor c.args.happened.now c.nvim_buf_set_name.new.happened (c.nvim_buf_set_name.ensures.row c.args.session))

pub returns-in-BufLineCount-clause-row : goal.returns-in-BufLineCount-clause-row
returns-in-BufLineCount-clause-row c =
    result_row buffer_row c.args.method BufLineCount (seen_now c.args.editor.now) c.args.session (typed_arguments c.args.args.now) c.as_outcome-in-BufLineCount.result c.args.editor.now c.args.editor.now c.args.happened.now c.args.happened.now c.in-BufLineCount.is
    (c.as_outcome-in-BufLineCount.ensures.answer (buffer_row BufLineCount (seen_now c.args.editor.now) c.args.session (typed_arguments c.args.args.now)) c.args.editor.now c.args.editor.now c.args.happened.now c.args.happened.now
    (reads_give (buffer_row BufLineCount (seen_now c.args.editor.now) c.args.session (typed_arguments c.args.args.now)) c.nvim_buf_line_count.result c.args.editor.now c.args.happened.now (c.nvim_buf_line_count.ensures.row c.args.session)))

pub returns-in-BufGetChangedtick-clause-row : goal.returns-in-BufGetChangedtick-clause-row
returns-in-BufGetChangedtick-clause-row c =
    result_row buffer_row c.args.method BufGetChangedtick (seen_now c.args.editor.now) c.args.session (typed_arguments c.args.args.now) c.as_outcome-in-BufGetChangedtick.result c.args.editor.now c.args.editor.now c.args.happened.now c.args.happened.now c.in-BufGetChangedtick.is
    (c.as_outcome-in-BufGetChangedtick.ensures.answer (buffer_row BufGetChangedtick (seen_now c.args.editor.now) c.args.session (typed_arguments c.args.args.now)) c.args.editor.now c.args.editor.now c.args.happened.now c.args.happened.now
    (reads_give (buffer_row BufGetChangedtick (seen_now c.args.editor.now) c.args.session (typed_arguments c.args.args.now)) c.nvim_buf_get_changedtick.result c.args.editor.now c.args.happened.now (c.nvim_buf_get_changedtick.ensures.row c.args.session)))

pub returns-in-BufGetOffset-clause-row : goal.returns-in-BufGetOffset-clause-row
returns-in-BufGetOffset-clause-row c =
    result_row buffer_row c.args.method BufGetOffset (seen_now c.args.editor.now) c.args.session (typed_arguments c.args.args.now) c.as_outcome-in-BufGetOffset.result c.args.editor.now c.args.editor.now c.args.happened.now c.args.happened.now c.in-BufGetOffset.is
    (c.as_outcome-in-BufGetOffset.ensures.answer (buffer_row BufGetOffset (seen_now c.args.editor.now) c.args.session (typed_arguments c.args.args.now)) c.args.editor.now c.args.editor.now c.args.happened.now c.args.happened.now
    (reads_give (buffer_row BufGetOffset (seen_now c.args.editor.now) c.args.session (typed_arguments c.args.args.now)) c.nvim_buf_get_offset.result c.args.editor.now c.args.happened.now (c.nvim_buf_get_offset.ensures.row c.args.session)))

pub returns-in-BufGetLines-clause-row : goal.returns-in-BufGetLines-clause-row
returns-in-BufGetLines-clause-row c =
    result_row buffer_row c.args.method BufGetLines (seen_now c.args.editor.now) c.args.session (typed_arguments c.args.args.now) c.as_lines.result c.args.editor.now c.args.editor.now c.args.happened.now c.args.happened.now c.in-BufGetLines.is
    (c.as_lines.ensures.answer (buffer_row BufGetLines (seen_now c.args.editor.now) c.args.session (typed_arguments c.args.args.now)) c.args.editor.now c.args.happened.now (c.nvim_buf_get_lines.ensures.row c.args.session))

pub returns-in-BufSetLines-clause-row : goal.returns-in-BufSetLines-clause-row
returns-in-BufSetLines-clause-row c =
    result_row buffer_row c.args.method BufSetLines (seen_now c.args.editor.now) c.args.session (typed_arguments c.args.args.now) c.as_outcome-in-BufSetLines.result c.args.editor.now c.nvim_buf_set_lines.new.editor c.args.happened.now c.nvim_buf_set_lines.new.happened c.in-BufSetLines.is
    (c.as_outcome-in-BufSetLines.ensures.answer (buffer_row BufSetLines (seen_now c.args.editor.now) c.args.session (typed_arguments c.args.args.now)) c.args.editor.now c.nvim_buf_set_lines.new.editor c.args.happened.now c.nvim_buf_set_lines.new.happened (c.nvim_buf_set_lines.ensures.row c.args.session))

pub returns-in-BufGetText-clause-row : goal.returns-in-BufGetText-clause-row
returns-in-BufGetText-clause-row c =
    result_row buffer_row c.args.method BufGetText (seen_now c.args.editor.now) c.args.session (typed_arguments c.args.args.now) c.as_lines-in-BufGetText.result c.args.editor.now c.args.editor.now c.args.happened.now c.args.happened.now c.in-BufGetText.is
    (c.as_lines-in-BufGetText.ensures.answer (buffer_row BufGetText (seen_now c.args.editor.now) c.args.session (typed_arguments c.args.args.now)) c.args.editor.now c.args.happened.now (c.nvim_buf_get_text.ensures.row c.args.session))

pub returns-in-BufSetText-clause-row : goal.returns-in-BufSetText-clause-row
returns-in-BufSetText-clause-row c =
    result_row buffer_row c.args.method BufSetText (seen_now c.args.editor.now) c.args.session (typed_arguments c.args.args.now) c.as_outcome-in-BufSetText.result c.args.editor.now c.nvim_buf_set_text.new.editor c.args.happened.now c.nvim_buf_set_text.new.happened c.in-BufSetText.is
    (c.as_outcome-in-BufSetText.ensures.answer (buffer_row BufSetText (seen_now c.args.editor.now) c.args.session (typed_arguments c.args.args.now)) c.args.editor.now c.nvim_buf_set_text.new.editor c.args.happened.now c.nvim_buf_set_text.new.happened (c.nvim_buf_set_text.ensures.row c.args.session))

pub returns-in-BufAttach-clause-row : goal.returns-in-BufAttach-clause-row
returns-in-BufAttach-clause-row c =
    result_row buffer_row c.args.method BufAttach (seen_now c.args.editor.now) c.args.session (typed_arguments c.args.args.now) c.as_outcome-in-BufAttach.result c.args.editor.now c.args.editor.now c.args.happened.now c.nvim_buf_attach.new.happened c.in-BufAttach.is
    (c.as_outcome-in-BufAttach.ensures.answer (buffer_row BufAttach (seen_now c.args.editor.now) c.args.session (typed_arguments c.args.args.now)) c.args.editor.now c.args.editor.now c.args.happened.now c.nvim_buf_attach.new.happened (c.nvim_buf_attach.ensures.row c.args.session))

pub returns-in-BufDetach-clause-row : goal.returns-in-BufDetach-clause-row
returns-in-BufDetach-clause-row c =
    result_row buffer_row c.args.method BufDetach (seen_now c.args.editor.now) c.args.session (typed_arguments c.args.args.now) c.as_outcome-in-BufDetach.result c.args.editor.now c.args.editor.now c.args.happened.now c.nvim_buf_detach.new.happened c.in-BufDetach.is
    (c.as_outcome-in-BufDetach.ensures.answer (buffer_row BufDetach (seen_now c.args.editor.now) c.args.session (typed_arguments c.args.args.now)) c.args.editor.now c.args.editor.now c.args.happened.now c.nvim_buf_detach.new.happened (c.nvim_buf_detach.ensures.row c.args.session))
