use Rattle.nv_args.specs.Args.{typed_arguments}
use Rattle.nv_args.specs.declared.methods.MarkMethod.TheVariants.{CreateNamespace, GetNamespaces, BufSetExtmark, BufDelExtmark, BufGetExtmarkById, BufGetExtmarks, BufClearNamespace, SetHl, GetHl, GetHlIdByName}
use Rattle.nv_model.specs.Standing.{seen_now}
use Rattle.nv_api_mark.specs.Rows.{mark_row}
use Rattle.nv_editor.proofs.Giving.{reads_give, result_row}
use Rattle.nv_api_mark.proofs.Steps.{listing_gives}
use Rattle.nv_api_mark.proofs.table.call.Goals as goal

pub returns-in-CreateNamespace-clause-row : goal.returns-in-CreateNamespace-clause-row
returns-in-CreateNamespace-clause-row c = λ session told.
    result_row mark_row c.args.method CreateNamespace (seen_now c.args.editor.now) session (typed_arguments c.args.args.now) c.as_outcome.result c.args.editor.now c.nvim_create_namespace.new.editor told told c.in-CreateNamespace.is
    (c.as_outcome.ensures.answer (mark_row CreateNamespace (seen_now c.args.editor.now) session (typed_arguments c.args.args.now)) c.args.editor.now c.nvim_create_namespace.new.editor told told
    (c.nvim_create_namespace.ensures.row session told))

pub returns-in-GetNamespaces-clause-row : goal.returns-in-GetNamespaces-clause-row
returns-in-GetNamespaces-clause-row c = λ session told.
    result_row mark_row c.args.method GetNamespaces (seen_now c.args.editor.now) session (typed_arguments c.args.args.now) c.as_outcome-in-GetNamespaces.result c.args.editor.now c.args.editor.now told told c.in-GetNamespaces.is
    (c.as_outcome-in-GetNamespaces.ensures.answer (mark_row GetNamespaces (seen_now c.args.editor.now) session (typed_arguments c.args.args.now)) c.args.editor.now c.args.editor.now told told
    (reads_give (mark_row GetNamespaces (seen_now c.args.editor.now) session (typed_arguments c.args.args.now)) c.nvim_get_namespaces.result c.args.editor.now told (c.nvim_get_namespaces.ensures.row session (typed_arguments c.args.args.now))))

pub returns-in-BufSetExtmark-clause-row : goal.returns-in-BufSetExtmark-clause-row
returns-in-BufSetExtmark-clause-row c = λ session told.
    result_row mark_row c.args.method BufSetExtmark (seen_now c.args.editor.now) session (typed_arguments c.args.args.now) c.as_outcome-in-BufSetExtmark.result c.args.editor.now c.nvim_buf_set_extmark.new.editor told told c.in-BufSetExtmark.is
    (c.as_outcome-in-BufSetExtmark.ensures.answer (mark_row BufSetExtmark (seen_now c.args.editor.now) session (typed_arguments c.args.args.now)) c.args.editor.now c.nvim_buf_set_extmark.new.editor told told
    (c.nvim_buf_set_extmark.ensures.row session told))

pub returns-in-BufDelExtmark-clause-row : goal.returns-in-BufDelExtmark-clause-row
returns-in-BufDelExtmark-clause-row c = λ session told.
    result_row mark_row c.args.method BufDelExtmark (seen_now c.args.editor.now) session (typed_arguments c.args.args.now) c.as_outcome-in-BufDelExtmark.result c.args.editor.now c.nvim_buf_del_extmark.new.editor told told c.in-BufDelExtmark.is
    (c.as_outcome-in-BufDelExtmark.ensures.answer (mark_row BufDelExtmark (seen_now c.args.editor.now) session (typed_arguments c.args.args.now)) c.args.editor.now c.nvim_buf_del_extmark.new.editor told told
    (c.nvim_buf_del_extmark.ensures.row session told))

pub returns-in-BufGetExtmarkById-clause-row : goal.returns-in-BufGetExtmarkById-clause-row
returns-in-BufGetExtmarkById-clause-row c = λ session told.
    result_row mark_row c.args.method BufGetExtmarkById (seen_now c.args.editor.now) session (typed_arguments c.args.args.now) c.as_outcome-in-BufGetExtmarkById.result c.args.editor.now c.args.editor.now told told c.in-BufGetExtmarkById.is
    (c.as_outcome-in-BufGetExtmarkById.ensures.answer (mark_row BufGetExtmarkById (seen_now c.args.editor.now) session (typed_arguments c.args.args.now)) c.args.editor.now c.args.editor.now told told
    (reads_give (mark_row BufGetExtmarkById (seen_now c.args.editor.now) session (typed_arguments c.args.args.now)) c.nvim_buf_get_extmark_by_id.result c.args.editor.now told (c.nvim_buf_get_extmark_by_id.ensures.row session)))

pub returns-in-BufGetExtmarks-clause-row : goal.returns-in-BufGetExtmarks-clause-row
returns-in-BufGetExtmarks-clause-row c = λ session told.
    result_row mark_row c.args.method BufGetExtmarks (seen_now c.args.editor.now) session (typed_arguments c.args.args.now) c.nvim_buf_get_extmarks.result c.args.editor.now c.args.editor.now told told c.in-BufGetExtmarks.is
    (listing_gives (mark_row BufGetExtmarks (seen_now c.args.editor.now) session (typed_arguments c.args.args.now)) c.nvim_buf_get_extmarks.result c.args.editor.now told (c.nvim_buf_get_extmarks.ensures.row session))

pub returns-in-BufClearNamespace-clause-row : goal.returns-in-BufClearNamespace-clause-row
returns-in-BufClearNamespace-clause-row c = λ session told.
    result_row mark_row c.args.method BufClearNamespace (seen_now c.args.editor.now) session (typed_arguments c.args.args.now) c.as_outcome-in-BufClearNamespace.result c.args.editor.now c.nvim_buf_clear_namespace.new.editor told told c.in-BufClearNamespace.is
    (c.as_outcome-in-BufClearNamespace.ensures.answer (mark_row BufClearNamespace (seen_now c.args.editor.now) session (typed_arguments c.args.args.now)) c.args.editor.now c.nvim_buf_clear_namespace.new.editor told told
    (c.nvim_buf_clear_namespace.ensures.row session told))

pub returns-in-SetHl-clause-row : goal.returns-in-SetHl-clause-row
returns-in-SetHl-clause-row c = λ session told.
    result_row mark_row c.args.method SetHl (seen_now c.args.editor.now) session (typed_arguments c.args.args.now) c.as_outcome-in-SetHl.result c.args.editor.now c.nvim_set_hl.new.editor told told c.in-SetHl.is
    (c.as_outcome-in-SetHl.ensures.answer (mark_row SetHl (seen_now c.args.editor.now) session (typed_arguments c.args.args.now)) c.args.editor.now c.nvim_set_hl.new.editor told told
    (c.nvim_set_hl.ensures.row session told))

pub returns-in-GetHl-clause-row : goal.returns-in-GetHl-clause-row
returns-in-GetHl-clause-row c = λ session told.
    result_row mark_row c.args.method GetHl (seen_now c.args.editor.now) session (typed_arguments c.args.args.now) c.as_outcome-in-GetHl.result c.args.editor.now c.args.editor.now told told c.in-GetHl.is
    (c.as_outcome-in-GetHl.ensures.answer (mark_row GetHl (seen_now c.args.editor.now) session (typed_arguments c.args.args.now)) c.args.editor.now c.args.editor.now told told
    (reads_give (mark_row GetHl (seen_now c.args.editor.now) session (typed_arguments c.args.args.now)) c.nvim_get_hl.result c.args.editor.now told (c.nvim_get_hl.ensures.row session)))

pub returns-in-GetHlIdByName-clause-row : goal.returns-in-GetHlIdByName-clause-row
returns-in-GetHlIdByName-clause-row c = λ session told.
    result_row mark_row c.args.method GetHlIdByName (seen_now c.args.editor.now) session (typed_arguments c.args.args.now) c.as_outcome-in-GetHlIdByName.result c.args.editor.now c.nvim_get_hl_id_by_name.new.editor told told c.in-GetHlIdByName.is
    (c.as_outcome-in-GetHlIdByName.ensures.answer (mark_row GetHlIdByName (seen_now c.args.editor.now) session (typed_arguments c.args.args.now)) c.args.editor.now c.nvim_get_hl_id_by_name.new.editor told told
    (c.nvim_get_hl_id_by_name.ensures.row session told))
