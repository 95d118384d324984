-- The rows of this crate by their methods, and what each can make and tell.
use Rattle.std.specs.Prelude.{[], ◌∷◌}
use Rattle.nv_args.specs.declared.methods.BufferMethod.{BufferMethod}
use Rattle.nv_args.specs.declared.methods.BufferMethod.TheVariants.{GetApiInfo, SetClientInfo, Command, GetOptionValue, SetOptionValue, ListBufs, GetCurrentBuf, SetCurrentBuf, CreateBuf, BufDelete, BufIsValid, BufGetName, BufSetName, BufLineCount, BufGetChangedtick, BufGetOffset, BufGetLines, BufSetLines, BufGetText, BufSetText, BufAttach, BufDetach}
use Rattle.nv_model.specs.Kinds.{Effects, no_effects, making, splices, undoes_changes, puts_names, puts_options, makes_buffers, drops_buffers, shows_buffers, makes_tabs, closes_tabs, attachings, detachings, splicings, deletions, endings}
use Rattle.nv_model.specs.Rows.{Row}
use Rattle.nv_api_buf.specs.TextRows.{nvim_buf_line_count, nvim_buf_get_changedtick, nvim_buf_get_offset, nvim_buf_get_lines, nvim_buf_set_lines, nvim_buf_get_text, nvim_buf_set_text}
use Rattle.nv_api_buf.specs.BufferRows.{nvim_list_bufs, nvim_get_current_buf, nvim_set_current_buf, nvim_create_buf, nvim_buf_delete, nvim_buf_is_valid, nvim_buf_get_name, nvim_buf_set_name, nvim_buf_attach, nvim_buf_detach}
use Rattle.nv_api_buf.specs.OptionRows.{nvim_get_option_value, nvim_set_option_value}
use Rattle.nv_api_buf.specs.CommandRows.{nvim_command}
use Rattle.nv_api_buf.specs.Metadata.{nvim_get_api_info, nvim_set_client_info}

-- the methods on buffers, options, commands and the API itself
abbrev pub buffer_row : BufferMethod → Row
buffer_row GetApiInfo = nvim_get_api_info
buffer_row SetClientInfo = nvim_set_client_info
buffer_row Command = nvim_command
buffer_row GetOptionValue = nvim_get_option_value
buffer_row SetOptionValue = nvim_set_option_value
buffer_row ListBufs = nvim_list_bufs
buffer_row GetCurrentBuf = nvim_get_current_buf
buffer_row SetCurrentBuf = nvim_set_current_buf
buffer_row CreateBuf = nvim_create_buf
buffer_row BufDelete = nvim_buf_delete
buffer_row BufIsValid = nvim_buf_is_valid
buffer_row BufGetName = nvim_buf_get_name
buffer_row BufSetName = nvim_buf_set_name
buffer_row BufLineCount = nvim_buf_line_count
buffer_row BufGetChangedtick = nvim_buf_get_changedtick
buffer_row BufGetOffset = nvim_buf_get_offset
buffer_row BufGetLines = nvim_buf_get_lines
buffer_row BufSetLines = nvim_buf_set_lines
buffer_row BufGetText = nvim_buf_get_text
buffer_row BufSetText = nvim_buf_set_text
buffer_row BufAttach = nvim_buf_attach
buffer_row BufDetach = nvim_buf_detach

-- the kinds of operations that each makes, and of facts that it tells
abbrev pub buffer_effects : BufferMethod → Effects
buffer_effects Command = record {
  makes = undoes_changes ∷ makes_buffers ∷ makes_tabs ∷ closes_tabs ∷ [];
  tells = splicings ∷ endings ∷ [];
}
buffer_effects SetOptionValue = making (puts_options ∷ [])
buffer_effects SetCurrentBuf = making (shows_buffers ∷ [])
buffer_effects CreateBuf = making (makes_buffers ∷ [])
buffer_effects BufDelete = record {
  makes = makes_buffers ∷ shows_buffers ∷ drops_buffers ∷ [];
  tells = deletions ∷ [];
}
buffer_effects BufSetName = making (puts_names ∷ [])
buffer_effects BufSetLines = record { makes = splices ∷ []; tells = splicings ∷ [] }
buffer_effects BufSetText = record { makes = splices ∷ []; tells = splicings ∷ [] }
buffer_effects BufAttach = record { makes = []; tells = attachings ∷ [] }
buffer_effects BufDetach = record { makes = []; tells = detachings ∷ [] }
buffer_effects _ = no_effects
