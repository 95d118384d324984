-- The rows of this crate by their methods, and what each can make and tell.
use Rattle.std.specs.Prelude.{[], ◌∷◌}
use Rattle.nv_args.specs.declared.methods.MarkMethod.{MarkMethod}
use Rattle.nv_args.specs.declared.methods.MarkMethod.TheVariants.{CreateNamespace, GetNamespaces, BufSetExtmark, BufDelExtmark, BufGetExtmarkById, BufGetExtmarks, BufClearNamespace, SetHl, GetHl, GetHlIdByName}
use Rattle.nv_model.specs.Kinds.{Effects, no_effects, making, makes_namespaces, makes_groups, puts_groups, puts_notes, sets_marks, removes_marks}
use Rattle.nv_model.specs.Rows.{Row}
use Rattle.nv_api_mark.specs.Namespaces.{nvim_create_namespace, nvim_get_namespaces}
use Rattle.nv_api_mark.specs.MarkRows.{nvim_buf_set_extmark, nvim_buf_del_extmark, nvim_buf_get_extmark_by_id}
use Rattle.nv_api_mark.specs.Listing.{nvim_buf_get_extmarks, nvim_buf_clear_namespace}
use Rattle.nv_api_mark.specs.GroupRows.{nvim_set_hl, nvim_get_hl, nvim_get_hl_id_by_name}

-- the methods on namespaces, extmarks and highlight groups
abbrev pub mark_row : MarkMethod → Row
mark_row CreateNamespace = nvim_create_namespace
mark_row GetNamespaces = nvim_get_namespaces
mark_row BufSetExtmark = nvim_buf_set_extmark
mark_row BufDelExtmark = nvim_buf_del_extmark
mark_row BufGetExtmarkById = nvim_buf_get_extmark_by_id
mark_row BufGetExtmarks = nvim_buf_get_extmarks
mark_row BufClearNamespace = nvim_buf_clear_namespace
mark_row SetHl = nvim_set_hl
mark_row GetHl = nvim_get_hl
mark_row GetHlIdByName = nvim_get_hl_id_by_name

-- the kinds of operations that each makes, and of facts that it tells
abbrev pub mark_effects : MarkMethod → Effects
mark_effects CreateNamespace = making (makes_namespaces ∷ [])
mark_effects BufSetExtmark = making (makes_groups ∷ sets_marks ∷ puts_notes ∷ [])
mark_effects BufDelExtmark = making (removes_marks ∷ [])
mark_effects BufClearNamespace = making (removes_marks ∷ [])
mark_effects SetHl = making (makes_groups ∷ puts_groups ∷ [])
mark_effects GetHlIdByName = making (makes_groups ∷ [])
mark_effects _ = no_effects
