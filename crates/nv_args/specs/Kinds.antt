-- What parameters take, as the code has it.
use Rattle.nv_args.specs.declared.kinds.Kind.{Kind as TypeKind}
use Rattle.nv_args.specs.declared.kinds.Kind.TheVariants.{Integer, Boolean, String, Array, Dict, Object, Buffer, Window, Tabpage, BufferId, WindowId, TabpageId, Lines, Cursor, Calls, MarkPlace}
use Rattle.nv_args.specs.Table.{Kind, integer_type, boolean, string, array, dict, object, buffer, window, tabpage, buffer_id, window_id, tabpage_id, lines, cursor, call_list, mark_place}

-- what a parameter takes, by the table's word
abbrev pub kind_of : TypeKind → Kind
kind_of Integer = integer_type
kind_of Boolean = boolean
kind_of String = string
kind_of Array = array
kind_of Dict = dict
kind_of Object = object
kind_of Buffer = buffer
kind_of Window = window
kind_of Tabpage = tabpage
kind_of BufferId = buffer_id
kind_of WindowId = window_id
kind_of TabpageId = tabpage_id
kind_of Lines = lines
kind_of Cursor = cursor
kind_of Calls = call_list
kind_of MarkPlace = mark_place
