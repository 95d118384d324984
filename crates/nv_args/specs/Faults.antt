-- The faults of a call: kind (0 Exception, 1 Validation), number and exact words. Of those that
-- hold for one call the least number is answered.
use Rattle.std.specs.Prelude.{ℕ, ℤ, List, ◌++◌, codes, decimal}
use Rattle.std.specs.Fmt.{signed_decimal}
use Rattle.nv_value.specs.declared.fault.ApiFault.{ApiFault}

-- 1: no method has this name
abbrev pub unknown_method : List ℕ → ApiFault
unknown_method name = record { kind = 0; code = 1; words = codes "Invalid method: " ++ name }

-- 2: the number of arguments differs from that of the method's parameters
abbrev pub wrong_count : ℕ → ℕ → ApiFault
wrong_count expected found = record {
  kind = 1;
  code = 2;
  words = codes "Wrong number of arguments: expecting "
      ++ (decimal expected ++ (codes " but got " ++ decimal found));
}

-- 3: the argument of this number, from 1, isn't of its parameter's type
abbrev pub wrong_type : ℕ → List ℕ → List ℕ → ApiFault
wrong_type number method kind_name = record {
  kind = 1;
  code = 3;
  words = codes "Wrong type for argument "
      ++ (decimal number ++ (codes " when calling "
      ++ (method ++ (codes ", expecting " ++ kind_name))));
}

-- 4: the handle names no buffer
abbrev pub no_buffer : ℤ → ApiFault
no_buffer handle =
    record { kind = 1; code = 4; words = codes "Invalid buffer id: " ++ signed_decimal handle }

-- 5: the handle names no window
abbrev pub no_window : ℤ → ApiFault
no_window handle =
    record { kind = 1; code = 5; words = codes "Invalid window id: " ++ signed_decimal handle }

-- 6: the handle names no tabpage
abbrev pub no_tabpage : ℤ → ApiFault
no_tabpage handle =
    record { kind = 1; code = 6; words = codes "Invalid tabpage id: " ++ signed_decimal handle }

-- 7: the method takes no such key; nothing stands behind the words where the key is no string
abbrev pub invalid_key : List ℕ → ApiFault
invalid_key key = record { kind = 1; code = 7; words = codes "Invalid key: " ++ key }

-- 8: the value of the key isn't of its type or range, or the key is missing
abbrev pub invalid_value : List ℕ → ApiFault
invalid_value key = record { kind = 1; code = 8; words = codes "Invalid value for key: " ++ key }

-- 9: an index, place, size, namespace or number of a change lies outside its range
abbrev pub out_of_bounds : ApiFault
out_of_bounds = record { kind = 1; code = 9; words = codes "Index out of bounds" }

-- 10: the start lies after the end
abbrev pub start_after_end : ApiFault
start_after_end = record { kind = 1; code = 10; words = codes "'start' is higher than 'end'" }

-- 11: a new line, or a name, holds a line feed
abbrev pub newline_inside : ApiFault
newline_inside = record { kind = 1; code = 11; words = codes "String cannot contain newlines" }

-- 12: the next number would pass the last one
abbrev pub no_id_left : ApiFault
no_id_left = record { kind = 0; code = 12; words = codes "No id left" }

-- 13: the text is to change, and the buffer isn't modifiable
abbrev pub not_modifiable : ApiFault
not_modifiable = record { kind = 0; code = 13; words = codes "Buffer is not 'modifiable'" }

-- 14: the windows wouldn't fit the screen
abbrev pub no_room : ApiFault
no_room = record { kind = 0; code = 14; words = codes "Not enough room" }

-- 15: the last window or tabpage is to close
abbrev pub last_one : ApiFault
last_one = record { kind = 0; code = 15; words = codes "Cannot close the last one" }

-- 16: another buffer has the name, which isn't empty
abbrev pub name_in_use : ApiFault
name_in_use = record { kind = 0; code = 16; words = codes "Name already in use" }

-- 17: a modified buffer is deleted without force
abbrev pub unsaved_changes : ApiFault
unsaved_changes = record { kind = 0; code = 17; words = codes "Unsaved changes, use force" }

-- 18: no command, option or group has this name or number
abbrev pub unknown_name : List ℕ → ApiFault
unknown_name name = record { kind = 0; code = 18; words = codes "Unknown name: " ++ name }

-- 19: a limit of the editor would be passed
abbrev pub limit_reached : ApiFault
limit_reached = record { kind = 0; code = 19; words = codes "Limit reached" }

-- 20: the session has no UI
abbrev pub not_attached : ApiFault
not_attached = record { kind = 0; code = 20; words = codes "UI not attached" }

-- 20: the session has a UI
abbrev pub already_attached : ApiFault
already_attached = record { kind = 0; code = 20; words = codes "UI already attached" }
