-- inside: which entries splice no text.
use Rattle.std.specs.Prelude.{ℕ, ◌||◌, Bool, false, List, codes, bytes_eq}
use Rattle.nv_rpc.specs.Calls.{Call, request, notice}
use Rattle.nv_history.specs.Events.{Event, open_session, request_of, take_of, close_of}

-- the name of the method that a call names
abbrev pub method_called : Call → List ℕ
method_called (request msgid method params) = method
method_called (notice method params) = method

-- whether a method may change a text
abbrev pub is_of_texts : List ℕ → Bool
is_of_texts name =
    bytes_eq name (codes "nvim_buf_set_lines")
    || (bytes_eq name (codes "nvim_buf_set_text")
    || (bytes_eq name (codes "nvim_command") || bytes_eq name (codes "nvim_call_atomic")))

-- whether it makes or deletes buffers, or changes who follows one
abbrev pub is_of_buffers : List ℕ → Bool
is_of_buffers name =
    bytes_eq name (codes "nvim_create_buf")
    || (bytes_eq name (codes "nvim_buf_delete")
    || (bytes_eq name (codes "nvim_buf_attach") || bytes_eq name (codes "nvim_buf_detach")))

-- no other method splices
abbrev pub may_splice_by : List ℕ → Bool
may_splice_by name = is_of_texts name || is_of_buffers name

-- whether an event may splice a text: calls alone do
abbrev pub may_splice : Event → Bool
may_splice open_session = false
may_splice (request_of s call) = may_splice_by (method_called call)
may_splice (take_of s) = false
may_splice (close_of s) = false
