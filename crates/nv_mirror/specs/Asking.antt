-- The request of a client that follows a buffer (MessagePack-RPC specification, "Request Message";
-- Neovim help `nvim_buf_attach`).
use Rattle.std.specs.Prelude.{ℕ, ℤ, pos, true, List, [], ◌∷◌, codes}
use Rattle.nv_value.specs.Content.{Tree, no_more, truth, integer, text, pairs}
use Rattle.nv_msgpack.specs.Shortest.{shortest}
use Rattle.nv_rpc.specs.Messages.{items}

-- The arguments of `nvim_buf_attach`: the buffer, that its lines are sent first, and no options.
abbrev pub attach_arguments : ℤ → Tree
attach_arguments buffer = items (integer buffer ∷ truth true ∷ pairs no_more ∷ [])

-- The request with msgid 1.
abbrev pub attach_request : ℤ → Tree
attach_request buffer =
    items (integer (pos 0) ∷ integer (pos 1) ∷ text (codes "nvim_buf_attach")
    ∷ attach_arguments buffer ∷ [])

-- The bytes of the request.
abbrev pub request_bytes : ℤ → List ℕ
request_bytes buffer = shortest (attach_request buffer)
