-- Worked examples: what a client makes of messages and of values, computed by the definitions.
use Rattle.std.specs.Prelude.{◌≡◌, ℕ, true, pos, [], ◌∷◌, codes, Some, None}
use Rattle.nv_value.specs.Content.{truth, nil}
use Rattle.nv_rpc.specs.Messages.{Sent, reply, detach_event, message_tree, notification}
use Rattle.nv_subs.specs.Worked.{lines_told, whole_told}
use Rattle.nv_mirror.specs.Listings.{request_refused, unfit, strange, stop_in, listing}

-- The text of buffer 1 is listed at each event that tells its lines.
abbrev pub TextsAreListed : Type 0
TextsAreListed =
    listing (pos 1)
    (whole_told ("" ∷ []) ∷ reply 1 None (truth true) ∷ lines_told 3 0 (pos 1) ("a" ∷ []) ∷ [])
    ≡ codes "tick 2 lines 1\n\ntick 3 lines 1\na\n"

-- Nothing is listed behind the end of its events.
abbrev pub NothingIsListedBehind : Type 0
NothingIsListedBehind =
    listing (pos 1) (whole_told ("a" ∷ []) ∷ detach_event (pos 1) ∷ whole_told ("b" ∷ []) ∷ [])
    ≡ codes "tick 2 lines 1\na\n"

-- A refusal ends it, with its message; the reply to another request doesn't.
abbrev pub refusal_reply : ℕ → Sent
refusal_reply msgid =
    reply msgid (Some (record { kind = 1; code = 0; words = codes "Invalid buffer id: 7" })) nil

abbrev pub RefusalIsTold : Type 0
RefusalIsTold =
    stop_in (pos 7) (message_tree (refusal_reply 2) ∷ message_tree (refusal_reply 1) ∷ [])
    ≡ Some (request_refused (codes "Invalid buffer id: 7"))

-- A notification of another name is left out of account, and so is an event of another buffer; the
-- event that doesn't fit is told by its number.
abbrev pub MisfitIsTold : Type 0
MisfitIsTold =
    stop_in (pos 1)
    (notification (codes "redraw") [] ∷ message_tree (detach_event (pos 2))
    ∷ message_tree (lines_told 3 0 (pos 1) ("a" ∷ [])) ∷ [])
    ≡ Some (unfit 2)

-- A value that is neither is told by its number, such as an event with arguments that aren't its
-- own.
abbrev pub StrangeIsTold : Type 0
StrangeIsTold =
    stop_in (pos 1)
    (message_tree (whole_told ("a" ∷ [])) ∷ notification (codes "nvim_buf_detach_event") [] ∷ [])
    ≡ Some (strange 1)
