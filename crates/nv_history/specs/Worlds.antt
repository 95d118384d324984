-- The world: an editor and its sessions, and what an event makes of it (own rule; help: api, ui).
use Rattle.std.specs.Prelude.{ℕ, zero, suc, ◌+◌, ◌*◌, ◌==◌, nat_le, Bool, true, false, not, ◌&&◌, is_some, List, [], ◌∷◌, ◌++◌, length, map, filter, slice_get, slice_set, Option, Some, None}
use Rattle.nv_rpc.specs.Calls.{Call, request, notice}
use Rattle.nv_rpc.specs.Messages.{Sent}
use Rattle.nv_args.specs.Arguments.{tree_list}
use Rattle.nv_model.specs.Editors.{ModelEditor, fresh_editor}
use Rattle.nv_model.specs.Operations.{uis_dropped, after_operation, after_operations}
use Rattle.nv_model.specs.Seen.{seen_of}
use Rattle.nv_model.specs.declared.parts.Limits.{Limits}
use Rattle.nv_editor.specs.Uis.{has_ui}
use Rattle.nv_scene.specs.Settling.{settle_operations}
use Rattle.nv_dispatch.specs.Calls.{CallOutcome, editor_after, outcome_of_call}
use Rattle.nv_history.specs.Events.{Event, open_session, request_of, take_of, close_of, Cause, closed_at, entry_of, Stop, stranger, gone_by, held_with, Effect, opened, done, gives, nothing, over, closes}
use Rattle.nv_history.specs.Sessions.{Session, fresh_session, session_closed_by, shown_after, session_emptied, session_quit, sessions_after_call, reply_message, has_quit}

-- a world: how many messages an outbox holds, the limits, the editor, the sessions by their numbers
-- from 1, how many entries there were, the entry that ended the editor, where one has, and the
-- stamp, which rises with each entry that may have changed what a UI shows
pub record World : Type 0 where
  pub capacity : ℕ
  pub limits : Limits
  pub editor : ModelEditor
  pub sessions : List Session
  pub entries : ℕ
  pub ended : Option ℕ
  pub stamp : ℕ

-- a world at first: a fresh editor and nobody; 0 is the stamp of no world
abbrev pub fresh_world : ℕ → Limits → World
fresh_world capacity limits = record {
  capacity = capacity;
  limits = limits;
  editor = fresh_editor limits;
  sessions = [];
  entries = 0;
  ended = None;
  stamp = 1;
}

-- what an event comes to: it is stopped, or has an effect and makes no entry, or enters and makes
-- this world
pub data Outcome : Type 0 where
  refuses : Stop → Outcome
  idles : Effect → Outcome
  becomes : World → Effect → Outcome

-- the session of a number; none has the number 0
abbrev pub session_of : World → ℕ → Option Session
session_of w zero = None
session_of w (suc place) = slice_get w.sessions place

-- the world with another session under a number
abbrev pub with_session_at : World → ℕ → Session → World
with_session_at w zero x = w
with_session_at w (suc place) x = record w { sessions = slice_set w.sessions place x }

-- the entry that ended the editor: the first one that did
abbrev pub first_end : Bool → ℕ → Option ℕ → Option ℕ
first_end ends at (Some entry) = Some entry
first_end true at None = Some at
first_end false at None = None

-- the world once the present entry ends the editor: each session that isn't closed is closed by it
abbrev pub world_ended_if : Bool → World → World
world_ended_if true w = record w {
  sessions = map (session_quit w.entries) w.sessions;
  ended = first_end true w.entries w.ended;
}
world_ended_if false w = w

-- the world with one entry more
abbrev pub world_counted : World → World
world_counted w = record w { entries = w.entries + 1 }

-- ---- UIs

-- whether a session is there and isn't closed
abbrev pub is_live : Option Session → Bool
is_live None = false
is_live (Some x) = not (is_some x.closed)

-- the sessions whose UIs go: those that have one and are closed
abbrev pub sessions_losing_uis : World → List ℕ
sessions_losing_uis w =
    map (λ ui. ui.session)
    (filter (λ ui. not (is_live (session_of w ui.session))) w.editor.stage.uis)

-- the world where an entry is seen
abbrev pub world_stamped_if : Bool → World → World
world_stamped_if true w = record w { stamp = w.stamp + 1 }
world_stamped_if false w = w

-- the world once the UIs of these sessions are gone, all together: the stamp rises where there are
-- any, or where the entry is seen besides
abbrev pub world_without_uis : Bool → List ℕ → World → World
world_without_uis is_seen [] w = world_stamped_if is_seen w
world_without_uis is_seen (s ∷ ss) w = record w {
  editor = after_operation (uis_dropped (s ∷ ss)) w.editor;
  stamp = w.stamp + 1;
}

-- the world once no session that is closed has a UI
abbrev pub world_with_uis_of_live : Bool → World → World
world_with_uis_of_live is_seen w = world_without_uis is_seen (sessions_losing_uis w) w

-- an editor whose windows are settled, and a world with that
abbrev pub settled_editor : ModelEditor → ModelEditor
settled_editor m = after_operations (settle_operations (seen_of m)) m

abbrev pub world_settled : World → World
world_settled w = record w { editor = settled_editor w.editor }

-- ---- the end of each entry

-- the world once the present entry did its work: the last one that the limits allow ends the
-- editor, and the UIs of sessions that are closed go
abbrev pub world_at_end : Bool → World → World
world_at_end is_seen w =
    world_with_uis_of_live is_seen (world_ended_if (w.entries + 1 == w.limits.entries) w)

-- the world after an entry, and after one behind which the windows are settled: a request, which
-- may be seen, or a close
abbrev pub after_entry : World → World
after_entry w = world_counted (world_at_end false w)

abbrev pub after_settled_entry : Bool → World → World
after_settled_entry is_seen w = world_counted (world_settled (world_at_end is_seen w))

-- ---- each event

abbrev pub opening_outcome : Option ℕ → World → Outcome
opening_outcome (Some entry) w = refuses (gone_by entry)
opening_outcome None w =
    becomes (after_entry (record w { sessions = w.sessions ++ fresh_session ∷ [] }))
    (opened (length w.sessions + 1))

-- what a call of a session comes to
abbrev pub outcome_of_frame : ModelEditor → ℕ → Call → CallOutcome
outcome_of_frame m s (request msgid name args) = outcome_of_call m s name (tree_list args)
outcome_of_frame m s (notice name args) = outcome_of_call m s name (tree_list args)

-- the world once a session has made a call that came to this
abbrev pub world_after_call : World → ℕ → Call → CallOutcome → World
world_after_call w s call o = record w {
  editor = editor_after w.editor o;
  sessions =
      sessions_after_call w.entries w.capacity s 1 o.facts (reply_message call o.result) w.sessions;
  ended = first_end (has_quit o.facts) w.entries w.ended;
}

abbrev pub outcome_after_call : World → ℕ → Call → CallOutcome → Outcome
outcome_after_call w s call o =
    becomes (after_settled_entry o.is_seen (world_after_call w s call o)) done

-- a session whose outbox is half full is held
abbrev pub held_outcome : Bool → World → ℕ → Session → Call → Outcome
held_outcome true w s x call = refuses (held_with (length x.waiting))
held_outcome false w s x call = outcome_after_call w s call (outcome_of_frame w.editor s call)

abbrev pub live_request_outcome : Option Cause → World → ℕ → Session → Call → Outcome
live_request_outcome (Some cause) w s x call = refuses (gone_by (entry_of cause))
live_request_outcome None w s x call =
    held_outcome (nat_le w.capacity (2 * length x.waiting)) w s x call

abbrev pub request_outcome : Option Session → World → ℕ → Call → Outcome
request_outcome None w s call = refuses (stranger s)
request_outcome (Some x) w s call = live_request_outcome x.closed w s x call

-- where nothing waits, a session that is closed never will have anything
abbrev pub empty_take_outcome : Option Cause → Outcome
empty_take_outcome (Some cause) = idles (over cause)
empty_take_outcome None = idles nothing

-- whether a session has a UI that wasn't given the editor to show since the stamp rose
abbrev pub is_scene_due : World → ℕ → Session → Bool
is_scene_due w s x = has_ui s w.editor.stage.uis && not (x.shown == w.stamp)

-- whether there is nothing to take: no message waits, and no scene is due
abbrev pub is_nothing_due : List Sent → Bool → Bool
is_nothing_due [] scene = not scene
is_nothing_due (message ∷ messages) scene = false

-- the editor as it is, where a scene of it is due
abbrev pub editor_due : Bool → ModelEditor → Option ModelEditor
editor_due true m = Some m
editor_due false m = None

abbrev pub some_take_outcome : Bool → Bool → World → ℕ → Session → Outcome
some_take_outcome true scene w s x = empty_take_outcome x.closed
some_take_outcome false scene w s x =
    becomes
    (after_entry
    (with_session_at w s (session_emptied (shown_after scene w.stamp x.shown) x)))
    (gives x.waiting (editor_due scene w.editor))

-- what a take of a session comes to, by whether a scene is due
abbrev pub session_take_outcome : Bool → World → ℕ → Session → Outcome
session_take_outcome scene w s x =
    some_take_outcome (is_nothing_due x.waiting scene) scene w s x

abbrev pub take_outcome : Option Session → World → ℕ → Outcome
take_outcome None w s = refuses (stranger s)
take_outcome (Some x) w s = session_take_outcome (is_scene_due w s x) w s x

abbrev pub live_close_outcome : Option Cause → World → ℕ → Session → Outcome
live_close_outcome (Some cause) w s x = refuses (gone_by (entry_of cause))
live_close_outcome None w s x =
    becomes
    (after_settled_entry false
    (with_session_at w s (session_closed_by (closed_at w.entries) x)))
    closes

abbrev pub close_outcome : Option Session → World → ℕ → Outcome
close_outcome None w s = refuses (stranger s)
close_outcome (Some x) w s = live_close_outcome x.closed w s x

-- what an event comes to in a world
abbrev pub step : World → Event → Outcome
step w open_session = opening_outcome w.ended w
step w (request_of s call) = request_outcome (session_of w s) w s call
step w (take_of s) = take_outcome (session_of w s) w s
step w (close_of s) = close_outcome (session_of w s) w s

-- the world that an outcome makes, where the event enters
abbrev pub world_made : Outcome → Option World
world_made (refuses stop) = None
world_made (idles effect) = None
world_made (becomes w effect) = Some w
