-- What events, entries, messages and effects hold, as plain data.
use Rattle.std.specs.Prelude.{◌≡◌, List, map, Option, Some, None}
use Rattle.std.specs.Arc.{arc_value}
use Rattle.nv_rpc.specs.Frames.{call_of_frame}
use Rattle.nv_rpc.specs.Messages.{Sent, lines_event}
use Rattle.nv_rpc.specs.MessageView.{sent_of}
use Rattle.nv_args.specs.Texts.{strings}
use Rattle.nv_model.specs.Editors.{ModelEditor}
use Rattle.nv_screen.specs.declared.scene.Scene.{Scene}
use Rattle.nv_history.specs.Events.{open_session, request_of, take_of, close_of, closed_at, overflowed_at, quit_at, stranger, gone_by, held_with, opened, done, gives, nothing, over, closes}
use Rattle.nv_history.specs.Events as plain
use Rattle.nv_history.specs.Spoken.{ShowsIfGiven}
use Rattle.nv_core.specs.declared.entry.Event.{Event}
use Rattle.nv_core.specs.declared.entry.Event.TheVariants as event
use Rattle.nv_core.specs.declared.entry.Entry.{Entry}
use Rattle.nv_core.specs.declared.effect.Cause.{Cause}
use Rattle.nv_core.specs.declared.effect.Cause.TheVariants as cause
use Rattle.nv_core.specs.declared.effect.Effect.{Effect}
use Rattle.nv_core.specs.declared.effect.Effect.TheVariants as effect
use Rattle.nv_core.specs.declared.effect.Stop.{Stop}
use Rattle.nv_core.specs.declared.effect.Stop.TheVariants as stop
use Rattle.nv_core.specs.declared.shared.LinesEvent.{LinesEvent}
use Rattle.nv_core.specs.declared.shared.SharedMessage.{SharedMessage}
use Rattle.nv_core.specs.declared.shared.SharedMessage.TheVariants as shared

-- an event
abbrev pub plain_event : Event → plain.Event
plain_event event.Open = open_session
plain_event (event.Request s frame) = request_of s (call_of_frame frame)
plain_event (event.Take s) = take_of s
plain_event (event.Close s) = close_of s

-- an entry, and entries in their order
abbrev pub plain_entry : Entry → plain.Entry
plain_entry e = record { caller = e.caller; event = plain_event e.event }

abbrev pub plain_entries : List Entry → List plain.Entry
plain_entries entries = map plain_entry entries

-- a message that may be shared
abbrev pub sent_of_lines : LinesEvent → Sent
sent_of_lines e = lines_event e.buffer e.tick e.first e.last (strings e.lines)

abbrev pub sent_of_shared : SharedMessage → Sent
sent_of_shared (shared.Own message) = sent_of message
sent_of_shared (shared.Lines lines) = sent_of_lines (arc_value lines)

-- what closed a session
abbrev pub plain_cause : Cause → plain.Cause
plain_cause (cause.Closed entry) = closed_at entry
plain_cause (cause.Overflowed entry) = overflowed_at entry
plain_cause (cause.Quit entry) = quit_at entry

-- what an event does, where this editor is to be shown behind what it gives
abbrev pub plain_effect : Option ModelEditor → Effect → plain.Effect
plain_effect editor (effect.Opened s) = opened s
plain_effect editor effect.Done = done
plain_effect editor (effect.Items batch) = gives (map sent_of_shared batch.messages.items) editor
plain_effect editor effect.Nothing = nothing
plain_effect editor (effect.Over c) = over (plain_cause c)
plain_effect editor effect.Closed = closes

-- the scene that it gives
abbrev pub scene_given : Effect → Option Scene
scene_given (effect.Items batch) = batch.scene
scene_given (effect.Opened s) = None
scene_given effect.Done = None
scene_given effect.Nothing = None
scene_given (effect.Over c) = None
scene_given effect.Closed = None

-- it does what is wanted: where an editor is to be shown it gives a scene of it, and else none
pub record IsEffect (given : Effect) (wanted : plain.Effect) : Type 0 where
  pub editor : Option ModelEditor
  pub effect_is : plain_effect editor given ≡ wanted
  pub shows : ShowsIfGiven editor (scene_given given)

-- why an event is refused; want of memory is no such cause
abbrev pub plain_stop : Stop → Option plain.Stop
plain_stop stop.NoMemory = None
plain_stop (stop.Stranger s) = Some (stranger s)
plain_stop (stop.Gone entry) = Some (gone_by entry)
plain_stop (stop.Held n) = Some (held_with n)
