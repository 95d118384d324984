-- Laws of worlds.
use Rattle.std.specs.Prelude.{◌≡◌, ℕ, ℤ, List, ◌∷◌, ◌++◌, Some}
use Rattle.nv_rpc.specs.Messages.{Sent}
use Rattle.nv_model.specs.Buffers.{ModelBuffer}
use Rattle.nv_model.specs.Editors.{at_handle}
use Rattle.nv_history.specs.Sessions.{Session as ModelSession}
use Rattle.nv_history.specs.Worlds.{World as ModelWorld, session_of, step, world_made}
use Rattle.nv_history.specs.Runs.{due, run}
use Rattle.nv_history.specs.Laws.{FoldsToMoment}
use Rattle.nv_history.specs.MarkPlaces.{MarksStand, operations_of}
use Rattle.nv_core.specs.Contents.{plain_entries, plain_event}
use Rattle.nv_world.specs.Worlds.{WorldRecord, model_of}
use Rattle.nv_core.specs.declared.entry.Entry.{Entry}

-- each front of what is due to a session of a world, what its takes gave and what waits, folds to a
-- moment of each buffer
abbrev pub MessagesFold : WorldRecord → Type 0
MessagesFold k =
    (w : ModelWorld) (s : ℕ) (x : ModelSession) (n : ℤ) (front back : List Sent)
    → model_of k ≡ Some w → session_of w s ≡ Some x
    → due k.capacity k.limits s (plain_entries k.history) ≡ front ++ back
    → FoldsToMoment w.editor n front

-- after each entry of a world the marks of each buffer stand where its splices left them
abbrev pub MarksFollow : WorldRecord → Type 0
MarksFollow k =
    (before behind : List Entry) (entry : Entry) (w v : ModelWorld) (n : ℤ) (d : ModelBuffer)
    → k.history ≡ before ++ entry ∷ behind
    → run k.capacity k.limits (plain_entries before) ≡ Some w
    → world_made (step w (plain_event entry.event)) ≡ Some v
    → at_handle v.editor.buffers n ≡ Some d
    → MarksStand n w.editor (operations_of w (plain_event entry.event)) d
