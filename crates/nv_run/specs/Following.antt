-- What the events that sessions were sent come to, and where marks stand along the history (Neovim
-- help `api-buffer-updates`, `api-extended-marks`, `ui-linegrid`).
use Rattle.std.specs.Prelude.{◌≡◌, ℕ, ℤ, List, [], ◌∷◌, ◌++◌, Some}
use Rattle.nv_rpc.specs.Messages.{Sent}
use Rattle.nv_model.specs.Buffers.{ModelBuffer}
use Rattle.nv_model.specs.Editors.{ModelEditor, at_handle}
use Rattle.nv_linegrid.specs.declared.event.Redraw.{Redraw}
use Rattle.nv_linegrid.specs.Told.{Told, nothing_told}
use Rattle.nv_history.specs.Events.{Entry}
use Rattle.nv_history.specs.Worlds.{World, step, world_made}
use Rattle.nv_history.specs.Laws.{FoldsToMoment}
use Rattle.nv_history.specs.MarkPlaces.{MarksStand, operations_of}
use Rattle.nv_history.specs.Runs.{TakenBatch, out, all_messages}
use Rattle.nv_history.specs.Spoken.{AreSpoken}
use Rattle.nv_history.specs.UiLaws.{ShowsMoment}
use Rattle.nv_core.specs.declared.start.Start.{Start}
use Rattle.nv_session.specs.Sending.{world_after}

-- the batches that a session took in a history, and their messages
abbrev pub batches_taken_by : ℕ → Start → List Entry → List TakenBatch
batches_taken_by session start kept = out start.outbox start.limits session kept

abbrev pub messages_taken_by : ℕ → Start → List Entry → List Sent
messages_taken_by session start kept = all_messages (batches_taken_by session start kept)

-- Whoever folds the events of a buffer, up to any of the messages that a session took, finds that
-- each fits. Where the last of them is a lines event, the fold has the buffer's lines of that
-- changedtick, or where they weren't sent the changedtick alone.
abbrev pub IsFolded : Start → List Entry → Type 0
IsFolded start kept = (session : ℕ) (w : World) (buffer : ℤ) (front back : List Sent)
    → world_after start kept ≡ Some w → messages_taken_by session start kept ≡ front ++ back
    → FoldsToMoment w.editor buffer front

-- After each entry of the history the marks of each live buffer stand where the splices of that
-- entry left them, and those that it set where it set them.
abbrev pub HasMarksInPlace : Start → List Entry → Type 0
HasMarksInPlace start kept =
    (front back : List Entry) (entry : Entry) (w v : World) (buffer : ℤ) (b : ModelBuffer)
    → kept ≡ front ++ entry ∷ back
    → world_after start front ≡ Some w → world_made (step w entry.event) ≡ Some v
    → at_handle v.editor.buffers buffer ≡ Some b
    → MarksStand buffer w.editor (operations_of w entry.event) b

-- Whoever folds the redraw events of what a session is sent, from nothing shown up to any batch
-- that has an editor, finds that each fits, and then shows a scene of that editor as it is drawn,
-- with its colours and its cursor, and no cell unknown. The editor is that of the take's moment.
abbrev pub IsShown : Start → List Entry → Type 0
IsShown start kept =
    (session : ℕ) (w : World) (front back : List TakenBatch) (last : TakenBatch) (m : ModelEditor)
    (bytes : List ℕ) (events : List Redraw) (later : Told)
    → world_after start kept ≡ Some w
    → batches_taken_by session start kept ≡ front ++ last ∷ back
    → last.editor ≡ Some m → AreSpoken nothing_told (front ++ last ∷ []) bytes events later
    → ShowsMoment start.outbox start.limits session kept front m events later
