-- Where marks stand along a history (help: api-extended-marks).
use Rattle.std.specs.Prelude.{◌≡◌, ◌⊎◌, ℕ, ℤ, Bool, false, ◌&&◌, List, [], ◌∷◌, ◌++◌, map, fold, Option, Some, None}
use Rattle.std.specs.List.{list_any}
use Rattle.std.specs.Ordering.{int_eq}
use Rattle.nv_marks.specs.Order.{IsInOrder}
use Rattle.nv_marks.specs.declared.extmark.Mark.{Mark}
use Rattle.nv_model.specs.Buffers.{Splice, SetMark, MarkState, ModelBuffer, keys_of, reach_of, state_after, state_set, state_now, mark_of, marks_there, marks_of, is_set}
use Rattle.nv_model.specs.Editors.{ModelEditor, at_handle}
use Rattle.nv_model.specs.Operations.{Operation, mark_set, mark_removed, set_now, after_operations}
use Rattle.nv_model.specs.Laws.{splices_among}
use Rattle.nv_model.specs.declared.parts.Limits.{Limits}
use Rattle.nv_history.specs.Events.{Event, open_session, request_of, take_of, close_of, Entry}
use Rattle.nv_history.specs.Worlds.{World, outcome_of_frame, step, world_made}
use Rattle.nv_history.specs.Runs.{run}

-- the operations that an event makes on the editor where it enters: those of its call
abbrev pub operations_of : World → Event → List Operation
operations_of w open_session = []
operations_of w (request_of s call) = (outcome_of_frame w.editor s call).operations
operations_of w (take_of s) = []
operations_of w (close_of s) = []

-- a mark stands in a buffer where these splices left it that stood so before them: its places, and
-- whether it is hidden, are told of that by `mark_of`
abbrev pub StandsAfter : ModelBuffer → List Splice → SetMark → MarkState → Type 0
StandsAfter d splices k before =
    state_now d k ≡ fold (state_after (keys_of k)) before (map reach_of splices)

-- a mark is one of these
abbrev pub IsMarkAmong : SetMark → List SetMark → Type 0
IsMarkAmong k [] = ⊥
IsMarkAmong k (mark ∷ marks) = (k ≡ mark) ⊎ IsMarkAmong k marks

-- whether an operation sets or removes the mark of a namespace and id of a buffer
abbrev pub names_mark : ℤ → SetMark → Operation → Bool
names_mark n k (mark_set j mark) = int_eq j n && is_set mark.ns mark.id k
names_mark n k (mark_removed j ns id) = int_eq j n && is_set ns id k
names_mark n k _ = false

-- a mark that was there before operations, and that the splices among them left where it stands
abbrev pub WasMoved : ℤ → List Operation → Option ModelBuffer → ModelBuffer → SetMark → Type 0
WasMoved n operations None d k = ⊥
WasMoved n operations (Some b) d k =
    IsMarkAmong k b.marks
    × StandsAfter d (splices_among n operations) k (state_now b k)

-- a mark that one of the operations set, at the offsets of its places then, and that the splices
-- behind it left where it stands
pub record WasSet (n : ℤ) (m : ModelEditor) (operations : List Operation) (d : ModelBuffer)
    (k : SetMark) : Type 0 where
  pub before : List Operation
  pub mark : Mark
  pub behind : List Operation
  pub whole : operations ≡ before ++ mark_set n mark ∷ behind
  pub buffer : ModelBuffer
  pub there : at_handle (after_operations before m).buffers n ≡ Some buffer
  pub set_as : k ≡ set_now buffer mark
  pub stands : StandsAfter d (splices_among n behind) k (state_set k)

-- the marks of a buffer after operations: one that none of them sets or removes is there still;
-- each was there or was set, and stands where splices left it; those told are these, but for those
-- that are gone for good, in their order
pub record MarksStand (n : ℤ) (m : ModelEditor) (operations : List Operation) (d : ModelBuffer)
    : Type 0 where
  pub kept : (b : ModelBuffer) (k : SetMark) → at_handle m.buffers n ≡ Some b
      → IsMarkAmong k b.marks → list_any (names_mark n k) operations ≡ false
      → IsMarkAmong k d.marks
  pub each : (k : SetMark) → IsMarkAmong k d.marks
      → WasMoved n operations (at_handle m.buffers n) d k ⊎ WasSet n m operations d k
  pub order : IsInOrder (map (mark_of d) (marks_there d)) (marks_of d)

-- after each entry of a history the marks of each buffer stand where its splices left them
unfoldable pub EachMarkStands : Type 0
EachMarkStands =
    (capacity : ℕ) (limits : Limits) (history : List Entry) (w v : World) (event : Event) (n : ℤ)
    (d : ModelBuffer)
    → run capacity limits history ≡ Some w → world_made (step w event) ≡ Some v
    → at_handle v.editor.buffers n ≡ Some d
    → MarksStand n w.editor (operations_of w event) d
