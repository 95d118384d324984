-- Laws of the operations and of the answers.
use Rattle.std.specs.Prelude.{◌≡◌, ℕ, ℤ, pos, ◌+◌, ◌+ℤ◌, ◌≤ℤ◌, ◌<ℤ◌, Bool, true, false, if◌then◌else◌, List, [], ◌∷◌, ◌++◌, length, map, flat_map, fold, All, Some, None}
use Rattle.std.specs.Ordering.{int_eq}
use Rattle.std.specs.List.{range_with_len}
use Rattle.nv_value.specs.declared.fault.ApiFault.{ApiFault}
use Rattle.nv_buffer.specs.declared.buffer.Spliced.{Spliced}
use Rattle.nv_model.specs.Buffers.{Splice, ModelBuffer, text_after, text_of, tick_of, inverse_splices, splice_events}
use Rattle.nv_windows.specs.Workspace.{Page}
use Rattle.nv_windows.specs.Sound.{IsRisingFrom}
use Rattle.nv_windows.specs.declared.window.Window.{Window}
use Rattle.nv_model.specs.Stage.{Stage}
use Rattle.nv_model.specs.Editors.{ModelEditor, at_handle, fresh_editor}
use Rattle.nv_model.specs.Operations.{Operation, spliced, spliced_back, buffer_made, buffer_dropped, window_opened, tab_made, after_operation, after_operations}
use Rattle.nv_model.specs.Answers.{Answer, refused, after_answer, unless}
use Rattle.nv_model.specs.Standing.{AreWithin}
use Rattle.nv_model.specs.declared.parts.Limits.{Limits}

-- the splice that an operation makes in the buffer of a handle, where it makes one
abbrev pub splices_in : ℤ → Operation → List Splice
splices_in n (spliced k s) = if int_eq k n then s ∷ [] else []
splices_in n (spliced_back k s) = if int_eq k n then s ∷ [] else []
splices_in n _ = []

-- the splices that operations make in the buffer of a handle, in order
abbrev pub splices_among : ℤ → List Operation → List Splice
splices_among n operations = flat_map (splices_in n) operations

-- a buffer and the same one with more splices
pub record IsGrown (b : ModelBuffer) (more : List Splice) (later : ModelBuffer) : Type 0 where
  pub first : later.first ≡ b.first
  pub splices : later.splices ≡ b.splices ++ more

-- what is said of a buffer that is there before some operations and after them
abbrev pub OfBuffer : (ModelBuffer → ModelBuffer → Type 0) → ℤ → ModelEditor → ModelEditor → Type 0
OfBuffer R n m later = (b c : ModelBuffer) → at_handle m.buffers n ≡ Some b
    → at_handle later.buffers n ≡ Some c → R b c

-- each operation adds to each buffer the splices that it makes in it, and no other
abbrev pub OperationsAddSplices : Type 0
OperationsAddSplices = (c : Operation) (m : ModelEditor) (n : ℤ)
    → OfBuffer (λ b d. IsGrown b (splices_in n c) d) n m (after_operation c m)

-- a splice raises the changedtick of its buffer by one, and that of no other
abbrev pub SpliceRaisesOneTick : Type 0
SpliceRaisesOneTick =
    (s : Splice) (m : ModelEditor) (n k : ℤ)
    → OfBuffer (λ b d. tick_of d ≡ (if int_eq n k then tick_of b + 1 else tick_of b)) k m
    (after_operation (spliced n s) m)
    × OfBuffer (λ b d. tick_of d ≡ (if int_eq n k then tick_of b + 1 else tick_of b)) k m
    (after_operation (spliced_back n s) m)

-- all that has a handle has one below the next, the deleted buffers too
pub record IsNumbered (m : ModelEditor) : Type 0 where
  pub buffers : All (λ (e : ℤ × ModelBuffer). e.0 <ℤ m.stage.next_buffer) m.buffers
  pub deleted : All (λ (e : ℤ × ModelBuffer). e.0 <ℤ m.stage.next_buffer) m.deleted
  pub windows : All
      (λ (w : Window). w.handle <ℤ m.stage.workspace.next_window) m.stage.workspace.windows
  pub tabpages : All
      (λ (t : Page). t.handle <ℤ m.stage.workspace.next_tabpage) m.stage.workspace.tabpages

-- so it is in a fresh editor, and stays so
abbrev pub HandlesStayBelow : Type 0
HandlesStayBelow =
    ((limits : Limits) → IsNumbered (fresh_editor limits))
    × ((c : Operation) (m : ModelEditor) → IsNumbered m → IsNumbered (after_operation c m))

-- the handles that an operation gives to buffers, to windows and to tabpages
abbrev pub buffers_given : Operation → Stage → List ℤ
buffers_given (buffer_made listed) stage = stage.next_buffer ∷ []
buffers_given _ stage = []

abbrev pub windows_given : Operation → Stage → List ℤ
windows_given (window_opened beside side buffer width height) stage =
    stage.workspace.next_window ∷ []
windows_given (tab_made buffer) stage = stage.workspace.next_window ∷ []
windows_given _ stage = []

abbrev pub tabpages_given : Operation → Stage → List ℤ
tabpages_given (tab_made buffer) stage = stage.workspace.next_tabpage ∷ []
tabpages_given _ stage = []

-- the handles that operations give one after another
abbrev pub all_given : (Operation → Stage → List ℤ) → List Operation → ModelEditor → List ℤ
all_given given [] m = []
all_given given (c ∷ cs) m = given c m.stage ++ all_given given cs (after_operation c m)

-- no handle is given twice
abbrev pub NoHandleTwice : Type 0
NoHandleTwice =
    (operations : List Operation) (m : ModelEditor)
    → IsRisingFrom m.stage.next_buffer (all_given buffers_given operations m)
    × IsRisingFrom m.stage.workspace.next_window (all_given windows_given operations m)
    × IsRisingFrom m.stage.workspace.next_tabpage (all_given tabpages_given operations m)

-- a buffer that is there before operations and after them has all splices that they make in it in
-- between: its text is the text before with these, and its changedtick as much more
pub record HasAll (b : ModelBuffer) (splices : List Splice) (later : ModelBuffer) : Type 0 where
  pub grown : IsGrown b splices later
  pub text : text_of later ≡ fold text_after (text_of b) splices
  pub tick : tick_of later ≡ tick_of b + length splices

abbrev pub OperationsMakeTexts : Type 0
OperationsMakeTexts =
    (operations : List Operation) (m : ModelEditor) (n : ℤ) → IsNumbered m
    → OfBuffer (λ b d. HasAll b (splices_among n operations) d) n m (after_operations operations m)

-- a deleted buffer is kept with its splices, and stays as it was when it was deleted
abbrev pub DeletedAreKept : Type 0
DeletedAreKept =
    ((m : ModelEditor) (n : ℤ) (b : ModelBuffer) → at_handle m.deleted n ≡ None
    → at_handle m.buffers n ≡ Some b
    → at_handle (after_operation (buffer_dropped n) m).deleted n ≡ Some b)
    × ((operations : List Operation) (m : ModelEditor) (n : ℤ) (b : ModelBuffer)
    → at_handle m.deleted n ≡ Some b
    → at_handle (after_operations operations m).deleted n ≡ Some b)

-- a refused call leaves the editor as it was
abbrev pub RefusedKeepsEditor : Type 0
RefusedKeepsEditor = (fault : ApiFault) (m : ModelEditor) → after_answer (refused fault) m ≡ m

-- of some conditions the first that holds is answered by its fault; where none holds, the call
-- isn't refused
abbrev pub FirstIsAnswered : Type 0
FirstIsAnswered =
    (before behind : List (Bool × ApiFault)) (fault : ApiFault) (answer : Answer)
    → All (λ (f : Bool × ApiFault). f.0 ≡ false) before
    → (unless (before ++ (true, fault) ∷ behind) answer ≡ refused fault)
    × (unless before answer ≡ answer)

-- splices are told one by one, with the changedtick counted up
abbrev pub EventsCountUp : Type 0
EventsCountUp =
    (text : List ℕ) (tick : ℕ) (splices : List Splice)
    → map (λ (e : Spliced). e.tick) (splice_events text tick splices)
    ≡ map pos (range_with_len (tick + 1) (length splices))

-- an inverse takes its splice back, and inverses in reverse order take splices back
abbrev pub InversesTakeBack : Type 0
InversesTakeBack =
    (text : List ℕ) (splices : List Splice) → AreWithin text splices
    → fold text_after (fold text_after text splices) (inverse_splices text splices) ≡ text
