-- The kinds of operations and of facts, by which it is said once for each method what its row can
-- make and tell.
use Rattle.std.specs.Prelude.{◌≡◌, ◌⊎◌, ℕ, List, [], ◌∷◌, ⊤}
use Rattle.std.specs.List.{AllByRecursion}
use Rattle.nv_args.specs.Reading.{Arg}
use Rattle.nv_model.specs.Seen.{Seen}
use Rattle.nv_model.specs.Operations.{Operation, spliced, spliced_back, stepped, sealed_in, mark_set, mark_removed, name_put, modifiable_put, modified_put, listed_put, tabstop_put, buffer_made, buffer_dropped, namespace_made, group_made, group_put, note_put, window_opened, window_closed, tab_made, tab_closed, went_to_window, went_to_tab, cursor_put, top_put, shown, wish_put, ui_put, uis_dropped}
use Rattle.nv_model.specs.Answers.{Answer, Fact, attached, detached, edited, deleted, quit, refused, replied}
use Rattle.nv_model.specs.Rows.{Row}

-- what an operation is about
pub data OperationKind : Type 0 where
  -- a splice of a text; a step of an undo command, with its splices
  splices undoes_changes : OperationKind
  sets_marks removes_marks : OperationKind
  puts_names puts_options : OperationKind
  makes_buffers drops_buffers : OperationKind
  makes_namespaces makes_groups puts_groups : OperationKind
  puts_notes : OperationKind
  opens_windows closes_windows makes_tabs closes_tabs : OperationKind
  -- another window or tabpage becomes current
  goes : OperationKind
  moves_cursors moves_views shows_buffers puts_wishes : OperationKind
  puts_uis drops_uis : OperationKind

abbrev pub kind_of_operation : Operation → OperationKind
kind_of_operation (spliced n s) = splices
kind_of_operation (spliced_back n s) = undoes_changes
kind_of_operation (stepped n leg) = undoes_changes
kind_of_operation (sealed_in n) = undoes_changes
kind_of_operation (mark_set n k) = sets_marks
kind_of_operation (mark_removed n ns id) = removes_marks
kind_of_operation (name_put n name) = puts_names
kind_of_operation (modifiable_put n on) = puts_options
kind_of_operation (modified_put n on) = puts_options
kind_of_operation (listed_put n on) = puts_options
kind_of_operation (tabstop_put n cells) = puts_options
kind_of_operation (buffer_made listed) = makes_buffers
kind_of_operation (buffer_dropped n) = drops_buffers
kind_of_operation (namespace_made name) = makes_namespaces
kind_of_operation (group_made name) = makes_groups
kind_of_operation (group_put id group) = puts_groups
kind_of_operation (note_put n set note) = puts_notes
kind_of_operation (window_opened beside side buffer width height) = opens_windows
kind_of_operation (window_closed w) = closes_windows
kind_of_operation (tab_made buffer) = makes_tabs
kind_of_operation (tab_closed t) = closes_tabs
kind_of_operation (went_to_window w) = goes
kind_of_operation (went_to_tab t) = goes
kind_of_operation (cursor_put w p) = moves_cursors
kind_of_operation (top_put w row) = moves_views
kind_of_operation (shown w buffer) = shows_buffers
kind_of_operation (wish_put w axis n) = puts_wishes
kind_of_operation (ui_put ui) = puts_uis
kind_of_operation (uis_dropped sessions) = drops_uis

-- what others are told of
pub data FactKind : Type 0 where
  attachings detachings splicings deletions endings : FactKind

abbrev pub kind_of_fact : Fact → FactKind
kind_of_fact (attached n tick whole) = attachings
kind_of_fact (detached n) = detachings
kind_of_fact (edited n event) = splicings
kind_of_fact (deleted n) = deletions
kind_of_fact quit = endings

-- the kinds of operations that a row can make, and those of facts that it can tell
pub record Effects : Type 0 where
  pub makes : List OperationKind
  pub tells : List FactKind

abbrev pub no_effects : Effects
no_effects = record { makes = []; tells = [] }

-- a row that only makes operations
abbrev pub making : List OperationKind → Effects
making kinds = record { makes = kinds; tells = [] }

-- a kind is one of these
abbrev pub IsKindAmong : {K : Type 0} → K → List K → Type 0
IsKindAmong k [] = ⊥
IsKindAmong k (j ∷ js) = (k ≡ j) ⊎ IsKindAmong k js

-- operations and facts are of these kinds
abbrev pub AreMade : Effects → List Operation → Type 0
AreMade effects operations =
    AllByRecursion (λ c. IsKindAmong (kind_of_operation c) effects.makes) operations

abbrev pub AreTold : Effects → List Fact → Type 0
AreTold effects facts = AllByRecursion (λ f. IsKindAmong (kind_of_fact f) effects.tells) facts

-- an answer makes and tells no others
unfoldable pub MakesOnly : Effects → Answer → Type 0
MakesOnly effects (refused fault) = ⊤
MakesOnly effects (replied result operations facts) =
    AreMade effects operations × AreTold effects facts

-- whatever is seen, a row has these effects and no others
abbrev pub HasEffects : Effects → Row → Type 0
HasEffects effects row =
    (s : Seen) (session : ℕ) (args : List Arg) → MakesOnly effects (row s session args)
