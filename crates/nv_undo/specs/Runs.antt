-- Whole runs of steps over a tree of changes (own rule).
use Rattle.std.specs.Prelude.{ℕ, suc, ◌==◌, if◌then◌else◌, Bool, false, List, [], ◌∷◌, ◌++◌, Option, Some, None}
use Rattle.std.specs.Option.{option_map_or, option_or}
use Rattle.nv_undo.specs.Tree.{Undo, last, parent_of, child_of, pushed, gone_back, gone_ahead, entered_child}

-- a step of a run: a change is made, the current one undone, the one last entered redone, or a
-- change of this number entered
pub data Step (E : Type 0) : Type 0 where
  makes : E → Step E
  undoes : Step E
  redoes : Step E
  enters : ℕ → Step E

module _ {E : Type 0} where
  -- a change is a child of the number that the text is at
  abbrev pub is_child : Undo E → ℕ → Bool
  is_child t k = option_map_or (λ parent. parent == t.current) (parent_of t k) false

  -- the tree after a step; a change that is no child isn't entered
  abbrev pub after_step : Step E → Undo E → Undo E
  after_step (makes change) t = pushed change t
  after_step undoes t = gone_back t
  after_step redoes t = gone_ahead t
  after_step (enters k) t = if is_child t k then entered_child k t else t

  -- what is entered in a step: a number and its child
  abbrev pub entered_by : Step E → Undo E → List (ℕ × ℕ)
  entered_by (makes change) t = (t.current, suc (last t)) ∷ []
  entered_by undoes t = []
  entered_by redoes t = option_map_or (λ k. (t.current, k) ∷ []) (child_of t t.current) []
  entered_by (enters k) t = if is_child t k then (t.current, k) ∷ [] else []

  -- the tree after a run
  abbrev pub after_steps : List (Step E) → Undo E → Undo E
  after_steps [] t = t
  after_steps (step ∷ steps) t = after_steps steps (after_step step t)

  -- all that is entered in a run, in order
  abbrev pub entered_in : List (Step E) → Undo E → List (ℕ × ℕ)
  entered_in [] t = []
  entered_in (step ∷ steps) t = entered_by step t ++ entered_in steps (after_step step t)

-- the child that was entered last of a number, and none where none of its children was
abbrev pub last_of : List (ℕ × ℕ) → ℕ → Option ℕ
last_of [] n = None
last_of (e ∷ es) n = option_or (last_of es n) (if e.0 == n then Some e.1 else None)
