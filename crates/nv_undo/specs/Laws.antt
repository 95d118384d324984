-- Laws of the tree of changes and of the ways through it.
use Rattle.std.specs.Prelude.{◌≡◌, ◌≢◌, ◌↔◌, ℕ, suc, ◌+◌, ◌≤◌, List, length, Some, None}
use Rattle.nv_undo.specs.declared.legs.Leg.{Leg}
use Rattle.nv_undo.specs.Tree.{Undo, IsTree, no_changes, last, numbered, parent_of, child_of, pushed, gone_back, gone_ahead, entered_child, path, tree_after_legs}
use Rattle.nv_undo.specs.Ways.{Leads, IsDirect, tree_depth}
use Rattle.nv_undo.specs.Runs.{Step, after_steps, entered_in, last_of}

-- the new tree has this child last entered at a number, and at each other number the child that the
-- old one has there
pub record EntersOnly {E : Type 0} (old new : Undo E) (n child : ℕ) : Type 0 where
  pub entered : child_of new n ≡ Some child
  pub others : (m : ℕ) → m ≢ n → child_of new m ≡ child_of old m

module _ (E : Type 0) where
  -- a number has a child last entered where it has a child
  abbrev pub ChildIsThere : Type 0
  ChildIsThere =
      (t : Undo E) (n : ℕ) → IsTree t → (child_of t n ≡ None) ↔ ((k : ℕ) → parent_of t k ≢ Some n)

  -- a change that is made stands at the next number, a child of the number that the text was at and
  -- the one last entered there, and all that has a number keeps it
  abbrev pub PushStands : Type 0
  PushStands =
      (change : E) (t : Undo E) → IsTree t
      → (numbered (pushed change t) (suc (last t)) ≡ Some (t.current, change))
      × ((n : ℕ) → n ≤ last t → numbered (pushed change t) n ≡ numbered t n)
      × EntersOnly t (pushed change t) t.current (suc (last t))

  -- a child that is entered is the one last entered
  abbrev pub EnteringStands : Type 0
  EnteringStands =
      (t : Undo E) (n k : ℕ) → IsTree t → parent_of t k ≡ Some n
      → EntersOnly t (entered_child k t) n k

  -- a change that was made is undone to the text before it, and redone
  abbrev pub UndoneAndRedone : Type 0
  UndoneAndRedone =
      (change : E) (t : Undo E) → IsTree t
      → ((gone_back (pushed change t)).current ≡ t.current)
      × (gone_ahead (gone_back (pushed change t)) ≡ pushed change t)

  -- each step from a tree comes to a tree
  pub record StaysTree : Type 0 where
    pub first : IsTree {E = E} no_changes
    pub push : (change : E) (t : Undo E) → IsTree t → IsTree (pushed change t)
    pub back : (t : Undo E) → IsTree t → IsTree (gone_back t)
    pub child : (k : ℕ) (t : Undo E) → IsTree t → parent_of t k ≡ Some t.current
        → IsTree (entered_child k t)
    pub ahead : (t : Undo E) → IsTree t → IsTree (gone_ahead t)

  -- the path leads from the one number to the other
  abbrev pub PathLeads : Type 0
  PathLeads = (t : Undo E) (from to : ℕ) → IsTree t → from ≤ last t → to ≤ last t
      → Leads t from (path t from to) to

  -- it goes by the nearest common ancestor
  abbrev pub PathIsDirect : Type 0
  PathIsDirect = (t : Undo E) (from to : ℕ) → IsDirect (path t from to)

  -- it is the only way that does
  abbrev pub PathIsOnly : Type 0
  PathIsOnly =
      (t : Undo E) (from to : ℕ) (legs : List Leg) → IsTree t → Leads t from legs to → IsDirect legs
      → legs ≡ path t from to

  -- it is no longer than the way by the text at first
  abbrev pub PathIsShort : Type 0
  PathIsShort =
      (t : Undo E) (from to : ℕ) → IsTree t → from ≤ last t → to ≤ last t
      → length (path t from to) ≤ tree_depth t from + tree_depth t to

  -- to go by legs that lead to a number comes there, with the changes as they were
  abbrev pub WaysArrive : Type 0
  WaysArrive =
      (t : Undo E) (legs : List Leg) (to : ℕ) → IsTree t → Leads t t.current legs to
      → ((tree_after_legs legs t).current ≡ to) × ((tree_after_legs legs t).changes ≡ t.changes)
      × IsTree (tree_after_legs legs t)

  -- so the path comes to its number
  abbrev pub PathArrives : Type 0
  PathArrives = (t : Undo E) (to : ℕ) → IsTree t → to ≤ last t
      → (tree_after_legs (path t t.current to) t).current ≡ to

  -- a run over a tree leaves a tree
  abbrev pub RunsStay : Type 0
  RunsStay = (steps : List (Step E)) (t : Undo E) → IsTree t → IsTree (after_steps steps t)

  -- no run loses or changes a change
  abbrev pub NothingIsLost : Type 0
  NothingIsLost =
      (steps : List (Step E)) (t : Undo E) (n : ℕ) → IsTree t → n ≤ last t
      → numbered (after_steps steps t) n ≡ numbered t n

  -- after a run the child last entered of a number is the one that was entered last in it
  abbrev pub LastIsLast : Type 0
  LastIsLast =
      (steps : List (Step E)) (n : ℕ)
      → child_of (after_steps steps no_changes) n ≡ last_of (entered_in steps no_changes) n
