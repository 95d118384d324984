-- The changes of a text as a tree, and the number that the text is at (help: undo-tree).
use Rattle.std.specs.Prelude.{◌≡◌, ℕ, zero, suc, ◌<◌, ◌≤◌, ◌==◌, if◌then◌else◌, Bool, not, List, [], ◌∷◌, ◌++◌, length, map, reverse, filter, Option, Some, None, IsSome, option_map, unwrap_or, slice_get, slice_index, slice_set, refl}
use Rattle.std.specs.Option.{option_map_or}
use Rattle.std.specs.List.{list_any}
use Rattle.std.specs.Coded.{Coded, code_by, coded×, coded_list, coded_ℕ}
use Rattle.nv_undo.specs.declared.legs.Leg.{Leg}
use Rattle.nv_undo.specs.declared.legs.Leg.TheVariants.{Back, Ahead}

-- changes are numbered from 1 as they are made, and 0 is the text at first (help: undo-tree, :undo)
pub record Undo (E : Type 0) : Type 0 where
  -- each change with the number of its parent, the number that the text was at when it was made
  pub changes : List (ℕ × E)
  -- the number that the text is at
  pub current : ℕ
  -- for each number from 0 the child last entered, and 0 where it has none
  pub entered : List ℕ

-- a number is among others
abbrev pub has : List ℕ → ℕ → Bool
has numbers n = list_any (λ k. k == n) numbers

-- those of the second list that aren't in the first
abbrev pub those_outside : List ℕ → List ℕ → List ℕ
those_outside numbers others = filter (λ n. not (has numbers n)) others

module _ {E : Type 0} where
  -- the tree of these changes, at this number, with these children last entered
  abbrev pub tree_of : List (ℕ × E) → ℕ → List ℕ → Undo E
  tree_of changes current entered =
      record { changes = changes; current = current; entered = entered }

  -- as data, a tree is the three of them
  abbrev pub undo_code : Coded E → Coded (Undo E)
  undo_code c =
      code_by (List (ℕ × E) × (ℕ × List ℕ))
      (coded× (coded_list (coded× coded_ℕ c)) (coded× coded_ℕ (coded_list coded_ℕ)))
      (λ t. (t.changes, (t.current, t.entered))) (λ p. tree_of p.0 p.1.0 p.1.1) (λ _. refl)

  -- the text at first, with no change
  abbrev pub no_changes : Undo E
  no_changes = tree_of [] 0 (0 ∷ [])

  -- the greatest number
  abbrev pub last : Undo E → ℕ
  last t = length t.changes

  -- what stands at a number: the change and its parent, and nothing at 0 and above the last
  abbrev pub numbered : Undo E → ℕ → Option (ℕ × E)
  numbered t zero = None
  numbered t (suc place) = slice_get t.changes place

  -- the number of the parent
  abbrev pub parent_of : Undo E → ℕ → Option ℕ
  parent_of t n = option_map (λ c. c.0) (numbered t n)

  -- the change of a number
  abbrev pub change_of : Undo E → ℕ → Option E
  change_of t n = option_map (λ c. c.1) (numbered t n)

  -- the child last entered (help: redo goes along the branch last used)
  abbrev pub child_of : Undo E → ℕ → Option ℕ
  child_of t n = if slice_index t.entered n == 0 then None else Some (slice_index t.entered n)

  -- after a change is made: it gets the next number, is a child of the number that the text was at,
  -- is the child last entered there, and the text is at it
  abbrev pub pushed : E → Undo E → Undo E
  pushed change t =
      tree_of (t.changes ++ (t.current, change) ∷ []) (suc (last t))
      (slice_set t.entered t.current (suc (last t)) ++ 0 ∷ [])

  -- after one step back: the text is at the parent, and stays where it is at 0 (help: undo)
  abbrev pub gone_back : Undo E → Undo E
  gone_back t = tree_of t.changes (unwrap_or (parent_of t t.current) t.current) t.entered

  -- after the change k is entered: the text is at it, and it is the child last entered of its
  -- parent
  abbrev pub entered_child : ℕ → Undo E → Undo E
  entered_child k t = tree_of t.changes k (slice_set t.entered (unwrap_or (parent_of t k) 0) k)

  -- after one step ahead: the child last entered is entered, and the text stays where there is none
  -- (help: redo)
  abbrev pub gone_ahead : Undo E → Undo E
  gone_ahead t = option_map_or (λ k. entered_child k t) (child_of t t.current) t

  -- what holds of each tree
  pub record IsTree (t : Undo E) : Type 0 where
    pub counted : length t.entered ≡ suc (last t)
    pub within : t.current ≤ last t
    pub below : (k n : ℕ) → parent_of t k ≡ Some n → n < k
    pub child : (n k : ℕ) → child_of t n ≡ Some k → parent_of t k ≡ Some n
    pub some_child : (n k : ℕ) → parent_of t k ≡ Some n → IsSome (child_of t n)

  -- a number, its parent, and so on, with this many steps at most
  abbrev pub ancestors_within : ℕ → Undo E → ℕ → List ℕ
  ancestors_within zero t n = n ∷ []
  ancestors_within (suc steps) t n = n ∷ option_map_or (ancestors_within steps t) (parent_of t n) []

  -- a number, its parent, and so on down to 0: each parent is below its child, so n steps come
  -- there
  abbrev pub ancestors : Undo E → ℕ → List ℕ
  ancestors t n = ancestors_within n t n

  -- the way from one number to another by the nearest common ancestor: the ancestors of the one
  -- that aren't of the other are left from the first number on, and then those of the other that
  -- aren't of the one are entered, up to the last number (help: :undo N)
  abbrev pub path : Undo E → ℕ → ℕ → List Leg
  path t from to =
      map Back (those_outside (ancestors t to) (ancestors t from))
      ++ map Ahead (reverse (those_outside (ancestors t from) (ancestors t to)))

  -- after a leg: `Back` leaves the number that the text is at for its parent, `Ahead` enters a
  -- child
  abbrev pub tree_after_leg : Leg → Undo E → Undo E
  tree_after_leg (Back k) t = gone_back t
  tree_after_leg (Ahead k) t = entered_child k t

  -- after the legs, one after another
  abbrev pub tree_after_legs : List Leg → Undo E → Undo E
  tree_after_legs [] t = t
  tree_after_legs (leg ∷ legs) t = tree_after_legs legs (tree_after_leg leg t)
