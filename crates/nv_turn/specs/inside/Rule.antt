-- What holds of the table behind a turn between any two steps (own rules). Word 0 is the lock,
-- which is 1 while a pass holds the turn. Word 1 is the length of the story. Word 2 is the number
-- that is drawn next. The one slot has the value, unless a holder has taken it out.
use Rattle.std.specs.Prelude.{◌≡◌, ℕ, ◌+◌, ◌<◌, ◌≤◌, true, false, ◌⊎◌, List, [], ◌∷◌, ◌++◌, length}
use Rattle.std.specs.Prelude.{Option, Some}
use mathlib.Core.List.{IsPrefix}
use mathlib.Core.Option as maybe
use mathlib.Core.Option.{some}
use lib.ListN.{get_elem?}
use Rattle.atomic_table.specs.Table.{State}
use Rattle.nv_turn.specs.declared.view.Note.{Note}
use Rattle.nv_turn.specs.declared.view.View.{View}
use Rattle.nv_turn.specs.Story.{Has, entries_by, longer_of}

module _ {E : Type 0} where
  -- a beginning of the story, and numbers of which all entries stand in it
  abbrev pub note : List E → List ℕ → Note E
  note seen numbers = record { seen = seen; numbers = numbers }

  -- the numbers of all notes together
  abbrev pub numbers_of : List (Note E) → List ℕ
  numbers_of [] = []
  numbers_of (n ∷ notes) = n.numbers ++ numbers_of notes

  -- what the first note has seen
  abbrev pub first_seen : List (Note E) → List E
  first_seen [] = []
  first_seen (n ∷ notes) = n.seen

  -- the longest story that a note has seen
  abbrev pub longest_seen : List (Note E) → List E
  longest_seen [] = []
  longest_seen (n ∷ notes) = longer_of n.seen (longest_seen notes)

  -- the note is one of these
  abbrev pub IsAmong : Note E → List (Note E) → Type 0
  IsAmong m [] = ⊥
  IsAmong m (n ∷ notes) = (m ≡ n) ⊎ IsAmong m notes

module _ {E D : Type 0} where
  -- the numbers that a view carries
  abbrev pub numbers_carried : View E D → List ℕ
  numbers_carried v = numbers_of v.notes

  -- the view carries the number
  abbrev pub Carries : View E D → ℕ → Type 0
  Carries v c = Has c (numbers_carried v)

  -- what no two views have in common: a number, the turn, the right to draw
  pub data Shares (v w : View E D) : Type 0 where
    same_number : (c : ℕ) → Carries v c → Carries w c → Shares v w
    both_hold : v.holds ≡ true → w.holds ≡ true → Shares v w
    both_draw : 0 < v.due → 0 < w.due → Shares v w

  -- no view holds the turn
  abbrev pub NobodyHolds : List (View E D) → Type 0
  NobodyHolds views = (i : ℕ) (v : View E D) → get_elem? views i ≡ some v → v.holds ≡ false

  -- a view holds the turn
  abbrev pub SomebodyHolds : List (View E D) → Type 0
  SomebodyHolds views = (i : ℕ) × (v : View E D) × (get_elem? views i ≡ some v) × (v.holds ≡ true)

  -- a view that carries a number has seen the whole story
  abbrev pub SomebodyKnows : List E → List (View E D) → Type 0
  SomebodyKnows story views =
      (i : ℕ) × (v : View E D) × (c : ℕ) × (numbers : List ℕ)
      × (get_elem? views i ≡ some v) × IsAmong (note story numbers) v.notes × Has c numbers

module _ {E : Type 0} (caller : E → ℕ) where
  -- the story begins with what was seen, and has no other entries of the note's numbers
  pub record Knows (story : List E) (n : Note E) : Type 0 where
    pub begins : IsPrefix n.seen story
    pub own_entries : (c : ℕ) → Has c n.numbers
        → entries_by caller c story ≡ entries_by caller c n.seen

  -- the story is so to each of the notes
  abbrev pub EachKnows : List E → List (Note E) → Type 0
  EachKnows story [] = Unit {0}
  EachKnows story (n ∷ notes) = Knows story n × EachKnows story notes

-- `first` is the start of the value that the turn was made with, and `most` the number of its
-- passes
module _ {T E D : Type 0} (caller : E → ℕ) (stands : T → List E → Type 0) (start : T → D)
    (first : D) (most : ℕ) where
  -- what is true of one view: a view with a number, the holder, the view with the right to draw
  pub record FitsRule (story : List E) (next : ℕ) (v : View E D) : Type 0 where
    pub knows : EachKnows caller story v.notes
    pub drawn : (c : ℕ) → Carries v c → (0 < c) × (c < next) × (v.start ≡ Some first)
    pub holder : v.holds ≡ true → ((numbers : List ℕ) × (v.notes ≡ note story numbers ∷ []))
        × ((c : ℕ) × Carries v c)
    pub right : 0 < v.due → (v.due ≡ next) × (v.start ≡ Some first)

  -- the slot has a value that stands for the story and has the first start
  abbrev pub IsHome : List E → maybe.Option (Option T) → Type 0
  IsHome story home = (y : T) × (home ≡ some (Some y)) × stands y story × (start y ≡ first)

  -- the turn is free and the value is home, or it is held
  abbrev pub IsFreeOrHeld : List E → ℕ → maybe.Option (Option T) → List (View E D) → Type 0
  IsFreeOrHeld story lock home views =
      ((lock ≡ 0) × NobodyHolds views × IsHome story home) ⊎ ((lock ≡ 1) × SomebodyHolds views)

  -- what is true of the story, the lock, the next number, the slot and the views together
  pub record RuleHolds (story : List E) (lock next : ℕ) (home : maybe.Option (Option T))
      (views : List (View E D)) : Type 0 where
    pub each : (i : ℕ) (v : View E D) → get_elem? views i ≡ some v → FitsRule story next v
    pub apart : (i j : ℕ) (v w : View E D) → get_elem? views i ≡ some v → get_elem? views j ≡ some w
        → Shares v w → i ≡ j
    pub turn : IsFreeOrHeld story lock home views
    pub callers : (c : ℕ) → (c ≡ 0) ⊎ (next ≤ c) → entries_by caller c story ≡ []
    pub within : (0 < next) × (next ≤ most + 1)
    pub latest : ((next ≡ 1) × (story ≡ [])) ⊎ SomebodyKnows story views

  -- the rule: what the table's words, slot and views are, and what is true of these
  pub record KeepsRule (s : State (Option T) (View E D)) : Type 0 where
    pub story : List E
    pub lock : ℕ
    pub next : ℕ
    pub home : maybe.Option (Option T)
    pub views : List (View E D)
    pub is : s ≡ record {
      words = lock ∷ length story ∷ next ∷ [];
      homes = home ∷ [];
      views = views;
    }
    pub body : RuleHolds story lock next home views
