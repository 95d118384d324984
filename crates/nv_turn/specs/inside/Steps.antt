-- What a view becomes by each step, and what the step tells its caller. (Own rules.)
use Rattle.std.specs.Prelude.{◌≡◌, ◌≢◌, ℕ, ◌+◌, true, false, List, [], ◌∷◌, ◌++◌, length}
use Rattle.std.specs.Prelude.{Option, Some, None}
use Rattle.atomic_table.specs.Table.{Me, Step, rest}
use Rattle.nv_turn.specs.declared.view.View.{View}
use Rattle.nv_turn.specs.inside.Rule.{note, first_seen, longest_seen, numbers_carried, EachKnows}

module _ {E D : Type 0} where
  -- the view has seen this story, and holds the turn
  abbrev pub holding_view : List E → View E D → View E D
  holding_view story v = record {
    holds = true;
    due = v.due;
    notes = note story (numbers_carried v) ∷ [];
    start = v.start;
  }

  -- the view has seen this story
  abbrev pub looking_view : List E → View E D → View E D
  looking_view story v = record {
    holds = v.holds;
    due = v.due;
    notes = note story (numbers_carried v) ∷ [];
    start = v.start;
  }

  -- the view holds the turn no more
  abbrev pub resting_view : View E D → View E D
  resting_view v = record { holds = false; due = v.due; notes = v.notes; start = v.start }

  -- the view has drawn its number, and has the right to draw the next
  abbrev pub drawing_view : ℕ → View E D → View E D
  drawing_view n v =
      record { holds = v.holds; due = n + 1; notes = note [] (n ∷ []) ∷ []; start = v.start }

  -- a split: the first view keeps all but the right to draw
  abbrev pub undue_view : View E D → View E D
  undue_view v = record { holds = v.holds; due = 0; notes = v.notes; start = v.start }

  -- a split: the second view has the right to draw, and no more
  abbrev pub newcomer_view : View E D → View E D
  newcomer_view v = record { holds = false; due = v.due; notes = []; start = v.start }

  -- a join: the notes of both
  abbrev pub joined_view : View E D → View E D → View E D
  joined_view v w =
      record { holds = v.holds; due = v.due + w.due; notes = v.notes ++ w.notes; start = v.start }

  -- a join: nothing is left in the view that was joined into another
  abbrev pub spent_view : View E D
  spent_view = record { holds = false; due = 0; notes = []; start = None }

  -- the view of a new table: it has the right to draw the number 1
  abbrev pub opening_view : D → View E D
  opening_view start = record { holds = false; due = 1; notes = []; start = Some start }

module _ {T E D : Type 0} (caller : E → ℕ) (stands : T → List E → Type 0) (start : T → D) where
  -- the turn was taken, and the value, which stands for the whole story, is in hand
  abbrev pub TookTurn : Me (Option T) (View E D) → Me (Option T) (View E D) → Type 0
  TookTurn m w =
      (y : T) × (story : List E) × (w ≡ (holding_view story m.0, (0, Some y) ∷ m.1))
      × stands y story × EachKnows caller story m.0.notes × (m.0.start ≡ Some (start y))

  -- the turn was taken where the lock was free, and else nothing is other than it was
  abbrev pub TakesTurn : Step (Option T) → Me (Option T) (View E D) → ℕ → Me (Option T) (View E D)
      → Type 0
  TakesTurn s m found w = (found ≡ s.first → TookTurn m w) × (found ≢ s.first → w ≡ m)

  -- the whole story was seen, and the number found is its length
  abbrev pub LooksAtStory : Step (Option T) → Me (Option T) (View E D) → ℕ
      → Me (Option T) (View E D) → Type 0
  LooksAtStory s m found w =
      (story : List E) × (w ≡ (looking_view story m.0, m.1)) × EachKnows caller story m.0.notes
      × (found ≡ length story)
      × (m.0.holds ≡ true → first_seen m.0.notes ≡ story)

  -- all notes became one, which has seen what the longest had
  abbrev pub MergesNotes : Step (Option T) → Me (Option T) (View E D) → ℕ → Me (Option T) (View E D)
      → Type 0
  MergesNotes s m found w =
      (w ≡ (looking_view (longest_seen m.0.notes) m.0, m.1))
      × EachKnows caller (longest_seen m.0.notes) m.0.notes

  -- the entry that the value in hand tells was added to the story
  abbrev pub AddsEntry : Step (Option T) → Me (Option T) (View E D) → ℕ → Me (Option T) (View E D)
      → Type 0
  AddsEntry s m found w =
      (y : T) (e : E) → m.1 ≡ (0, Some y) ∷ [] → stands y (first_seen m.0.notes ++ e ∷ [])
      → w ≡ (holding_view (first_seen m.0.notes ++ e ∷ []) m.0, m.1)

module _ {T E D : Type 0} where
  -- the turn and the value were given back
  abbrev pub GivesBack : Step (Option T) → Me (Option T) (View E D) → ℕ → Me (Option T) (View E D)
      → Type 0
  GivesBack s m found w = w ≡ (resting_view m.0, rest m.1)

  -- the number was drawn
  abbrev pub DrawsNumber : Step (Option T) → Me (Option T) (View E D) → ℕ → Me (Option T) (View E D)
      → Type 0
  DrawsNumber s m found w = (found ≡ m.0.due) × (w ≡ (drawing_view found m.0, m.1))
