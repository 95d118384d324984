-- What contracts see of a seat at the table behind a turn, and what a pass and a holder keep true
-- of theirs. (Own rules.)
use Rattle.std.specs.Prelude.{◌≡◌, ℕ, true, false, [], ◌∷◌, length, Option, None}
use Rattle.atomic_table.specs.Table.{Me}
use Rattle.nv_turn.specs.declared.view.View.{View}
use Rattle.nv_turn.specs.Story.{Has}
use Rattle.nv_turn.specs.Passes.{TurnId, PassState}
use Rattle.nv_turn.specs.inside.Rule.{note, first_seen, numbers_carried}

module _ {E D : Type 0} where
  -- the pass that has this view
  abbrev pub pass_of : TurnId → ℕ → View E D → PassState E D
  pass_of turn number v = record {
    turn = turn;
    number = number;
    numbers = numbers_carried v;
    seen = first_seen v.notes;
    start = v.start;
  }

  -- one note with all of the view's numbers, the pass's own number among them
  pub record IsSeated (v : View E D) (number length_seen : ℕ) : Type 0 where
    pub one_note : v.notes ≡ note (first_seen v.notes) (numbers_carried v) ∷ []
    pub own_number : Has number (numbers_carried v)
    pub counted : length_seen ≡ length (first_seen v.notes)

module _ {T E D : Type 0} where
  -- a pass between two calls holds neither the slot nor the turn
  pub record IsAtRest (me : Me (Option T) (View E D)) (number length_seen : ℕ) : Type 0 where
    pub empty : me.1 ≡ []
    pub rests : me.0.holds ≡ false
    pub seated : IsSeated me.0 number length_seen

  -- a holder has the slot, which is empty while it has the value
  pub record IsHolder (me : Me (Option T) (View E D)) (number length_seen : ℕ) : Type 0 where
    pub slot : me.1 ≡ (0, None) ∷ []
    pub holds : me.0.holds ≡ true
    pub seated : IsSeated me.0 number length_seen
