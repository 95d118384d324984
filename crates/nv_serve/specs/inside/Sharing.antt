-- inside: how the connections of lanes share one history, by what each of them is: its session, the
-- entries that its first pass made, and those that its second made.
use Rattle.std.specs.Prelude.{◌≡◌, ◌⊎◌, ℕ, suc, ◌+◌, ◌*◌, ◌<◌, List, [], ◌∷◌, ◌++◌, flat_map}
use mathlib.Core.List.{IsPrefix}
use Rattle.nv_history.specs.Events.{Entry}
use Rattle.nv_history.specs.Asking.{own, opened_in}
use Rattle.nv_halves.specs.Passes.{IsFromReader, IsFromWriter, EachEvent}
use Rattle.nv_session.specs.Openings.{opening_entry}

-- the numbers of the two passes of a lane
abbrev pub first_number : ℕ → ℕ
first_number i = 2 * i + 1

abbrev pub second_number : ℕ → ℕ
second_number i = 2 * i + 2

-- the caller of an entry is a pass of a lane
pub record HasLaneCaller (count : ℕ) (e : Entry) : Type 0 where
  pub lane : ℕ
  pub below : lane < count
  pub caller_is : (e.caller ≡ first_number lane) ⊎ (e.caller ≡ second_number lane)

module _ {X : Type 0} (session : X → ℕ) (one other : X → List Entry) where
  -- a connection without a session has made no entry
  pub record IsIdle (x : X) : Type 0 where
    pub session_is : session x ≡ 0
    pub one_is : one x ≡ []
    pub other_is : other x ≡ []

  -- a connection with a session: a first pass of this number, with these entries before, opened it
  -- in a history, and all that the two passes then made is of it
  pub record IsOpened (n : ℕ) (done history : List Entry) (x : X) : Type 0 where
    pub found : List Entry
    pub place : IsPrefix (found ++ opening_entry n ∷ []) history
    pub session_is : session x ≡ suc (opened_in 0 found)
    pub own_is : own n found ≡ done
    pub rest : List Entry
    pub one_is : one x ≡ opening_entry n ∷ rest
    pub each_one : EachEvent (IsFromReader (session x)) rest
    pub each_other : EachEvent (IsFromWriter (session x)) (other x)

  -- connections one after another, behind these entries of their first pass
  abbrev pub Chain : ℕ → List Entry → List Entry → List X → Type 0
  Chain n done history [] = Unit {0}
  Chain n done history (x ∷ xs) =
      (IsIdle x ⊎ IsOpened n done history x) × Chain n (done ++ one x) history xs

  -- a lane with passes of these numbers, of which the first and the second have seen so much: its
  -- connections made all their entries
  pub record IsLane (n m : ℕ) (first_seen second_seen : List Entry) (xs : List X) : Type 0 where
    pub own_one : own n first_seen ≡ flat_map one xs
    pub own_other : own m second_seen ≡ flat_map other xs
    pub chain : Chain n [] first_seen xs
