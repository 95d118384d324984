-- What a lane gives: one connection after another.
use Rattle.std.specs.Prelude.{◌≡◌, ℕ, ◌+◌, List, [], ◌∷◌, option_map, ⊤}
use Rattle.std.specs.declared.option.Option.{Option}
use Rattle.nv_io.specs.Known.{IsNoItem, IsNoneOut}
use Rattle.nv_io.specs.declared.lanes.Accepted.{Accepted}
use Rattle.nv_io.specs.declared.lanes.Accepted.TheVariants.{Conn, Done, Failed}

module _ {I S : Type 0} where
  -- the connections that one call of `accept` gave: one or none
  abbrev pub connections_of : Accepted I S → List (I × S)
  connections_of (Conn input output) = (input, output) ∷ []
  connections_of Done = []
  connections_of Failed = []

  -- the number of connections that are out after a call of `accept`
  abbrev pub lent_after : Accepted I S → Option ℕ → Option ℕ
  lent_after (Conn input output) known = option_map (λ n. n + 1) known
  lent_after Done known = known
  lent_after Failed known = known

  -- a fact of the connection that a call of `accept` gave
  abbrev pub IfConnection : Accepted I S → (I → S → Type 0) → Type 0
  IfConnection (Conn input output) P = P input output
  IfConnection Done P = ⊤
  IfConnection Failed P = ⊤

-- a lane that was just made: no connection was given or ended, where that is told, and no fault is
-- counted
abbrev pub IsFreshLane : {A : Type 0} → Option (List A) → Option ℕ → ℕ → Type 0
IsFreshLane over lent faults = IsNoItem over × IsNoneOut lent × (faults ≡ 0)
