-- inside: a buffer deleted whose windows show another one. Only private contracts cite this.
use Rattle.std.specs.Prelude.{◌≡◌, ◌≢◌, ℤ, not, List, [], ◌∷◌, ◌++◌, None, filter}
use Rattle.std.specs.Ordering.{int_eq}
use Rattle.nv_buffer.specs.Content.{Content}
use Rattle.nv_windows.specs.Workspace.{Workspace, showing}
use Rattle.nv_model.specs.Deleting.{showing_operations}
use Rattle.nv_model.specs.Editors.{at_handle, handles_of}
use Rattle.nv_model.specs.Operations.{Operation, buffer_dropped}

-- what is done where a buffer is deleted and its windows show another one
abbrev pub replacing_operations : Workspace → ℤ → ℤ → List Operation
replacing_operations ws n other =
    showing_operations other (showing n ws.windows) ++ buffer_dropped n ∷ []

-- a buffer is taken out of others
pub record IsTakenOut (before later : List (ℤ × Content)) (n : ℤ) : Type 0 where
  pub none : at_handle later n ≡ None
  pub others : (k : ℤ) → k ≢ n → at_handle later k ≡ at_handle before k
  pub handles : handles_of later ≡ filter (λ k. not (int_eq k n)) (handles_of before)
