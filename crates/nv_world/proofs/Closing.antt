-- Sessions that are closed, or aren't.
use Rattle.std.proofs.Common.{◌≡◌, ℕ, Bool, true, false, refl, sym, subst, Option, Some, None, option_map, is_some}
use Rattle.nv_history.specs.Events.{Cause, quit_at}
use Rattle.nv_history.specs.Sessions.{Session, session_closed_by, session_quit, unless_closed}
use Rattle.nv_core.specs.Contents.{plain_cause}
use Rattle.nv_core.specs.declared.effect.Cause.{Cause as KeptCause}

-- the end of the world closes a session that isn't closed
pub quits_open : (at : ℕ) (y : Session) (closed : Option KeptCause) → is_some closed ≡ false
    → option_map plain_cause closed ≡ y.closed → (P : Session → Type 0)
    → P (session_closed_by (quit_at at) y) → P (session_quit at y)
quits_open at y None e same P p =
    subst (λ (o : Option Cause). P (unless_closed o (session_closed_by (quit_at at) y) y)) same p
quits_open at y (Some cause) e same P p = absurd (cc)

-- what stays where it is closed
pub unless_same : (o : Option Cause) (y : Session) → unless_closed o y y ≡ y
unless_same None y = refl
unless_same (Some cause) y = refl

pub is_some-plain : (o : Option KeptCause) → is_some (option_map plain_cause o) ≡ is_some o
is_some-plain None = refl
is_some-plain (Some cause) = refl
