-- The text of a buffer at a changedtick in a run, and what a client that folds its events makes of
-- them (help: api-buffer-updates, changetick).
use Rattle.std.specs.Prelude.{◌≡◌, ℕ, ℤ, pos, negsuc, ◌-◌, Bool, true, false, List, [], ◌∷◌, take, Option, Some, None}
use Rattle.std.specs.Ordering.{int_eq}
use Rattle.nv_places.specs.Flat.{lines_of}
use Rattle.nv_rpc.specs.Messages.{Sent, reply, lines_event, tick_event, detach_event, fault_event}
use Rattle.nv_model.specs.Editors.{ModelEditor}
use Rattle.nv_dispatch.specs.Telling.{past_at, text_then}
use Rattle.nv_subs.specs.Mirrors.{Mirror, absent, ticking, holding}

-- the lines of the buffer of a handle at a changedtick, also of a deleted one: its first text, one
-- empty line, with as many of its splices as the changedtick is above 2
abbrev pub lines_at_tick : ModelEditor → ℤ → ℕ → List (List ℕ)
lines_at_tick m n tick = lines_of (text_then (take (tick - 2) (past_at m n).splices))

-- ---- what was told of a buffer

-- the changedtick of the last message about a buffer, where that is a lines event
abbrev pub tick_if : Bool → Option ℤ → Option ℤ → Option ℤ
tick_if true now before = now
tick_if false now before = before

abbrev pub last_tick : ℤ → Option ℤ → Sent → Option ℤ
last_tick n before (lines_event k tick first last lines) = tick_if (int_eq k n) (Some tick) before
last_tick n before (tick_event k tick) = tick_if (int_eq k n) None before
last_tick n before (detach_event k) = tick_if (int_eq k n) None before
last_tick n before (reply msgid fault result) = before
last_tick n before (fault_event fault) = before

abbrev pub last_tick_of : ℤ → Option ℤ → List Sent → Option ℤ
last_tick_of n before [] = before
last_tick_of n before (message ∷ messages) = last_tick_of n (last_tick n before message) messages

-- whether the last attachment to a buffer sent its lines: they begin with a lines event whose last
-- row is -1, or with a changedtick
abbrev pub flag_if : Bool → Bool → Bool → Bool
flag_if true now before = now
flag_if false now before = before

abbrev pub sends_lines : ℤ → Bool → Sent → Bool
sends_lines n before (lines_event k tick first (negsuc last) lines) =
    flag_if (int_eq k n) true before
sends_lines n before (lines_event k tick first (pos last) lines) = before
sends_lines n before (tick_event k tick) = flag_if (int_eq k n) false before
sends_lines n before (detach_event k) = before
sends_lines n before (reply msgid fault result) = before
sends_lines n before (fault_event fault) = before

abbrev pub sends_lines_of : ℤ → Bool → List Sent → Bool
sends_lines_of n before [] = before
sends_lines_of n before (message ∷ messages) =
    sends_lines_of n (sends_lines n before message) messages

-- a client has these lines at this changedtick where the lines were sent, and else follows the
-- changedtick alone
abbrev pub IsMirrored : List (List ℕ) → ℤ → Bool → Option Mirror → Type 0
IsMirrored lines tick true (Some (holding held now)) = (held ≡ lines) × (now ≡ tick)
IsMirrored lines tick false (Some (ticking now)) = now ≡ tick
IsMirrored lines tick true (Some (ticking now)) = ⊥
IsMirrored lines tick false (Some (holding held now)) = ⊥
IsMirrored lines tick sent (Some absent) = ⊥
IsMirrored lines tick sent None = ⊥
