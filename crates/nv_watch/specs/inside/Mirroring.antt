-- The mirrors that a fold keeps.
use Rattle.std.specs.Prelude.{◌≡◌, ℕ, zero, suc, ℤ, ◌==◌, ◌&&◌, Bool, true, false, List, [], ◌∷◌, Option, Some, None, if◌then◌else◌}
use Rattle.std.specs.Ordering.{int_eq}
use Rattle.nv_rpc.specs.Messages.{Sent, reply, lines_event, tick_event, detach_event, fault_event}
use Rattle.nv_subs.specs.Mirrors.{Mirror, absent}
use Rattle.nv_watch.specs.Folds.{Mirrors, mirror_left, mirrors_behind}
use Rattle.nv_watch.specs.declared.mirror.Followed.{Followed}

-- whether it is the mirror of a session and a buffer
abbrev pub is_of : ℕ → ℤ → Followed → Bool
is_of s n f = (f.session == s) && int_eq f.buffer n

-- the mirror of a session and a buffer among them
abbrev pub mirror_in : List Followed → ℕ → Mirrors
mirror_in [] s n = absent
mirror_in (f ∷ fs) s n = if is_of s n f then f.follower.mirror else mirror_in fs s n

-- none of them is of a session and a buffer
abbrev pub HasNone : List Followed → ℕ → ℤ → Type 0
HasNone [] s n = Unit {0}
HasNone (f ∷ fs) s n = (is_of s n f ≡ false) × HasNone fs s n

-- the first that is of them stands at this place
abbrev pub IsFirstOf : List Followed → ℕ → ℤ → ℕ → Type 0
IsFirstOf [] s n p = ⊥
IsFirstOf (f ∷ fs) s n zero = is_of s n f ≡ true
IsFirstOf (f ∷ fs) s n (suc p) = (is_of s n f ≡ false) × IsFirstOf fs s n p

-- the buffer that a message is about
abbrev pub buffer_of : Sent → Option ℤ
buffer_of (reply msgid fault result) = None
buffer_of (lines_event about tick first last lines) = Some about
buffer_of (tick_event about tick) = Some about
buffer_of (detach_event about) = Some about
buffer_of (fault_event fault) = None

-- a mirror of a session after a message to a session, and mirrors after messages
abbrev pub mirror_for : ℕ → ℕ → ℤ → Mirror → Sent → Mirror
mirror_for session s n mirror message =
    if session == s then mirror_left n mirror message else mirror

abbrev pub mirrors_for : ℕ → ℕ → Mirrors → List Sent → Mirrors
mirrors_for session s mirrors messages =
    if session == s then mirrors_behind mirrors messages else mirrors

-- no two of them are of one session and buffer
abbrev pub AreNotTwice : List Followed → Type 0
AreNotTwice [] = Unit {0}
AreNotTwice (f ∷ fs) = HasNone fs f.session f.buffer × AreNotTwice fs
