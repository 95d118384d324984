-- inside: which rows of a mirror are known to be those of its buffer.
use Rattle.std.specs.Prelude.{◌≡◌, ◌⊎◌, ⊤, ℕ, suc, ◌+◌, ◌-◌, ◌≤◌, min, ℤ, pos, negsuc, Bool, true, false, not, List, [], ◌∷◌, fold, length, take, drop, Option, Some, None, option_map, if◌then◌else◌}
use Rattle.std.specs.Ordering.{int_eq}
use Rattle.nv_places.specs.Flat.{flat}
use Rattle.nv_places.specs.Places.{row_count}
use Rattle.nv_rpc.specs.Messages.{Sent, reply, lines_event, tick_event, detach_event, fault_event}
use Rattle.nv_model.specs.Seen.{Seen, SeenBuffer}
use Rattle.nv_subs.specs.Mirrors.{Mirror, absent, ticking, holding}
use Rattle.nv_world.specs.declared.step.Moved.{Moved}
use Rattle.nv_watch.specs.Folds.{holds_other}
use Rattle.nv_watch.specs.declared.mirror.Ends.{Ends}
use Rattle.nv_watch.specs.declared.mirror.Followed.{Followed}
use Rattle.nv_watch.specs.declared.touching.Touch.{Touch}
use Rattle.nv_watch.specs.declared.touching.Touch.TheVariants.{Nowhere, Once, Often}

-- the texts of buffers, by their handles
abbrev pub Texts : Type 0
Texts = ℤ → Option (List (List ℕ))

abbrev pub lines_there : Option SeenBuffer → Option (List (List ℕ))
lines_there there = option_map (λ b. b.lines) there

abbrev pub texts_seen : Seen → Texts
texts_seen seen n = lines_there (seen.buffer n)

-- ---- rows of two texts

-- so many rows at the front of two texts are the same, and so many at their ends
pub record ShareEnds (e : Ends) (a b : List (List ℕ)) : Type 0 where
  pub front : take e.front a ≡ take e.front b
  pub within : e.back ≤ length a
  pub within_other : e.back ≤ length b
  pub back : drop (length a - e.back) a ≡ drop (length b - e.back) b

abbrev pub no_ends : Ends
no_ends = record { front = 0; back = 0 }

abbrev pub lesser_ends : Ends → Ends → Ends
lesser_ends e f = record { front = min e.front f.front; back = min e.back f.back }

-- such rows of a mirror and a text: none are known where there is no text
abbrev pub MirrorShares : Ends → Mirror → List (List ℕ) → Type 0
MirrorShares e absent text = ⊤
MirrorShares e (ticking tick) text = ⊤
MirrorShares e (holding lines tick) text = ShareEnds e lines text

abbrev pub SharesIf : Followed → Option (List (List ℕ)) → Type 0
SharesIf f None = f.ends ≡ no_ends
SharesIf f (Some text) = MirrorShares f.ends f.follower.mirror text

-- so it is of all mirrors
abbrev pub AllShare : Texts → List Followed → Type 0
AllShare texts [] = ⊤
AllShare texts (f ∷ fs) = SharesIf f (texts f.buffer) × AllShare texts fs

-- ---- what a message leaves of them

-- the rows that stay where others stand in place of those from one up to before another
abbrev pub ends_put : Ends → ℕ → ℤ → ℤ → Ends
ends_put e count (pos first) (pos last) =
    lesser_ends e (record { front = first; back = count - last })
ends_put e count (negsuc first) last = no_ends
ends_put e count (pos first) (negsuc last) = no_ends

abbrev pub ends_by_lines : Ends → Mirror → ℤ → ℤ → Ends
ends_by_lines e absent first last = no_ends
ends_by_lines e (ticking tick) first last = no_ends
ends_by_lines e (holding lines tick) first last = ends_put e (length lines) first last

abbrev pub ends_behind : Ends → Mirror → Sent → Ends
ends_behind e mirror (lines_event about tick first last new) = ends_by_lines e mirror first last
ends_behind e mirror (reply msgid fault result) = e
ends_behind e mirror (tick_event about tick) = e
ends_behind e mirror (detach_event about) = e
ends_behind e mirror (fault_event fault) = e

-- ---- what splices leave of them

-- which of some splices are in the buffer of a handle
abbrev pub touched_by : Touch → Moved → Touch
touched_by Nowhere s = Once s
touched_by (Once r) s = Often
touched_by Often s = Often

abbrev pub touch_with : ℤ → Touch → Moved → Touch
touch_with n t s = if int_eq s.buffer n then touched_by t s else t

abbrev pub touched : ℤ → List Moved → Touch
touched n splices = fold (touch_with n) Nowhere splices

-- rows of a text that stand before a splice that made it, and behind that, of those before
pub record AreBeside (text : List (List ℕ)) (s : Moved) (e later : Ends) : Type 0 where
  pub front : later.front ≤ e.front
  pub back : later.back ≤ e.back
  pub before : later.front ≤ row_count (take s.at (flat text))
  pub behind : (later.back ≡ 0)
      ⊎ (suc (row_count (take (s.at + s.new) (flat text))) + later.back ≤ length text)

-- what is left of them in a text that splices made
abbrev pub AreSpliced : List (List ℕ) → Touch → Ends → Ends → Type 0
AreSpliced text Nowhere e later = later ≡ e
AreSpliced text (Once s) e later = AreBeside text s e later
AreSpliced text Often e later = later ≡ no_ends

abbrev pub AreSplicedIf : Option (List (List ℕ)) → Touch → Ends → Ends → Type 0
AreSplicedIf None t e later = later ≡ no_ends
AreSplicedIf (Some text) t e later = AreSpliced text t e later

-- a text became another by one splice: the rows before it are the same, and those behind it
pub record IsOneSplice (text later : List (List ℕ)) (s : Moved) : Type 0 where
  pub front : (n : ℕ) → n ≤ row_count (take s.at (flat later)) → take n later ≡ take n text
  pub rows : ℕ
  pub back : drop (suc (row_count (take (s.at + s.new) (flat later)))) later ≡ drop (suc rows) text

-- by the splices of a step: nothing is said of more than one, and of a buffer that was not there
-- before, or isn't any more
abbrev pub BecomesBy : Touch → List (List ℕ) → List (List ℕ) → Type 0
BecomesBy Nowhere text later = later ≡ text
BecomesBy (Once s) text later = IsOneSplice text later s
BecomesBy Often text later = ⊤

abbrev pub BecomesIf : Touch → Option (List (List ℕ)) → Option (List (List ℕ)) → Type 0
BecomesIf t None later = ⊤
BecomesIf t (Some text) None = ⊤
BecomesIf t (Some text) (Some later) = BecomesBy t text later

abbrev pub AllBecome : List Moved → Texts → Texts → Type 0
AllBecome splices before after = (n : ℤ) → BecomesIf (touched n splices) (before n) (after n)

-- ---- a mirror beside its buffer

-- a mirror has the lines of a buffer
abbrev pub HasLinesOf : Mirror → Option SeenBuffer → Type 0
HasLinesOf absent there = ⊤
HasLinesOf (ticking tick) there = ⊤
HasLinesOf (holding lines tick) None = ⊥
HasLinesOf (holding lines tick) (Some b) = lines ≡ b.lines

-- whether it has, where it was compared: it holds no other lines at that changedtick
abbrev pub HasCompared : Mirror → Option SeenBuffer → Option Bool → Type 0
HasCompared mirror there None = holds_other mirror there ≡ false
HasCompared mirror there (Some true) =
    (holds_other mirror there ≡ false) × HasLinesOf mirror there
HasCompared mirror there (Some false) = holds_other mirror there ≡ true

-- all rows of a mirror
abbrev pub ends_of_all : Mirror → Ends
ends_of_all absent = no_ends
ends_of_all (ticking tick) = no_ends
ends_of_all (holding lines tick) = record { front = length lines; back = length lines }

-- what is known of one once it was compared
abbrev pub ends_compared : Ends → Mirror → Option Bool → Ends
ends_compared e mirror None = e
ends_compared e mirror (Some true) = ends_of_all mirror
ends_compared e mirror (Some false) = e

abbrev pub is_told_other : Option Bool → Bool
is_told_other None = false
is_told_other (Some same) = not same
