-- The messages of a session whose one call follows a buffer, as a client can read them.
use Rattle.std.proofs.Common.{◌≡◌, ℕ, ◌^◌, ◌<◌, ◌≤◌, ℤ, pos, List, [], ◌∷◌, length, Some, None, FitsSigned, w8, w64, length-append, sym, ap, subst, arith}
use Rattle.std.specs.Fmt.{signed_decimal}
use Rattle.std.specs.Prelude.{codes, true}
use Rattle.std.proofs.lemmas.Fmt.{length_signed_le}
use Rattle.std.specs.List.{AllByRecursion}
use Rattle.nv_value.specs.Content.{Tree, Trees, count, truth}
use Rattle.nv_value.specs.declared.fault.ApiFault.{ApiFault}
use Rattle.nv_args.specs.Faults.{no_buffer}
use Rattle.nv_msgpack.specs.Shortest.{depth, depths, HasSpelling, HaveSpellings, IsInRange, AreInRange}
use Rattle.nv_rpc.specs.Messages.{Sent, reply, lines_event, tick_event, detach_event, fault_event, message_tree}
use Rattle.nv_rpc.specs.Received.{IsTyped}
use Rattle.nv_rpc.proofs.Sendable.{sendable}
use Rattle.nv_model.specs.declared.parts.Limits.{Limits}
use Rattle.nv_history.specs.Events.{Entry}
use Rattle.nv_history.specs.Sessions.{Session}
use Rattle.nv_history.specs.Worlds.{World, session_of}
use Rattle.nv_history.specs.Runs.{TakenBatch, run, out, all_messages}
use Rattle.nv_history.specs.Spoken.{AreBytesOf}
use Rattle.nv_mirror.specs.Ends.{most_levels}

-- a message that a client's bounds allow, but for its length: its numbers have their types, each
-- length in it can be spelled, and it isn't too deep
pub record IsWithinBounds (m : Sent) : Type 0 where
  pub typed : IsTyped m
  pub spelled : HasSpelling (message_tree m)
  pub ranged : IsInRange (message_tree m)
  pub shallow : depth (message_tree m) ≤ most_levels

-- MessagePack can spell a message: each length in it is below 2 ^ 32, and each number has its type
abbrev pub CanBeSpelled : Sent → Type 0
CanBeSpelled m = HasSpelling (message_tree m) × IsInRange (message_tree m)

-- a batch without an editor to show
abbrev pub IsBare : TakenBatch → Type 0
IsBare batch = batch.editor ≡ None

-- the bytes are those of batches without an editor, and a client can read their messages
pub record IsServed (capacity : ℕ) (limits : Limits) (history : List Entry) (s : ℕ) (w : World)
    (sent : List ℕ) : Type 0 where
  pub runs : run capacity limits history ≡ Some w
  pub session : Session
  pub there : session_of w s ≡ Some session
  pub bare : AllByRecursion IsBare (out capacity limits s history)
  pub readable : AllByRecursion IsWithinBounds (all_messages (out capacity limits s history))
  pub bytes : AreBytesOf (out capacity limits s history) sent

-- a message about a buffer and no other, or what answers the call
abbrev pub IsOf : ℤ → Sent → Type 0
IsOf n (reply msgid None result) = (msgid ≡ 1) × (result ≡ truth true)
IsOf n (reply msgid (Some fault) result) = (msgid ≡ 1) × (fault ≡ no_buffer n)
IsOf n (lines_event about tick first last lines) = (about ≡ n) × (depths lines ≡ 0) × CanBeSpelled (lines_event about tick first last lines)
IsOf n (tick_event about tick) = ⊥
IsOf n (detach_event about) = about ≡ n
IsOf n (fault_event fault) = ⊥

-- ---- it isn't deep
flat_lines : (lines : Trees) → depths lines ≡ 0 → depths lines ≤ 0
flat_lines lines e = omega (arith, e)

flat_truth : (t : Tree) → t ≡ truth true → depth t ≤ 0
flat_truth t e = let d : depth t ≡ 0 = ap depth e in omega (arith, d)

few_lists : (n : ℤ) (m : Sent) → IsOf n m → depth (message_tree m) ≤ 3
unfolding message_tree
few_lists n (reply msgid None result) is = let r = flat_truth result is.1 in omega (arith, r)
few_lists n (reply msgid (Some fault) result) is = omega arith
few_lists n (lines_event about tick first last lines) is = let l = flat_lines lines is.1 in omega (arith, l)
few_lists n (tick_event about tick) is = absurd is
few_lists n (detach_event about) is = omega arith
few_lists n (fault_event fault) is = absurd is

-- ---- its numbers have their types
fits_handle : (n : ℕ) → n ≤ 2 ^ 62 → FitsSigned w64 (pos n)
fits_handle n most = record { sfits = omega (arith, most) }

small_number : (msgid : ℕ) → msgid ≡ 1 → msgid < 2 ^ 32
small_number msgid e = omega (arith, e)

small_kind : (n : ℤ) (fault : ApiFault) → fault ≡ no_buffer n → fault.kind < 256
small_kind n fault e = let k : fault.kind ≡ 1 = ap (λ (f : ApiFault). f.kind) e in omega (arith, k)

has_types : (n : ℕ) (m : Sent) → n ≤ 2 ^ 62 → IsOf (pos n) m → IsTyped m
has_types n (reply msgid None result) most is = small_number msgid is.0
has_types n (reply msgid (Some fault) result) most is = (small_number msgid is.0, small_kind (pos n) fault is.1)
has_types n (lines_event about tick first last lines) most is = subst (λ (b : ℤ). FitsSigned w64 b) (sym is.0) (fits_handle n most)
has_types n (tick_event about tick) most is = absurd is
has_types n (detach_event about) most is = subst (λ (b : ℤ). FitsSigned w64 b) (sym is) (fits_handle n most)
has_types n (fault_event fault) most is = absurd is

few_levels : 3 ≤ most_levels
unfolding most_levels
few_levels = omega arith

-- ---- it can be spelled
small : (n : ℕ) → n < 100 → FitsSigned w64 (pos n)
small n h = record { sfits = omega (arith, h) }

buffer_type : FitsSigned w8 (pos 0)
buffer_type = record { sfits = omega arith }

pub lines_can : (about tick first last : ℤ) (lines : Trees) → FitsSigned w64 tick → FitsSigned w64 first → FitsSigned w64 last → count lines < 2 ^ 32 → HaveSpellings lines → AreInRange lines
    → CanBeSpelled (lines_event about tick first last lines)
unfolding message_tree
lines_can about tick first last lines t f l few have are =
    (sendable (lines_event about tick first last lines) (few, have), (small 2 (omega arith), (tt, ((buffer_type, (t, (f, (l, (are, (tt, tt)))))), tt))))

taken_can : (msgid : ℕ) (result : Tree) → msgid ≡ 1 → result ≡ truth true → CanBeSpelled (reply msgid None result)
unfolding message_tree
taken_can msgid result e f = (
  sendable (reply msgid None result) (subst (λ (t : Tree). HasSpelling t) (sym f) tt),
  (small 1 (omega arith), (small msgid (omega (arith, e)), (tt, (subst (λ (t : Tree). IsInRange t) (sym f) tt, tt)))),
)

pub few_words : (n : ℕ) → n ≤ 2 ^ 62 → length (no_buffer (pos n)).words ≤ 1000
few_words n most =
    omega (arith, length-append (codes "Invalid buffer id: ") (signed_decimal (pos n)), length_signed_le 20 (pos n) (omega (arith, most)) (omega (arith, most)))

refused_can : (n msgid : ℕ) (fault : ApiFault) (result : Tree) → n ≤ 2 ^ 62 → msgid ≡ 1 → fault ≡ no_buffer (pos n) → CanBeSpelled (reply msgid (Some fault) result)
unfolding message_tree
refused_can n msgid fault result most e f =
    let words : length fault.words ≤ 1000 = subst (λ (x : ApiFault). length x.words ≤ 1000) (sym f) (few_words n most) in
    let kind : fault.kind ≡ 1 = ap (λ (x : ApiFault). x.kind) f in (
      sendable (reply msgid (Some fault) result) (omega (arith, words)),
      (small 1 (omega arith), (small msgid (omega (arith, e)), ((small fault.kind (omega (arith, kind)), (tt, tt)), (tt, tt)))),
    )

detach_can : (about : ℤ) → CanBeSpelled (detach_event about)
unfolding message_tree
detach_can about = (sendable (detach_event about) tt, (small 2 (omega arith), (tt, ((buffer_type, tt), tt))))

can_be_spelled : (n : ℕ) (m : Sent) → n ≤ 2 ^ 62 → IsOf (pos n) m → CanBeSpelled m
can_be_spelled n (reply msgid None result) most is = taken_can msgid result is.0 is.1
can_be_spelled n (reply msgid (Some fault) result) most is = refused_can n msgid fault result most is.0 is.1
can_be_spelled n (lines_event about tick first last lines) most is = is.2
can_be_spelled n (tick_event about tick) most is = absurd is
can_be_spelled n (detach_event about) most is = detach_can about
can_be_spelled n (fault_event fault) most is = absurd is

within : (n : ℕ) (m : Sent) → n ≤ 2 ^ 62 → IsOf (pos n) m → IsWithinBounds m
within n m most is = let can = can_be_spelled n m most is in record {
  typed = has_types n m most is;
  spelled = can.0;
  ranged = can.1;
  shallow = let few = few_levels in let low = few_lists (pos n) m is in omega (arith, few, low);
}

pub all_within : (n : ℕ) (ms : List Sent) → n ≤ 2 ^ 62 → AllByRecursion (IsOf (pos n)) ms → AllByRecursion IsWithinBounds ms
all_within n [] most are = tt
all_within n (m ∷ ms) most are = (within n m most are.0, all_within n ms most are.1)
