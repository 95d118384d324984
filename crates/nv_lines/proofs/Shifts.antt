-- Lemmas on starts behind a chunk that was changed.
use Rattle.std.proofs.Common.{◌≡◌, ℕ, ◌+◌, ◌-◌, ◌<◌, ◌≤◌, ◌^◌, List, [], ◌∷◌, length, take, drop, get_or, map, sym, ap, ◌∙◌, subst, arith, All, inl, inr, nat_le, cond, true, false}
use Rattle.std.proofs.lemmas.Bool.{cases_lt}
use Rattle.std.proofs.lemmas.Bool.Decides.{nat_tests}
use Rattle.std.proofs.lemmas.List.{append-nil, get_or_at, length-take-le}
use Rattle.std.proofs.lemmas.List.Elements.{All-weaker, All-map}
use Rattle.std.specs.List.{splice}
use Rattle.nv_places.specs.Flat.{flat}
use Rattle.nv_lines.specs.Chunks.{chunk_lines}
use Rattle.nv_lines.specs.inside.Starts.{rows_before, bytes_before, IsStart}
use Rattle.nv_lines.specs.inside.Edits.{CanShift, shifted_start}
use Rattle.nv_lines.specs.declared.chunk.Chunk.{Chunk}
use Rattle.nv_lines.specs.declared.finding.Start.{Start}
use Rattle.nv_lines.specs.declared.starting.Shift.{Shift}
use Rattle.nv_lines.proofs.Chunks.{rows_before-anew, bytes_before-anew, rows_before-order, bytes_before-order, rows_before-le, bytes_before-le, length-flat-le}
use Rattle.nv_lines.proofs.Ranges.{take-splice-front, length-splice}

-- what the chunk that comes in place of one lost and gained
pub record IsShift (old new : List Chunk) (first end : Start) (c : Chunk) (by : Shift) : Type 0 where
  pub begin : IsStart old first
  pub stop : IsStart old end
  pub one : first.chunk + 1 ≡ end.chunk
  pub is : new ≡ splice old first.chunk end.chunk (c ∷ [])
  pub chunk : by.chunk ≡ first.chunk
  pub rows_lost : by.rows_lost ≡ end.row - first.row
  pub rows_gained : by.rows_gained ≡ length c.lines
  pub bytes_lost : by.bytes_lost ≡ end.offset - first.offset
  pub bytes_gained : by.bytes_gained ≡ length (flat c.lines)

-- behind the changed chunk
rows_behind : (old new : List Chunk) (first end : Start) (c : Chunk) (by : Shift) (s : Start) → IsShift old new first end c by → IsStart old s
    → first.chunk < s.chunk → (by.rows_lost ≤ s.row) × (s.row - by.rows_lost + by.rows_gained ≡ rows_before new s.chunk)
rows_behind old new first end c by s h is behind =
    let past : end.chunk ≤ s.chunk = omega (arith, h.one) in
    let place : s.chunk - end.chunk + (first.chunk + length (c ∷ [])) ≡ s.chunk = omega (arith, h.one) in
    let order : rows_before old end.chunk ≤ rows_before old s.chunk = rows_before-order old end.chunk s.chunk past in
    let begins : rows_before old first.chunk ≤ rows_before old end.chunk = rows_before-order old first.chunk end.chunk (omega (arith, h.one)) in
    let sum = rows_before-anew old (c ∷ []) first.chunk end.chunk s.chunk (omega (arith, h.one)) h.stop.within past in
    let one_chunk : length (chunk_lines (c ∷ [])) ≡ length c.lines = ap length (append-nil c.lines) in
    let now : rows_before new s.chunk ≡ rows_before (splice old first.chunk end.chunk (c ∷ [])) (s.chunk - end.chunk + (first.chunk + length (c ∷ []))) =
    ap (λ (l : List Chunk). rows_before l s.chunk) h.is ∙ ap (rows_before (splice old first.chunk end.chunk (c ∷ []))) (sym place) in (
      omega (arith, h.rows_lost, h.begin.row, h.stop.row, is.row, order),
      omega (arith, h.rows_lost, h.rows_gained, h.begin.row, h.stop.row, is.row, order, begins, sum, one_chunk, now),
    )

bytes_behind : (old new : List Chunk) (first end : Start) (c : Chunk) (by : Shift) (s : Start) → IsShift old new first end c by → IsStart old s
    → first.chunk < s.chunk → (by.bytes_lost ≤ s.offset) × (s.offset - by.bytes_lost + by.bytes_gained ≡ bytes_before new s.chunk)
bytes_behind old new first end c by s h is behind =
    let past : end.chunk ≤ s.chunk = omega (arith, h.one) in
    let place : s.chunk - end.chunk + (first.chunk + length (c ∷ [])) ≡ s.chunk = omega (arith, h.one) in
    let order : bytes_before old end.chunk ≤ bytes_before old s.chunk = bytes_before-order old end.chunk s.chunk past in
    let begins : bytes_before old first.chunk ≤ bytes_before old end.chunk = bytes_before-order old first.chunk end.chunk (omega (arith, h.one)) in
    let sum = bytes_before-anew old (c ∷ []) first.chunk end.chunk s.chunk (omega (arith, h.one)) h.stop.within past in
    let one_chunk : length (flat (chunk_lines (c ∷ []))) ≡ length (flat c.lines) = ap (λ l. length (flat l)) (append-nil c.lines) in
    let now : bytes_before new s.chunk ≡ bytes_before (splice old first.chunk end.chunk (c ∷ [])) (s.chunk - end.chunk + (first.chunk + length (c ∷ []))) =
    ap (λ (l : List Chunk). bytes_before l s.chunk) h.is ∙ ap (bytes_before (splice old first.chunk end.chunk (c ∷ []))) (sym place) in (
      omega (arith, h.bytes_lost, h.begin.offset, h.stop.offset, is.offset, order),
      omega (arith, h.bytes_lost, h.bytes_gained, h.begin.offset, h.stop.offset, is.offset, order, begins, sum, one_chunk, now),
    )

can_shift : (old new : List Chunk) (first end : Start) (c : Chunk) (by : Shift) (s : Start) → IsShift old new first end c by → IsStart old s
    → length (flat (chunk_lines new)) < 2 ^ 64 → CanShift by s
can_shift old new first end c by s h is small = record {
  rows_lost = λ b. (rows_behind old new first end c by s h is (omega (arith, h.chunk))).0;
  rows_gained = λ b.
      omega (arith, (rows_behind old new first end c by s h is (omega (arith, h.chunk))).1, rows_before-le new s.chunk, length-flat-le (chunk_lines new));
  bytes_lost = λ b. (bytes_behind old new first end c by s h is (omega (arith, h.chunk))).0;
  bytes_gained = λ b. omega (arith, (bytes_behind old new first end c by s h is (omega (arith, h.chunk))).1, bytes_before-le new s.chunk);
}

-- the start after the change
shifted_is : (old new : List Chunk) (first end : Start) (c : Chunk) (by : Shift) (s : Start) → IsShift old new first end c by → IsStart old s
    → IsStart new (shifted_start by s)
shifted_is old new first end c by s h is =
    let count : length new ≡ length old =
    ap length h.is
    ∙ length-splice old (c ∷ []) first.chunk end.chunk (omega (arith, h.one)) h.stop.within
    ∙ omega (arith, h.one, h.stop.within) in
    elim (cases_lt by.chunk s.chunk) [
      | inl behind ↦
          let test : nat_le s.chunk by.chunk ≡ false = grind (arith, nat_tests) in
          subst (IsStart new) (sym (ap (λ b. cond b s (record { chunk = s.chunk; row = s.row - by.rows_lost + by.rows_gained; offset = s.offset - by.bytes_lost + by.bytes_gained })) test)) (record {
            within = omega (arith, is.within, count);
            row = (rows_behind old new first end c by s h is (omega (arith, h.chunk))).1;
            offset = (bytes_behind old new first end c by s h is (omega (arith, h.chunk))).1;
          })
      | inr before ↦
          let test : nat_le s.chunk by.chunk ≡ true = grind (arith, nat_tests) in
          let same : take s.chunk new ≡ take s.chunk old =
          ap (take s.chunk) h.is ∙ take-splice-front old (c ∷ []) first.chunk end.chunk s.chunk (omega (arith, h.chunk)) h.begin.within in
          subst (IsStart new) (sym (ap (λ b. cond b s (record { chunk = s.chunk; row = s.row - by.rows_lost + by.rows_gained; offset = s.offset - by.bytes_lost + by.bytes_gained })) test)) (record {
            within = omega (arith, is.within, count);
            row = is.row ∙ ap (λ (l : List Chunk). length (chunk_lines l)) (sym same);
            offset = is.offset ∙ ap (λ (l : List Chunk). length (flat (chunk_lines l))) (sym same);
          })
    ]

-- of all starts
pub all_can_shift : (old new : List Chunk) (first end : Start) (c : Chunk) (by : Shift) (starts : List Start) → IsShift old new first end c by
    → length (flat (chunk_lines new)) < 2 ^ 64 → All (IsStart old) starts → All (CanShift by) starts
all_can_shift old new first end c by starts h small each =
    All-weaker (IsStart old) (CanShift by) (λ s is. can_shift old new first end c by s h is small) starts each

pub all_shifted : (old new : List Chunk) (first end : Start) (c : Chunk) (by : Shift) (starts : List Start) → IsShift old new first end c by
    → All (IsStart old) starts → All (IsStart new) (map (shifted_start by) starts)
all_shifted old new first end c by starts h each =
    All-map (IsStart new) (shifted_start by) starts
    (All-weaker (IsStart old) (λ s. IsStart new (shifted_start by s)) (λ s is. shifted_is old new first end c by s h is) starts each)

-- as many chunks as before are one chunk for one
pub one_made : (old made : List Chunk) (first end : ℕ) → first + 1 ≡ end → end ≤ length old → length (splice old first end made) ≡ length old
    → length made ≡ 1
one_made old made first end one within same = omega (arith, length-splice old made first end (omega arith) within)

-- that chunk is the one that stands there
pub the_one : (old made : List Chunk) (new : List Chunk) (first end : ℕ) (c : Chunk) → length made ≡ 1 → first ≤ length old
    → new ≡ splice old first end made → c ≡ get_or new first c → made ≡ c ∷ []
the_one old [] new first end c count within is looked = absurd (omega arith)
the_one old (d ∷ []) new first end c count within is looked =
    ap (λ (e : Chunk). e ∷ [])
    (sym (looked ∙ ap (λ (l : List Chunk). get_or l first c) is ∙ get_or_at (take first old) d (drop end old) c first (length-take-le first old within)))
the_one old (d ∷ (e ∷ made)) new first end c count within is looked = absurd (omega arith)
