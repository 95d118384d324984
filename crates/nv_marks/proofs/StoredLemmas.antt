-- What a set of marks keeps, through each of its calls.
use Rattle.std.proofs.Common.{◌≡◌, ◌≤◌, ◌+◌, ◌*◌, ◌/◌, List, [], ◌∷◌, ◌++◌, ℕ, suc, refl, ap, sym, ◌∙◌, length, map, max, not, cond, eqb, arith, All, Bool, true, false, subst, Option, Some, None}
use Rattle.std.specs.Prelude.{IfSome, IsPermutation, filter, option_map, is_some}
use Rattle.std.proofs.lemmas.List.{length-map}
use Rattle.std.proofs.lemmas.List.Sorted.{IsPermutation-refl, IsPermutation-map, length_permutation}
use Rattle.std.proofs.lemmas.Map.Keys.{IsDistinct-from_apart}
use Rattle.nv_places.specs.declared.place.Pos.{Pos}
use Rattle.nv_places.specs.declared.place.Extent.{Extent}
use Rattle.nv_places.specs.Places.{further}
use Rattle.nv_marks.specs.Marks.{is_named, mark_at, without, greatest_id}
use Rattle.nv_marks.specs.Order.{IsInOrder, is_within}
use Rattle.nv_marks.specs.Cost.{places_of, count_within, most_steps}
use Rattle.nv_marks.specs.Moves.{moved_mark, MovesNarrowly}
use Rattle.nv_marks.specs.Sound.{IsSound}
use Rattle.nv_marks.specs.declared.extmark.Mark.{Mark}
use Rattle.nv_marks.specs.declared.record.Record.{Record}
use Rattle.nv_marks.specs.inside.Records.{ForEach, place, moved_record, MovesInRange, same_key, belongs_to, marks_among, records_of_mark, records_of_marks}
use Rattle.nv_marks.specs.inside.Chunks.{Piece, IsChunkFor, IsLaid, IsSpare, spread_records}
use Rattle.nv_marks.specs.inside.Stored.{HoldsMarks, IsEquipped, IsEndKnown, scratch_room}
use Rattle.nv_marks.proofs.EachLemmas.{Each-from_all, Each-permutation}
use Rattle.nv_marks.proofs.SoundLemmas.{sound_none, sound_without, sound_moved, sound_with, mark_at-moved, mark_at-set}
use Rattle.nv_marks.proofs.UniqueLemmas.{order_is_unique}
use Rattle.nv_marks.proofs.SwapLemmas.{IsPermutation-filter}
use Rattle.nv_marks.proofs.PartsLemmas.{ends_known, seen_moved, once_moved, all_moved, narrow_records, places_are, twice_at_most, seen_less, once_less, all_less, seen_with, once_with, all_with, fewer_by_one, as_many_without}

pub stored_none : (greatest : List (ℕ × ℕ)) → HoldsMarks [] greatest
stored_none greatest = record {
  laid = record { fit = tt; ample = tt; based = tt; in_order = tt; narrow = tt };
  once = IsDistinct-from_apart same_key [] (λ i j d before within. absurd (omega arith));
  all = IsPermutation-refl [];
  sound = sound_none greatest;
}

-- ---- a splice
module _ (start : Pos) (old new : Extent) (ps qs : List Piece) (greatest : List (ℕ × ℕ)) (stored : HoldsMarks ps greatest) (laid : IsLaid qs)
    (same : IsPermutation (map (moved_record start old new) (spread_records ps)) (spread_records qs)) where
  pub ordered_moved : IsInOrder (map (moved_mark start old new) (marks_among (spread_records ps))) (marks_among (spread_records qs))
  ordered_moved = seen_moved start old new (spread_records ps) (spread_records qs) stored.once stored.all same laid.in_order

  pub stored_moved : HoldsMarks qs greatest
  stored_moved = record {
    laid = laid;
    once = once_moved start old new (spread_records ps) (spread_records qs) stored.once stored.all same laid.in_order;
    all = all_moved start old new (spread_records ps) (spread_records qs) stored.once stored.all same laid.in_order;
    sound = sound_moved start old new (marks_among (spread_records ps)) (marks_among (spread_records qs)) greatest stored.sound ordered_moved;
  }

  pub found_moved : (ns id : ℕ) → mark_at (marks_among (spread_records qs)) ns id ≡ option_map (moved_mark start old new) (mark_at (marks_among (spread_records ps)) ns id)
  found_moved ns id =
      mark_at-moved start old new (marks_among (spread_records ps)) (marks_among (spread_records qs)) stored.sound.distinct ordered_moved ns id

  pub count_moved : length (marks_among (spread_records qs)) ≡ length (marks_among (spread_records ps))
  count_moved =
      length_permutation (map (moved_mark start old new) (marks_among (spread_records ps))) (marks_among (spread_records qs)) ordered_moved.same_marks
      ∙ length-map (marks_among (spread_records ps)) (moved_mark start old new)

pub moves_records : (start : Pos) (old new : Extent) (ps : List Piece) (greatest : List (ℕ × ℕ)) → HoldsMarks ps greatest
    → All (MovesNarrowly start old new) (marks_among (spread_records ps)) → ForEach (MovesInRange start old new) (spread_records ps)
moves_records start old new ps greatest stored narrow =
    Each-permutation (MovesInRange start old new) (records_of_marks (marks_among (spread_records ps))) (spread_records ps) stored.all
    (narrow_records start old new (marks_among (spread_records ps)) (Each-from_all (MovesNarrowly start old new) (marks_among (spread_records ps)) narrow))

count_is : (from to : Pos) (xs : List Pos) → count_within from to xs ≡ length (filter (is_within from to) xs)
count_is from to [] = refl
count_is from to (x ∷ xs) = by_case (is_within from to x) (count_is from to xs)
  where
    by_case : (b : Bool) → count_within from to xs ≡ length (filter (is_within from to) xs)
        → cond b (suc (count_within from to xs)) (count_within from to xs) ≡ length (cond b (x ∷ filter (is_within from to) xs) (filter (is_within from to) xs))
    by_case true rest = ap suc rest
    by_case false rest = rest

same_places : (ps : List Piece) (greatest : List (ℕ × ℕ)) → HoldsMarks ps greatest → IsPermutation (places_of (marks_among (spread_records ps))) (map place (spread_records ps))
same_places ps greatest stored =
    subst (λ (l : List Pos). IsPermutation l (map place (spread_records ps))) (places_are (marks_among (spread_records ps)))
    (IsPermutation-map place (records_of_marks (marks_among (spread_records ps))) (spread_records ps) stored.all)

pub cost_in_marks : (start : Pos) (old : Extent) (ps : List Piece) (greatest : List (ℕ × ℕ)) → HoldsMarks ps greatest
    → count_within start (further start old) (map place (spread_records ps)) + length (spread_records ps) / 16 + 130 ≡ most_steps start old (marks_among (spread_records ps))
cost_in_marks start old ps greatest stored =
    let same = same_places ps greatest stored in
    let counts : count_within start (further start old) (map place (spread_records ps)) ≡ count_within start (further start old) (places_of (marks_among (spread_records ps))) =
    count_is start (further start old) (map place (spread_records ps))
    ∙ length_permutation (filter (is_within start (further start old)) (places_of (marks_among (spread_records ps)))) (filter (is_within start (further start old)) (map place (spread_records ps)))
    (IsPermutation-filter (is_within start (further start old)) (places_of (marks_among (spread_records ps))) (map place (spread_records ps)) same)
    ∙ sym (count_is start (further start old) (places_of (marks_among (spread_records ps)))) in
    let all : length (spread_records ps) ≡ length (places_of (marks_among (spread_records ps))) =
    sym (length-map (spread_records ps) place) ∙ length_permutation (places_of (marks_among (spread_records ps))) (map place (spread_records ps)) same in
    ap (λ (n : ℕ). n + length (spread_records ps) / 16 + 130) counts
    ∙ ap (λ (n : ℕ). count_within start (further start old) (places_of (marks_among (spread_records ps))) + n / 16 + 130) all

pub records_fit : (ps : List Piece) (greatest : List (ℕ × ℕ)) (marks : ℕ) (scratch : List Record) (used space : ℕ) (spare : List Piece) → HoldsMarks ps greatest
    → IsEquipped marks ps scratch used space spare → length (spread_records ps) ≤ space
records_fit ps greatest marks scratch used space spare stored ready =
    omega (arith, twice_at_most (marks_among (spread_records ps)), length_permutation (records_of_marks (marks_among (spread_records ps))) (spread_records ps) stored.all, ready.count, ready.room)

pub ends_of_stored : (ps : List Piece) (greatest : List (ℕ × ℕ)) → HoldsMarks ps greatest → ForEach (IsEndKnown (spread_records ps)) (spread_records ps)
ends_of_stored ps greatest stored = ends_known (spread_records ps) stored.all

-- ---- a mark that goes
module _ (ns id : ℕ) (ps qs : List Piece) (greatest : List (ℕ × ℕ)) (stored : HoldsMarks ps greatest) (laid : IsLaid qs)
    (rest : IsPermutation (filter (λ r. not (belongs_to ns id r)) (spread_records ps)) (spread_records qs)) where
  pub marks_left : marks_among (spread_records qs) ≡ without ns id (marks_among (spread_records ps))
  marks_left =
      let sound = sound_without (λ m. not (is_named ns id m)) (marks_among (spread_records ps)) greatest stored.sound in
      order_is_unique (without ns id (marks_among (spread_records ps))) (marks_among (spread_records qs)) (without ns id (marks_among (spread_records ps))) sound.distinct
      (seen_less ns id (spread_records ps) (spread_records qs) stored.once stored.all rest laid.in_order)
      (record { same_marks = IsPermutation-refl (without ns id (marks_among (spread_records ps))); in_order = sound.in_order })

  pub stored_less : HoldsMarks qs greatest
  stored_less = record {
    laid = laid;
    once = once_less ns id (spread_records ps) (spread_records qs) stored.once stored.all rest laid.in_order;
    all = all_less ns id (spread_records ps) (spread_records qs) stored.once stored.all rest laid.in_order;
    sound = subst (λ (l : List Mark). IsSound l greatest) (sym marks_left)
        (sound_without (λ m. not (is_named ns id m)) (marks_among (spread_records ps)) greatest stored.sound);
  }

  pub count_less : (m : Mark) → mark_at (marks_among (spread_records ps)) ns id ≡ Some m → length (marks_among (spread_records qs)) + 1 ≡ length (marks_among (spread_records ps))
  count_less m found =
      ap (λ (l : List Mark). length l + 1) marks_left ∙ fewer_by_one ns id (marks_among (spread_records ps)) m stored.sound.distinct found

-- ---- a mark that comes
module _ (m : Mark) (ps ls qs : List Piece) (old new : List (ℕ × ℕ)) (stored : HoldsMarks ps old) (laid_left : IsLaid ls) (laid : IsLaid qs)
    (rest : IsPermutation (filter (λ r. not (belongs_to m.ns m.id r)) (spread_records ps)) (spread_records ls))
    (same : IsPermutation (records_of_mark m ++ spread_records ls) (spread_records qs))
    (counts : (ns : ℕ) → greatest_id new ns ≡ cond (eqb ns m.ns) (max (greatest_id old ns) m.id) (greatest_id old ns)) where
  pub ordered_with : IsInOrder (m ∷ without m.ns m.id (marks_among (spread_records ps))) (marks_among (spread_records qs))
  ordered_with = seen_with m (spread_records ps) (spread_records ls) (spread_records qs) stored.once stored.all rest laid_left.in_order same laid.in_order

  pub stored_with : HoldsMarks qs new
  stored_with = record {
    laid = laid;
    once = once_with m (spread_records ps) (spread_records ls) (spread_records qs) stored.once stored.all rest laid_left.in_order same laid.in_order;
    all = all_with m (spread_records ps) (spread_records ls) (spread_records qs) stored.once stored.all rest laid_left.in_order same laid.in_order;
    sound = sound_with m (marks_among (spread_records ps)) (marks_among (spread_records qs)) old new stored.sound counts ordered_with;
  }

  pub found_with : (ns id : ℕ) → mark_at (marks_among (spread_records qs)) ns id ≡ cond (is_named ns id m) (Some m) (mark_at (marks_among (spread_records ps)) ns id)
  found_with ns id = mark_at-set m (marks_among (spread_records ps)) (marks_among (spread_records qs)) stored.sound.distinct ordered_with ns id

  pub count_with_one : (found : Option Mark) → found ≡ mark_at (marks_among (spread_records ps)) m.ns m.id
      → length (marks_among (spread_records qs)) ≡ cond (is_some found) (length (marks_among (spread_records ps))) (length (marks_among (spread_records ps)) + 1)
  count_with_one None is =
      omega (
        arith,
        length_permutation (m ∷ without m.ns m.id (marks_among (spread_records ps))) (marks_among (spread_records qs)) ordered_with.same_marks,
        ap length (as_many_without m.ns m.id (marks_among (spread_records ps)) (sym is)),
      )
  count_with_one (Some k) is =
      omega (
        arith,
        length_permutation (m ∷ without m.ns m.id (marks_among (spread_records ps))) (marks_among (spread_records qs)) ordered_with.same_marks,
        fewer_by_one m.ns m.id (marks_among (spread_records ps)) k stored.sound.distinct (sym is),
      )

-- ---- a new set
pub stored_new : (ps : List Piece) (greatest : List (ℕ × ℕ)) → ps ≡ [] → HoldsMarks ps greatest
stored_new ps greatest none = subst (λ (l : List Piece). HoldsMarks l greatest) (sym none) (stored_none greatest)

pub ready_new : (ps : List Piece) (scratch : List Record) (used space : ℕ) (spare : List Piece) → ps ≡ [] → scratch ≡ [] → used ≡ 0 → spare ≡ []
    → IsEquipped 0 ps scratch used space spare
ready_new ps scratch used space spare none empty unused nothing = record {
  count = sym (ap (λ (l : List Piece). length (marks_among (spread_records l))) none);
  none = empty;
  empty = unused;
  room = omega arith;
  spares = subst (λ (l : List Piece). ForEach IsSpare l) (sym nothing) tt;
}

-- room for as many marks as there are then
pub room_with : (b : Bool) (marks now space : ℕ) → now ≡ cond b marks (marks + 1) → 2 * (marks + 1) + 64 ≤ space → scratch_room now ≤ space
room_with true marks now space is room = omega arith
room_with false marks now space is room = omega arith

pub room_less : (marks now space : ℕ) → now ≤ marks → scratch_room marks ≤ space → scratch_room now ≤ space
room_less marks now space fewer room = omega (arith, fewer, room)

-- the chunk that was found for a new mark stays the one, since nothing was taken out before
pub chunk_stays : (chunk : Option ℕ) (found : Option Mark) (r : Record) (ps qs : List Piece) → IfSome chunk (λ at. (found ≡ None) × IsChunkFor r ps at)
    → (found ≡ None → qs ≡ ps) → IfSome chunk (λ at. IsChunkFor r qs at)
chunk_stays None found r ps qs fits same = tt
chunk_stays (Some at) found r ps qs fits same = subst (λ (l : List Piece). IsChunkFor r l at) (sym (same fits.0)) fits.1
