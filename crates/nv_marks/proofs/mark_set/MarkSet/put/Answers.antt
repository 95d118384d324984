use Rattle.std.proofs.Common.{◌≡◌, ◌≤◌, ◌∙◌, ◌+◌, ◌*◌, ◌∷◌, ap, sym, subst, cond, not, ℕ, Some, Option, List, arith}
use Rattle.std.specs.Prelude.{IsPermutation, filter, is_some, vec_capacity}
use Rattle.std.specs.declared.cmp.Reverse.{Reverse}
use Rattle.nv_marks.specs.Marks.{Marks, is_named, mark_at, without}
use Rattle.nv_marks.specs.Order.{IsInOrder}
use Rattle.nv_marks.specs.inside.Records.{belongs_to, marks_among, start_record}
use Rattle.nv_marks.specs.inside.Chunks.{Piece, spread_records}
use Rattle.nv_marks.specs.inside.Names.{IsIndexOf}
use Rattle.nv_marks.proofs.BandLemmas.{banded_with}
use Rattle.nv_marks.proofs.IndexLemmas.{index_with}
use Rattle.nv_marks.proofs.StoredLemmas.{ends_of_stored, stored_with, ordered_with, found_with, count_with_one, room_with, chunk_stays}
use Rattle.nv_marks.proofs.mark_set.MarkSet.put.Goals as goal

pub find_counted-found-requires-clause-ends : goal.find_counted-found-requires-clause-ends
find_counted-found-requires-clause-ends c =
    ends_of_stored c.self.inside.store.chunks.items c.self.inside.greatest.entries c.self.invariant.0

pub put_mark-requires-clause-chunk : goal.put_mark-requires-clause-chunk
put_mark-requires-clause-chunk c =
    chunk_stays c.chunk_for-chunk.result c.find_counted-found.result (start_record c.args.mark) _ c.take_found.new.store.chunks.items c.chunk_for-chunk.ensures
    c.take_found.ensures.same

pub count_with-self-inside-requires : goal.count_with-self-inside-requires
count_with-self-inside-requires c = omega (arith, c.scratch_room.ensures, c.in_ok-reserve.ensures.ok, c.reserve.new.self.small)

pub cover-requires : goal.cover-requires
cover-requires c = c.self.invariant.3.some

pub invariant_of-self-2 : goal.invariant_of-self-2
invariant_of-self-2 c =
    let rest = subst (λ (l : List Piece). IsPermutation (filter (λ r. not (belongs_to c.args.mark.ns c.args.mark.id r)) (spread_records l)) (spread_records c.take_found.new.store.chunks.items))
    c.reserve-2.ensures.items c.take_found.ensures.rest in
    let counts = c.in_ok-enter.ensures.greatest in
    let room : 2 * (c.self.inside.count + 1) + 64 ≤ c.scratch_room.result =
    omega (arith, c.scratch_room.ensures, c.in_ok-reserve.ensures.ok, c.reserve.new.self.small) in (
      stored_with c.args.mark c.self.inside.store.chunks.items c.take_found.new.store.chunks.items c.put_mark.new.store.chunks.items c.self.inside.greatest.entries
          c.enter.new.greatest.entries c.self.invariant.0 c.take_found.ensures.laid c.put_mark.ensures.laid rest c.put_mark.ensures.same_records counts,
      record {
        count = c.count_with-self-inside.ensures ∙ ap (λ (n : ℕ). cond (is_some c.find_counted-found.result) n (n + 1)) c.self.invariant.1.count
            ∙ sym (count_with_one c.args.mark c.self.inside.store.chunks.items c.take_found.new.store.chunks.items c.put_mark.new.store.chunks.items
            c.self.inside.greatest.entries c.enter.new.greatest.entries c.self.invariant.0 c.take_found.ensures.laid c.put_mark.ensures.laid rest
            c.put_mark.ensures.same_records counts c.find_counted-found.result c.find_counted-found.ensures);
        none = c.put_mark.ensures.scratch.none;
        empty = c.put_mark.ensures.scratch.empty;
        room = room_with (is_some c.find_counted-found.result) c.self.inside.count c.count_with-self-inside.result (vec_capacity c.put_mark.new.scratch)
            c.count_with-self-inside.ensures (omega (arith, room, c.in_ok-reserve.ensures.ok, c.take_found.ensures.scratch.room, c.put_mark.ensures.scratch.room, c.self.invariant.1.empty));
        spares = c.put_mark.ensures.spares;
      },
      subst (λ (l : List (ℕ × Reverse ℕ)). IsIndexOf l (marks_among (spread_records c.put_mark.new.store.chunks.items)))
          (sym (c.put_mark.ensures.index ∙ c.take_found.ensures.index))
          (index_with c.stock.new.index c.enter.new.index (marks_among (spread_records c.self.inside.store.chunks.items))
          (marks_among (spread_records c.put_mark.new.store.chunks.items)) c.args.mark c.in_ok-enter.ensures.names
          (found_with c.args.mark c.self.inside.store.chunks.items c.take_found.new.store.chunks.items c.put_mark.new.store.chunks.items
          c.self.inside.greatest.entries c.enter.new.greatest.entries c.self.invariant.0 c.take_found.ensures.laid c.put_mark.ensures.laid rest
          c.put_mark.ensures.same_records counts)
          (subst (λ (l : List (ℕ × Reverse ℕ)). IsIndexOf l (marks_among (spread_records c.self.inside.store.chunks.items))) (sym c.stock.ensures.index) c.self.invariant.2)),
      banded_with c.args.mark c.self.inside.bands.items c.cover.new.bands.items (marks_among (spread_records c.self.inside.store.chunks.items))
          (marks_among (spread_records c.put_mark.new.store.chunks.items)) c.self.invariant.3 c.cover.ensures.some c.cover.ensures.kept c.cover.ensures.own
          (ordered_with c.args.mark c.self.inside.store.chunks.items c.take_found.new.store.chunks.items c.put_mark.new.store.chunks.items
          c.self.inside.greatest.entries c.enter.new.greatest.entries c.self.invariant.0 c.take_found.ensures.laid c.put_mark.ensures.laid rest
          c.put_mark.ensures.same_records counts),
    )

pub returns-clause-marks : goal.returns-clause-marks
returns-clause-marks c =
    let rest = subst (λ (l : List Piece). IsPermutation (filter (λ r. not (belongs_to c.args.mark.ns c.args.mark.id r)) (spread_records l)) (spread_records c.take_found.new.store.chunks.items))
    c.reserve-2.ensures.items c.take_found.ensures.rest in
    let counts = c.in_ok-enter.ensures.greatest in
    subst (λ (v : Marks). IsInOrder (c.args.mark ∷ without c.args.mark.ns c.args.mark.id v.marks) (marks_among (spread_records c.put_mark.new.store.chunks.items))) c.self.view_is
    (ordered_with c.args.mark c.self.inside.store.chunks.items c.take_found.new.store.chunks.items c.put_mark.new.store.chunks.items c.self.inside.greatest.entries
    c.enter.new.greatest.entries c.self.invariant.0 c.take_found.ensures.laid c.put_mark.ensures.laid rest c.put_mark.ensures.same_records counts)

pub returns-clause-found : goal.returns-clause-found
returns-clause-found c =
    let rest = subst (λ (l : List Piece). IsPermutation (filter (λ r. not (belongs_to c.args.mark.ns c.args.mark.id r)) (spread_records l)) (spread_records c.take_found.new.store.chunks.items))
    c.reserve-2.ensures.items c.take_found.ensures.rest in
    let counts = c.in_ok-enter.ensures.greatest in
    λ ns id.
    found_with c.args.mark c.self.inside.store.chunks.items c.take_found.new.store.chunks.items c.put_mark.new.store.chunks.items c.self.inside.greatest.entries
    c.enter.new.greatest.entries c.self.invariant.0 c.take_found.ensures.laid c.put_mark.ensures.laid rest c.put_mark.ensures.same_records counts ns id
    ∙ ap (λ (v : Marks). cond (is_named ns id c.args.mark) (Some c.args.mark) (mark_at v.marks ns id)) c.self.view_is
