use Rattle.std.proofs.Common.{◌≡◌, ◌∙◌, ap, sym, subst, ℕ, List, arith}
use Rattle.std.specs.declared.cmp.Reverse.{Reverse}
use Rattle.nv_marks.specs.Marks.{Marks, without}
use Rattle.nv_marks.specs.inside.Records.{marks_among}
use Rattle.nv_marks.specs.inside.Chunks.{spread_records}
use Rattle.nv_marks.specs.inside.Names.{IsIndexOf}
use Rattle.nv_marks.proofs.BandLemmas.{banded_without}
use Rattle.nv_marks.proofs.IndexLemmas.{index_less}
use Rattle.nv_marks.proofs.StoredLemmas.{ends_of_stored, stored_less, marks_left, count_less}
use Rattle.nv_marks.proofs.PartsLemmas.{as_many_without}
use Rattle.nv_marks.proofs.mark_set.MarkSet.remove.Goals as goal

pub find_mark-requires-clause-ends : goal.find_mark-requires-clause-ends
find_mark-requires-clause-ends c =
    ends_of_stored c.self.inside.store.chunks.items c.self.inside.greatest.entries c.self.invariant.0

pub returns-in_err-found-clause-marks : goal.returns-in_err-found-clause-marks
returns-in_err-found-clause-marks c =
    subst (λ (v : Marks). v.marks ≡ without c.args.ns c.args.id v.marks) c.self.view_is
    (sym (as_many_without c.args.ns c.args.id (marks_among (spread_records c.self.inside.store.chunks.items)) (sym c.find_mark.ensures ∙ c.in_err-found.was)))

pub invariant_of-self : goal.invariant_of-self
invariant_of-self c = (
  stored_less c.args.ns c.args.id c.self.inside.store.chunks.items c.take_found.new.store.chunks.items c.self.inside.greatest.entries c.self.invariant.0
      c.take_found.ensures.laid c.take_found.ensures.rest,
  record {
    count = omega (
      arith,
      c.self.invariant.1.count,
      count_less c.args.ns c.args.id c.self.inside.store.chunks.items c.take_found.new.store.chunks.items c.self.inside.greatest.entries c.self.invariant.0
          c.take_found.ensures.laid c.take_found.ensures.rest c.in_ok-found.found (sym c.find_mark.ensures ∙ c.in_ok-found.was),
    );
    none = c.take_found.ensures.scratch.none;
    empty = c.take_found.ensures.scratch.empty;
    room = omega (arith, c.self.invariant.1.room, c.take_found.ensures.scratch.room);
    spares = c.self.invariant.1.spares;
  },
  index_less c.take_found.new.index c.forget.new.self (marks_among (spread_records c.self.inside.store.chunks.items))
      (marks_among (spread_records c.take_found.new.store.chunks.items)) c.args.ns c.args.id c.forget.ensures
      (marks_left c.args.ns c.args.id c.self.inside.store.chunks.items c.take_found.new.store.chunks.items c.self.inside.greatest.entries c.self.invariant.0
      c.take_found.ensures.laid c.take_found.ensures.rest)
      (subst (λ (l : List (ℕ × Reverse ℕ)). IsIndexOf l (marks_among (spread_records c.self.inside.store.chunks.items))) (sym c.take_found.ensures.index) c.self.invariant.2),
  banded_without c.args.ns c.args.id c.self.inside.bands.items (marks_among (spread_records c.self.inside.store.chunks.items))
      (marks_among (spread_records c.take_found.new.store.chunks.items)) c.self.invariant.3
      (marks_left c.args.ns c.args.id c.self.inside.store.chunks.items c.take_found.new.store.chunks.items c.self.inside.greatest.entries c.self.invariant.0
      c.take_found.ensures.laid c.take_found.ensures.rest),
)

pub returns-clause-marks : goal.returns-clause-marks
returns-clause-marks c =
    marks_left c.args.ns c.args.id c.self.inside.store.chunks.items c.take_found.new.store.chunks.items c.self.inside.greatest.entries c.self.invariant.0
    c.take_found.ensures.laid c.take_found.ensures.rest
    ∙ ap (λ (v : Marks). without c.args.ns c.args.id v.marks) c.self.view_is
