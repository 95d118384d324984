use Rattle.std.proofs.Common.{◌≡◌, refl, sym, subst, ℕ, Bool, true, false, not, eqb, Option}
use Rattle.nv_marks.specs.Marks.{Marks}
use Rattle.nv_marks.specs.Queries.{is_meant}
use Rattle.nv_marks.specs.declared.extmark.Mark.{Mark}
use Rattle.nv_marks.specs.inside.Records.{ForEach, marks_among}
use Rattle.nv_marks.specs.inside.Chunks.{spread_records}
use Rattle.nv_marks.proofs.IndexLemmas.{none_meant}
use Rattle.nv_marks.proofs.mark_set.MarkSet.has_none.Goals as goal

was_false : (b : Bool) → not b ≡ true → b ≡ false
was_false true is = absurd cc
was_false false is = refl

pub returns-in-Some : goal.returns-in-Some
returns-in-Some c = λ none.
    subst (λ (o : Option ℕ). ForEach (λ (m : Mark). is_meant o m.ns ≡ false) c.args.self.now.marks) (sym c.in-Some.is)
    (subst (λ (v : Marks). ForEach (λ (m : Mark). eqb m.ns c.in-Some.ns ≡ false) v.marks) c.self.view_is
    (none_meant c.self.inside.index (marks_among (spread_records c.self.inside.store.chunks.items)) c.in-Some.ns (c.has_any.ensures (was_false c.has_any.result none))
    c.self.invariant.2))
