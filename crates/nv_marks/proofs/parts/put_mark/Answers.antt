use Rattle.std.proofs.Common.{◌≡◌, sym, subst, List, ◌∷◌, ◌++◌, Option, Some}
use Rattle.std.specs.Prelude.{IsPermutation, option_map, option_to_list}
use Rattle.std.proofs.lemmas.List.Sorted.{IsPermutation-cons, IsPermutation-trans}
use Rattle.nv_marks.specs.declared.extmark.Far.{Far}
use Rattle.nv_marks.specs.declared.extmark.Mark.{Mark}
use Rattle.nv_marks.specs.declared.record.Record.{Record}
use Rattle.nv_marks.specs.inside.Records.{start_record, end_record}
use Rattle.nv_marks.specs.inside.Chunks.{spread_records}
use Rattle.nv_marks.proofs.PuttingLemmas.{again, cleared_twice}
use Rattle.nv_marks.proofs.parts.put_mark.Goals as goal

both_put : (m : Mark) (far : Far) (start end : Record) (had one two : List Record) → m.stop ≡ Some far → start ≡ start_record m → end ≡ end_record m far
    → IsPermutation (end ∷ had) one → IsPermutation (start ∷ one) two
    → IsPermutation (start_record m ∷ (option_to_list (option_map (end_record m) m.stop) ++ had)) two
both_put m far start end had one two stop start_is end_is first second =
    subst (λ (o : Option Far). IsPermutation (start_record m ∷ (option_to_list (option_map (end_record m) o) ++ had)) two) (sym stop)
    (subst (λ (r : Record). IsPermutation (r ∷ end_record m far ∷ had) two) start_is
    (subst (λ (r : Record). IsPermutation (start ∷ r ∷ had) two) end_is
    (IsPermutation-trans (start ∷ end ∷ had) (start ∷ one) two (IsPermutation-cons start (end ∷ had) one first) second)))

pub returns-in-Some-clause-same_records : goal.returns-in-Some-clause-same_records
returns-in-Some-clause-same_records c =
    both_put c.args.mark c.in-Some.far c.start_record-start.result c.end_record.result (spread_records c.args.store.now.chunks.items) (spread_records c.insert.new.self.chunks.items)
    (spread_records c.insert-in-Some.new.self.chunks.items) c.in-Some.is c.start_record-start.ensures c.end_record.ensures c.insert.ensures.put.same_records
    c.insert-in-Some.ensures.put.same_records

pub insert-requires-in-Some-clause-scratch : goal.insert-requires-in-Some-clause-scratch
insert-requires-in-Some-clause-scratch c = again 65 c.args.scratch.now c.insert.new.scratch c.requires.scratch c.insert.ensures.scratch

pub returns-in-Some-clause-scratch : goal.returns-in-Some-clause-scratch
returns-in-Some-clause-scratch c =
    cleared_twice c.args.scratch.now c.insert.new.scratch c.insert-in-Some.new.scratch c.insert.ensures.scratch c.insert-in-Some.ensures.scratch
