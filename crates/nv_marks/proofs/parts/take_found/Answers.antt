use Rattle.std.proofs.Common.{◌∙◌, sym, subst, List}
use Rattle.std.specs.Prelude.{IsPermutation}
use Rattle.std.proofs.lemmas.List.Sorted.{IsPermutation-refl}
use Rattle.nv_marks.specs.declared.record.Record.{Record}
use Rattle.nv_marks.specs.inside.Chunks.{spread_records}
use Rattle.nv_marks.proofs.PartsLemmas.{no_stop, unnamed}
use Rattle.nv_marks.proofs.PuttingLemmas.{unused}
use Rattle.nv_marks.proofs.parts.take_found.Goals as goal

pub take_mark-requires-clause-end : goal.take_mark-requires-clause-end
take_mark-requires-clause-end c =
    λ is. no_stop (spread_records c.args.store.now.chunks.items) c.args.ns c.args.id c.in-Some.mark c.is_some.result (sym c.requires.found ∙ c.in-Some.is)
    c.is_some.ensures is

pub returns-in_default-clause-scratch : goal.returns-in_default-clause-scratch
returns-in_default-clause-scratch c = unused 64 c.args.scratch.now c.requires.scratch

pub returns-in_default-clause-rest : goal.returns-in_default-clause-rest
returns-in_default-clause-rest c =
    subst (λ (l : List Record). IsPermutation l (spread_records c.args.store.now.chunks.items))
    (sym (unnamed c.args.ns c.args.id (spread_records c.args.store.now.chunks.items) c.requires.all (sym c.requires.found ∙ c.in_default.is)))
    (IsPermutation-refl (spread_records c.args.store.now.chunks.items))
