use Rattle.std.proofs.Common.{◌∙◌, ap, sym, Some}
use Rattle.nv_marks.specs.inside.Records.{has_key}
use Rattle.nv_marks.specs.inside.Chunks.{spread_records}
use Rattle.nv_marks.proofs.PartsLemmas.{key_once, taken_rest, none_taken, found_passes}
use Rattle.nv_marks.proofs.PuttingLemmas.{unused}
use Rattle.nv_marks.proofs.parts.take_key.Goals as goal

pub returns-in-Some-clause-rest : goal.returns-in-Some-clause-rest
returns-in-Some-clause-rest c =
    taken_rest (has_key c.args.ns c.args.id c.args.end) (key_once c.args.ns c.args.id c.args.end) (spread_records c.args.store.now.chunks.items)
    (spread_records c.take_out.new.self.chunks.items) c.take_out.result c.requires.once c.take_out.ensures.out.same_records
    (found_passes (has_key c.args.ns c.args.id c.args.end) (spread_records c.args.store.now.chunks.items) c.take_out.result
    (c.in-Some.ensures.found c.take_out.result ∙ ap Some (sym c.take_out.ensures.taken)))

pub returns-in_default-clause-scratch : goal.returns-in_default-clause-scratch
returns-in_default-clause-scratch c = unused 64 c.args.scratch.now c.requires.scratch

pub returns-in_default-clause-rest : goal.returns-in_default-clause-rest
returns-in_default-clause-rest c =
    none_taken (has_key c.args.ns c.args.id c.args.end) (spread_records c.args.store.now.chunks.items) c.in_default.ensures
