use Rattle.std.proofs.Common.{false}
use Rattle.nv_marks.specs.inside.Records.{has_key}
use Rattle.nv_marks.specs.inside.Chunks.{spread_records}
use Rattle.nv_marks.proofs.PartsLemmas.{once_left, both_taken, start_taken}
use Rattle.nv_marks.proofs.PuttingLemmas.{again, cleared_twice}
use Rattle.nv_marks.proofs.parts.take_mark.Goals as goal

pub take_key-requires-then-has_end-clause-once : goal.take_key-requires-then-has_end-clause-once
take_key-requires-then-has_end-clause-once c =
    once_left (has_key c.args.ns c.args.id false) (spread_records c.args.store.now.chunks.items) (spread_records c.take_key.new.store.chunks.items) c.requires.once
    c.take_key.ensures.rest

pub take_key-requires-then-has_end-clause-scratch : goal.take_key-requires-then-has_end-clause-scratch
take_key-requires-then-has_end-clause-scratch c = again 64 c.args.scratch.now c.take_key.new.scratch c.requires.scratch c.take_key.ensures.scratch

pub returns-then-has_end-clause-scratch : goal.returns-then-has_end-clause-scratch
returns-then-has_end-clause-scratch c =
    cleared_twice c.args.scratch.now c.take_key.new.scratch c.take_key-then-has_end.new.scratch c.take_key.ensures.scratch c.take_key-then-has_end.ensures.scratch

pub returns-then-has_end-clause-rest : goal.returns-then-has_end-clause-rest
returns-then-has_end-clause-rest c =
    both_taken c.args.ns c.args.id (spread_records c.args.store.now.chunks.items) (spread_records c.take_key.new.store.chunks.items)
    (spread_records c.take_key-then-has_end.new.store.chunks.items) c.take_key.ensures.rest c.take_key-then-has_end.ensures.rest

pub returns-else-has_end-clause-rest : goal.returns-else-has_end-clause-rest
returns-else-has_end-clause-rest c =
    start_taken c.args.ns c.args.id (spread_records c.args.store.now.chunks.items) (spread_records c.take_key.new.store.chunks.items)
    (c.requires.end c.if-has_end.false) c.take_key.ensures.rest
