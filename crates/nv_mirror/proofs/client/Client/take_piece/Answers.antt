use Rattle.std.proofs.Common.{◌≡◌, ◌<◌, ◌≤◌, [], length, take, refl, rules, arith}
use Rattle.std.proofs.lemmas.List.{length-take}
use Rattle.std.specs.Io.KnownBytes.{IsAtEnd}
use Rattle.nv_io.proofs.StreamLemmas.{each_one}
use Rattle.nv_stream.specs.State.{with_piece}
use Rattle.nv_mirror.specs.inside.Steps.{standing_of}
use Rattle.nv_mirror.proofs.Standings.{steps_no_memory, steps_over, steps_read_fault, steps_piece, piece_moves}
use Rattle.nv_mirror.proofs.client.Client.take_piece.Goals as goal

pub returns-in-Ok-clause-takes : goal.returns-in-Ok-clause-takes
returns-in-Ok-clause-takes g c =
    let piece = take c.in-Bytes.count c.read.new.into in
    let fed : c.feed.new.self ≡ with_piece c.args.self.now.stream (take c.in-Bytes.count c.read.new.into) = search rules in
    let some : 0 < length (take c.in-Bytes.count c.read.new.into) = search (rules, arith, length-take) in
    let most : length (take c.in-Bytes.count c.read.new.into) ≤ 65536 = search (rules, arith, length-take) in (
      piece,
      each_one (g.I.Source.words c.args.input.now) (g.I.Source.words c.read.new.self) piece (record { taken = c.in-Bytes.ensures.taken; left = c.in-Bytes.ensures.left }) c.in-Bytes.ensures.reads,
      steps_piece (IsAtEnd (g.I.Source.words c.read.new.self).left) piece (standing_of c.args.self.now) _ fed refl,
      (some, most, (piece_moves piece c.args.self.now.stream c.feed.new.self fed).0),
    )

pub returns-in-Err-clause-takes : goal.returns-in-Err-clause-takes
returns-in-Err-clause-takes g c = (
  take c.in-Bytes.count c.read.new.into,
  each_one (g.I.Source.words c.args.input.now) (g.I.Source.words c.read.new.self) (take c.in-Bytes.count c.read.new.into) (record { taken = c.in-Bytes.ensures.taken; left = c.in-Bytes.ensures.left }) c.in-Bytes.ensures.reads,
  steps_no_memory (IsAtEnd (g.I.Source.words c.read.new.self).left) (take c.in-Bytes.count c.read.new.into) (standing_of c.args.self.now) (standing_of c.args.self.now),
  tt,
)

pub returns-in-End-clause-takes : goal.returns-in-End-clause-takes
returns-in-End-clause-takes g c = (
  [],
  each_one (g.I.Source.words c.args.input.now) (g.I.Source.words c.read.new.self) [] (record { taken = c.in-End.ensures.taken; left = c.in-End.ensures.left }) c.in-End.ensures.reads,
  steps_over (IsAtEnd (g.I.Source.words c.read.new.self).left) c.end.result (standing_of c.args.self.now) (standing_of c.args.self.now) (c.in-End.ensures.end refl) c.requires.waits c.end.ensures,
  tt,
)

pub returns-in-Failed-clause-takes : goal.returns-in-Failed-clause-takes
returns-in-Failed-clause-takes g c = (
  [],
  each_one (g.I.Source.words c.args.input.now) (g.I.Source.words c.read.new.self) [] (record { taken = c.in-Failed.ensures.taken; left = c.in-Failed.ensures.left }) c.in-Failed.ensures.reads,
  steps_read_fault (IsAtEnd (g.I.Source.words c.read.new.self).left) (standing_of c.args.self.now) (standing_of c.args.self.now) c.requires.waits,
  tt,
)
