use Rattle.std.proofs.Common.{◌≡◌, ap, subst}
use Rattle.nv_model.specs.declared.parts.Limits.{Limits}
use Rattle.nv_dispatch.specs.Runs.{usual_limits}
use Rattle.nv_core.specs.Contents.{plain_entries}
use Rattle.nv_book.specs.Reading.{IsRead}
use Rattle.nv_replay.proofs.Closings.{replay_read}
use Rattle.nv_replay.proofs.replaying.replay.Goals as goal

pub returns-in-Ok-clause-ends : goal.returns-in-Ok-clause-ends
returns-in-Ok-clause-ends g c =
    let b = c.in-Ok.ensures.reads in
    let left = (g.I.Source.words c.read_book.new.source).left in (
      b.0,
      b.1,
      replay_read usual_limits b.0 left (g.S.Sink.words c.args.output.now).taken (g.S.Sink.words c.write_outputs.new.output).taken c.in-Ok.book
          (plain_entries c.args.kept.now.entries) (plain_entries c.write_outputs.new.kept.entries) c.write_outputs.result
          (subst (λ (l : Limits). IsRead l b.0 left c.in-Ok.book) c.usual_limits.ensures b.2)
          (ap plain_entries c.write_outputs.ensures.kept)
          c.write_outputs.ensures.writes,
    )
