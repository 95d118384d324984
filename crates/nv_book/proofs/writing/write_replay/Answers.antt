use Rattle.std.proofs.Common.{List, subst}
use Rattle.nv_core.specs.Contents.{plain_entries}
use Rattle.nv_core.specs.declared.entry.Entry as world
use Rattle.nv_book.specs.declared.form.Form.TheVariants.{Outputs}
use Rattle.nv_book.specs.inside.Steps.{WentOut, WentOutInPart}
use Rattle.nv_book.proofs.Results.{on_err, on_ok}
use Rattle.nv_book.proofs.Whole.{replay_all, replay_part}
use Rattle.nv_book.proofs.writing.write_replay.Goals as goal

pub returns-clause-ok : goal.returns-clause-ok
returns-clause-ok g c =
    on_ok c.write_entries.result _ _
    (λ w. replay_all c.args.start (plain_entries c.args.history.now.entries) _ _
    (subst (λ (l : List world.Entry). WentOut c.args.start Outputs (plain_entries l) (g.S.Sink.words c.args.sink.now).taken (g.S.Sink.words c.write_entries.new.sink).taken) c.entries.ensures w))
    c.write_entries.ensures.ok

pub returns-clause-err : goal.returns-clause-err
returns-clause-err g c =
    on_err c.write_entries.result _ _
    (λ w. replay_part c.args.start (plain_entries c.args.history.now.entries) _ _
    (subst (λ (l : List world.Entry). WentOutInPart c.args.start Outputs (plain_entries l) (g.S.Sink.words c.args.sink.now).taken (g.S.Sink.words c.write_entries.new.sink).taken) c.entries.ensures w))
    c.write_entries.ensures.err
