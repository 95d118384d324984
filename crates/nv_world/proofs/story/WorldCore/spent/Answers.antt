use Rattle.std.proofs.Common.{List, subst}
use Rattle.std.specs.Prelude.{IsSome}
use Rattle.nv_history.specs.Runs.{run}
use Rattle.nv_core.specs.Contents.{plain_entries}
use Rattle.nv_core.specs.declared.entry.Entry.{Entry}
use Rattle.nv_world.proofs.story.WorldCore.spent.Goals as goal

pub returns-clause-runs : goal.returns-clause-runs
returns-clause-runs c = λ story stands.
    subst (λ (l : List Entry). IsSome (run c.args.self.now.capacity c.args.self.now.limits (plain_entries l))) stands c.history-history.ensures.runs
