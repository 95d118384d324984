use Rattle.std.proofs.Common.{List, sym, subst, refl}
use Rattle.std.specs.Prelude.{IsSome}
use Rattle.nv_history.specs.Runs.{run}
use Rattle.nv_core.specs.Contents.{plain_entries}
use Rattle.nv_core.specs.declared.entry.Entry.{Entry}
use Rattle.nv_world.proofs.Holding.{begun_closes}
use Rattle.nv_world.proofs.Splicings.{last_of_none}
use Rattle.nv_world.proofs.Standings.{begun}
use Rattle.nv_world.proofs.world.World.new.Goals as goal

pub invariant_of-result : goal.invariant_of-result
invariant_of-result c = record {
  base = c.new-2.ensures.base;
  holds = record {
    entries = c.requires.entries;
    runs = subst (λ (es : List Entry). IsSome (run c.args.outbox c.args.limits (plain_entries es))) (sym c.new-2.ensures.entries) refl;
    stands = λ w live runs. begun c.in_ok-machine.machine.state c.args.outbox c.args.limits c.new-2.result.entries c.new-2.ensures.entries c.requires.entries c.in_ok-machine.ensures.stands c.in_ok-machine.ensures.settled w runs;
    closes = λ w live runs. begun_closes c.args.outbox c.args.limits c.new-2.result.entries c.new-2.result.room c.new-2.ensures.entries w runs;
    last = last_of_none c.args.outbox c.args.limits c.new-2.result.entries c.in_ok-machine.machine.last.items c.new-2.ensures.entries c.in_ok-machine.ensures.last;
  };
}
