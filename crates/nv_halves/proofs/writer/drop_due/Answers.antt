use Rattle.std.proofs.Common.{refl, ◌∙◌}
use Rattle.nv_halves.specs.Passes.{plain_pass}
use Rattle.nv_halves.proofs.WritingOn.{drops_self, drops_then, drops_took}
use Rattle.nv_halves.proofs.writer.drop_due.Goals as goal

pub takes-init : goal.takes-init
takes-init g c = record {
  at_turn = refl;
  drops = drops_self (plain_pass c.args.pass) c.args.session;
}

pub takes-preserved : goal.takes-preserved
takes-preserved g c =
    let took = drops_took c.take_due-next.result.1 (plain_pass c.takes.pass) (plain_pass c.take_due-next.result.0) c.args.session c.take_due-next.ensures in
    record {
      at_turn = c.shut_idle-pass.ensures.same.turn ∙ took.same.turn ∙ c.takes.invariant.at_turn;
      drops = drops_then (plain_pass c.args.pass) (plain_pass c.take_due-next.result.0) (plain_pass c.shut_idle-pass.result) c.args.session
          (drops_then (plain_pass c.args.pass) (plain_pass c.takes.pass) (plain_pass c.take_due-next.result.0) c.args.session c.takes.invariant.drops took)
          c.shut_idle-pass.ensures;
    }

pub returns-then-is_over : goal.returns-then-is_over
returns-then-is_over g c =
    drops_then (plain_pass c.args.pass) (plain_pass c.takes.pass) (plain_pass c.take_due-next.result.0) c.args.session c.takes.invariant.drops
    (drops_took c.take_due-next.result.1 (plain_pass c.takes.pass) (plain_pass c.take_due-next.result.0) c.args.session c.take_due-next.ensures)
