use Rattle.nv_halves.specs.Passes.{plain_pass}
use Rattle.nv_halves.proofs.Onces.{stays_self, stays_waiting}
use Rattle.nv_halves.proofs.insisting.pause.Goals as goal

pub returns-in_default : goal.returns-in_default
returns-in_default g c has = stays_self (plain_pass c.args.pass)

pub returns-then-wait_for_take : goal.returns-then-wait_for_take
returns-then-wait_for_take g c has = stays_self (plain_pass c.args.pass)

pub returns : goal.returns
returns g c has = stays_waiting g.C.Story.caller c.args.pass c.wait.result g.met.C.Core.callers c.wait.ensures.pass c.wait.ensures.sees has
