use Rattle.std.proofs.Common.{sym, ◌∙◌}
use Rattle.nv_world.proofs.Standings.{losing_some}
use Rattle.nv_world.proofs.Steppings.{if_err}
use Rattle.nv_world.proofs.showing.losing_sessions.Goals as goal

pub returns-in_err-push-clause-memory : goal.returns-in_err-push-clause-memory
returns-in_err-push-clause-memory c =
    if_err c.from_residual.result _ (losing_some c.args.sessions.now c.args.uis.now c.loop-ui.ui-index _ c.loop-ui-test.true (sym c.is_live.ensures ∙ c.if-not-is_live.true))
