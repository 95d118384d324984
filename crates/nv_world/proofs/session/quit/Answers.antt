use Rattle.std.proofs.Common.{◌≡◌, false, is_some, rules}
use Rattle.nv_history.specs.Sessions.{Session}
use Rattle.nv_world.specs.inside.Sessions.{IsSession}
use Rattle.nv_world.proofs.Closing.{quits_open}
use Rattle.nv_world.proofs.session.quit.Goals as goal

pub returns-then-is_none : goal.returns-then-is_none
returns-then-is_none c = λ capacity y is.
    let open_now : is_some c.args.session.now.closed ≡ false = search rules in
    quits_open c.args.at y c.args.session.now.closed open_now is.closed
    (λ (z : Session). IsSession capacity c.close.new.session z) (c.close.ensures capacity y is)
