use Rattle.nv_halves.specs.Passes.{plain_pass}
use Rattle.nv_halves.proofs.WritingOn.{drops_tried}
use Rattle.nv_halves.proofs.writer.shut_idle.Goals as goal

pub returns : goal.returns
returns g c =
    drops_tried c.try_close-pass.result.1 (plain_pass c.args.pass) (plain_pass c.try_close-pass.result.0) c.args.session c.try_close-pass.ensures
