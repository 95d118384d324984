use Rattle.std.proofs.Common.{◌++◌, sym, ap, ◌∙◌, append-nil}
use Rattle.nv_rpc.specs.Outcomes.{bytes_left}
use Rattle.nv_speech.proofs.Flowing.{only_waits}
use Rattle.nv_speech.proofs.saying.send_left.Goals as goal

pub returns-in-None-clause-ok : goal.returns-in-None-clause-ok
returns-in-None-clause-ok g c =
    only_waits _ c.args.room.now.items (bytes_left c.args.left) c.args.room.now.items
    (sym (append-nil c.args.room.now.items) ∙ ap (λ o. c.args.room.now.items ++ bytes_left o) (sym c.in-None.is))
