use Rattle.nv_run.proofs.Lines.{tells_cut, tells_then}
use Rattle.nv_run.proofs.telling.tell_bytes.Goals as goal

pub returns-then-not-put_all : goal.returns-then-not-put_all
returns-then-not-put_all g c =
    let p = c.if-not-put_all.ensures in
    tells_cut c.args.bytes.now _ p.prefix.0 _ _ p.prefix.1 p.prefix.2 p.failed

pub returns : goal.returns
returns g c =
    let p = c.if-not-put_all.ensures in
    tells_then c.args.bytes.now _ _ _ _ p.later p.all c.tell.ensures
