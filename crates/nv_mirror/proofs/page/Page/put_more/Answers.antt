use Rattle.std.proofs.Common.{refl}
use Rattle.nv_mirror.proofs.Outs.{long_all, long_part}
use Rattle.nv_mirror.proofs.page.Page.put_more.Goals as goal

pub returns-then-bytes-gt-ROOM-clause-all : goal.returns-then-bytes-gt-ROOM-clause-all
returns-then-bytes-gt-ROOM-clause-all g c = long_all c.put_all.result c.args.self.now c.args.bytes.now _ _ _ _ c.if-not-put_out.ensures.nothing c.if-not-put_out.ensures.all c.put_all.ensures.all

pub returns-then-bytes-gt-ROOM-clause-part : goal.returns-then-bytes-gt-ROOM-clause-part
returns-then-bytes-gt-ROOM-clause-part g c = long_part c.put_all.result c.args.self.now c.args.bytes.now _ _ _ c.if-not-put_out.ensures.all c.put_all.ensures.prefix
