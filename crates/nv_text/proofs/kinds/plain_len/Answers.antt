use Rattle.std.proofs.Common.{arith}
use Rattle.nv_text.proofs.FrontLemmas.{plain_whole, plain_front}
use Rattle.nv_text.proofs.kinds.plain_len.Goals as goal

pub returns-then-printable-text : goal.returns-then-printable-text
returns-then-printable-text c =
    let front = plain_whole c.args.text.now c.printable_len-printable.result c.printable_len-printable.ensures c.if-printable-text.true in
    record { plain = front.plain; boundary = front.boundary; cut = front.cut }

pub returns-else-printable-text : goal.returns-else-printable-text
returns-else-printable-text c =
    let front = plain_front c.args.text.now c.saturating_sub.result c.utf8.text (omega (arith, c.saturating_sub.ensures, c.printable_len-printable.ensures)) in
    record { plain = front.plain; boundary = front.boundary; cut = front.cut }
