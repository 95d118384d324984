use Rattle.std.proofs.Common.{◌≡◌, ◌∙◌, ap, sym, Some, rules}
use Rattle.nv_places.specs.Flat.{IsLine}
use Rattle.nv_subs.proofs.SentLines.{a-line}
use Rattle.nv_subs.proofs.received.shared_line.Goals as goal

pub returns : goal.returns
returns c =
    let line : IsLine c.args.bytes.now = search rules in
    let same : c.from_bytes.result ≡ c.args.bytes.now = search rules in
    ap Some same ∙ sym (a-line c.args.bytes.now line)
