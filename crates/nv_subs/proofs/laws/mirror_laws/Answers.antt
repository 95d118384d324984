use Rattle.nv_subs.proofs.SentLines.{sent-is-read, taken-in-parts}
use Rattle.nv_subs.proofs.laws.mirror_laws.Goals as goal

pub returns : goal.returns
returns c = record { read = sent-is-read; parts = taken-in-parts }
