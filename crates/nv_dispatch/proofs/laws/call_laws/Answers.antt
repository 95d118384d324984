use Rattle.nv_dispatch.proofs.CallLaws.{refused_leaves_all, each_splice_is_one_fact, ticks_count_facts}
use Rattle.nv_dispatch.proofs.laws.call_laws.Goals as goal

pub returns : goal.returns
returns c = record { refused = refused_leaves_all; facts = each_splice_is_one_fact; ticks = ticks_count_facts }
