use Rattle.nv_subs.proofs.Members.{member-with, member-without, member-without_several, rising-without_several, one-list}
use Rattle.nv_subs.proofs.Ranks.{rising-with}
use Rattle.nv_subs.proofs.laws.session_laws.Goals as goal

pub returns : goal.returns
returns c = record {
  added = member-with;
  removed = member-without;
  several_removed = member-without_several;
  order_with = rising-with;
  order_without = rising-without_several;
  one_list = one-list;
}
