use Rattle.nv_dispatch.proofs.WorkedFacts.{following_answers, following_tells, following_faults, refused_tell_nothing, facts_in_one, deletion_answers, deletion_tells}
use Rattle.nv_dispatch.proofs.laws.worked_facts.Goals as goal

pub returns : goal.returns
returns c = record {
  following_answers = following_answers;
  following_tells = following_tells;
  following_faults = following_faults;
  refused_tell_nothing = refused_tell_nothing;
  facts_in_one = facts_in_one;
  deletion_answers = deletion_answers;
  deletion_tells = deletion_tells;
}
