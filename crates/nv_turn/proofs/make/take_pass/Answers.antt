use Rattle.nv_turn.proofs.Dealt.{dealt_last}
use Rattle.nv_turn.proofs.make.take_pass.Goals as goal

pub returns-clause-pass : goal.returns-clause-pass
returns-clause-pass g c = λ turn start n is. (dealt_last turn start n _ _ _ is c.in-Some.ensures.items).0

pub returns-clause-others : goal.returns-clause-others
returns-clause-others g c = λ turn start n is. (dealt_last turn start n _ _ _ is c.in-Some.ensures.items).1
