use Rattle.nv_session_laws.proofs.Whole.{connections_answer_calls, sessions_answer_calls}
use Rattle.nv_session_laws.proofs.laws.whole_inputs.Goals as goal

pub returns-clause-alone : goal.returns-clause-alone
returns-clause-alone c = sessions_answer_calls

pub returns-clause-connections : goal.returns-clause-connections
returns-clause-connections c = connections_answer_calls
