use Rattle.nv_halves.proofs.Intaking.{read_nothing}
use Rattle.nv_halves.proofs.reader.read_session.Goals as goal

pub returns-in_default-clause-read : goal.returns-in_default-clause-read
returns-in_default-clause-read g c = read_nothing _ _ _ _
