use Rattle.nv_mirror_laws.proofs.Followed as followed
use Rattle.nv_mirror_laws.proofs.laws.served_bytes_are_followed.Goals as goal

pub returns : goal.returns
returns c = followed.served_bytes_are_followed c.fold_law.ensures.folds
