use Rattle.nv_history.proofs.OneBytes.{bytes_are_one, pictures_are_one}
use Rattle.nv_history.proofs.laws.bytes_law.Goals as goal

pub returns : goal.returns
returns c = record { pictures = pictures_are_one; bytes = bytes_are_one }
