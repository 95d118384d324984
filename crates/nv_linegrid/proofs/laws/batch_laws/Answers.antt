use Rattle.nv_linegrid.proofs.BatchLemmas.{batch_shows, batches_show_the_last}
use Rattle.nv_linegrid.proofs.LawLemmas.{same_is_flush}
use Rattle.nv_linegrid.proofs.laws.batch_laws.Goals as goal

pub returns : goal.returns
returns c = record { shows = batch_shows; last = batches_show_the_last; same = same_is_flush }
