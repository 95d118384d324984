use Rattle.nv_stream.proofs.Cuts.{streams_have_one_end}
use Rattle.nv_stream.proofs.Taken.{runs_are_cuts}
use Rattle.nv_stream.proofs.laws.pieces_do_not_matter.Goals as goal

pub returns-clause-runs : goal.returns-clause-runs
returns-clause-runs c = runs_are_cuts

pub returns-clause-one : goal.returns-clause-one
returns-clause-one c = streams_have_one_end
