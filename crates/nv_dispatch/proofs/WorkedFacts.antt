-- Worked examples of following a buffer, computed by the definitions.
use Rattle.std.proofs.Common.{refl}
use Rattle.std.specs.Fmt.{digits}
use Rattle.nv_msgpack.specs.Shortest.{unsigned_spelling}
use Rattle.nv_model.specs.Buffers.{text_of, state_behind, marks_of}
use Rattle.nv_dispatch.specs.Calls.{row_of}
use Rattle.nv_dispatch.specs.WorkedFacts.{FollowingAnswers, FollowingTells, FollowingFaults, RefusedTellNothing, FactsInOne, DeletionAnswers, DeletionTells}

pub following_answers : FollowingAnswers
unfolding FollowingAnswers text_of state_behind marks_of row_of
following_answers = refl

pub following_tells : FollowingTells
unfolding FollowingTells text_of state_behind marks_of row_of
following_tells = refl

pub following_faults : FollowingFaults
unfolding FollowingFaults digits text_of state_behind marks_of row_of
following_faults = refl

pub refused_tell_nothing : RefusedTellNothing
unfolding RefusedTellNothing text_of state_behind marks_of row_of
refused_tell_nothing = refl

pub facts_in_one : FactsInOne
unfolding FactsInOne text_of state_behind marks_of row_of
facts_in_one = refl

pub deletion_answers : DeletionAnswers
unfolding DeletionAnswers unsigned_spelling text_of state_behind marks_of row_of
deletion_answers = refl

pub deletion_tells : DeletionTells
unfolding DeletionTells text_of state_behind marks_of row_of
deletion_tells = refl
