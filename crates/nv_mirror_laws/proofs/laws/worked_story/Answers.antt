use Rattle.nv_mirror_laws.proofs.Story as story
use Rattle.nv_mirror_laws.proofs.laws.worked_story.Goals as goal

pub returns : goal.returns
returns c = story.story_is_followed
