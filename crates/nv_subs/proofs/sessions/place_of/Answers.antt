use Rattle.nv_subs.proofs.Ranks.{searched_place}
use Rattle.nv_subs.proofs.sessions.place_of.Goals as goal

pub returns : goal.returns
returns c = searched_place c.args.numbers.now c.args.session c.binary_search.result c.requires c.binary_search.ensures.position
