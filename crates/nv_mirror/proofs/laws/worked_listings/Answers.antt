use Rattle.std.proofs.Common.{refl}
use Rattle.std.specs.Fmt.{digits}
use Rattle.nv_msgpack.specs.Reading.{value_at}
use Rattle.nv_msgpack.specs.Shortest.{unsigned_spelling}
use Rattle.nv_msgpack.specs.Spelling.{form, middle, big_endian}
use Rattle.nv_rpc.specs.Calls.{call_in}
use Rattle.nv_rpc.specs.Messages.{message_tree}
use Rattle.nv_rpc.specs.Received.{message_in}
use Rattle.nv_mirror.proofs.laws.worked_listings.Goals as goal

pub returns-clause-listed : goal.returns-clause-listed
unfolding digits
returns-clause-listed c = refl

pub returns-clause-behind : goal.returns-clause-behind
unfolding digits
returns-clause-behind c = refl

pub returns-clause-refused : goal.returns-clause-refused
unfolding message_tree message_in call_in
returns-clause-refused c = refl

pub returns-clause-misfit : goal.returns-clause-misfit
unfolding message_tree message_in call_in unsigned_spelling value_at form middle big_endian
returns-clause-misfit c = refl

pub returns-clause-strange : goal.returns-clause-strange
unfolding message_tree message_in call_in unsigned_spelling value_at form middle big_endian
returns-clause-strange c = refl
