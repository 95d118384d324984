use Rattle.std.proofs.Common.{ap, ◌∙◌}
use Rattle.std.specs.Int.{w8}
use Rattle.std.proofs.lemmas.Int.{to_z-of_z}
use Rattle.nv_msgpack.specs.Handle.{handle_in}
use Rattle.nv_value.specs.View.{content}
use Rattle.nv_msgpack.proofs.Integers.{found_some, found_none}
use Rattle.nv_msgpack.proofs.handle_reader.handle_of.Goals as goal

pub returns-clause-some : goal.returns-clause-some
returns-clause-some c = found_some c.args.kind (content c.args.value.now) c.number_of.result (c.number_of.ensures ∙ ap (λ k. handle_in k (content c.args.value.now)) (to_z-of_z w8 c.args.kind c.ranges.kind))

pub returns-clause-none : goal.returns-clause-none
returns-clause-none c = found_none c.args.kind (content c.args.value.now) c.number_of.result (c.number_of.ensures ∙ ap (λ k. handle_in k (content c.args.value.now)) (to_z-of_z w8 c.args.kind c.ranges.kind))
