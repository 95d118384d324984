use Rattle.std.proofs.Common.{arith}
use Rattle.std.specs.Prelude.{◌^◌, ◌*◌, ◌-◌}
use Rattle.nv_value.specs.Content.{count}
use Rattle.nv_value.specs.View.{contents, pair_contents}
use Rattle.nv_value.proofs.Contents.{count-contents, count-pair_contents}
use Rattle.nv_book.specs.inside.Fitness.{are_tellable}
use Rattle.nv_book.proofs.Tellable.{none_many, those_told}
use Rattle.nv_book.proofs.fitness.+tellable.Goals as goal

pub is_tellable_list-returns-then-len : goal.is_tellable_list-returns-then-len
is_tellable_list-returns-then-len t c =
    let items = c.args.items.now.items in
    none_many c.args.depth (count (contents items)) (2 ^ 32) (are_tellable (c.args.depth - 1) (contents items)) (omega (arith, count-contents items))

pub is_tellable_list-returns : goal.is_tellable_list-returns
is_tellable_list-returns t c =
    let items = c.args.items.now.items in
    rw c.are_tellable.ensures
    (those_told c.args.depth (count (contents items)) (2 ^ 32) (are_tellable (c.args.depth - 1) (contents items)) (omega arith) (omega (arith, count-contents items)))

pub is_tellable_map-returns-then-len : goal.is_tellable_map-returns-then-len
is_tellable_map-returns-then-len t c =
    let fields = c.args.fields.now.items in
    none_many c.args.depth (count (pair_contents fields)) (2 * 2 ^ 32) (are_tellable (c.args.depth - 1) (pair_contents fields)) (omega (arith, count-pair_contents fields))

pub is_tellable_map-returns : goal.is_tellable_map-returns
is_tellable_map-returns t c =
    let fields = c.args.fields.now.items in
    rw c.have_tellable.ensures
    (those_told c.args.depth (count (pair_contents fields)) (2 * 2 ^ 32) (are_tellable (c.args.depth - 1) (pair_contents fields)) (omega arith) (omega (arith, count-pair_contents fields)))
