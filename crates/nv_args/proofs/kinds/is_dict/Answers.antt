use Rattle.std.proofs.Common.{◌≡◌, length, ap, ◌∙◌, arith}
use Rattle.std.specs.Vec.{vec_len}
use Rattle.nv_value.specs.View.{content}
use Rattle.nv_value.proofs.Contents.{content-List}
use Rattle.nv_args.proofs.KindLemmas.{dict-list}
use Rattle.nv_args.proofs.kinds.is_dict.Goals as goal

pub returns-in-List : goal.returns-in-List
returns-in-List c =
    let count : vec_len c.in-List.items ≡ length c.in-List.items.items = omega arith in
    dict-list (content c.args.value.now) c.in-List.items.items (vec_len c.in-List.items) c.is_empty.result
    (ap content c.in-List.is ∙ content-List c.in-List.items) count c.is_empty.ensures
