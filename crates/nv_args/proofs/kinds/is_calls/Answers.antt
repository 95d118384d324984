use Rattle.std.proofs.Common.{List, map, ap, ◌∙◌}
use Rattle.std.specs.List.{list_all}
use Rattle.nv_value.specs.View.{content}
use Rattle.nv_value.specs.declared.value.Value.{Value}
use Rattle.nv_value.proofs.Contents.{content-List}
use Rattle.nv_args.specs.Reading.{is_call}
use Rattle.nv_args.proofs.KindLemmas.{list-passing}
use Rattle.nv_args.proofs.kinds.is_calls.Goals as goal

pub returns-in-List : goal.returns-in-List
returns-in-List c =
    list-passing (list_all is_call) (content c.args.value.now) c.in-List.items.items c.are_calls.result
    (ap content c.in-List.is ∙ content-List c.in-List.items)
    (c.are_calls.ensures ∙ ap (λ (vs : List Value). list_all is_call (map content vs)) c.as_slice.ensures.value)
