use Rattle.std.proofs.Common.{◌∙◌, ◌++◌, List, map, ap, sym}
use Rattle.nv_value.specs.Content.{Tree}
use Rattle.nv_value.specs.View.{pair_content}
use Rattle.nv_api_mark.proofs.AttrsTold.{attr_rest}
use Rattle.nv_api_mark.proofs.telling.put_attr.Goals as goal

pub returns : goal.returns
returns c = λ rest.
    c.in_ok-put_flag-6.ensures rest
    ∙ c.in_ok-put_flag-5.ensures _
    ∙ c.in_ok-put_flag-4.ensures _
    ∙ c.in_ok-put_flag-3.ensures _
    ∙ c.in_ok-put_flag-2.ensures _
    ∙ c.in_ok-put_flag.ensures _
    ∙ c.in_ok-put_terminal-2.ensures _
    ∙ c.in_ok-put_terminal.ensures _
    ∙ c.in_ok-put_colour-3.ensures _
    ∙ c.in_ok-put_colour-2.ensures _
    ∙ c.in_ok-put_colour.ensures _
    ∙ ap (λ (l : List (Tree × Tree)). map pair_content c.args.fields.now.items ++ l) (sym (attr_rest c.args.attr rest))
