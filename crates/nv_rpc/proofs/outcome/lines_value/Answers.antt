use Rattle.std.proofs.Common.{◌≡◌, ℕ, List, [], ◌++◌, map, ap, ◌∙◌, rules}
use Rattle.nv_value.specs.Content.{Tree, list, text, trees_of}
use Rattle.nv_value.specs.View.{content}
use Rattle.nv_value.specs.declared.value.Value.{Value}
use Rattle.nv_value.proofs.Contents.{content-List}
use Rattle.nv_lines.specs.Excerpts.{list_lines}
use Rattle.nv_rpc.proofs.outcome.lines_value.Goals as goal

pub returns : goal.returns
returns c =
    let none : c.in_ok-strings.strings.items ≡ [] = search rules in
    let made : map content c.add_lists.new.strings.items ≡ map text c.args.lines.now =
    c.in_ok-add_lists.ensures
    ∙ ap (λ (vs : List Value). map content vs ++ map text (list_lines c.lists.result.now)) none
    ∙ ap (λ (l : List (List ℕ)). map text l) c.lists.ensures in
    content-List c.add_lists.new.strings ∙ ap (λ (ts : List Tree). list (trees_of ts)) made
