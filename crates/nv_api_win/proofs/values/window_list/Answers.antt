use Rattle.std.proofs.Common.{◌≡◌, ◌∙◌, sym, ap, subst, List, [], ◌∷◌, ◌++◌, map, rules, arith, get_or, pos}
use Rattle.std.proofs.lemmas.List.{map-append}
use Rattle.nv_value.specs.Content.{Tree, trees_of}
use Rattle.nv_value.specs.View.{content}
use Rattle.nv_value.proofs.Contents.{content-List}
use Rattle.nv_msgpack.specs.Shortest.{HasSpelling, HaveSpellings}
use Rattle.nv_model.specs.Answering.{array_of}
use Rattle.nv_api_win.specs.Windows.{window_handle}
use Rattle.nv_args.proofs.Spelled.{list-spelled, made-all, made-more, spelled-more}
use Rattle.nv_api_win.proofs.values.window_list.Goals as goal

pub loop-number-preserved : goal.loop-number-preserved
loop-number-preserved c =
    let t : Tree = content c.in_ok-window_value.field-0 in
    let before : List Tree = map content c.loop-number.items.items in
    let more : map content c.push.new.self.items ≡ before ++ t ∷ [] =
    ap (map content) c.in_ok-push.ensures.items ∙ map-append content c.loop-number.items.items (c.in_ok-window_value.field-0 ∷ []) in
    let is : t ≡ window_handle (get_or c.args.numbers.now c.loop-number.number-index (pos 0)) = search rules in
    record {
      all = made-more window_handle before (map content c.push.new.self.items) t c.args.numbers.now c.loop-number.number-index (pos 0) c.loop-number-test.true c.loop-number.invariant.all more is;
      spelled = subst (λ (ts : List Tree). HaveSpellings (trees_of ts)) (sym more) (spelled-more before t c.loop-number.invariant.spelled c.in_ok-window_value.ensures.spelled);
    }

pub returns-clause-value : goal.returns-clause-value
returns-clause-value c =
    let made : List Tree = map content c.loop-number.items.items in
    content-List c.loop-number.items
    ∙ ap array_of (made-all window_handle made c.args.numbers.now c.loop-number.number-index c.loop-number-test.false c.loop-number.invariant.all)

pub returns-clause-spelled : goal.returns-clause-spelled
returns-clause-spelled c =
    let made : List Tree = map content c.loop-number.items.items in
    subst HasSpelling (sym (content-List c.loop-number.items))
    (list-spelled window_handle made c.args.numbers.now (made-all window_handle made c.args.numbers.now c.loop-number.number-index c.loop-number-test.false c.loop-number.invariant.all)
    (omega arith) c.loop-number.invariant.spelled)
