use Rattle.std.proofs.Common.{◌≡◌, ◌∙◌, sym, ap, subst, List, [], ◌∷◌, ◌++◌, map, arith}
use Rattle.std.proofs.lemmas.List.{map-append}
use Rattle.nv_value.specs.Content.{Tree, trees_of}
use Rattle.nv_value.specs.View.{content}
use Rattle.nv_value.proofs.Contents.{content-List}
use Rattle.nv_msgpack.specs.Shortest.{HasSpelling, HaveSpellings}
use Rattle.nv_model.specs.Answering.{array_of}
use Rattle.nv_api_ui.specs.UiRows.{ui_dict}
use Rattle.nv_args.proofs.Spelled.{list-spelled, made-all, made-more, spelled-more}
use Rattle.nv_api_ui.proofs.values.ui_list.Goals as goal

pub loop-ui-preserved : goal.loop-ui-preserved
loop-ui-preserved c =
    let t : Tree = content c.in_ok-ui_value.field-0 in
    let before : List Tree = map content c.loop-ui.items.items in
    let more : map content c.push.new.self.items ≡ before ++ t ∷ [] =
    ap (map content) c.in_ok-push.ensures.items ∙ map-append content c.loop-ui.items.items (c.in_ok-ui_value.field-0 ∷ []) in
    record {
      all = made-more ui_dict before (map content c.push.new.self.items) t c.args.uis.now c.loop-ui.ui-index _ c.loop-ui-test.true c.loop-ui.invariant.all more c.in_ok-ui_value.ensures.value;
      spelled = subst (λ (ts : List Tree). HaveSpellings (trees_of ts)) (sym more) (spelled-more before t c.loop-ui.invariant.spelled c.in_ok-ui_value.ensures.spelled);
    }

pub returns-clause-value : goal.returns-clause-value
returns-clause-value c =
    let made : List Tree = map content c.loop-ui.items.items in
    content-List c.loop-ui.items
    ∙ ap array_of (made-all ui_dict made c.args.uis.now c.loop-ui.ui-index c.loop-ui-test.false c.loop-ui.invariant.all)

pub returns-clause-spelled : goal.returns-clause-spelled
returns-clause-spelled c =
    let made : List Tree = map content c.loop-ui.items.items in
    subst HasSpelling (sym (content-List c.loop-ui.items))
    (list-spelled ui_dict made c.args.uis.now (made-all ui_dict made c.args.uis.now c.loop-ui.ui-index c.loop-ui-test.false c.loop-ui.invariant.all)
    (omega arith) c.loop-ui.invariant.spelled)
