use Rattle.std.proofs.Common.{◌≡◌, ◌∙◌, sym, ap, subst, List, [], ◌∷◌, ◌++◌, map, rules, arith, get_or}
use Rattle.std.proofs.lemmas.List.{map-append}
use Rattle.std.proofs.lemmas.Simd.{map-map}
use Rattle.nv_value.specs.Content.{Tree, trees_of}
use Rattle.nv_value.specs.View.{content}
use Rattle.nv_value.proofs.Contents.{content-List}
use Rattle.nv_msgpack.specs.Shortest.{HasSpelling, HaveSpellings}
use Rattle.nv_model.specs.Answering.{array_of}
use Rattle.nv_windows.specs.Workspace.{Page, page_of}
use Rattle.nv_windows.specs.declared.window.Tabpage.{Tabpage}
use Rattle.nv_api_win.specs.Windows.{tabpage_handle}
use Rattle.nv_args.proofs.Spelled.{list-spelled, made-all, made-more, spelled-more}
use Rattle.nv_api_win.proofs.values.tabpage_list.Goals as goal

pub loop-tabpage-preserved : goal.loop-tabpage-preserved
loop-tabpage-preserved c =
    let t : Tree = content c.in_ok-tabpage_value.field-0 in
    let before : List Tree = map content c.loop-tabpage.items.items in
    let ts : List Tabpage = c.tabpages-tabpages.result.now in
    let more : map content c.push.new.self.items ≡ before ++ t ∷ [] =
    ap (map content) c.in_ok-push.ensures.items ∙ map-append content c.loop-tabpage.items.items (c.in_ok-tabpage_value.field-0 ∷ []) in
    let is : t ≡ tabpage_handle (get_or ts c.loop-tabpage.tabpage-index c.tabpage-item.result).handle = search rules in
    record {
      all = made-more (λ (u : Tabpage). tabpage_handle u.handle) before (map content c.push.new.self.items) t ts c.loop-tabpage.tabpage-index c.tabpage-item.result c.loop-tabpage-test.true c.loop-tabpage.invariant.all more is;
      spelled = subst (λ (us : List Tree). HaveSpellings (trees_of us)) (sym more) (spelled-more before t c.loop-tabpage.invariant.spelled c.in_ok-tabpage_value.ensures.spelled);
    }

pub returns-clause-value : goal.returns-clause-value
returns-clause-value c =
    let made : List Tree = map content c.loop-tabpage.items.items in
    let ts : List Tabpage = c.tabpages-tabpages.result.now in
    content-List c.loop-tabpage.items
    ∙ ap array_of (made-all (λ (t : Tabpage). tabpage_handle t.handle) made ts c.loop-tabpage.tabpage-index c.loop-tabpage-test.false c.loop-tabpage.invariant.all
    ∙ sym (map-map (λ (t : Page). tabpage_handle t.handle) page_of ts)
    ∙ ap (map (λ (t : Page). tabpage_handle t.handle)) c.tabpages-tabpages.ensures)

pub returns-clause-spelled : goal.returns-clause-spelled
returns-clause-spelled c =
    let made : List Tree = map content c.loop-tabpage.items.items in
    let ts : List Tabpage = c.tabpages-tabpages.result.now in
    subst HasSpelling (sym (content-List c.loop-tabpage.items))
    (list-spelled (λ (t : Tabpage). tabpage_handle t.handle) made ts (made-all (λ (t : Tabpage). tabpage_handle t.handle) made ts c.loop-tabpage.tabpage-index c.loop-tabpage-test.false c.loop-tabpage.invariant.all)
    (omega arith) c.loop-tabpage.invariant.spelled)
