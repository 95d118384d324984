use Rattle.std.proofs.Common.{◌≡◌, ◌∙◌, sym, ap, subst, List, [], ◌∷◌, ◌++◌, map, true}
use Rattle.std.proofs.lemmas.List.{map-append}
use Rattle.nv_value.specs.Content.{Tree, trees_of}
use Rattle.nv_value.specs.View.{content}
use Rattle.nv_value.proofs.Contents.{content-List}
use Rattle.nv_msgpack.specs.Shortest.{HasSpelling, HaveSpellings}
use Rattle.nv_model.specs.Answering.{array_of}
use Rattle.nv_api_mark.specs.Listing.{listed_mark}
use Rattle.nv_args.proofs.Spelled.{list-spelled, made-all, made-more, spelled-more}
use Rattle.nv_api_mark.proofs.listing.detailed_marks.Goals as goal

pub loop-mark-preserved : goal.loop-mark-preserved
loop-mark-preserved c =
    let before : List Tree = map content c.loop-mark.items.items in
    let one : Tree = content c.in_ok-detailed_value.field-0 in
    let more : map content c.push.new.self.items ≡ before ++ one ∷ [] =
    ap (map content) c.in_ok-push.ensures.items ∙ map-append content c.loop-mark.items.items (c.in_ok-detailed_value.field-0 ∷ []) in
    record {
      all = made-more (listed_mark c.args.editor.now.stage c.args.live.handle true) before (map content c.push.new.self.items) one c.args.marks.now c.loop-mark.mark-index _ c.loop-mark-test.true
          c.loop-mark.invariant.all more c.in_ok-detailed_value.ensures.told;
      spelled = subst (λ (ts : List Tree). HaveSpellings (trees_of ts)) (sym more) (spelled-more before one c.loop-mark.invariant.spelled c.in_ok-detailed_value.ensures.spelled);
    }

pub returns-clause-told : goal.returns-clause-told
returns-clause-told c =
    content-List c.loop-mark.items
    ∙ ap array_of (made-all (listed_mark c.args.editor.now.stage c.args.live.handle true) (map content c.loop-mark.items.items) c.args.marks.now c.loop-mark.mark-index c.loop-mark-test.false c.loop-mark.invariant.all)

pub returns-clause-spelled : goal.returns-clause-spelled
returns-clause-spelled c =
    let f = listed_mark c.args.editor.now.stage c.args.live.handle true in
    let made : List Tree = map content c.loop-mark.items.items in
    subst HasSpelling (sym (content-List c.loop-mark.items))
    (list-spelled f made c.args.marks.now (made-all f made c.args.marks.now c.loop-mark.mark-index c.loop-mark-test.false c.loop-mark.invariant.all)
    c.requires.few c.loop-mark.invariant.spelled)
