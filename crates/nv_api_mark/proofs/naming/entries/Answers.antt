use Rattle.std.proofs.Common.{◌≡◌, ◌∙◌, ℕ, sym, ap, subst, List, [], ◌∷◌, ◌++◌, map, arith, Bor}
use Rattle.std.proofs.lemmas.List.{map-append}
use Rattle.nv_value.specs.Content.{Tree, in_turn, text}
use Rattle.nv_value.specs.View.{pair_content}
use Rattle.nv_value.proofs.Contents.{content-Pairs}
use Rattle.nv_msgpack.specs.Shortest.{HasSpelling, HaveSpellings}
use Rattle.nv_model.specs.Answering.{dict_of, natural}
use Rattle.nv_args.proofs.Spelled.{made-all, made-more}
use Rattle.nv_api_mark.proofs.Spelled.{dict-spelled, turns-more}
use Rattle.nv_api_mark.proofs.naming.entries.Goals as goal

abbrev told : Bor (List ℕ) × ℕ → Tree × Tree
told e = (text e.0.now, natural e.1)

pub loop-name-preserved : goal.loop-name-preserved
loop-name-preserved c =
    let before : List (Tree × Tree) = map pair_content c.loop-name.fields.items in
    let one : Tree × Tree = pair_content c.in_ok-entry.field-0 in
    let more : map pair_content c.push.new.self.items ≡ before ++ one ∷ [] =
    ap (map pair_content) c.in_ok-push.ensures.items ∙ map-append pair_content c.loop-name.fields.items (c.in_ok-entry.field-0 ∷ []) in
    record {
      all = made-more told before (map pair_content c.push.new.self.items) one c.args.names.now c.loop-name.name-index _ c.loop-name-test.true c.loop-name.invariant.all more c.in_ok-entry.ensures.value;
      spelled = subst (λ (ps : List (Tree × Tree)). HaveSpellings (in_turn ps)) (sym more)
          (turns-more before one c.loop-name.invariant.spelled c.in_ok-entry.ensures.spelled.0 c.in_ok-entry.ensures.spelled.1);
    }

pub returns-clause-value : goal.returns-clause-value
returns-clause-value c =
    content-Pairs c.loop-name.fields
    ∙ ap dict_of (made-all told (map pair_content c.loop-name.fields.items) c.args.names.now c.loop-name.name-index c.loop-name-test.false c.loop-name.invariant.all)

pub returns-clause-spelled : goal.returns-clause-spelled
returns-clause-spelled c =
    let made : List (Tree × Tree) = map pair_content c.loop-name.fields.items in
    subst HasSpelling (sym (content-Pairs c.loop-name.fields))
    (dict-spelled told made c.args.names.now (made-all told made c.args.names.now c.loop-name.name-index c.loop-name-test.false c.loop-name.invariant.all)
    (omega arith) c.loop-name.invariant.spelled)
