use Rattle.std.proofs.Common.{◌≡◌, ◌++◌, List, take, filter, ap, subst, ◌∙◌, arith, rules}
use Rattle.std.specs.Prelude.{IsPermutation}
use Rattle.std.proofs.lemmas.Fn.{filter_same}
use Rattle.std.proofs.lemmas.List.{take_all}
use Rattle.std.proofs.lemmas.List.Sorted.{answers_always}
use Rattle.nv_marks.specs.Queries.{is_selected}
use Rattle.nv_marks.specs.declared.extmark.Mark.{Mark}
use Rattle.nv_scene.specs.inside.Painting.{may_show, reaching_rows}
use Rattle.nv_scene.proofs.Painted.{fewer_pass}
use Rattle.nv_scene.proofs.spans.marks_for.Goals as goal

pub returns : goal.returns
returns c =
    let marks : List Mark = c.args.marks.now.marks in
    let asked = is_selected (reaching_rows c.args.first c.args.behind) in
    let starting : List Mark = filter asked marks in
    let all : take c.len.result starting ≡ starting = take_all c.len.result starting (omega (arith, fewer_pass asked marks, c.len.ensures.count)) in
    let found : c.select.new.into.items ≡ starting =
    c.in_ok-select.ensures.ok ∙ ap (λ (l : List Mark). l ++ take c.len.result starting) c.new-found.ensures.items ∙ all in
    let kept : c.retain.new.self.items ≡ filter (may_show c.args.first) starting =
    filter_same _ (may_show c.args.first) _ (λ x b f' k. search rules) _ _ c.retain.ensures.filtered ∙ ap (filter (may_show c.args.first)) found in
    record {
      same_marks = subst (λ (l : List Mark). IsPermutation l c.sort_unstable_by_key.new.self.items) kept c.sort_unstable_by_key.ensures.permutation;
      rising = c.sort_unstable_by_key.ensures.sorted (λ (m : Mark). (m.priority, m.ns, m.id)) (answers_always _ _ _ (λ f a r g h. search rules));
    }
