use Rattle.std.proofs.Common.{◌≡◌, List, ◌++◌, take, filter, length, All, ap, subst, ◌∙◌, arith, rules}
use Rattle.std.proofs.lemmas.List.{take_all}
use Rattle.nv_marks.specs.Marks.{Marks}
use Rattle.nv_marks.specs.Order.{starts_within}
use Rattle.nv_marks.specs.declared.extmark.Mark.{Mark}
use Rattle.nv_buffer.specs.Marks.{IsMarkIn}
use Rattle.nv_buffer.specs.Splices.{IsNarrowText}
use Rattle.nv_watch.proofs.AllMarks.{first_place, last_place, all_within}
use Rattle.nv_watch.proofs.following.marks_of.Goals as goal

pub returns : goal.returns
returns c =
    let marks : List Mark = c.args.buffer.now.marks.marks in
    let narrow : IsNarrowText c.args.buffer.now.text = search rules in
    let are : All (IsMarkIn c.args.buffer.now.text) marks = subst (λ (k : Marks). All (IsMarkIn c.args.buffer.now.text) k.marks) c.marks-marks.ensures.value c.marks-marks.ensures.places in
    let all : filter (starts_within first_place last_place) marks ≡ marks = all_within _ marks narrow are in
    let count : c.len-count.result ≡ length marks = search rules in
    let ok : c.range.new.into.items ≡ c.in_ok-found.found.items ++ take c.len-count.result (filter (starts_within first_place last_place) marks) = search rules in
    ok ∙ ap (λ (l : List Mark). l ++ take c.len-count.result (filter (starts_within first_place last_place) marks)) c.in_ok-found.ensures.items
    ∙ ap (λ (l : List Mark). take c.len-count.result l) all
    ∙ take_all c.len-count.result marks (omega (arith, count))
