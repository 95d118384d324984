use Rattle.std.proofs.Common.{◌≡◌, ap, ◌∙◌, Bool, ℕ, List, Option, Some, subst}
use Rattle.std.specs.Prelude.{IfOk}
use Rattle.nv_marks.specs.Marks.{Marks, mark_at}
use Rattle.nv_marks.specs.declared.extmark.Mark.{Mark}
use Rattle.nv_watch.specs.FollowedMarks.{Followed, is_mark_elsewhere}
use Rattle.nv_watch.proofs.placing.is_elsewhere_in.Goals as goal

pub returns-in-Some : goal.returns-in-Some
returns-in-Some c =
    let f = c.args.followed.now in
    let there : Some c.in-Some.mark ≡ mark_at c.args.buffer.now.marks.marks f.ns f.id =
    c.in-Some.ensures
    ∙ ap (λ (ms : Marks). mark_at ms.marks c.followed.inside.ns c.followed.inside.id) c.marks.ensures.value
    ∙ ap (λ (g : Followed). mark_at c.args.buffer.now.marks.marks g.ns g.id) c.followed.view_is in
    subst (λ (o : Option Mark). IfOk c.is_mark_elsewhere.result (λ (answer : Bool). answer ≡ is_mark_elsewhere f c.args.buffer.now.text o)) there
    (subst (λ (t : List (List ℕ)). IfOk c.is_mark_elsewhere.result (λ (answer : Bool). answer ≡ is_mark_elsewhere f t (Some c.in-Some.mark))) c.text.ensures.value
    c.is_mark_elsewhere.ensures)
