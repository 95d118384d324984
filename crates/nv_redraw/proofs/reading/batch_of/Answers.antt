use Rattle.std.proofs.Common.{◌≡◌, List, ap, ◌∙◌}
use Rattle.nv_linegrid.specs.declared.event.Redraw.{Redraw}
use Rattle.nv_value.specs.View.{content}
use Rattle.nv_redraw.specs.Values.{batch_tree}
use Rattle.nv_redraw.specs.inside.SameTrees.{same_tree}
use Rattle.nv_redraw.proofs.SameLemmas.{candidates_tell, none_tell}
use Rattle.nv_redraw.proofs.reading.batch_of.Goals as goal

pub returns-then-right : goal.returns-then-right
returns-then-right c =
    let t = content c.args.value.now in
    let es = c.in_ok-events.events.items in
    let is : c.in_ok-right.right ≡ same_tree (batch_tree es) t = c.in_ok-right.ensures ∙ ap (λ (l : List Redraw). same_tree (batch_tree l) t) c.as_slice.ensures.value in
    candidates_tell es t c.in_ok-right.right is c.if-right.true

pub returns-else-right : goal.returns-else-right
returns-else-right c =
    let t = content c.args.value.now in
    let es = c.in_ok-events.events.items in
    let is : c.in_ok-right.right ≡ same_tree (batch_tree es) t = c.in_ok-right.ensures ∙ ap (λ (l : List Redraw). same_tree (batch_tree l) t) c.as_slice.ensures.value in
    none_tell es t c.in_ok-right.right c.in_ok-events.ensures is c.if-right.false
