use Rattle.std.proofs.Common.{◌≡◌, ◌∙◌, ℕ, Option, min, length, rules, subst, sym}
use Rattle.nv_painter.specs.inside.Due.{IsDue}
use Rattle.nv_painter.proofs.DueLemmas.{due_attrs}
use Rattle.nv_painter.proofs.SketchLemmas.{adds_none}
use Rattle.nv_painter.proofs.ids.add_attrs_of_drawn.Goals as goal

pub returns-in_default : goal.returns-in_default
returns-in_default c row screen s =
    let attrs = c.args.attrs.now.items in
    let known = subst (λ (o : Option (ℕ × ℕ)). IsDue o attrs c.args.cells.now screen row) c.in_default.is s in
    sym (adds_none attrs screen known.ids)

pub returns : goal.returns
returns c row screen s =
    let cells = c.args.cells.now in
    let attrs = c.args.attrs.now.items in
    let due = c.in-Some.due in
    let known = subst (λ (o : Option (ℕ × ℕ)). IsDue o attrs cells screen row) c.in-Some.is s in
    let to : c.min-to.result ≡ min due.1 (length cells) = search rules in
    let from : c.min-from.result ≡ min due.0 c.min-to.result = search rules in
    c.in_ok-add_attrs_of.ensures ∙ due_attrs attrs due cells screen row c.min-from.result c.min-to.result known to from
