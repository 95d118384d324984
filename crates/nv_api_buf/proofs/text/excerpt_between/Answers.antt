use Rattle.std.proofs.Common.{◌≡◌, List, ℕ, ap, sym, subst, ◌∙◌, ◌+◌, ◌∷◌, ◌++◌, arith, slice_range}
use Rattle.nv_value.specs.Content.{list}
use Rattle.nv_msgpack.specs.Shortest.{HasSpelling}
use Rattle.nv_places.specs.Flat.{line_at}
use Rattle.nv_buffer.proofs.Measures.{not_before_row}
use Rattle.nv_args.specs.Texts.{strings}
use Rattle.nv_api_buf.specs.inside.Parts.{part_of}
use Rattle.nv_api_buf.proofs.Between.{between-one, between-several, between-spelled}
use Rattle.nv_api_buf.proofs.text.excerpt_between.Goals as goal

pub add_rows-requires-clause-order : goal.add_rows-requires-clause-order
add_rows-requires-clause-order c = omega (arith, not_before_row c.args.start c.args.stop c.requires.order)

pub returns-then-first-last-clause-lines : goal.returns-then-first-last-clause-lines
returns-then-first-last-clause-lines c =
    let lines = c.args.text.now in
    c.in_ok-push.ensures.ok
    ∙ ap (λ l. l ++ c.in_ok-front.front) c.in_ok-lines.ensures
    ∙ c.in_ok-front.ensures
    ∙ sym (between-one lines c.args.start c.args.stop (omega arith) c.requires.stop_in.row)

pub returns-then-first-last-clause-spelled : goal.returns-then-first-last-clause-spelled
returns-then-first-last-clause-spelled c =
    subst (λ (l : List (List ℕ)). HasSpelling (list (strings l))) (sym (returns-then-first-last-clause-lines c))
    (between-spelled c.args.text.now c.args.start c.args.stop c.requires.narrow (not_before_row c.args.start c.args.stop c.requires.order) c.requires.stop_in.row)

pub returns-clause-lines : goal.returns-clause-lines
returns-clause-lines c =
    let lines = c.args.text.now in
    let front = c.in_ok-front.front in
    let rows = slice_range lines (c.args.start.row + 1) c.args.stop.row in
    c.in_ok-push-2.ensures.ok
    ∙ ap (λ l. l ++ c.in_ok-back.back) c.in_ok-add_rows.ensures
    ∙ ap (λ l. (l ++ rows) ++ c.in_ok-back.back) (c.in_ok-push.ensures.ok ∙ ap (λ l. l ++ front) c.in_ok-lines.ensures ∙ c.in_ok-front.ensures)
    ∙ ap (λ l. (part_of (line_at lines c.args.start.row) c.args.start.row c.args.start c.args.stop ∷ rows) ++ l) c.in_ok-back.ensures
    ∙ sym (between-several lines c.args.start c.args.stop (omega (arith, not_before_row c.args.start c.args.stop c.requires.order)) c.requires.stop_in.row)

pub returns-clause-spelled : goal.returns-clause-spelled
returns-clause-spelled c =
    subst (λ (l : List (List ℕ)). HasSpelling (list (strings l))) (sym (returns-clause-lines c))
    (between-spelled c.args.text.now c.args.start c.args.stop c.requires.narrow (not_before_row c.args.start c.args.stop c.requires.order) c.requires.stop_in.row)
