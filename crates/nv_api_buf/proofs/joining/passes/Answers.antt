use Rattle.std.proofs.Common.{◌≡◌, ◌≤◌, ◌-◌, ◌+◌, ℕ, List, All, length, take, drop, ap, refl, sym, ◌∙◌, arith}
use Rattle.std.specs.List.{list_any}
use Rattle.nv_places.specs.Flat.{IsLine, line_at}
use Rattle.nv_buffer.specs.Content.{next_part}
use Rattle.nv_buffer.specs.Splices.{with_front, with_back, lines_between}
use Rattle.nv_buffer.proofs.Measures.{not_before_row}
use Rattle.nv_buffer.proofs.Between.{length-between}
use Rattle.nv_model.specs.Buffers.{text_splice}
use Rattle.nv_model.specs.Standing.{seen_buffer_now}
use Rattle.nv_api_buf.specs.inside.Parts.{is_longer}
use Rattle.nv_api_buf.proofs.Splices.{text_put, between_lines}
use Rattle.nv_api_buf.proofs.Passing.{passes-is, free}
use Rattle.nv_api_buf.proofs.joining.passes.Goals as goal

pub returns-clause-row : goal.returns-clause-row
returns-clause-row c =
    let text = c.args.buffer.now.text in
    let joined = lines_between text c.args.start c.args.stop c.args.lines.now in
    let rows : c.args.start.row ≤ c.args.stop.row = not_before_row c.args.start c.args.stop c.requires.order in
    let many : length joined ≡ length c.args.lines.now =
    length-between (take c.args.start.col (line_at text c.args.start.row)) (drop c.args.stop.col (line_at text c.args.stop.row)) c.args.lines.now c.requires.some in
    let kept : c.count.result - (c.args.stop.row - c.args.start.row + 1) ≡ length text - (c.args.stop.row + 1 - c.args.start.row) =
    omega (arith, rows, c.count.ensures.value, ap (length {A = List ℕ}) c.text-text.ensures.value) in
    let front = c.before-2.ensures ∙ ap (λ (t : List (List ℕ)). take c.args.start.col (line_at t c.args.start.row)) c.text-text.ensures.value in
    let back = c.behind.ensures ∙ ap (λ (t : List (List ℕ)). drop c.args.stop.col (line_at t c.args.stop.row)) c.text-text.ensures.value in
    let long : c.any_too_long.result ≡ list_any (is_longer c.args.limits.line_bytes) joined =
    c.any_too_long.ensures ∙ (λ i. list_any (is_longer c.args.limits.line_bytes) (with_back (with_front (front i) c.args.lines.now) (back i))) in
    let are : All IsLine joined = between_lines text c.args.lines.now c.args.start c.args.stop c.known.ensures.text.lines c.len-many.ensures.lines in
    let puts = text_put (next_part c.args.buffer.now) text c.args.lines.now joined c.args.start c.args.stop c.requires.start_in c.requires.stop_in c.requires.order c.requires.some c.known.ensures.text.lines refl are in
    c.any_of.ensures
    ∙ passes-is c.args.limits (seen_buffer_now c.args.buffer.now) (text_splice (next_part c.args.buffer.now) text c.args.start c.args.stop c.args.lines.now) c.args.start.row (c.args.stop.row + 1)
    _ c.len-many.result joined c.too_many.result c.any_too_long.result c.tick_passes.result puts
    kept (c.len-many.ensures.value ∙ sym many) c.too_many.ensures long c.tick_passes.ensures.passes

pub returns-clause-columns : goal.returns-clause-columns
returns-clause-columns c none =
    let text = c.args.buffer.now.text in
    let joined = lines_between text c.args.start c.args.stop c.args.lines.now in
    let rows : c.args.start.row ≤ c.args.stop.row = not_before_row c.args.start c.args.stop c.requires.order in
    let many : length joined ≡ length c.args.lines.now =
    length-between (take c.args.start.col (line_at text c.args.start.row)) (drop c.args.stop.col (line_at text c.args.stop.row)) c.args.lines.now c.requires.some in
    let kept : c.count.result - (c.args.stop.row - c.args.start.row + 1) ≡ length text - (c.args.stop.row + 1 - c.args.start.row) =
    omega (arith, rows, c.count.ensures.value, ap (length {A = List ℕ}) c.text-text.ensures.value) in
    let front = c.before-2.ensures ∙ ap (λ (t : List (List ℕ)). take c.args.start.col (line_at t c.args.start.row)) c.text-text.ensures.value in
    let back = c.behind.ensures ∙ ap (λ (t : List (List ℕ)). drop c.args.stop.col (line_at t c.args.stop.row)) c.text-text.ensures.value in
    let long : c.any_too_long.result ≡ list_any (is_longer c.args.limits.line_bytes) joined =
    c.any_too_long.ensures ∙ (λ i. list_any (is_longer c.args.limits.line_bytes) (with_back (with_front (front i) c.args.lines.now) (back i))) in
    (free c.args.limits.lines c.args.limits.line_bytes text joined c.args.start.row (c.args.stop.row + 1) _ c.len-many.result c.too_many.result c.any_too_long.result c.tick_passes.result
    (omega arith) (omega arith) (omega arith) (omega (arith, c.requires.stop_in.row)) kept (c.len-many.ensures.value ∙ sym many) c.too_many.ensures long (sym c.any_of.ensures ∙ none)).columns
