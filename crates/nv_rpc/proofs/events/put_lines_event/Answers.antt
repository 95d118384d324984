use Rattle.std.proofs.Common.{◌≡◌, ◌++◌, ◌∙◌, map, rules, of_z, to_z, w64}
use Rattle.nv_value.specs.Content.{text, trees_of}
use Rattle.nv_rpc.specs.inside.Fronts.{lines_front}
use Rattle.nv_rpc.proofs.Told.{lines_put}
use Rattle.nv_rpc.proofs.events.put_lines_event.Goals as goal

pub returns : goal.returns
returns c =
    let old = c.args.into.now.items in
    let buffer : to_z w64 (of_z w64 c.args.buffer) ≡ c.args.buffer = search rules in
    let tick : to_z w64 (of_z w64 c.args.tick) ≡ c.args.tick = search rules in
    let first : to_z w64 (of_z w64 c.args.first) ≡ c.args.first = search rules in
    let last : to_z w64 (of_z w64 c.args.last) ≡ c.args.last = search rules in
    lines_put old c.put_lines_front.new.into.items c.put_lines.new.into.items c.extend_from_slice.new.self.items
    c.args.buffer c.args.tick c.args.first c.args.last (trees_of (map text c.args.lines.now))
    (c.in_ok-put_lines_front.ensures ∙ (λ i. old ++ lines_front (buffer i) (tick i) (first i) (last i)))
    c.in_ok-put_lines.ensures c.in_ok-extend_from_slice.ensures.items
