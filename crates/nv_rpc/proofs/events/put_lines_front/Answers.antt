use Rattle.std.proofs.Common.{◌≡◌, ◌++◌, ◌∙◌, ℤ, ap, rules, of_z, to_z, w64}
use Rattle.nv_value.specs.Content.{integer}
use Rattle.nv_msgpack.specs.Shortest.{shortest}
use Rattle.nv_rpc.specs.Messages.{buffer_handle}
use Rattle.nv_rpc.proofs.Told.{lines_front_put}
use Rattle.nv_rpc.proofs.events.put_lines_front.Goals as goal

pub returns : goal.returns
returns c =
    let named = c.extend_from_slice.new.self.items in
    let one = c.put_handle.new.into.items in
    let two = c.put_integer.new.into.items in
    let three = c.put_integer-2.new.into.items in
    let buffer : to_z w64 (of_z w64 c.args.buffer) ≡ c.args.buffer = search rules in
    let tick : to_z w64 (of_z w64 c.args.tick) ≡ c.args.tick = search rules in
    let first : to_z w64 (of_z w64 c.args.first) ≡ c.args.first = search rules in
    let last : to_z w64 (of_z w64 c.args.last) ≡ c.args.last = search rules in
    lines_front_put c.args.into.now.items named one two three c.put_integer-3.new.into.items c.args.buffer c.args.tick c.args.first c.args.last
    c.in_ok-extend_from_slice.ensures.items
    (c.in_ok-put_handle.ensures ∙ ap (λ (n : ℤ). named ++ shortest (buffer_handle n)) buffer)
    (c.in_ok-put_integer.ensures.ok ∙ ap (λ (n : ℤ). one ++ shortest (integer n)) tick)
    (c.in_ok-put_integer-2.ensures.ok ∙ ap (λ (n : ℤ). two ++ shortest (integer n)) first)
    (c.in_ok-put_integer-3.ensures.ok ∙ ap (λ (n : ℤ). three ++ shortest (integer n)) last)
