use Rattle.std.proofs.Common.{◌≡◌, refl, rules, ℤ, ◌<◌, ◌+◌}
use Rattle.nv_buffer.specs.Content.{Content, next_part}
use Rattle.nv_model.specs.Buffers.{text_splice}
use Rattle.nv_editor.specs.inside.Splicing.{IsMadeOrLeft}
use Rattle.nv_editor.proofs.MadeSplices.{text_made_ok}
use Rattle.nv_editor.proofs.NamesKept.{edit_name, numbers_stay}
use Rattle.nv_editor.proofs.Putting.{IsPut, put_here, put_updated, done_in, needed, looked_up_by, not_there}
use Rattle.std.specs.Prelude.{◌^◌, ◌<ℤ◌, All, length, [], ◌∷◌, Option, IfOk, OnErr, pos}
use Rattle.std.specs.List.{join_with_byte}
use Rattle.nv_buffer.specs.Splices.{IsInLine, IsNarrowLine, lines_between}
use Rattle.nv_buffer.specs.declared.buffer.Spliced.{Spliced}
use Rattle.nv_editor.proofs.buffers.Buffers.splice_text.Goals as goal

pub unreachable-requires : goal.unreachable-requires
unreachable-requires c =
    not_there c.self.inside.items.entries c.args.self.now c.args.handle c.self.view_is (search rules) c.in_default.ensures.value c.requires.there

pub put_text-made-requires-clause-start_in : goal.put_text-made-requires-clause-start_in
put_text-made-requires-clause-start_in c =
    let was = looked_up_by _ _ c.args.handle _ c.self.view_is (search rules) c.in-Some.ensures.value in
    needed c.args.self.now c.args.handle _ was (λ (b : Content). IsInLine b.text c.args.start) c.requires.start_in

pub put_text-made-requires-clause-stop_in : goal.put_text-made-requires-clause-stop_in
put_text-made-requires-clause-stop_in c =
    let was = looked_up_by _ _ c.args.handle _ c.self.view_is (search rules) c.in-Some.ensures.value in
    needed c.args.self.now c.args.handle _ was (λ (b : Content). IsInLine b.text c.args.stop) c.requires.stop_in

pub put_text-made-requires-clause-count : goal.put_text-made-requires-clause-count
put_text-made-requires-clause-count c =
    let was = looked_up_by _ _ c.args.handle _ c.self.view_is (search rules) c.in-Some.ensures.value in
    needed c.args.self.now c.args.handle _ was (λ (b : Content). c.args.start.row + length c.args.new + length b.text < c.args.stop.row + 1 + 2 ^ 32) c.requires.count

pub put_text-made-requires-clause-columns : goal.put_text-made-requires-clause-columns
put_text-made-requires-clause-columns c =
    let was = looked_up_by _ _ c.args.handle _ c.self.view_is (search rules) c.in-Some.ensures.value in
    needed c.args.self.now c.args.handle _ was (λ (b : Content). All IsNarrowLine (lines_between b.text c.args.start c.args.stop c.args.new)) c.requires.columns

pub put_text-made-requires-clause-tick : goal.put_text-made-requires-clause-tick
put_text-made-requires-clause-tick c =
    let was = looked_up_by _ _ c.args.handle _ c.self.view_is (search rules) c.in-Some.ensures.value in
    needed c.args.self.now c.args.handle _ was (λ (b : Content). ¬ ((c.args.start ≡ c.args.stop) × (c.args.new ≡ [] ∷ [])) → b.tick <ℤ pos 9223372036854775807) c.requires.tick

pub invariant_of-self : goal.invariant_of-self
invariant_of-self c =
    let is : IsPut c.self.inside.items.entries (c.get_mut.follows.lender c.put_text-made.new.self).entries c.args.handle c.in-Some.buffer.now c.put_text-made.new.self =
    put_here _ _ _ c.args.handle _ _ refl (search rules) c.in-Some.ensures.value (c.get_mut.follows.holds c.put_text-made.new.self).0 in
    numbers_stay _ _ _ _ _ _ is (edit_name (join_with_byte 10 c.args.new) c.put_text-made.result c.in-Some.buffer.now c.put_text-made.new.self c.put_text-made.ensures.none c.put_text-made.ensures.edit c.put_text-made.ensures.err) c.self.invariant

pub returns-clause-updated : goal.returns-clause-updated
returns-clause-updated c =
    let is : IsPut c.args.self.now (c.get_mut.follows.lender c.put_text-made.new.self).entries c.args.handle c.in-Some.buffer.now c.put_text-made.new.self =
    put_here _ _ _ c.args.handle _ _ c.self.view_is (search rules) c.in-Some.ensures.value (c.get_mut.follows.holds c.put_text-made.new.self).0 in
    put_updated _ _ _ _ _ is

pub returns-clause-made : goal.returns-clause-made
returns-clause-made c =
    let is : IsPut c.args.self.now (c.get_mut.follows.lender c.put_text-made.new.self).entries c.args.handle c.in-Some.buffer.now c.put_text-made.new.self =
    put_here _ _ _ c.args.handle _ _ c.self.view_is (search rules) c.in-Some.ensures.value (c.get_mut.follows.holds c.put_text-made.new.self).0 in
    done_in _ _ _ _ _ is (λ (b d : Content). IfOk c.put_text-made.result (λ (s : Option Spliced). IsMadeOrLeft s b d (text_splice (next_part b) b.text c.args.start c.args.stop c.args.new)))
    (text_made_ok c.put_text-made.result c.in-Some.buffer.now c.put_text-made.new.self c.args.start c.args.stop c.args.new
    (needed c.args.self.now c.args.handle _ is.was (λ (b : Content). IsInLine b.text c.args.start) c.requires.start_in)
    (needed c.args.self.now c.args.handle _ is.was (λ (b : Content). IsInLine b.text c.args.stop) c.requires.stop_in)
    c.requires.order c.requires.some_line
    c.known.ensures.buffer c.known.ensures.text c.known-2.ensures.text c.put_text-made.ensures.some c.put_text-made.ensures.none c.put_text-made.ensures.told c.put_text-made.ensures.edit)

pub returns-clause-err : goal.returns-clause-err
returns-clause-err c =
    let is : IsPut c.args.self.now (c.get_mut.follows.lender c.put_text-made.new.self).entries c.args.handle c.in-Some.buffer.now c.put_text-made.new.self =
    put_here _ _ _ c.args.handle _ _ c.self.view_is (search rules) c.in-Some.ensures.value (c.get_mut.follows.holds c.put_text-made.new.self).0 in
    done_in _ _ _ _ _ is (λ (b d : Content). OnErr c.put_text-made.result (d ≡ b)) c.put_text-made.ensures.err
