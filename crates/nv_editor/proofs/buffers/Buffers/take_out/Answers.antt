use Rattle.std.proofs.Common.{◌≡◌, ℕ, ℤ, List, Some, refl, sym, subst, rules}
use Rattle.nv_buffer.specs.Content.{Content}
use Rattle.nv_editor.specs.inside.Named.{AreNameCounts, number_named, with_one_of}
use Rattle.nv_editor.proofs.NamesKept.{numbers_before}
use Rattle.nv_editor.proofs.Putting.{looked_up_by}
use Rattle.nv_editor.proofs.TakingOut.{but_at, removed_here, taken_out}
use Rattle.nv_editor.proofs.buffers.Buffers.take_out.Goals as goal

pub invariant_of-self : goal.invariant_of-self
invariant_of-self c =
    let es = c.self.inside.items.entries in
    let was = looked_up_by es es c.args.handle (Some c.in-Some.buffer) refl (search rules) c.in-Some.ensures.value in
    let left = removed_here es es c.remove.new.self.entries c.args.handle refl (search rules) c.remove.ensures.entries in
    let others = number_named (but_at c.args.handle es) in
    let named : c.as_slice.result.now ≡ c.in-Some.buffer.name = search rules in
    subst (λ (l : List (ℤ × Content)). AreNameCounts c.take.new.self.counts (number_named l)) (sym left)
    (c.take.ensures others
    (subst (λ (l : List ℕ). AreNameCounts c.self.inside.names.counts (with_one_of l others)) (sym named)
    (numbers_before _ es c.args.handle c.in-Some.buffer was c.self.invariant)))

pub returns-in-Some : goal.returns-in-Some
returns-in-Some c =
    taken_out c.self.inside.items.entries c.args.self.now c.remove.new.self.entries c.args.handle c.self.view_is (search rules)
    c.remove.ensures.updates.1 c.remove.ensures.entries

pub returns-in_default : goal.returns-in_default
returns-in_default c =
    taken_out c.self.inside.items.entries c.args.self.now c.remove.new.self.entries c.args.handle c.self.view_is (search rules)
    c.remove.ensures.updates.1 c.remove.ensures.entries
