use Rattle.std.proofs.Common.{◌≡◌, ℤ, List, [], ◌∷◌, ◌++◌, refl, ap, sym, subst, ◌∙◌, rules, to_z, of_z, w64}
use Rattle.std.specs.Prelude.{◌<ℤ◌, All}
use Rattle.nv_buffer.specs.Content.{Content, fresh_content}
use Rattle.nv_model.specs.Editors.{handles_of}
use Rattle.nv_editor.proofs.NamesKept.{numbers_pushed}
use Rattle.nv_editor.proofs.TakingOut.{inserted}
use Rattle.nv_editor.proofs.buffers.Buffers.make.Goals as goal

pub invariant_of-self-2 : goal.invariant_of-self-2
invariant_of-self-2 c =
    let e : to_z w64 (of_z w64 c.args.handle) ≡ c.args.handle = search rules in
    let es = c.self.inside.items.entries in
    let above = subst (λ (l : List (ℤ × Content)). All (λ (k : ℤ). k <ℤ c.args.handle) (handles_of l)) (sym c.self.view_is) c.requires.above in
    numbers_pushed _ es c.insert.new.self.entries c.args.handle c.put_listed.new.self
    (inserted es es c.insert.new.self.entries c.args.handle c.put_listed.new.self refl e above c.in_ok-insert.ensures.entries)
    (ap (λ (b : Content). b.name) c.put_listed.ensures ∙ ap (λ (b : Content). b.name) c.in_ok-buffer.ensures) c.self.invariant

pub returns-clause-ok : goal.returns-clause-ok
returns-clause-ok c =
    let e : to_z w64 (of_z w64 c.args.handle) ≡ c.args.handle = search rules in
    let made : c.put_listed.new.self ≡ fresh_content c.args.handle c.args.listed =
    c.put_listed.ensures ∙ ap (λ (b : Content). record b { listed = c.args.listed }) c.in_ok-buffer.ensures
    ∙ ap (λ (k : ℤ). fresh_content k c.args.listed) e in
    inserted c.self.inside.items.entries c.args.self.now c.insert.new.self.entries c.args.handle c.put_listed.new.self
    c.self.view_is e c.requires.above c.in_ok-insert.ensures.entries
    ∙ ap (λ (b : Content). c.args.self.now ++ (c.args.handle, b) ∷ []) made
