use Rattle.std.proofs.Common.{◌≡◌, ℤ, sym, subst, rules, to_z, of_z, w64}
use Rattle.nv_undo.specs.Ways.{IsNext}
use Rattle.nv_model.specs.Standing.{PresentEditor}
use Rattle.nv_editor.specs.Sound.{content_at}
use Rattle.nv_editor.specs.inside.Table.{content_in}
use Rattle.nv_editor.proofs.EditsMade.{arrived_sound, arrived_kept}
use Rattle.nv_editor.proofs.editor.Editor.arrive.Goals as goal

pub arrive-requires-clause-next : goal.arrive-requires-clause-next
arrive-requires-clause-next c =
    let e : to_z w64 (of_z w64 c.args.buffer) ≡ c.args.buffer = search rules in
    subst (λ (n : ℤ). IsNext (content_in c.self.inside.buffers n).undo c.args.leg) (sym e)
    (subst (λ (x : PresentEditor). IsNext (content_at x c.args.buffer).undo c.args.leg) (sym c.self.view_is) c.requires.next)

pub invariant_of-self : goal.invariant_of-self
invariant_of-self c =
    let n : ℤ = to_z w64 (of_z w64 c.args.buffer) in (
      arrived_sound c.self.inside.buffers c.arrive.new.self c.self.inside.stage n c.args.leg c.self.invariant.0 c.arrive.ensures.updated c.arrive.ensures.buffer,
      arrived_kept c.self.inside.edited.items c.self.inside.buffers c.arrive.new.self n c.args.leg c.self.invariant.1 c.arrive.ensures.updated
          c.arrive.ensures.buffer,
    )
