use Rattle.std.proofs.Common.{ℤ, to_z, of_z, w64}
use Rattle.nv_undo.specs.Tree.{IsTree}
use Rattle.nv_editor.specs.inside.Table.{content_in}
use Rattle.nv_editor.proofs.EditsMade.{seal_sound, seal_kept, stayed_sound, stayed_kept}
use Rattle.nv_editor.proofs.editor.Editor.seal_buffer.Goals as goal

pub invariant_of-self : goal.invariant_of-self
invariant_of-self c =
    let n : ℤ = to_z w64 (of_z w64 c.args.buffer) in (
      stayed_sound c.self.inside.buffers c.seal.new.self c.self.inside.stage n c.self.invariant.0 c.in_err-seal.ensures.updated c.in_err-seal.ensures.err,
      stayed_kept c.self.inside.edited.items c.self.inside.edited.items c.self.inside.buffers c.seal.new.self n c.self.invariant.1
          c.in_err-seal.ensures.updated (λ k outside. outside) c.in_err-seal.ensures.err,
    )

pub invariant_of-self-2 : goal.invariant_of-self-2
invariant_of-self-2 c =
    let n : ℤ = to_z w64 (of_z w64 c.args.buffer) in
    let tree : IsTree (content_in c.self.inside.buffers n).undo = c.seal.ensures.known.tree in (
      seal_sound c.self.inside.buffers c.seal.new.self c.self.inside.stage n c.self.invariant.0 c.in_ok-seal.ensures.updated c.in_ok-seal.ensures.ok,
      seal_kept c.self.inside.edited.items c.self.inside.buffers c.seal.new.self n c.self.invariant.1 c.in_ok-seal.ensures.updated c.in_ok-seal.ensures.ok
          c.in_ok-seal.ensures.sealed tree,
    )
