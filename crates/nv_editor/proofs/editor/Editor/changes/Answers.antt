use Rattle.std.proofs.Common.{◌≡◌, ℤ, ◌∙◌, subst, rules, to_z, of_z, w64}
use Rattle.nv_undo.specs.Tree.{last}
use Rattle.nv_model.specs.Seen.{sealed_undo}
use Rattle.nv_model.specs.Standing.{seen_buffer_now}
use Rattle.nv_editor.specs.Sound.{content_at}
use Rattle.nv_editor.proofs.SealedTrees.{last_is}
use Rattle.nv_editor.proofs.editor.Editor.changes.Goals as goal

pub returns : goal.returns
returns c =
    let e : to_z w64 (of_z w64 c.args.buffer) ≡ c.args.buffer = search rules in
    let n : ℤ = to_z w64 (of_z w64 c.args.buffer) in
    let known = c.known_buffer.ensures.buffer in
    subst (λ (k : ℤ). c.last_number.result ≡ last (sealed_undo (seen_buffer_now (content_at c.args.self.now k)))) e
    (c.last_number.ensures ∙ last_is (content_at c.args.self.now n) known.tree known.now)
