use Rattle.std.proofs.Common.{◌≡◌, ℕ, ℤ, ◌≤◌, ◌∙◌, List, ap, length, sym, subst, rules, to_z, of_z, w64}
use Rattle.nv_undo.specs.Tree.{last}
use Rattle.nv_undo.specs.Ways.{undo_legs, redo_legs, legs_to}
use Rattle.nv_undo.specs.declared.legs.Leg.{Leg}
use Rattle.nv_buffer.specs.Content.{Content, after_seal}
use Rattle.nv_model.specs.Answers.{undo_splices}
use Rattle.nv_model.specs.Seen.{sealed_undo}
use Rattle.nv_model.specs.Standing.{seen_buffer_now}
use Rattle.nv_editor.specs.Sound.{content_at}
use Rattle.nv_editor.proofs.SealedTrees.{cost_is, last_is, undo_legs_are}
use Rattle.nv_editor.proofs.editor.Editor.cost_back.Goals as goal

pub returns : goal.returns
returns c =
    let e : to_z w64 (of_z w64 c.args.buffer) ≡ c.args.buffer = search rules in
    let n : ℤ = to_z w64 (of_z w64 c.args.buffer) in
    let b : Content = content_at c.args.self.now n in
    let known = c.splices_back.ensures.known in
    let counted : c.splices_back.result ≡ length (undo_splices (seen_buffer_now b) (undo_legs (sealed_undo (seen_buffer_now b)))) =
    c.splices_back.ensures.count ∙ cost_is b known.tree known.now (undo_legs (after_seal b).undo)
    ∙ ap (λ (legs : List Leg). length (undo_splices (seen_buffer_now b) legs)) (undo_legs_are b known.tree known.now) in
    subst (λ (k : ℤ).
    c.splices_back.result ≡ length (undo_splices (seen_buffer_now (content_at c.args.self.now k)) (undo_legs (sealed_undo (seen_buffer_now (content_at c.args.self.now k))))))
    e counted
