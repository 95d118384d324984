use Rattle.std.proofs.Common.{◌≡◌, ℕ, ℤ, [], sym, subst, rules, to_z, of_z, w64}
use Rattle.nv_undo.specs.Ways.{Leads}
use Rattle.nv_editor.specs.Sound.{content_at}
use Rattle.nv_editor.specs.inside.Walks.{IsWayGone}
use Rattle.nv_editor.proofs.Undone.{way_gone}
use Rattle.nv_editor.proofs.editor.Editor.go_way.Goals as goal

pub returns : goal.returns
returns c =
    let e : to_z w64 (of_z w64 c.args.buffer) ≡ c.args.buffer = search rules in
    let n : ℤ = to_z w64 (of_z w64 c.args.buffer) in
    let closed : (content_at c.args.self.now n).unsealed ≡ [] = subst (λ (k : ℤ). (content_at c.args.self.now k).unsealed ≡ []) (sym e) c.requires.closed in
    let way = subst (λ (k : ℤ). (to : ℕ) × Leads (content_at c.args.self.now k).undo (content_at c.args.self.now k).undo.current c.args.legs.now to) (sym e) c.requires.way in
    subst (λ (k : ℤ). IsWayGone k c.args.legs.now c.args.self.now c.walk.new.self c.args.happened.now c.walk.new.happened) e
    (way_gone n c.args.legs.now c.args.self.now c.walk.new.self c.args.happened.now c.walk.new.happened way.0 (c.known_buffer.ensures.buffer, closed)
    c.known_buffer.ensures.edits c.known_buffer.ensures.text.lines way.1 c.in_ok-walk.ensures.gone c.in_ok-walk.ensures.told)
