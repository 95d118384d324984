use Rattle.std.proofs.Common.{◌≡◌, ℕ, ℤ, pos, ◌+ℤ◌, ◌≤ℤ◌, [], true, flat_map, length, sym, subst, rules, to_z, of_z, w64}
use Rattle.std.proofs.lemmas.Option.{slice_get-get_or}
use Rattle.nv_undo.specs.Ways.{Leads}
use Rattle.nv_undo.specs.declared.legs.Leg.TheVariants.{Back}
use Rattle.nv_buffer.specs.Changes.{leg_edits}
use Rattle.nv_buffer.specs.Steps.{IsBuffer}
use Rattle.nv_editor.specs.Sound.{content_at, is_live_buffer}
use Rattle.nv_editor.specs.inside.Kept.{AreKeptEdits}
use Rattle.nv_editor.specs.inside.Walks.{IsWayMade}
use Rattle.nv_editor.proofs.Going.{passing_first, passing_tick, passing_on, passed}
use Rattle.nv_editor.proofs.editor.Editor.walk.Goals as goal

pub loop-leg-init : goal.loop-leg-init
loop-leg-init c =
    let e : to_z w64 (of_z w64 c.args.buffer) ≡ c.args.buffer = search rules in
    let n : ℤ = to_z w64 (of_z w64 c.args.buffer) in
    let closed : (content_at c.args.self.now n).unsealed ≡ [] = subst (λ (k : ℤ). (content_at c.args.self.now k).unsealed ≡ []) (sym e) c.requires.closed in
    let live = subst (λ (k : ℤ). is_live_buffer c.args.self.now k ≡ true) (sym e) c.requires.live in
    let way = subst (λ (k : ℤ). (to : ℕ) × Leads (content_at c.args.self.now k).undo (content_at c.args.self.now k).undo.current c.args.legs.now to) (sym e) c.requires.way in
    let known = subst (λ (k : ℤ). let b = content_at c.args.self.now k in IsBuffer b.text b.tick b.undo b.unsealed) (sym e) c.requires.known in
    let edits = subst (λ (k : ℤ). AreKeptEdits (content_at c.args.self.now k)) (sym e) c.requires.edits in
    passing_first n c.args.legs.now c.args.self.now c.args.happened.now live (known, closed) edits way

pub go-requires-clause-tick : goal.go-requires-clause-tick
go-requires-clause-tick c =
    let e : to_z w64 (of_z w64 c.args.buffer) ≡ c.args.buffer = search rules in
    let n : ℤ = to_z w64 (of_z w64 c.args.buffer) in
    let within =
    subst (λ (k : ℤ).
    ((content_at c.args.self.now k).tick +ℤ pos (length (flat_map (leg_edits (content_at c.args.self.now k).undo) c.args.legs.now))) ≤ℤ _) (sym e) c.requires.tick in
    passing_tick n c.args.legs.now c.args.self.now c.loop-leg.self c.args.happened.now c.loop-leg.happened c.loop-leg.leg-index c.loop-leg.invariant _ _
    (slice_get-get_or c.args.legs.now c.loop-leg.leg-index (Back 0) c.loop-leg-test.true) within

pub loop-leg-preserved : goal.loop-leg-preserved
loop-leg-preserved c =
    let e : to_z w64 (of_z w64 c.args.buffer) ≡ c.args.buffer = search rules in
    let n : ℤ = to_z w64 (of_z w64 c.args.buffer) in
    passing_on n c.args.legs.now c.args.self.now c.loop-leg.self c.args.happened.now c.loop-leg.happened c.loop-leg.leg-index c.loop-leg.invariant
    c.go.new.self c.go.new.happened _ (slice_get-get_or c.args.legs.now c.loop-leg.leg-index (Back 0) c.loop-leg-test.true) c.in_ok-go.ensures.gone c.in_ok-go.ensures.told

pub returns-clause-gone : goal.returns-clause-gone
returns-clause-gone c =
    let e : to_z w64 (of_z w64 c.args.buffer) ≡ c.args.buffer = search rules in
    let n : ℤ = to_z w64 (of_z w64 c.args.buffer) in
    subst (λ (k : ℤ). IsWayMade k c.args.legs.now c.args.self.now c.loop-leg.self) e
    (passed n c.args.legs.now c.args.self.now c.loop-leg.self c.args.happened.now c.loop-leg.happened c.loop-leg.leg-index c.loop-leg.invariant c.loop-leg-test.false)
