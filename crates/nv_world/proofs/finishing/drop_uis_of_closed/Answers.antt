use Rattle.std.proofs.Common.{◌≡◌, ap, arith, eqb, length, ℕ, ◌-◌, ◌^◌, ◌<◌, List, not, sym, ◌∙◌, subst}
use Rattle.nv_world.specs.inside.Showings.{StandsSealed, editor_without_uis, losing_sessions}
use Rattle.nv_world.proofs.Standings.{any_there, dropped}
use Rattle.nv_world.proofs.finishing.drop_uis_of_closed.Goals as goal

pub returns-clause-world : goal.returns-clause-world
returns-clause-world c = λ w stands small.
    let count : c.in_ok-losing.losing.len ≡ length c.in_ok-losing.losing.items = omega (arith, c.in_ok-losing.losing.ok.0) in
    dropped c.args.state.now c.drop_uis_of.new.editor c.raised_if-state.result c.in_ok-losing.losing.items c.args.is_seen (not c.is_empty-any.result) w stands
    (c.in_ok-losing.ensures.losing ∙ (λ i. losing_sessions (c.deref.ensures.value i) (c.uis.ensures.uis i)))
    (any_there c.is_empty-any.result c.in_ok-losing.losing.items (c.is_empty-any.ensures ∙ ap (λ (n : ℕ). eqb n 0) count))
    (λ m h. subst (λ (ss : List ℕ). StandsSealed c.drop_uis_of.new.editor (editor_without_uis ss m)) c.as_slice.ensures.value (c.drop_uis_of.ensures.gone m h))
    (c.raised_if-state.ensures (subst (λ (k : ℕ). k < 2 ^ 64 - 1) (sym stands.stamp) small))
