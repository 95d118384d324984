use Rattle.std.proofs.Common.{◌≡◌, map, take}
use Rattle.nv_value.specs.View.{content}
use Rattle.nv_api_buf.specs.inside.Shapes.{parameter_shaped}
use Rattle.nv_api_buf.proofs.metadata.parameters.Given as goal

abbrev pub invariant-loop-typed : goal.invariant-loop-typed
invariant-loop-typed l = map content l.items.items ≡ map (λ p. parameter_shaped (p.0.now, p.1.now)) (take l.typed-index l.list)
