use Rattle.std.proofs.Common.{◌≡◌}
use Rattle.std.proofs.lemmas.Result.{IfOk-weaker}
use Rattle.nv_value.specs.declared.value.Value.{Value}
use Rattle.nv_value.specs.View.{content}
use Rattle.nv_msgpack.specs.Shortest.{HasSpelling}
use Rattle.nv_redraw.specs.Values.{batch_tree}
use Rattle.nv_redraw.proofs.SpellableLemmas.{spelled_by}
use Rattle.nv_redraw.proofs.values.batch_value.Goals as goal

pub returns-clause-spelled : goal.returns-clause-spelled
returns-clause-spelled c =
    λ h. IfOk-weaker c.notification.result (λ (v : Value). content v ≡ batch_tree c.args.events.now) (λ (v : Value). HasSpelling (content v))
    (λ v e. spelled_by c.args.events.now (content v) h e) c.notification.ensures
