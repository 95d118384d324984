use Rattle.std.proofs.Common.{◌∙◌}
use Rattle.std.proofs.lemmas.List.{append-nil}
use Rattle.nv_core.proofs.shared.put_event_front.Goals as goal

pub returns-clause-put : goal.returns-clause-put
returns-clause-put c = append-nil c.put_event.new.into.items ∙ c.in_ok-put_event.ensures
