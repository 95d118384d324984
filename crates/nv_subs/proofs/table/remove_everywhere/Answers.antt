use Rattle.std.proofs.Common.{rules}
use Rattle.nv_subs.proofs.Attached.{all-left}
use Rattle.nv_subs.proofs.table.remove_everywhere.Goals as goal

pub returns : goal.returns
returns c =
    all-left _ _ c.args.session (λ k v b w f t. search rules) _ _ c.retain.ensures.was_ordered c.retain.ensures.filtered
