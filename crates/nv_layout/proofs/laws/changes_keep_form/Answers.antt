use Rattle.nv_layout.proofs.GroupRules.{changes_keep_form}
use Rattle.nv_layout.proofs.laws.changes_keep_form.Goals as goal

pub returns : goal.returns
returns c = changes_keep_form
