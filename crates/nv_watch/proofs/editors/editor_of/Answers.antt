use Rattle.std.proofs.Common.{rules}
use Rattle.nv_watch.proofs.SeenEditors.{none_known, editor_known}
use Rattle.nv_watch.proofs.editors.editor_of.Goals as goal

pub returns-then-spent : goal.returns-then-spent
returns-then-spent c = none_known _ (search rules)

pub returns-else-spent : goal.returns-else-spent
returns-else-spent c = editor_known _ _ (search rules) (search rules) c.editor.ensures
