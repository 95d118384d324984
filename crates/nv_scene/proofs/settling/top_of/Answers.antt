use Rattle.nv_model.specs.Editors.{at_handle}
use Rattle.nv_editor.specs.Sound.{content_at}
use Rattle.nv_scene.proofs.Found.{shows_row, top_in_text}
use Rattle.nv_scene.proofs.settling.top_of.Goals as goal

pub returns-clause-within : goal.returns-clause-within
returns-clause-within c =
    top_in_text c.settled_top.result _ _ _ _ (content_at c.args.editor.now c.args.window.buffer).text c.settled_top.ensures
    (shows_row (at_handle c.args.editor.now.buffers c.args.window.buffer) c.args.window.buffer c.args.window c.requires)
