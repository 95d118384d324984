use Rattle.nv_editor.proofs.UisKept.{ui_put_sound}
use Rattle.nv_editor.proofs.editor.Editor.put_ui.Goals as goal

pub invariant_of-self-2 : goal.invariant_of-self-2
invariant_of-self-2 c =
    (ui_put_sound c.self.inside.buffers c.self.inside.stage c.put_ui.new.self c.args.ui (c.requires.width, c.requires.height) c.self.invariant.0 c.in_ok-put_ui.ensures.put c.in_ok-put_ui.ensures.sound, c.self.invariant.1)
