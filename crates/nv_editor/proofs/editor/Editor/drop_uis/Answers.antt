use Rattle.nv_editor.proofs.UisKept.{uis_dropped_sound}
use Rattle.nv_editor.proofs.editor.Editor.drop_uis.Goals as goal

pub invariant_of-self : goal.invariant_of-self
invariant_of-self c =
    (uis_dropped_sound c.self.inside.buffers c.self.inside.stage c.drop_uis.new.self c.args.sessions.now c.self.invariant.0 c.drop_uis.ensures.put c.drop_uis.ensures.sound, c.self.invariant.1)
