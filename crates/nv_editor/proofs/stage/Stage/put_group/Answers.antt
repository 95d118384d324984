use Rattle.nv_editor.proofs.NotesKept.{notes_regrouped}
use Rattle.nv_editor.proofs.stage.Stage.put_group.Goals as goal

pub invariant_of-self : goal.invariant_of-self
invariant_of-self c =
    notes_regrouped c.self.inside.groups c.put.new.self c.args.id c.args.group c.self.inside.notes c.put.ensures.groups c.self.invariant
