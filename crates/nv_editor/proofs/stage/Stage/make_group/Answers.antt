use Rattle.std.proofs.Common.{List, sym, subst}
use Rattle.nv_hl.specs.Groups.{NamedGroup, empty_group}
use Rattle.nv_notes.specs.Notes.{AreNotesOf}
use Rattle.nv_editor.proofs.NotesKept.{notes_named}
use Rattle.nv_editor.proofs.stage.Stage.make_group.Goals as goal

pub invariant_of-self : goal.invariant_of-self
invariant_of-self c =
    subst (λ (gs : List NamedGroup). AreNotesOf gs c.self.inside.notes) (sym c.in_err-id.ensures.err) c.self.invariant

pub invariant_of-self-2 : goal.invariant_of-self-2
invariant_of-self-2 c =
    notes_named c.self.inside.groups c.id_of.new.self (empty_group c.args.name.now) c.self.inside.notes c.in_ok-id.ensures.named c.self.invariant
