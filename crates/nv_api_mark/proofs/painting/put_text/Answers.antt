use Rattle.std.proofs.Common.{◌≡◌, ◌∙◌, ◌∷◌, [], ℤ, Bool, if◌then◌else◌, false, true, map, of_z, rules, subst, sym, to_z, w64}
use Rattle.nv_value.specs.View.{pair_content}
use Rattle.nv_args.specs.Arguments.{last_pairs}
use Rattle.nv_model.specs.Operations.{note_put}
use Rattle.nv_editor.specs.Doing.{Does}
use Rattle.nv_notes.specs.Notes.{IsNoteOf, NoteText}
use Rattle.nv_api_mark.specs.Setting.{has_text, note_with}
use Rattle.nv_api_mark.proofs.painting.put_text.Goals as goal

pub put_note-requires : goal.put_note-requires
put_note-requires c = subst (IsNoteOf c.args.editor.now.stage.groups) (sym c.in_ok-note.ensures) c.requires.groups

pub returns-then-not-has_text : goal.returns-then-not-has_text
returns-then-not-has_text c =
    let e = c.args.editor.now in
    let pairs = last_pairs (map pair_content c.args.pairs.now) in
    let no : has_text pairs ≡ false = sym c.has_text.ensures ∙ c.if-not-has_text.true in
    subst (λ (b : Bool). Does (if b then note_put c.args.handle c.args.set (note_with e.stage.groups pairs) ∷ [] else []) e e) (sym no) (λ m stands. stands)

pub returns : goal.returns
returns c =
    let e = c.args.editor.now in
    let new = c.put_note.new.self in
    let pairs = last_pairs (map pair_content c.args.pairs.now) in
    let note = note_with e.stage.groups pairs in
    let yes : has_text pairs ≡ true = sym c.has_text.ensures ∙ c.if-not-has_text.false in
    let handle : to_z w64 (of_z w64 c.args.handle) ≡ c.args.handle = search rules in
    let done : Does (note_put c.args.handle c.args.set note ∷ []) e new =
    subst (λ (k : ℤ). Does (note_put k c.args.set note ∷ []) e new) handle
    (subst (λ (t : NoteText). Does (note_put (to_z w64 (of_z w64 c.args.handle)) c.args.set t ∷ []) e new) c.in_ok-note.ensures c.in_ok-put_note.ensures.done) in
    subst (λ (b : Bool). Does (if b then note_put c.args.handle c.args.set note ∷ [] else []) e new) (sym yes) done
