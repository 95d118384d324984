use Rattle.std.proofs.Common.{◌≡◌, ℕ, ℤ, ◌∙◌, List, [], ◌∷◌, ap, fold, sym, subst, All, rules, to_z, of_z, w64}
use Rattle.nv_places.specs.Places.{IsNarrow, further}
use Rattle.nv_buffer.specs.Changes.{Fits, lines_after, text_at}
use Rattle.nv_buffer.specs.Content.{Content}
use Rattle.nv_buffer.specs.Splices.{IsBufferText}
use Rattle.nv_buffer.specs.declared.edit.Edit.{Edit}
use Rattle.nv_buffer.specs.declared.buffer.Spliced.{Spliced}
use Rattle.nv_buffer.proofs.Placing.{ends_narrowly}
use Rattle.nv_windows.specs.Views.{MovesNarrowlyIn}
use Rattle.nv_model.specs.Standing.{IsEditOf}
use Rattle.nv_editor.specs.inside.Table.{content_in}
use Rattle.nv_editor.specs.inside.Views.{move_by, with_views}
use Rattle.nv_editor.specs.inside.Walks.{IsEditMade}
use Rattle.nv_editor.proofs.StageKept.{editor_of}
use Rattle.nv_editor.proofs.EditsMade.{views_narrowly, edit_sound, edit_kept, stayed_sound, stayed_kept, grown_kept}
use Rattle.nv_editor.proofs.undoing.make_edit.Goals as goal

pub returns-in_err-note_edited-clause-kept : goal.returns-in_err-note_edited-clause-kept
returns-in_err-note_edited-clause-kept c =
    grown_kept c.args.noted.now.items c.note_edited.new.noted.items c.args.buffers.now c.requires.kept c.note_edited.ensures.grows

pub returns-in_err-spliced-clause-sound : goal.returns-in_err-spliced-clause-sound
returns-in_err-spliced-clause-sound c =
    stayed_sound c.args.buffers.now c.put_edit.new.self c.args.stage.now (to_z w64 (of_z w64 c.args.buffer)) c.requires.sound c.in_err-spliced.ensures.updated
    c.in_err-spliced.ensures.err

pub returns-in_err-spliced-clause-kept : goal.returns-in_err-spliced-clause-kept
returns-in_err-spliced-clause-kept c =
    stayed_kept c.args.noted.now.items c.note_edited.new.noted.items c.args.buffers.now c.put_edit.new.self (to_z w64 (of_z w64 c.args.buffer)) c.requires.kept
    c.in_err-spliced.ensures.updated c.note_edited.ensures.grows c.in_err-spliced.ensures.err

pub carry_views-requires-clause-old_end : goal.carry_views-requires-clause-old_end
carry_views-requires-clause-old_end c =
    let e : to_z w64 (of_z w64 c.args.buffer) ≡ c.args.buffer = search rules in
    let n : ℤ = to_z w64 (of_z w64 c.args.buffer) in
    let b : Content = content_in c.args.buffers.now n in
    let fits : Fits b.text c.args.edit = subst (λ (k : ℤ). Fits (content_in c.args.buffers.now k).text c.args.edit) (sym e) c.requires.fits in
    let same : c.in_ok-spliced.spliced.edit ≡ c.args.edit = ap (λ (s : Spliced). s.edit) c.in_ok-spliced.ensures.told in
    let text : IsBufferText b.text = subst (λ (k : ℤ). IsBufferText (content_in c.args.buffers.now k).text) (sym e) c.requires.text in
    let ends = ends_narrowly b.text c.args.edit text fits in
    subst (λ (x : Edit). IsNarrow (further x.start x.removed)) (sym same) ends.old

pub carry_views-requires-clause-new_end : goal.carry_views-requires-clause-new_end
carry_views-requires-clause-new_end c =
    let e : to_z w64 (of_z w64 c.args.buffer) ≡ c.args.buffer = search rules in
    let n : ℤ = to_z w64 (of_z w64 c.args.buffer) in
    let b : Content = content_in c.args.buffers.now n in
    let fits : Fits b.text c.args.edit = subst (λ (k : ℤ). Fits (content_in c.args.buffers.now k).text c.args.edit) (sym e) c.requires.fits in
    let same : c.in_ok-spliced.spliced.edit ≡ c.args.edit = ap (λ (s : Spliced). s.edit) c.in_ok-spliced.ensures.told in
    let text : IsBufferText b.text = subst (λ (k : ℤ). IsBufferText (content_in c.args.buffers.now k).text) (sym e) c.requires.text in
    let ends = ends_narrowly b.text c.args.edit text fits in
    subst (λ (x : Edit). IsNarrow (further x.start x.put)) (sym same) ends.new

pub carry_views-requires-clause-moved : goal.carry_views-requires-clause-moved
carry_views-requires-clause-moved c =
    let e : to_z w64 (of_z w64 c.args.buffer) ≡ c.args.buffer = search rules in
    let n : ℤ = to_z w64 (of_z w64 c.args.buffer) in
    let b : Content = content_in c.args.buffers.now n in
    let fits : Fits b.text c.args.edit = subst (λ (k : ℤ). Fits (content_in c.args.buffers.now k).text c.args.edit) (sym e) c.requires.fits in
    let same : c.in_ok-spliced.spliced.edit ≡ c.args.edit = ap (λ (s : Spliced). s.edit) c.in_ok-spliced.ensures.told in
    let text : IsBufferText b.text = subst (λ (k : ℤ). IsBufferText (content_in c.args.buffers.now k).text) (sym e) c.requires.text in
    let after : (content_in c.put_edit.new.self n).text ≡ lines_after b.text c.args.edit = ap (λ (x : Content). x.text) c.in_ok-spliced.ensures.ok in
    let moved = views_narrowly c.args.buffers.now n b c.args.edit c.args.stage.now.workspace.windows c.in_ok-spliced.ensures.updated.was text fits c.requires.sound.shown in
    subst (λ (x : Edit). All (MovesNarrowlyIn n (move_by x (content_in c.put_edit.new.self n).text)) c.args.stage.now.workspace.windows) (sym same)
    (subst (λ (t : List (List ℕ)). All (MovesNarrowlyIn n (move_by c.args.edit t)) c.args.stage.now.workspace.windows) (sym after) moved)

pub returns-clause-sound : goal.returns-clause-sound
returns-clause-sound c =
    let e : to_z w64 (of_z w64 c.args.buffer) ≡ c.args.buffer = search rules in
    let n : ℤ = to_z w64 (of_z w64 c.args.buffer) in
    let b : Content = content_in c.args.buffers.now n in
    let fits : Fits b.text c.args.edit = subst (λ (k : ℤ). Fits (content_in c.args.buffers.now k).text c.args.edit) (sym e) c.requires.fits in
    let same : c.in_ok-spliced.spliced.edit ≡ c.args.edit = ap (λ (s : Spliced). s.edit) c.in_ok-spliced.ensures.told in
    let put : c.carry_views.new.stage ≡ record c.args.stage.now { workspace = with_views n c.args.edit (lines_after b.text c.args.edit) c.args.stage.now.workspace } =
    c.carry_views.ensures
    ∙ (λ i. record c.args.stage.now { workspace = with_views n (same i) (ap (λ (x : Content). x.text) c.in_ok-spliced.ensures.ok i) c.args.stage.now.workspace }) in
    edit_sound c.args.buffers.now c.put_edit.new.self c.args.stage.now c.carry_views.new.stage n c.args.edit c.requires.sound c.in_ok-spliced.ensures.updated
    c.in_ok-spliced.ensures.ok fits put

pub returns-clause-kept : goal.returns-clause-kept
returns-clause-kept c =
    let e : to_z w64 (of_z w64 c.args.buffer) ≡ c.args.buffer = search rules in
    let n : ℤ = to_z w64 (of_z w64 c.args.buffer) in
    let b : Content = content_in c.args.buffers.now n in
    let of_text : IsEditOf b.text c.args.edit = subst (λ (k : ℤ). IsEditOf (content_in c.args.buffers.now k).text c.args.edit) (sym e) c.requires.edit in
    let now : b.text ≡ fold lines_after (text_at b.undo b.undo.current) b.unsealed =
    subst (λ (k : ℤ).
    (content_in c.args.buffers.now k).text
    ≡ fold lines_after (text_at (content_in c.args.buffers.now k).undo (content_in c.args.buffers.now k).undo.current) (content_in c.args.buffers.now k).unsealed)
    (sym e) c.requires.known.now in
    edit_kept c.args.noted.now.items c.note_edited.new.noted.items c.args.buffers.now c.put_edit.new.self n c.args.edit c.requires.kept
    c.in_ok-spliced.ensures.updated c.in_ok-spliced.ensures.ok of_text now
    c.in_ok-note_edited.ensures.noted c.note_edited.ensures.grows

pub returns-clause-made : goal.returns-clause-made
returns-clause-made c =
    let e : to_z w64 (of_z w64 c.args.buffer) ≡ c.args.buffer = search rules in
    let n : ℤ = to_z w64 (of_z w64 c.args.buffer) in
    let b : Content = content_in c.args.buffers.now n in
    let same : c.in_ok-spliced.spliced.edit ≡ c.args.edit = ap (λ (s : Spliced). s.edit) c.in_ok-spliced.ensures.told in
    let put : c.carry_views.new.stage ≡ record c.args.stage.now { workspace = with_views n c.args.edit (lines_after b.text c.args.edit) c.args.stage.now.workspace } =
    c.carry_views.ensures
    ∙ (λ i. record c.args.stage.now { workspace = with_views n (same i) (ap (λ (x : Content). x.text) c.in_ok-spliced.ensures.ok i) c.args.stage.now.workspace }) in
    subst (λ (k : ℤ). IsEditMade k c.args.edit (editor_of c.args.buffers.now c.args.stage.now) (editor_of c.put_edit.new.self c.carry_views.new.stage)) e
    (record { updated = c.in_ok-spliced.ensures.updated; buffer = c.in_ok-spliced.ensures.ok; stage = put })
