use Rattle.std.proofs.Common.{◌≡◌, ◌∙◌, ◌++◌, [], ◌∷◌, ℤ, List, IfSome, map, sym, ap, subst, append-nil, rules, of_z, to_z, w64}
use Rattle.std.specs.Prelude.{option_map}
use Rattle.nv_value.specs.Content.{Tree, truth}
use Rattle.nv_value.specs.View.{pair_content}
use Rattle.nv_value.specs.declared.value.Pair.{Pair}
use Rattle.nv_value.proofs.Contents.{content-Pairs}
use Rattle.nv_hl.specs.Groups.{HasGroup, NamedGroup}
use Rattle.nv_marks.specs.declared.extmark.Paint.{Paint}
use Rattle.nv_model.specs.Answering.{dict_of, key_value, natural}
use Rattle.nv_msgpack.specs.Shortest.{HasSpelling}
use Rattle.nv_notes.specs.Notes.{IsNoteOf, note_at}
use Rattle.nv_api_mark.specs.MarkRows.{end_details, note_details, paint_details, undo_details}
use Rattle.nv_api_mark.specs.inside.Marking.{IsGroupTold, IsNoteTold}
use Rattle.nv_api_mark.proofs.DetailsTold.{details_spelled}
use Rattle.nv_api_mark.proofs.details.details_value.Goals as goal

pub push_paint-requires : goal.push_paint-requires
push_paint-requires c =
    subst (λ (gs : List NamedGroup). IfSome c.args.mark.paint (λ (p : Paint). HasGroup gs p.group)) (sym c.groups-groups.ensures) c.requires

pub push_note-requires : goal.push_note-requires
push_note-requires c =
    subst (λ (gs : List NamedGroup). IfSome c.note-note.result (λ n. IsNoteOf gs n.now)) (sym c.groups-groups.ensures) c.note-note.ensures.groups

pub returns-clause-told : goal.returns-clause-told
returns-clause-told c =
    let m = c.args.mark in
    let groups = c.args.editor.now.stage.groups in
    let notes = c.args.editor.now.stage.notes in
    let handle : to_z w64 (of_z w64 c.args.live.handle) ≡ c.args.live.handle = search rules in
    let told : option_map (λ n. n.now) c.note-note.result ≡ note_at notes c.args.live.handle m.set =
    c.note-note.ensures.note ∙ ap (λ (n : ℤ). note_at notes n m.set) handle in
    let same : c.groups-groups.result.now ≡ groups = c.groups-groups.ensures in
    let all : List (Tree × Tree) = key_value "ns_id" (natural m.ns) ∷ key_value "right_gravity" (truth m.right) ∷ key_value "priority" (natural m.priority)
    ∷ (end_details m.stop ++ (paint_details c.groups-groups.result.now m.paint
    ++ (undo_details m ++ (note_details c.groups-groups.result.now (option_map (λ n. n.now) c.note-note.result) ++ [])))) in
    content-Pairs c.push_note.new.fields
    ∙ ap dict_of (
    sym (append-nil (map pair_content c.push_note.new.fields.items))
    ∙ c.in_ok-push_note.ensures.told []
    ∙ c.in_ok-push_undo.ensures _
    ∙ c.in_ok-push_paint.ensures.told _
    ∙ c.in_ok-push_end.ensures _
    ∙ c.in_ok-put_natural-2.ensures _
    ∙ c.in_ok-put_truth.ensures _
    ∙ c.in_ok-put_natural.ensures _
    ∙ ap (λ (ps : List Pair). map pair_content ps ++ all) c.in_ok-fields.ensures.items
    ∙ (λ i. key_value "ns_id" (natural m.ns) ∷ key_value "right_gravity" (truth m.right) ∷ key_value "priority" (natural m.priority)
    ∷ (end_details m.stop ++ (paint_details (same i) m.paint ++ (undo_details m ++ append-nil (note_details (same i) (told i)) i)))))

pub returns-clause-spelled : goal.returns-clause-spelled
returns-clause-spelled c =
    let m = c.args.mark in
    let groups = c.args.editor.now.stage.groups in
    let notes = c.args.editor.now.stage.notes in
    let handle : to_z w64 (of_z w64 c.args.live.handle) ≡ c.args.live.handle = search rules in
    let told : option_map (λ n. n.now) c.note-note.result ≡ note_at notes c.args.live.handle m.set =
    c.note-note.ensures.note ∙ ap (λ (n : ℤ). note_at notes n m.set) handle in
    let short : IsGroupTold groups m.paint =
    subst (λ (gs : List NamedGroup). IsGroupTold gs m.paint) c.groups-groups.ensures c.in_ok-push_paint.ensures.short in
    let texts : IsNoteTold groups (note_at notes c.args.live.handle m.set) =
    subst (λ (gs : List NamedGroup). IsNoteTold gs (note_at notes c.args.live.handle m.set)) c.groups-groups.ensures
    (subst (IsNoteTold c.groups-groups.result.now) told c.in_ok-push_note.ensures.spelled) in
    subst HasSpelling (sym (returns-clause-told c)) (details_spelled groups (note_at notes c.args.live.handle m.set) m short texts)
