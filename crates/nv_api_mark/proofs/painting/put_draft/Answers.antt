use Rattle.std.proofs.Common.{◌≡◌, ◌∷◌, ◌∙◌, [], List, Option, Some, None, IfSome, Bool, ap, sym, subst, arith, refl, ℕ, ℤ, append-nil, false, is_some, map, of_z, rules, to_z, w64, ◌<◌}
use Rattle.std.specs.Prelude.{codes, option_to_list}
use Rattle.nv_value.specs.View.{content, pair_content}
use Rattle.nv_args.specs.Arguments.{last_pairs}
use Rattle.nv_args.specs.Chunks.{names_of_chunks}
use Rattle.nv_args.specs.Dicts.{flag_or}
use Rattle.nv_buffer.specs.Content.{Content}
use Rattle.nv_buffer.specs.Marks.{IsMarkIn}
use Rattle.nv_hl.specs.Groups.{HasGroup, NamedGroup}
use Rattle.nv_marks.specs.declared.extmark.Mark.{Mark}
use Rattle.nv_marks.specs.declared.extmark.Paint.{Paint}
use Rattle.nv_model.specs.Editors.{at_handle}
use Rattle.nv_model.specs.Keeping.{most_settings}
use Rattle.nv_model.specs.Operations.{mark_set}
use Rattle.nv_model.specs.Stage.{Stage}
use Rattle.nv_editor.specs.Doing.{Does}
use Rattle.nv_editor.specs.Sound.{IsOfGroups, content_at, content_of, is_live_buffer}
use Rattle.nv_api_mark.specs.Groups.{groups_of_names}
use Rattle.nv_api_mark.specs.MarkRows.{mark_with, note_operations}
use Rattle.nv_api_mark.specs.Setting.{group_name, group_names, text_chunks}
use Rattle.nv_api_mark.specs.inside.Marking.{mark_by, names_among}
use Rattle.nv_api_mark.proofs.Noted.{all_done, groups_made, note_has, shown_there}
use Rattle.nv_api_mark.proofs.Wanted.{first_count, same_count}
use Rattle.nv_api_mark.proofs.painting.put_draft.Goals as goal

abbrev groups_in : Stage → List NamedGroup
groups_in s = s.groups

pub group_shown-requires-clause-few : goal.group_shown-requires-clause-few
group_shown-requires-clause-few c =
    let pairs = last_pairs (map pair_content c.args.pairs.now) in
    let few = first_count c.args.editor.now.stage.groups (option_to_list (group_name pairs)) (names_of_chunks (text_chunks pairs)) in
    omega (arith, few, c.requires.few)

pub make_groups-requires : goal.make_groups-requires
make_groups-requires c =
    let gs = c.args.editor.now.stage.groups in
    let pairs = last_pairs (map pair_content c.args.pairs.now) in
    let one = c.group_shown.new.editor.stage.groups in
    let ts = map content c.text_items.result.now in
    let first : one ≡ groups_of_names gs (option_to_list (group_name pairs)) = ap groups_in c.in_ok-group.ensures.stage in
    let all = groups_made gs one (groups_of_names one (names_among ts)) pairs ts c.text_items.ensures first refl in
    let count = same_count one gs (names_among ts) (group_names pairs) all in
    omega (arith, count, c.requires.few)

pub set_mark-requires-clause-live : goal.set_mark-requires-clause-live
set_mark-requires-clause-live c =
    let e : to_z w64 (of_z w64 c.args.handle) ≡ c.args.handle = search rules in
    ap (is_live_buffer c.make_groups.new.editor) e
    ∙ ap (λ (bs : List (ℤ × Content)). is_some (at_handle bs c.args.handle)) (c.in_ok-make_groups.ensures.buffers ∙ c.in_ok-group.ensures.buffers)
    ∙ c.requires.live

pub set_mark-requires-clause-places : goal.set_mark-requires-clause-places
set_mark-requires-clause-places c =
    let e : to_z w64 (of_z w64 c.args.handle) ≡ c.args.handle = search rules in
    let same : content_at c.make_groups.new.editor c.args.handle ≡ content_at c.args.editor.now c.args.handle =
    ap (λ (bs : List (ℤ × Content)). content_of c.args.handle (at_handle bs c.args.handle)) (c.in_ok-make_groups.ensures.buffers ∙ c.in_ok-group.ensures.buffers) in
    let within : IsMarkIn (content_at c.args.editor.now c.args.handle).text c.mark_by-mark.result =
    subst (IsMarkIn (content_at c.args.editor.now c.args.handle).text) (sym c.mark_by-mark.ensures)
    (record { start = c.requires.within.start; stop = c.requires.within.stop }) in
    subst (λ (k : ℤ). IsMarkIn (content_at c.make_groups.new.editor k).text c.mark_by-mark.result) (sym e)
    (subst (λ (b : Content). IsMarkIn b.text c.mark_by-mark.result) (sym same) within)

pub set_mark-requires-clause-few : goal.set_mark-requires-clause-few
set_mark-requires-clause-few c =
    let e : to_z w64 (of_z w64 c.args.handle) ≡ c.args.handle = search rules in
    let same : content_at c.make_groups.new.editor c.args.handle ≡ content_at c.args.editor.now c.args.handle =
    ap (λ (bs : List (ℤ × Content)). content_of c.args.handle (at_handle bs c.args.handle)) (c.in_ok-make_groups.ensures.buffers ∙ c.in_ok-group.ensures.buffers) in
    subst (λ (k : ℤ). (content_at c.make_groups.new.editor k).marks.settings < most_settings) (sym e)
    (subst (λ (b : Content). b.marks.settings < most_settings) (sym same) c.requires.settings)

pub set_mark-requires-clause-group : goal.set_mark-requires-clause-group
set_mark-requires-clause-group c =
    let pairs = last_pairs (map pair_content c.args.pairs.now) in
    let one = c.group_shown.new.editor.stage.groups in
    let two = c.make_groups.new.editor.stage.groups in
    let made : two ≡ groups_of_names one (names_among (map content c.text_items.result.now)) = ap groups_in c.in_ok-make_groups.ensures.stage in
    subst (IsOfGroups two) (sym c.mark_by-mark.ensures)
    (shown_there one two (names_among (map content c.text_items.result.now)) c.in_ok-group.group (flag_or false (codes "hl_eol") pairs) made c.in_ok-group.ensures.there)

pub set_mark-requires-clause-shown : goal.set_mark-requires-clause-shown
set_mark-requires-clause-shown c = ap (λ (m : Mark). m.hidden) c.mark_by-mark.ensures

pub put_text-requires-clause-groups : goal.put_text-requires-clause-groups
put_text-requires-clause-groups c =
    let gs = c.args.editor.now.stage.groups in
    let pairs = last_pairs (map pair_content c.args.pairs.now) in
    let ts = map content c.text_items.result.now in
    let stays : c.set_mark.new.self.stage.groups ≡ c.make_groups.new.editor.stage.groups = ap groups_in c.in_ok-set_mark.ensures.stage in
    let first = ap groups_in c.in_ok-group.ensures.stage in
    let made = ap groups_in c.in_ok-make_groups.ensures.stage in
    note_has gs c.set_mark.new.self.stage.groups pairs
    (stays ∙ groups_made gs c.group_shown.new.editor.stage.groups c.make_groups.new.editor.stage.groups pairs ts c.text_items.ensures first made)

pub returns-clause-row : goal.returns-clause-row
returns-clause-row c = λ told.
    let e = c.args.editor.now in
    let gs = e.stage.groups in
    let pairs = last_pairs (map pair_content c.args.pairs.now) in
    let d = c.args.draft in
    let ts = map content c.text_items.result.now in
    let one = c.group_shown.new.editor.stage.groups in
    let first = ap groups_in c.in_ok-group.ensures.stage in
    let made = ap groups_in c.in_ok-make_groups.ensures.stage in
    let stays : c.set_mark.new.self.stage.groups ≡ c.make_groups.new.editor.stage.groups = ap groups_in c.in_ok-set_mark.ensures.stage in
    let now = stays ∙ groups_made gs one c.make_groups.new.editor.stage.groups pairs ts c.text_items.ensures first made in
    let mark = mark_with gs d.ns d.id d.start d.stop pairs in
    let same : c.mark_by-mark.result ≡ mark = c.mark_by-mark.ensures ∙ ap (λ (g : Option ℕ). mark_by d g pairs) c.in_ok-group.ensures.id in
    let e_is : to_z w64 (of_z w64 c.args.handle) ≡ c.args.handle = search rules in
    let marked : Does (mark_set c.args.handle mark ∷ []) c.make_groups.new.editor c.set_mark.new.self =
    subst (λ (k : ℤ). Does (mark_set k mark ∷ []) c.make_groups.new.editor c.set_mark.new.self) e_is
    (subst (λ (m : Mark). Does (mark_set (to_z w64 (of_z w64 c.args.handle)) m ∷ []) c.make_groups.new.editor c.set_mark.new.self) same c.in_ok-set_mark.ensures.done) in
    let noted : Does (note_operations c.args.handle d.set (groups_of_names gs (group_names pairs)) pairs) c.set_mark.new.self c.put_text.new.editor =
    subst (λ (k : ℤ). Does (note_operations k d.set (groups_of_names gs (group_names pairs)) pairs) c.set_mark.new.self c.put_text.new.editor) e_is
    (subst (λ (hs : List NamedGroup). Does (note_operations (to_z w64 (of_z w64 c.args.handle)) d.set hs pairs) c.set_mark.new.self c.put_text.new.editor) now c.in_ok-put_text.ensures) in (
      c.natural_value.ensures.value,
      all_done gs one c.args.handle d.set mark pairs ts _ e c.group_shown.new.editor c.make_groups.new.editor c.set_mark.new.self c.put_text.new.editor
          c.text_items.ensures first c.in_ok-group.ensures.done c.in_ok-make_groups.ensures.done marked noted,
      sym (append-nil told),
    )
