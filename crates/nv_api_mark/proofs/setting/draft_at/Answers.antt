use Rattle.std.proofs.Common.{◌≡◌, ◌+◌, ◌∙◌, [], ◌∷◌, false, map, sym}
use Rattle.std.specs.Option.{option_map_or}
use Rattle.nv_value.specs.View.{pair_content}
use Rattle.nv_places.specs.Places.{is_before}
use Rattle.nv_args.specs.Arguments.{last_pairs}
use Rattle.nv_args.specs.Faults.{limit_reached, newline_inside, no_id_left, start_after_end, unknown_name}
use Rattle.nv_model.specs.Answers.{replied, unless}
use Rattle.nv_model.specs.Answering.{natural}
use Rattle.nv_model.specs.Standing.{seen_now, seen_buffer_now}
use Rattle.nv_api_mark.specs.MarkRows.{given_id, group_words, is_no_group, mark_passes_limit, mark_with, next_mark_id, no_mark_left, setting_operations, text_has_newline}
use Rattle.nv_api_mark.specs.Setting.{group_names, group_number}
use Rattle.nv_api_mark.specs.inside.Marking.{allowed_answer, draft_answer}
use Rattle.nv_api_mark.proofs.Steps.{decides_on}
use Rattle.nv_api_mark.proofs.setting.draft_at.Goals as goal

pub draft_allowed-requires : goal.draft_allowed-requires
draft_allowed-requires c = sym c.text_has_newline.ensures ∙ c.if-text_has_newline.false

pub returns-clause-row : goal.returns-clause-row
returns-clause-row c = λ n.
    let e = c.args.editor.now in
    let s = seen_now e in
    let b = seen_buffer_now c.args.buffer.now in
    let ns = c.args.ns in
    let pairs = last_pairs (map pair_content c.args.pairs.now) in
    let id = next_mark_id b ns (given_id pairs) in
    let order : option_map_or (λ far. is_before far.pos c.args.start) c.args.stop false ≡ false = sym c.is_reversed.ensures ∙ c.if-is_reversed.false in
    let lines : text_has_newline pairs ≡ false = sym c.text_has_newline.ensures ∙ c.if-text_has_newline.false in
    decides_on _ (allowed_answer s n b ns c.args.start c.args.stop pairs) (draft_answer e.stage n pairs) c.draft_allowed.result
    (λ i. unless (
    (order i, start_after_end)
    ∷ (lines i, newline_inside)
    ∷ (no_mark_left b ns (given_id pairs), no_id_left)
    ∷ (is_no_group s.stage.groups (group_number pairs), unknown_name (group_words (group_number pairs)))
    ∷ (mark_passes_limit s.stage b ns id (group_names pairs), limit_reached)
    ∷ [])
    (replied (natural id) (setting_operations s.stage n (b.settings + 1) (mark_with s.stage.groups ns id c.args.start c.args.stop pairs) pairs) []))
    (c.draft_allowed.ensures.row n)
