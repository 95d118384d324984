use Rattle.std.proofs.Common.{◌≡◌, ◌∙◌, [], ◌∷◌, None, Option, ap, sym, codes}
use Rattle.nv_value.specs.declared.fault.ApiFault.{ApiFault}
use Rattle.nv_args.specs.Args.{typed_arguments}
use Rattle.nv_args.specs.Arguments.{last_pairs}
use Rattle.nv_args.specs.Dicts.{flag_key}
use Rattle.nv_args.specs.Maps.{map_fault}
use Rattle.nv_args.specs.Reading.{pairs_at}
use Rattle.nv_model.specs.Answering.{fault_or}
use Rattle.nv_model.specs.Standing.{seen_now, seen_buffer_now}
use Rattle.nv_api_mark.specs.inside.Telling.{numbered_answer, place_told}
use Rattle.nv_api_mark.proofs.Steps.{reads_stop}
use Rattle.nv_api_mark.proofs.marks.place_told.Goals as goal

pub returns-in_err-found-clause-row : goal.returns-in_err-found-clause-row
returns-in_err-found-clause-row c =
    let s = seen_now c.args.editor.now in
    let b = seen_buffer_now c.args.buffer.now in
    let args = typed_arguments c.args.args.now in
    let pairs = last_pairs (pairs_at args 3) in
    let none : map_fault (flag_key (codes "details") ∷ []) pairs ≡ None =
    (λ i. map_fault (sym c.detail_rules.ensures i) (last_pairs (sym c.pairs-pairs.ensures i))) ∙ c.in_ok-map_fault.ensures in
    reads_stop _ _ (place_told s c.args.live.handle pairs) c.in_err-found.field-0.0 c.from_residual-in_err-found.result
    (ap (λ (w : Option ApiFault). fault_or w (numbered_answer s b args (place_told s c.args.live.handle pairs))) none)
    (c.in_err-found.ensures.row (place_told s c.args.live.handle pairs)) c.from_residual-in_err-found.ensures.1
