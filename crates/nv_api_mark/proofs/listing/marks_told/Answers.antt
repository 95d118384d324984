use Rattle.std.proofs.Common.{◌≡◌, None, Option, map, ap}
use Rattle.nv_value.specs.View.{pair_content}
use Rattle.nv_value.specs.declared.fault.ApiFault.{ApiFault}
use Rattle.nv_args.specs.Args.{typed_arguments}
use Rattle.nv_args.specs.Arguments.{last_pairs}
use Rattle.nv_args.specs.Maps.{map_fault}
use Rattle.nv_model.specs.Answering.{fault_or}
use Rattle.nv_model.specs.Standing.{seen_now, seen_buffer_now}
use Rattle.nv_api_mark.specs.Listing.{listing_keys}
use Rattle.nv_api_mark.specs.inside.Picking.{span_answer, spanned_answer}
use Rattle.nv_api_mark.proofs.Steps.{outcome_stop}
use Rattle.nv_api_mark.proofs.listing.marks_told.Goals as goal

pub returns-in_err-span-clause-row : goal.returns-in_err-span-clause-row
returns-in_err-span-clause-row c =
    let s = seen_now c.args.editor.now in
    let b = seen_buffer_now c.args.buffer.now in
    let args = typed_arguments c.args.args.now in
    let pairs = last_pairs (map pair_content c.args.pairs.now) in
    let none : map_fault listing_keys pairs ≡ None = c.in_ok-listing_fault.ensures in
    outcome_stop _ _ (spanned_answer s c.args.live.handle b pairs) c.in_err-span.field-0.0 c.from_residual-in_err-span.result
    (ap (λ (w : Option ApiFault). fault_or w (span_answer s b args (spanned_answer s c.args.live.handle b pairs))) none)
    (c.in_err-span.ensures.row (spanned_answer s c.args.live.handle b pairs)) c.from_residual-in_err-span.ensures.1
