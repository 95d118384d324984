use Rattle.std.proofs.Common.{◌≡◌, refl, ap, None, Option, map}
use Rattle.nv_value.specs.View.{pair_content}
use Rattle.nv_value.specs.declared.fault.ApiFault.{ApiFault}
use Rattle.nv_args.specs.Args.{typed_arguments}
use Rattle.nv_args.specs.Arguments.{last_pairs}
use Rattle.nv_args.specs.Naming.{naming_fault}
use Rattle.nv_model.specs.Answering.{fault_or}
use Rattle.nv_model.specs.Standing.{seen_now, seen_buffer_now}
use Rattle.nv_api_mark.specs.Setting.{mark_keys, naming_keys}
use Rattle.nv_api_mark.specs.inside.Marking.{draft_answer, unkeyed_answer}
use Rattle.nv_api_mark.proofs.Steps.{decides_on, decides_stop, fault_stops}
use Rattle.nv_api_mark.proofs.setting.draft_given.Goals as goal

pub returns-in_err-option_fault-clause-row : goal.returns-in_err-option_fault-clause-row
returns-in_err-option_fault-clause-row c = λ n.
    let e = c.args.editor.now in
    let pairs = last_pairs (map pair_content c.args.pairs.now) in
    let rest = unkeyed_answer (seen_now e) n (seen_buffer_now c.args.buffer.now) (typed_arguments c.args.args.now) pairs in
    decides_stop _ (fault_or (naming_fault naming_keys (mark_keys pairs) pairs) rest) (draft_answer e.stage n pairs) (draft_answer e.stage n pairs)
    c.in_err-option_fault.field-0.0 c.from_residual.result refl
    (fault_stops (Unit {0}) _ rest (draft_answer e.stage n pairs) c.in_err-option_fault.field-0.0 c.in_err-option_fault.ensures) c.from_residual.ensures.1

pub returns-clause-row : goal.returns-clause-row
returns-clause-row c = λ n.
    let e = c.args.editor.now in
    let pairs = last_pairs (map pair_content c.args.pairs.now) in
    let rest = unkeyed_answer (seen_now e) n (seen_buffer_now c.args.buffer.now) (typed_arguments c.args.args.now) pairs in
    let none : naming_fault naming_keys (mark_keys pairs) pairs ≡ None = c.in_ok-option_fault.ensures in
    decides_on _ rest (draft_answer e.stage n pairs) c.draft_by.result (ap (λ (w : Option ApiFault). fault_or w rest) none) (c.draft_by.ensures.row n)
