use Rattle.std.proofs.Common.{◌≡◌, ◌∙◌, Bool, true, false, not, cond, None, Option, map, rules, ap}
use Rattle.std.specs.Ordering.{int_eq}
use Rattle.std.specs.Prelude.{pos}
use Rattle.nv_value.specs.View.{pair_content}
use Rattle.nv_value.specs.Content.{nil}
use Rattle.nv_value.specs.declared.fault.ApiFault.{ApiFault}
use Rattle.nv_args.specs.Arguments.{last_pairs}
use Rattle.nv_args.specs.Faults.{out_of_bounds}
use Rattle.nv_model.specs.Answers.{refused}
use Rattle.nv_model.specs.Answering.{fault_or, reply_of}
use Rattle.nv_api_mark.specs.GroupRows.{group_put_answer, highlight_fault, stays}
use Rattle.nv_editor.proofs.Giving.{gives_on}
use Rattle.nv_api_mark.proofs.grouping.put_unless_stays.Goals as goal

pub returns-clause-row : goal.returns-clause-row
returns-clause-row c = λ told.
    let stage = c.args.editor.now.stage in
    let name = c.args.name.now in
    let pairs = last_pairs (map pair_content c.args.pairs.now) in
    let put = group_put_answer stage name pairs in
    let none : highlight_fault name pairs ≡ None = c.in_ok-check_highlight.ensures in
    let zero : int_eq c.args.namespace (pos 0) ≡ true = search rules in
    let goes : stays stage.groups name pairs ≡ false = search rules in
    gives_on _ put c.put_within_limit.result c.args.editor.now c.put_within_limit.new.editor told told
    (ap (λ (w : Option ApiFault). fault_or w (cond (not (int_eq c.args.namespace (pos 0))) (refused out_of_bounds) (cond (stays stage.groups name pairs) (reply_of nil) put))) none
    ∙ ap (λ (b : Bool). cond (not b) (refused out_of_bounds) (cond (stays stage.groups name pairs) (reply_of nil) put)) zero
    ∙ ap (λ (b : Bool). cond b (reply_of nil) put) goes)
    (c.put_within_limit.ensures.row told)
