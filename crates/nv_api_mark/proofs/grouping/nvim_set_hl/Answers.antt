use Rattle.std.proofs.Common.{◌≡◌, rules, sym, w64, to_z, of_z}
use Rattle.nv_args.specs.Args.{typed_arguments}
use Rattle.nv_args.specs.Arguments.{last_pairs}
use Rattle.nv_args.specs.Reading.{number_at}
use Rattle.nv_api_mark.specs.GroupRows.{group_answer}
use Rattle.nv_editor.proofs.Giving.{gives_on}
use Rattle.nv_api_mark.proofs.grouping.nvim_set_hl.Goals as goal

pub returns-clause-row : goal.returns-clause-row
returns-clause-row c = λ session told.
    let stage = c.args.editor.now.stage in
    let args = typed_arguments c.args.args.now in
    let number : to_z w64 (of_z w64 c.number.result) ≡ number_at args 0 = search rules in
    gives_on _ _ c.put_unless_stays.result c.args.editor.now c.put_unless_stays.new.editor told told
    (λ i. group_answer stage (sym number i) (sym c.string.ensures.bytes i) (last_pairs (sym c.pairs.ensures i)))
    (c.put_unless_stays.ensures.row told)
