use Rattle.std.proofs.Common.{◌≡◌, subst, rules, Option}
use Rattle.std.specs.Prelude.{IfSome}
use Rattle.nv_args.specs.Args.{typed_arguments}
use Rattle.nv_args.specs.Reading.{number_at}
use Rattle.nv_editor.specs.Sound.{IsOfGroups}
use Rattle.nv_marks.specs.declared.extmark.Mark.{Mark}
use Rattle.nv_model.specs.Standing.{seen_buffer_now}
use Rattle.nv_api_mark.specs.MarkRows.{mark_numbered}
use Rattle.nv_api_mark.proofs.MarkLookups.{numbered_all}
use Rattle.nv_api_mark.proofs.marks.mark_given.Goals as goal

pub returns-in-Some-clause-painted : goal.returns-in-Some-clause-painted
returns-in-Some-clause-painted c = λ all.
    let b = seen_buffer_now c.args.buffer.now in
    let number = number_at (typed_arguments c.args.args.now) 2 in
    let is : mark_numbered b c.in-Some.ns number ≡ c.mark_numbered.result = search rules in
    subst (λ (o : Option Mark). IfSome o (IsOfGroups c.args.editor.now.stage.groups)) is (numbered_all (IsOfGroups c.args.editor.now.stage.groups) b c.in-Some.ns number all)
