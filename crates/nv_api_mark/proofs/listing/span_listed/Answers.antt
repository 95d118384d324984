use Rattle.std.proofs.Common.{◌∙◌, List, sym, subst}
use Rattle.std.specs.Prelude.{All}
use Rattle.nv_marks.specs.declared.extmark.Mark.{Mark}
use Rattle.nv_editor.specs.Sound.{IsOfGroups}
use Rattle.nv_api_mark.proofs.Picked.{all_listed}
use Rattle.nv_api_mark.proofs.listing.span_listed.Goals as goal

pub listed_marks-requires : goal.listed_marks-requires
listed_marks-requires c =
    let groups = c.args.editor.now.stage.groups in
    let span = c.args.span in
    subst (λ (ms : List Mark). All (IsOfGroups groups) ms) (sym (c.as_slice.ensures.value ∙ c.in_ok-marks.ensures))
    (all_listed (IsOfGroups groups) c.integer_from-limit.result span.meant c.flag_or-overlap.result span.start span.stop c.args.buffer.now.marks.marks c.requires.painted)
