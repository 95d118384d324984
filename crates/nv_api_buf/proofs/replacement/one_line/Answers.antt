use Rattle.std.proofs.Common.{◌≡◌, ◌∙◌, ◌||◌, if◌then◌else◌, Bool, false, ap, sym}
use Rattle.nv_value.specs.View.{content}
use Rattle.nv_args.specs.Faults.{newline_inside}
use Rattle.nv_args.specs.Texts.{has_newline}
use Rattle.nv_model.specs.Answers.{refused}
use Rattle.nv_api_buf.specs.inside.Parts.{text_of_value}
use Rattle.nv_api_buf.proofs.Newlines.{search-of_line}
use Rattle.nv_api_buf.proofs.replacement.one_line.Goals as goal

pub returns-clause-row : goal.returns-clause-row
returns-clause-row c answer =
    let clean : has_newline (text_of_value (content c.args.value.now)) ≡ false =
    ap has_newline (sym (c.as_slice.ensures.bytes ∙ c.in_ok-string.ensures))
    ∙ search-of_line c.as_slice.result.now (c.is_line.ensures.0 c.if-not-is_line.false) in
    ap (λ (found : Bool). if found || false then refused newline_inside else answer) clean
