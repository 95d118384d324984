use Rattle.std.proofs.Common.{◌≡◌, Bool, true, false, [], ◌∷◌, ap, ◌∙◌, arith}
use Rattle.std.proofs.lemmas.Result.{err_from_is_err_and}
use Rattle.std.proofs.lemmas.Bool.Decides.{nat_tests}
use Rattle.std.specs.Prelude.{nat_lt}
use Rattle.nv_args.specs.Faults.{start_after_end}
use Rattle.nv_model.specs.Answers.{Answer, unless}
use Rattle.nv_api_buf.proofs.Deciding.{refused_by}
use Rattle.nv_api_buf.specs.declared.lines.Rows.{Rows}
use Rattle.nv_api_buf.proofs.lines.rows_in_order.Goals as goal

-- an answer, unless the second row is before the first
abbrev in_order : (Rows → Answer) → Rows → Answer
in_order answer rows = unless ((nat_lt rows.to rows.from, start_after_end) ∷ []) (answer rows)

late : (answer : Rows → Answer) (rows : Rows) (b : Bool) → nat_lt rows.to rows.from ≡ b → in_order answer rows ≡ unless ((b, start_after_end) ∷ []) (answer rows)
late answer rows b e = ap (λ t. unless ((t, start_after_end) ∷ []) (answer rows)) e

pub returns-in_err-rows-clause-row : goal.returns-in_err-rows-clause-row
returns-in_err-rows-clause-row c answer =
    let p = err_from_is_err_and c.from_residual.result c.from_residual.ensures.1 in
    rw (p.1, p.2) (c.in_err-rows.ensures.row (in_order answer))

pub returns-then-rows-clause-row : goal.returns-then-rows-clause-row
returns-then-rows-clause-row c answer =
    let test : nat_lt c.in_ok-rows.rows.to c.in_ok-rows.rows.from ≡ true = grind (arith, nat_tests) in
    refused_by _ c.start_after_end.result start_after_end c.start_after_end.ensures
    (c.in_ok-rows.ensures.row (in_order answer) ∙ late answer c.in_ok-rows.rows true test)

pub returns-clause-row : goal.returns-clause-row
returns-clause-row c answer =
    let test : nat_lt c.in_ok-rows.rows.to c.in_ok-rows.rows.from ≡ false = grind (arith, nat_tests) in
    c.in_ok-rows.ensures.row (in_order answer) ∙ late answer c.in_ok-rows.rows false test
