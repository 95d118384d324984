use Rattle.std.proofs.Common.{◌≡◌, ◌<◌, ◌-◌, ◌∙◌, Bool, Option, None, Some, true, false, cond, length, ap, arith, rules, sym}
use Rattle.std.proofs.lemmas.Bool.Decides.{nat_tests}
use Rattle.nv_virt.specs.Texts.{is_shown}
use Rattle.nv_virt.proofs.laying.line_on.Goals as goal

pub returns-then-not-is_shown-clause-line : goal.returns-then-not-is_shown-clause-line
returns-then-not-is_shown-clause-line c =
    let p = c.args.pane.now in
    let no : is_shown p c.args.row ≡ false = sym c.is_shown.ensures ∙ c.if-not-is_shown.true in
    sym (ap (λ (b : Bool). cond b (Some (c.args.row - p.top)) None) no)

pub returns-clause-line : goal.returns-clause-line
returns-clause-line c =
    let p = c.args.pane.now in
    let yes : is_shown p c.args.row ≡ true = sym c.is_shown.ensures ∙ c.if-not-is_shown.false in
    let n : c.saturating_sub.result ≡ c.args.row - p.top = search rules in
    ap Some n ∙ sym (ap (λ (b : Bool). cond b (Some (c.args.row - p.top)) None) yes)

pub returns-clause-within : goal.returns-clause-within
returns-clause-within c =
    let p = c.args.pane.now in
    let yes : is_shown p c.args.row ≡ true = sym c.is_shown.ensures ∙ c.if-not-is_shown.false in
    let n : c.saturating_sub.result ≡ c.args.row - p.top = search rules in
    let lt : c.args.row - p.top < length p.lines.items = grind (arith, nat_tests, yes) in
    omega (arith, lt, n)
