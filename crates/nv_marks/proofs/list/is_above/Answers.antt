use Rattle.std.proofs.Common.{◌≡◌, ◌∙◌, refl, ap, sym, ℕ, Bool, true, false, not}
use Rattle.std.specs.List.{list_any}
use Rattle.nv_marks.specs.inside.Bands.{meets_rows}
use Rattle.nv_marks.proofs.list.is_above.Goals as goal

was_false : (b : Bool) → not b ≡ true → b ≡ false
was_false true is = absurd cc
was_false false is = refl

pub returns-then-stands_before-clause-before : goal.returns-then-stands_before-clause-before
returns-then-stands_before-clause-before c = λ yes. sym c.stands_before.ensures ∙ c.if-stands_before.true

pub returns-then-stands_before-clause-apart : goal.returns-then-stands_before-clause-apart
returns-then-stands_before-clause-apart c = λ yes.
    ap (λ (n : ℕ). list_any (meets_rows c.args.base.row n) c.args.bands.now) (sym c.wide_place-row.ensures.row) ∙ sym c.has_rows.ensures ∙ was_false c.has_rows.result yes
