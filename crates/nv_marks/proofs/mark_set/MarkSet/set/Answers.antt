use Rattle.std.proofs.Common.{◌≡◌, ◌∙◌, ◌∷◌, ap, subst, cond, eqb, max, ℕ, Some}
use Rattle.std.specs.Prelude.{OnOk}
use Rattle.nv_marks.specs.Marks.{greatest_id, is_named, mark_at, numbered_mark, without}
use Rattle.nv_marks.specs.Order.{IsInOrder}
use Rattle.nv_marks.specs.declared.extmark.Mark.{Mark}
use Rattle.nv_marks.proofs.mark_set.MarkSet.set.Goals as goal

pub returns-clause-marks : goal.returns-clause-marks
returns-clause-marks c =
    subst (λ (m : Mark). OnOk c.put.result (IsInOrder (m ∷ without m.ns m.id c.args.self.now.marks) c.put.new.self.marks))
    (c.numbered_mark-mark.ensures ∙ ap (λ (n : ℕ). numbered_mark n c.args.mark) c.settings.ensures) c.put.ensures.marks

pub returns-clause-found : goal.returns-clause-found
returns-clause-found c =
    subst (λ (m : Mark). OnOk c.put.result ((ns id : ℕ) → mark_at c.put.new.self.marks ns id ≡ cond (is_named ns id m) (Some m) (mark_at c.args.self.now.marks ns id)))
    (c.numbered_mark-mark.ensures ∙ ap (λ (n : ℕ). numbered_mark n c.args.mark) c.settings.ensures) c.put.ensures.found

pub returns-clause-settings : goal.returns-clause-settings
returns-clause-settings c =
    subst (λ (m : Mark). OnOk c.put.result (c.put.new.self.settings ≡ m.set))
    (c.numbered_mark-mark.ensures ∙ ap (λ (n : ℕ). numbered_mark n c.args.mark) c.settings.ensures) c.put.ensures.settings

pub returns-clause-greatest : goal.returns-clause-greatest
returns-clause-greatest c =
    subst (λ (m : Mark). OnOk c.put.result ((ns : ℕ) → greatest_id c.put.new.self.greatest ns
    ≡ cond (eqb ns m.ns) (max (greatest_id c.args.self.now.greatest ns) m.id) (greatest_id c.args.self.now.greatest ns)))
    (c.numbered_mark-mark.ensures ∙ ap (λ (n : ℕ). numbered_mark n c.args.mark) c.settings.ensures) c.put.ensures.greatest
