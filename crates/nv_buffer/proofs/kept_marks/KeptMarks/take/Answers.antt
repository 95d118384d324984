use Rattle.std.proofs.Common.{◌≡◌, ℕ, List, [], Vec, ap, sym, subst, ◌∙◌}
use Rattle.nv_marks.specs.declared.keeping.Kept.{Kept}
use Rattle.nv_buffer.specs.KeptMarks.{kept_at, with_part}
use Rattle.nv_buffer.specs.Rooms.{kept_entries}
use Rattle.nv_buffer.proofs.Rooms.{left_held, nothing_kept, nothing_left, was_held}
use Rattle.nv_buffer.proofs.kept_marks.KeptMarks.take.Goals as goal

pub returns-clause-before : goal.returns-clause-before
returns-clause-before c =
    ap (λ (v : Vec Kept _). v.items) c.unwrap_or.ensures
    ∙ was_held c.self.inside.entries.entries (c.args.part.change, c.args.part.part) c.remove.result c.new-2.result
    c.remove.ensures.value c.new-2.ensures.items c.len-count.ensures.ordered
    ∙ ap (λ (es : List ((ℕ × ℕ) × List Kept)). kept_at (kept_entries es) c.args.part) c.self.view_is

pub returns-clause-left : goal.returns-clause-left
returns-clause-left c =
    left_held c.self.inside.entries.entries (c.args.part.change, c.args.part.part) c.remove.new.self.entries
    c.remove.ensures.entries c.len-count.ensures.ordered
    ∙ ap (λ (es : List ((ℕ × ℕ) × List Kept)). with_part c.args.part [] (kept_entries es)) c.self.view_is

pub returns-then-count-eq0-clause-before : goal.returns-then-count-eq0-clause-before
returns-then-count-eq0-clause-before c =
    c.new.ensures.items
    ∙ nothing_kept c.self.inside.entries.entries c.args.part (sym c.len-count.ensures.len ∙ c.if-count-eq0.true)
    ∙ ap (λ (es : List ((ℕ × ℕ) × List Kept)). kept_at (kept_entries es) c.args.part) c.self.view_is

pub returns-then-count-eq0-clause-left : goal.returns-then-count-eq0-clause-left
returns-then-count-eq0-clause-left c =
    subst (λ (es : List ((ℕ × ℕ) × List Kept)). kept_entries es ≡ with_part c.args.part [] (kept_entries es)) c.self.view_is
    (nothing_left c.self.inside.entries.entries c.args.part (sym c.len-count.ensures.len ∙ c.if-count-eq0.true))
