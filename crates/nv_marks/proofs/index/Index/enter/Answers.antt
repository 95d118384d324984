use Rattle.std.proofs.Common.{◌∙◌, ap, ℕ, List, ◌||◌}
use Rattle.std.specs.declared.cmp.Reverse.{Reverse}
use Rattle.nv_marks.specs.inside.Names.{is_indexed, is_one_name}
use Rattle.nv_marks.proofs.IndexLemmas.{entered}
use Rattle.nv_marks.proofs.index.Index.enter.Goals as goal

pub returns-clause-ok : goal.returns-clause-ok
returns-clause-ok c = λ n i.
    entered c.self.inside.homes c.insert.new.self c.args.ns c.args.id _ c.in_ok-insert.ensures.updates.0 n i
    ∙ ap (λ (l : List (ℕ × Reverse ℕ)). is_one_name c.args.ns c.args.id n i || is_indexed l n i) c.self.view_is
