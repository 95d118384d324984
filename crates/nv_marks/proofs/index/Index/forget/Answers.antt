use Rattle.std.proofs.Common.{◌∙◌, ap, ℕ, List, ◌&&◌, not}
use Rattle.std.specs.declared.cmp.Reverse.{Reverse}
use Rattle.nv_marks.specs.inside.Names.{is_indexed, is_one_name}
use Rattle.nv_marks.proofs.IndexLemmas.{forgotten}
use Rattle.nv_marks.proofs.index.Index.forget.Goals as goal

pub returns : goal.returns
returns c = λ n i.
    forgotten c.self.inside.homes c.remove.new.self c.args.ns c.args.id c.remove.ensures.updates.0 n i
    ∙ ap (λ (l : List (ℕ × Reverse ℕ)). not (is_one_name c.args.ns c.args.id n i) && is_indexed l n i) c.self.view_is
