use Rattle.std.proofs.Common.{◌∙◌, ap, ℕ, List}
use Rattle.std.specs.Prelude.{is_some}
use Rattle.std.specs.declared.cmp.Reverse.{Reverse}
use Rattle.nv_marks.specs.inside.Names.{is_indexed}
use Rattle.nv_marks.proofs.IndexLemmas.{known}
use Rattle.nv_marks.proofs.index.Index.home.Goals as goal

pub returns : goal.returns
returns c = ap is_some (c.copied.ensures ∙ c.get.ensures.value) ∙ known c.self.inside.homes c.args.ns c.args.id
    ∙ ap (λ (l : List (ℕ × Reverse ℕ)). is_indexed l c.args.ns c.args.id) c.self.view_is
