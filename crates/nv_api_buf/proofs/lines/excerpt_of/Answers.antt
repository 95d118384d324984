use Rattle.std.proofs.Common.{List, ℕ, sym, subst}
use Rattle.nv_value.specs.Content.{list}
use Rattle.nv_args.specs.Texts.{strings}
use Rattle.nv_msgpack.specs.Shortest.{HasSpelling}
use Rattle.nv_api_buf.proofs.Spelled.{range-spelled}
use Rattle.nv_api_buf.proofs.lines.excerpt_of.Goals as goal

pub returns-clause-spelled : goal.returns-clause-spelled
returns-clause-spelled c =
    subst (λ (lines : List (List ℕ)). HasSpelling (list (strings lines))) (sym c.in_ok-lines.ensures)
    (range-spelled c.args.text.now c.args.from c.args.to c.requires.narrow)
