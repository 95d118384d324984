use Rattle.std.proofs.Common.{◌∙◌, ℕ, Option, unwrap_or, ap, sym}
use Rattle.nv_undo.specs.Ways.{origin}
use Rattle.nv_buffer.specs.Content.{Content}
use Rattle.nv_buffer.proofs.TreeAhead.{origin-ahead}
use Rattle.nv_buffer.proofs.buffer.Buffer.origin.Goals as goal

pub returns : goal.returns
returns c =
    c.unwrap_or.ensures
    ∙ ap (λ (o : Option ℕ). unwrap_or o 0) c.parent.ensures.number
    ∙ sym (origin-ahead c.self.inside.tree c.args.n)
    ∙ ap (λ (b : Content). origin b.undo c.args.n) c.self.view_is
