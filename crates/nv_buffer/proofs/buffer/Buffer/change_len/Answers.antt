use Rattle.std.proofs.Common.{◌≡◌, ◌∙◌, List, [], length, ap, sym, unwrap_or, Option, None, Some}
use Rattle.nv_buffer.specs.Changes.{edits_of}
use Rattle.nv_buffer.specs.Content.{Content}
use Rattle.nv_buffer.specs.declared.step.Step.{Step}
use Rattle.nv_buffer.proofs.TreeAhead.{count-ahead}
use Rattle.nv_buffer.proofs.buffer.Buffer.change_len.Goals as goal

pub returns-in-Some : goal.returns-in-Some
returns-in-Some c =
    c.len.ensures
    ∙ ap (λ (o : Option (List Step)). length (unwrap_or o [])) c.in-Some.ensures.change
    ∙ sym (count-ahead c.self.inside.tree c.args.n)
    ∙ ap (λ (b : Content). length (edits_of b.undo c.args.n)) c.self.view_is

pub returns-in-None : goal.returns-in-None
returns-in-None c =
    ap (λ (o : Option (List Step)). length (unwrap_or o [])) c.in-None.ensures.change
    ∙ sym (count-ahead c.self.inside.tree c.args.n)
    ∙ ap (λ (b : Content). length (edits_of b.undo c.args.n)) c.self.view_is
