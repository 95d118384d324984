use Rattle.std.proofs.Common.{◌∙◌, length, ap, sym}
use Rattle.nv_buffer.specs.Changes.{edits_of}
use Rattle.nv_buffer.proofs.Costs.{cost_back_sealed, cost_back_open}
use Rattle.nv_buffer.proofs.buffer.Buffer.cost_back.Goals as goal

pub returns-then-unsealed-eq0 : goal.returns-then-unsealed-eq0
returns-then-unsealed-eq0 c =
    c.change_len.ensures
    ∙ ap (λ n. length (edits_of c.args.self.now.undo n)) c.undone.ensures.value
    ∙ sym (cost_back_sealed c.args.self.now (sym c.unsealed_len-unsealed.ensures ∙ c.if-unsealed-eq0.true))

pub returns-else-unsealed-eq0 : goal.returns-else-unsealed-eq0
returns-else-unsealed-eq0 c =
    c.unsealed_len-unsealed.ensures ∙ sym (cost_back_open c.args.self.now (λ none. c.if-unsealed-eq0.false (c.unsealed_len-unsealed.ensures ∙ none)))
