use Rattle.std.proofs.Common.{◌∙◌, length, ap, sym}
use Rattle.nv_undo.specs.declared.legs.Leg.{Leg}
use Rattle.nv_buffer.specs.Changes.{leg_edits, text_at, edits_of}
use Rattle.nv_undo.specs.Ways.{origin}
use Rattle.nv_buffer.proofs.WayBack.{length-inverses}
use Rattle.nv_buffer.proofs.buffer.Buffer.leg_len.Goals as goal

pub returns-in-Back : goal.returns-in-Back
returns-in-Back c =
    let undo = c.args.self.now.undo in
    c.change_len.ensures
    ∙ sym (length-inverses (text_at undo (origin undo c.in-Back.n)) (edits_of undo c.in-Back.n))
    ∙ sym (ap (λ (leg : Leg). length (leg_edits undo leg)) c.in-Back.is)
