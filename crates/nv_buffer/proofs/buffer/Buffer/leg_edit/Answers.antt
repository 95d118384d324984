use Rattle.std.proofs.Common.{◌<◌, length, arith, subst}
use Rattle.nv_undo.specs.declared.legs.Leg.{Leg}
use Rattle.nv_buffer.specs.Changes.{leg_edits, text_at, edits_of}
use Rattle.nv_buffer.specs.Content.{IsAlong}
use Rattle.nv_undo.specs.Ways.{origin}
use Rattle.nv_buffer.proofs.WayBack.{length-inverses}
use Rattle.nv_buffer.proofs.buffer.Buffer.leg_edit.Goals as goal

pub edit_back-requires-clause-place : goal.edit_back-requires-clause-place
edit_back-requires-clause-place c =
    let undo = c.args.self.now.undo in
    let within = subst (λ (leg : Leg). c.args.place < length (leg_edits undo leg)) c.in-Back.is c.requires.place in
    omega (arith, within, length-inverses (text_at undo (origin undo c.in-Back.n)) (edits_of undo c.in-Back.n))

pub edit_back-requires-clause-text : goal.edit_back-requires-clause-text
edit_back-requires-clause-text c = subst (λ (leg : Leg). IsAlong c.args.self.now leg c.args.place) c.in-Back.is c.requires.text

pub edit_ahead-requires-clause-text : goal.edit_ahead-requires-clause-text
edit_ahead-requires-clause-text c = subst (λ (leg : Leg). IsAlong c.args.self.now leg c.args.place) c.in-Ahead.is c.requires.text
