use Rattle.std.proofs.Common.{◌≡◌, List, [], ◌∷◌, refl, ap}
use Rattle.nv_buffer.specs.Content.{Content, after_seal, after_seal_of}
use Rattle.nv_buffer.specs.declared.edit.Edit.{Edit}
use Rattle.nv_buffer.proofs.KeptTexts.{text_at-first, text_at-change, text_at-stays}
use Rattle.nv_buffer.proofs.laws.change_laws.Goals as goal

-- sealing what was sealed
sealed_once : (buffer : Content) (edits : List Edit) → buffer.unsealed ≡ edits → after_seal (after_seal_of buffer edits) ≡ after_seal_of buffer edits
sealed_once buffer [] is = ap (after_seal_of buffer) is
sealed_once buffer (edit ∷ edits) is = refl

pub returns : goal.returns
returns c = record {
  sealed = λ buffer. sealed_once buffer buffer.unsealed refl;
  texts = λ undo tree. (text_at-first undo, λ n edits is. text_at-change undo n edits tree is);
  stay = text_at-stays;
}
