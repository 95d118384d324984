use Rattle.nv_buffer.proofs.WayBack.{inverse-undoes, inverse-fits, inverse-inverse, taken_back}
use Rattle.nv_buffer.proofs.laws.edit_laws.Goals as goal

pub returns : goal.returns
returns c = record {
  undoes = inverse-undoes;
  fits = λ text edit is fits. (inverse-fits text edit is fits, inverse-inverse text edit fits);
  all = λ text edits is fit. let back = taken_back text edits is fit in (back.fit, back.text_is);
}
