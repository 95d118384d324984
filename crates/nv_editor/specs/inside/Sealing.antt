-- inside: open changes closed, one buffer after another. Only private contracts cite this.
use Rattle.std.specs.Prelude.{◌≡◌, ℤ, List, fold}
use Rattle.nv_buffer.specs.Content.{Content, after_seal}
use Rattle.nv_model.specs.Editors.{at_handle, handles_of, updated_at}

-- under each handle stands the same, and the handles are the same
pub record HasSameEntries (later before : List (ℤ × Content)) : Type 0 where
  pub lookups : (k : ℤ) → at_handle later k ≡ at_handle before k
  pub handles : handles_of later ≡ handles_of before

-- buffers with the open change of one closed, where it is there
abbrev pub with_sealed : List (ℤ × Content) → ℤ → List (ℤ × Content)
with_sealed entries n = updated_at n after_seal entries

-- and with those of some
abbrev pub after_seals : List (ℤ × Content) → List ℤ → List (ℤ × Content)
after_seals entries handles = fold with_sealed entries handles
