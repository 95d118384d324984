-- inside: a splice of a buffer, as it was made. Only private contracts cite this.
use Rattle.std.specs.Prelude.{◌≡◌, true, false, Option, Some, None}
use Rattle.nv_buffer.specs.Content.{Content}
use Rattle.nv_buffer.specs.Splices.{IsBufferText}
use Rattle.nv_buffer.specs.Steps.{IsBuffer}
use Rattle.nv_buffer.specs.declared.buffer.Spliced.{Spliced}
use Rattle.nv_model.specs.Buffers.{Splice, is_empty_splice}
use Rattle.nv_model.specs.Keeping.{IsSpliced}

-- a splice was made, and told so
pub record IsMade (b c : Content) (s : Splice) (event : Spliced) : Type 0 where
  pub spliced : IsSpliced b c s event
  pub before : IsBuffer b.text b.tick b.undo b.unsealed
  pub text : IsBufferText b.text
  pub later : IsBufferText c.text
  pub some : is_empty_splice s ≡ false

-- a splice of nothing wasn't made
pub record IsLeft (b c : Content) (s : Splice) : Type 0 where
  pub same : c ≡ b
  pub none : is_empty_splice s ≡ true

-- a splice was made, where it is one
abbrev pub IsMadeOrLeft : Option Spliced → Content → Content → Splice → Type 0
IsMadeOrLeft None b c s = IsLeft b c s
IsMadeOrLeft (Some event) b c s = IsMade b c s event
