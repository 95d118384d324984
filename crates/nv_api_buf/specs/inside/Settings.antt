-- inside: the options of a buffer as the code has them, and what is put.
use Rattle.std.specs.Prelude.{ℤ, ◌≤◌, ⊤}
use Rattle.nv_model.specs.Operations.{Operation, modifiable_put, modified_put, listed_put, tabstop_put}
use Rattle.nv_api_buf.specs.OptionRows.{BufferOption, modifiable_option, modified_option, listed_option, tabstop_option}
use Rattle.nv_api_buf.specs.declared.options.Setting.{Setting}
use Rattle.nv_api_buf.specs.declared.options.Setting.TheVariants.{Modifiable, Modified, Listed, Tabstop}
use Rattle.nv_api_buf.specs.declared.options.Put.{Put}
use Rattle.nv_api_buf.specs.declared.options.Put.TheVariants.{OfModifiable, OfModified, OfListed, OfTabstop}

-- an option by its word
abbrev pub option_of : Setting → BufferOption
option_of Modifiable = modifiable_option
option_of Modified = modified_option
option_of Listed = listed_option
option_of Tabstop = tabstop_option

-- what a value that was taken does in a buffer
abbrev pub operation_of : ℤ → Put → Operation
operation_of n (OfModifiable on) = modifiable_put n on
operation_of n (OfModified on) = modified_put n on
operation_of n (OfListed on) = listed_put n on
operation_of n (OfTabstop cells) = tabstop_put n cells

-- a tabstop has 1 to 9999 cells
abbrev pub IsPuttable : Put → Type 0
IsPuttable (OfTabstop cells) = (1 ≤ cells) × (cells ≤ 9999)
IsPuttable _ = ⊤
