use Rattle.std.proofs.Common.{◌≡◌, map, take}
use Rattle.nv_value.specs.View.{content}
use Rattle.nv_args.specs.Methods.{signature_of}
use Rattle.nv_api_buf.specs.Metadata.{function}
use Rattle.nv_api_buf.proofs.metadata.functions_of.Given as goal

abbrev pub invariant-loop-signature : goal.invariant-loop-signature
invariant-loop-signature l = map content l.items.items ≡ map (λ s. function (signature_of s)) (take l.signature-index l.table)
