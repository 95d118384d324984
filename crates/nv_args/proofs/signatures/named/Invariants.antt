use Rattle.std.proofs.Common.{◌≡◌, map, drop}
use Rattle.nv_args.specs.Methods.{signature_of}
use Rattle.nv_args.specs.Table.{signature_among}
use Rattle.nv_args.proofs.signatures.named.Given as goal

abbrev pub invariant-loop-signature : goal.invariant-loop-signature
invariant-loop-signature l =
    signature_among l.name (map signature_of (drop l.signature-index l.signatures))
    ≡ signature_among l.name (map signature_of l.signatures)
