use Rattle.std.proofs.Common.{◌≡◌, length, map, drop}
use Rattle.nv_args.specs.Methods.{signature_of}
use Rattle.nv_args.specs.Table.{signature_among}
use Rattle.nv_args.specs.inside.Lookup.{of_length}
use Rattle.nv_args.proofs.signatures.named_at.Given as goal

abbrev pub invariant-loop-place : goal.invariant-loop-place
invariant-loop-place l =
    signature_among l.name (drop l.place-index (of_length (length l.name) (map signature_of l.signatures)))
    ≡ signature_among l.name (map signature_of l.signatures)
