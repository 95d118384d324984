use Rattle.std.proofs.Common.{◌≡◌, true, take, is_some}
use Rattle.std.specs.List.{list_all}
use Rattle.nv_value.specs.View.{content}
use Rattle.nv_value.specs.declared.value.Value.{Value}
use Rattle.nv_args.specs.Chunks.{chunk_in}
use Rattle.nv_args.proofs.chunks.all_are_chunks.Given as goal

abbrev pub invariant-loop-item : goal.invariant-loop-item
invariant-loop-item l = list_all (λ (v : Value). is_some (chunk_in (content v))) (take l.item-index l.items) ≡ true
