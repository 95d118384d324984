-- Whether one of those that are left is, since none was so far.
use Rattle.std.proofs.Common.{◌≡◌, drop}
use Rattle.std.specs.List.{list_any}
use Rattle.std.specs.Ordering.{int_eq}
use Rattle.nv_world.specs.declared.step.Moved.{Moved}
use Rattle.nv_watch.proofs.buffer_fold.is_spliced.Given as goal

abbrev pub invariant-loop-splice : goal.invariant-loop-splice
invariant-loop-splice l =
    list_any (λ (splice : Moved). int_eq splice.buffer l.followed.buffer) (drop l.splice-index l.splices)
    ≡ list_any (λ (splice : Moved). int_eq splice.buffer l.followed.buffer) l.splices
