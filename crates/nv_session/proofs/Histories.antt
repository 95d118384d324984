-- Entries and then others: the world after them, what they give, and the calls in them.
use Rattle.std.proofs.Common.{◌≡◌, List, [], ◌∷◌, ◌++◌, Option, Some, None, sym, ap, ◌∙◌, append_assoc}
use Rattle.std.specs.Option.{option_and_then}
use Rattle.std.proofs.lemmas.Grind.{flat_map-append}
use Rattle.nv_core.specs.declared.start.Start.{Start}
use Rattle.nv_history.specs.Events.{Entry}
use Rattle.nv_history.specs.Worlds.{World, step, world_made, fresh_world}
use Rattle.nv_history.specs.Runs.{TakenBatch, run_from, rest_in, given, out_from}
use Rattle.nv_history.specs.Asking.{calls_in, calls_of}
use Rattle.nv_session.specs.Sending.{world_after, batches_taken}

-- the world after entries and others
run_in : (o : Option World) (v : World) (es fs : List Entry) → ((u : World) → run_from u es ≡ Some v → run_from u (es ++ fs) ≡ run_from v fs)
    → option_and_then (λ u. run_from u es) o ≡ Some v → option_and_then (λ u. run_from u (es ++ fs)) o ≡ run_from v fs
run_in None v es fs law e = cc
run_in (Some u) v es fs law e = law u e

pub run_then : (w v : World) (es fs : List Entry) → run_from w es ≡ Some v → run_from w (es ++ fs) ≡ run_from v fs
run_then w v [] fs e = let same : w ≡ v = cc in ap (λ (u : World). run_from u fs) same
run_then w v (x ∷ es) fs e = run_in (world_made (step w x.event)) v es fs (λ u h. run_then u v es fs h) e

pub world_then : (start : Start) (v : World) (es fs : List Entry) → world_after start es ≡ Some v → world_after start (es ++ fs) ≡ run_from v fs
world_then start v es fs e = run_then (fresh_world start.outbox start.limits) v es fs e

-- what a session is given by entries and others
out_in : (o : Option World) (v : World) (es fs : List Entry) (gave : List TakenBatch) → ((u : World) → run_from u es ≡ Some v → out_from u 1 (es ++ fs) ≡ out_from u 1 es ++ out_from v 1 fs)
    → option_and_then (λ u. run_from u es) o ≡ Some v
    → gave ++ rest_in (λ u. out_from u 1 (es ++ fs)) o ≡ gave ++ rest_in (λ u. out_from u 1 es) o ++ out_from v 1 fs
out_in None v es fs gave law e = cc
out_in (Some u) v es fs gave law e =
    ap (λ (l : List TakenBatch). gave ++ l) (law u e) ∙ sym (append_assoc gave (out_from u 1 es) (out_from v 1 fs))

out_then : (w v : World) (es fs : List Entry) → run_from w es ≡ Some v → out_from w 1 (es ++ fs) ≡ out_from w 1 es ++ out_from v 1 fs
out_then w v [] fs e = let same : w ≡ v = cc in ap (λ (u : World). out_from u 1 fs) same
out_then w v (x ∷ es) fs e =
    out_in (world_made (step w x.event)) v es fs (given 1 x.event (step w x.event)) (λ u h. out_then u v es fs h) e

pub taken_then : (start : Start) (v : World) (es fs : List Entry) → world_after start es ≡ Some v → batches_taken start (es ++ fs) ≡ batches_taken start es ++ out_from v 1 fs
taken_then start v es fs e = out_then (fresh_world start.outbox start.limits) v es fs e

-- the calls in entries and others
pub asked_then : (es fs : List Entry) → calls_of 1 (es ++ fs) ≡ calls_of 1 es ++ calls_of 1 fs
asked_then es fs = flat_map-append (λ (e : Entry). calls_in 1 e.event) es fs
