-- A call that was read at once from what a stream holds.
use Rattle.std.proofs.Common.{◌≡◌, ℕ, List, sym, subst}
use Rattle.nv_rpc.specs.Calls.{Call}
use Rattle.nv_rpc.specs.Arrivals.{BeginsWithCall}
use Rattle.nv_stream.specs.State.{State}
use Rattle.nv_calls.specs.Reading.{most_depth, most_bytes}

pub held_begins : (s : State) (bytes : List ℕ) (call : Call) (n : ℕ) → s.depth ≡ most_depth → s.most ≡ most_bytes → bytes ≡ s.held → BeginsWithCall 64 67108864 bytes call n
    → BeginsWithCall s.depth s.most s.held call n
unfolding most_depth
held_begins s bytes call n d m e h =
    subst (λ (x : ℕ). BeginsWithCall x s.most s.held call n) (sym d) (subst (λ (x : ℕ). BeginsWithCall most_depth x s.held call n) (sym m) (subst (λ (l : List ℕ). BeginsWithCall most_depth most_bytes l call n) e h))
