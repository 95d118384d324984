use Rattle.std.proofs.Common.{◌≡◌, take, false}
use Rattle.nv_layout.specs.Content.{shapes_of}
use Rattle.nv_layout.specs.Changes.{holds_among}
use Rattle.nv_layout.proofs.changes.+path.Given as goal

abbrev pub invariant-push_path_among-loop-place : goal.invariant-push_path_among-loop-place
invariant-push_path_among-loop-place l = (l.into.items ≡ l.fn.into.items) × (holds_among l.window (shapes_of (take l.place l.trees)) ≡ false)
