use Rattle.std.proofs.Common.{◌≡◌, take, false}
use Rattle.nv_layout.specs.Content.{shapes_of}
use Rattle.nv_layout.specs.Changes.{holds_among}
use Rattle.nv_layout.proofs.+holds.Given as goal

abbrev pub invariant-changes::place_of-loop-place : goal.invariant-changes::place_of-loop-place
invariant-changes::place_of-loop-place l = holds_among l.window (shapes_of (take l.place l.trees)) ≡ false
