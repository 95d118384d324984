use Rattle.std.proofs.Common.{rules, arith}
use Rattle.std.specs.Prelude.{pos, int_lt}
use Rattle.std.proofs.lemmas.List.Sorted.{IsPartitionPoint-from_clause}
use Rattle.std.proofs.lemmas.Bool.Decides.{nat_tests}
use Rattle.nv_windows.specs.Workspace.{window_on}
use Rattle.nv_windows.specs.declared.window.Window.{Window}
use Rattle.nv_windows.proofs.Rising.{parted, found_there, found_nowhere}
use Rattle.nv_windows.proofs.slots.place_of.Goals as goal

pub returns-in-Some-clause-place : goal.returns-in-Some-clause-place
returns-in-Some-clause-place c =
    let at = IsPartitionPoint-from_clause (λ (w : Window). int_lt w.handle c.args.handle) _ _
    c.partition_point-place.ensures.partitioned (parted (pos 1000) c.args.windows.now c.args.handle c.requires) (λ a r q k. search rules) in
    found_there (pos 1000) c.args.windows.now c.args.handle c.partition_point-place.result c.requires (omega (arith, c.partition_point-place.ensures.bound)) at c.in-Some.window.now
    (search (rules, nat_tests)) (search rules)

pub returns-in_default-clause-place : goal.returns-in_default-clause-place
returns-in_default-clause-place c =
    let at = IsPartitionPoint-from_clause (λ (w : Window). int_lt w.handle c.args.handle) _ _
    c.partition_point-place.ensures.partitioned (parted (pos 1000) c.args.windows.now c.args.handle c.requires) (λ a r q k. search rules) in
    found_nowhere (pos 1000) c.args.windows.now c.args.handle c.partition_point-place.result c.requires (omega (arith, c.partition_point-place.ensures.bound)) at c.in-Some.window.now
    (λ h. search rules)

pub returns-in_default-2-clause-place : goal.returns-in_default-2-clause-place
returns-in_default-2-clause-place c =
    let at = IsPartitionPoint-from_clause (λ (w : Window). int_lt w.handle c.args.handle) _ _
    c.partition_point-place.ensures.partitioned (parted (pos 1000) c.args.windows.now c.args.handle c.requires) (λ a r q k. search rules) in
    found_nowhere (pos 1000) c.args.windows.now c.args.handle c.partition_point-place.result c.requires (omega (arith, c.partition_point-place.ensures.bound)) at (window_on (pos 0) (pos 0))
    (λ h. absurd (grind (arith, nat_tests)))
