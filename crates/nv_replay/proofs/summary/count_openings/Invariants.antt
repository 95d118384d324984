-- The entries of the kind so far, and those among the entries that are left, are all.
use Rattle.std.proofs.Common.{◌≡◌, ◌≤◌, ◌+◌, drop}
use Rattle.nv_core.specs.Contents.{plain_entries}
use Rattle.nv_replay.specs.Summary.{count_of_kind, is_opening}
use Rattle.nv_replay.proofs.summary.count_openings.Given as goal

abbrev pub invariant-loop-entry : goal.invariant-loop-entry
invariant-loop-entry l = record {
  count : l.count + count_of_kind is_opening (plain_entries (drop l.entry-index l.entries)) ≡ count_of_kind is_opening (plain_entries l.entries);
  most : l.count ≤ l.entry-index;
}
