-- The lines of the chunks gone over stand in the tables.
use Rattle.std.proofs.Common.{◌≡◌, ◌+◌, ◌-◌, ◌≤◌, length, vec_len, vec_capacity}
use Rattle.nv_lines.specs.inside.Tables.{AreTakenOut}
use Rattle.nv_lines.proofs.taking.take_tables.Given as goal

abbrev pub invariant-loop-place : goal.invariant-loop-place
invariant-loop-place l = record {
  taken : AreTakenOut l.tables.items l.initial.chunks l.chunks;
  many : length l.tables.items ≡ l.place;
  same : length l.chunks ≡ length l.initial.chunks;
  room : vec_len l.tables + (length l.initial.chunks - l.place) ≤ vec_capacity l.tables;
}
