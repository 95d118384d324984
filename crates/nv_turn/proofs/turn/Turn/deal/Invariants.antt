use Rattle.std.proofs.Common.{◌≡◌, ℕ, ◌+◌, false, [], vec_len, vec_capacity}
use Rattle.nv_turn.specs.Passes.{first_passes}
use Rattle.nv_turn.proofs.turn.Turn.deal.Given as goal

abbrev pub invariant-loop-number : goal.invariant-loop-number
invariant-loop-number g l = record {
  turn : l.seat.table_id ≡ l.fn.self.turn;
  empty : l.seat.me.1 ≡ [];
  rests : l.seat.me.0.holds ≡ false;
  due : l.seat.me.0.due ≡ l.number;
  notes : l.seat.me.0.notes ≡ [];
  start : l.seat.me.0.start ≡ l.fn.seat.me.0.start;
  made : (n : ℕ) → n + 1 ≡ l.number → l.room.items ≡ first_passes l.fn.self.turn l.fn.seat.me.0.start n;
  count : vec_len l.room + 1 ≡ l.number;
  room : vec_capacity l.room ≡ l.passes;
}
