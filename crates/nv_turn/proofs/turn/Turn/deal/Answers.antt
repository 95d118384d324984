use Rattle.std.proofs.Common.{◌≡◌, ◌+◌, ◌-◌, sym, ap, ◌∙◌, arith, rules}
use Rattle.nv_turn.specs.Passes.{first_pass, first_passes}
use Rattle.nv_turn.proofs.Dealing.{draw_allowed, split_allowed}
use Rattle.nv_turn.proofs.Dealt.{dealt_none, dealt_push, fresh_pass}
use Rattle.nv_turn.proofs.turn.Turn.deal.Goals as goal

pub loop-number-init : goal.loop-number-init
loop-number-init g c = record {
  turn = c.requires.turn;
  empty = c.requires.seat.0;
  rests = c.requires.seat.1;
  due = c.requires.seat.2;
  notes = c.requires.seat.3;
  start = search rules;
  made = λ n e. c.requires.room.0 ∙ (sym (dealt_none _ _) ∙ ap (first_passes c.args.self.now.turn c.args.seat.me.0.start) (omega arith));
  count = omega (arith, c.requires.room.1);
  room = c.requires.room.2;
}

pub fetch_add-requires : goal.fetch_add-requires
fetch_add-requires g c =
    let l = c.loop-number.invariant in
    let most = ap (λ z. z.passes) c.self.view_is ∙ sym c.requires.passes.2 in (
      l.turn ∙ sym (ap (λ z. z.turn) c.self.view_is),
      omega (arith, c.self.invariant.0),
      draw_allowed _ _ _ _ _ _ _ _ l.notes l.rests (omega (arith, l.due, c.loop-number.auto.number)) (omega (arith, l.due, most, c.loop-number-test.true)) (omega (arith, most, c.requires.passes.1)),
    )

pub split_seat-next-requires : goal.split_seat-next-requires
split_seat-next-requires g c = (
  c.fetch_add.ensures.0 ∙ (c.loop-number.invariant.turn ∙ sym (ap (λ z. z.turn) c.self.view_is)),
  omega (arith, c.self.invariant.0),
  split_allowed _ _ _ _ _ _ _,
)

pub loop-number-preserved : goal.loop-number-preserved
loop-number-preserved g c =
    let l = c.loop-number.invariant in
    let drew = c.fetch_add.ensures in
    let cut = c.split_seat-next.ensures in
    let number : c.fetch_add.result ≡ c.loop-number.number = drew.2.0 ∙ l.due in
    let pass = fresh_pass c.args.self.now.turn c.args.seat.me.0.start _ c.loop-number.number c.fetch_add.result c.split_seat-next.new.seat.me.0 (cut.0 ∙ (drew.0 ∙ l.turn))
    (ap (λ m. m.0.notes) cut.2 ∙ ap (λ m. m.0.notes) drew.2.1) (ap (λ m. m.0.start) cut.2 ∙ (ap (λ m. m.0.start) drew.2.1 ∙ l.start)) number in
    record {
      turn = cut.3 ∙ (drew.0 ∙ l.turn);
      empty = ap (λ m. m.1) cut.4;
      rests = ap (λ m. m.0.holds) cut.4;
      due = ap (λ m. m.0.due) cut.4 ∙ (ap (λ m. m.0.due) drew.2.1 ∙ ap (λ k. k + 1) number);
      notes = ap (λ m. m.0.notes) cut.4;
      start = ap (λ m. m.0.start) cut.4 ∙ (ap (λ m. m.0.start) drew.2.1 ∙ l.start);
      made = λ n e. dealt_push _ _ _ _ _ (c.loop-number.number - 1) n c.push_reserved.ensures.items (l.made (c.loop-number.number - 1) (omega (arith, c.loop-number.auto.number)))
          (pass ∙ ap (first_pass c.args.self.now.turn c.args.seat.me.0.start) (omega arith)) (omega (arith, c.loop-number.auto.number));
      count = omega (arith, c.push_reserved.ensures.len, l.count);
      room = c.push_reserved.ensures.capacity ∙ l.room;
    }

pub fetch_add-requires-2 : goal.fetch_add-requires-2
fetch_add-requires-2 g c =
    let l = c.loop-number.invariant in
    let most = ap (λ z. z.passes) c.self.view_is ∙ sym c.requires.passes.2 in (
      l.turn ∙ sym (ap (λ z. z.turn) c.self.view_is),
      omega (arith, c.self.invariant.0),
      draw_allowed _ _ _ _ _ _ _ _ l.notes l.rests (omega (arith, l.due, c.loop-number.auto.number)) (omega (arith, l.due, most, c.loop-number.auto.number-end, c.requires.passes.0)) (omega (arith, most, c.requires.passes.1)),
    )

pub returns-clause-passes : goal.returns-clause-passes
returns-clause-passes g c =
    let l = c.loop-number.invariant in
    let drew = c.fetch_add-2.ensures in
    let end : c.loop-number.number ≡ c.args.passes = omega (arith, c.loop-number.auto.number-end, c.loop-number-test.false, c.requires.passes.0) in
    let pass = fresh_pass c.args.self.now.turn c.args.seat.me.0.start _ c.args.passes c.fetch_add-2.result c.fetch_add-2.new.seat.me.0 (drew.0 ∙ l.turn)
    (ap (λ m. m.0.notes) drew.2.1) (ap (λ m. m.0.start) drew.2.1 ∙ l.start) (drew.2.0 ∙ (l.due ∙ end)) in
    dealt_push _ _ _ _ _ (c.args.passes - 1) c.args.passes c.push_reserved-2.ensures.items (l.made (c.args.passes - 1) (omega (arith, end, c.requires.passes.0))) pass (omega (arith, c.requires.passes.0))
