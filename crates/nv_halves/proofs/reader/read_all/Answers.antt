use Rattle.std.proofs.Common.{[], ◌++◌, refl, ap, inl, inr, sym, ◌∙◌, arith}
use Rattle.std.specs.Io.KnownBytes.{IsAtEnd}
use Rattle.nv_io.proofs.StreamLemmas.{gave_none, gave_then}
use Rattle.nv_calls.specs.Reading.{WasRead}
use Rattle.nv_calls.specs.Intakes.{IntakeState}
use Rattle.nv_halves.proofs.Intaking.{makes_fresh, makes_then, made_length, made_more, stops_then, stops_on, stops_held, read_stops, no_read_fault}
use Rattle.nv_halves.proofs.reader.read_all.Goals as goal

pub pieces-init : goal.pieces-init
pieces-init g c =
    let n = c.requires.fresh in
    record {
      made = ([], gave_none _ _, makes_fresh c.args.intake _ _ n);
      at_turn = refl;
      live = ap (λ (x : IntakeState). x.flaw) n;
      waits = inl (ap (λ (x : IntakeState). x.held) n);
      later = omega arith;
    }

pub returns-in-Err-clause-read : goal.returns-in-Err-clause-read
returns-in-Err-clause-read g c =
    let i = c.pieces.invariant in
    let t = rw c.in-Err.is at c.make_piece-next.ensures.makes in (
      i.made.0 ++ t.0,
      gave_then _ _ _ _ _ _ i.made.0 t.0 i.made.1 t.1,
      read_stops (IsAtEnd (g.I.Source.words c.make_piece-next.new.input).left) c.in-Err.end (i.made.0 ++ t.0) _ c.args.intake _ _ _ c.requires.fresh (λ h. inl h)
          (stops_then _ c.in-Err.end i.made.0 t.0 c.args.intake c.pieces.intake _ _ _ _ i.made.2 t.2),
    )

pub pieces-smaller : goal.pieces-smaller
pieces-smaller g c =
    let t = rw c.in-Ok.is at c.make_piece-next.ensures.makes in
    let more = made_more t.0 c.pieces.intake c.make_piece-next.new.intake _ _ _ t.2.0 in
    omega (arith, more, t.2.3, rw c.pieces-test.true at c.is_open.ensures.open)

pub pieces-preserved : goal.pieces-preserved
pieces-preserved g c =
    let i = c.pieces.invariant in
    let t = rw c.in-Ok.is at c.make_piece-next.ensures.makes in
    record {
      made = (
        i.made.0 ++ t.0,
        gave_then _ _ _ _ _ _ i.made.0 t.0 i.made.1 t.1,
        makes_then i.made.0 t.0 c.args.intake c.pieces.intake c.make_piece-next.new.intake _ _ _ _ i.made.2 t.2.0,
      );
      at_turn = t.2.0.asks.same.turn ∙ i.at_turn;
      live = t.2.1;
      waits = t.2.2;
      later = omega (arith, c.make_piece-next.ensures.later, i.later);
    }

pub returns-clause-read : goal.returns-clause-read
returns-clause-read g c =
    let i = c.pieces.invariant in
    let all = made_length i.made.0 c.args.intake c.pieces.intake _ _ _ c.requires.fresh i.made.2 in
    let over : WasRead (g.I.Source.words c.pieces.input).left i.made.0 = inr (omega (arith, all, rw c.pieces-test.false at c.is_open.ensures.full)) in (
      i.made.0,
      i.made.1,
      read_stops (WasRead (g.I.Source.words c.pieces.input).left i.made.0) c.end_of.result i.made.0 _ c.args.intake _ _ _ c.requires.fresh (λ h. h)
          (stops_on _ c.end_of.result i.made.0 c.args.intake c.pieces.intake _ _ _ _ i.made.2
          (stops_held _ c.end_of.result c.pieces.intake _ _ over c.end_of.ensures)),
    )

pub returns-clause-fault : goal.returns-clause-fault
returns-clause-fault g c = λ e. absurd (no_read_fault c.end_of.ensures.0 (sym c.end_of.ensures.1 ∙ e))
