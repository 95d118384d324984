use Rattle.std.proofs.Common.{[], ◌∷◌, ◌++◌, refl, ap, inl, inr, sym, ◌∙◌, subst, arith}
use Rattle.std.specs.List.{concat}
use Rattle.std.specs.Io.KnownBytes.{IsAtEnd}
use Rattle.nv_io.proofs.StreamLemmas.{each_none, each_then}
use Rattle.nv_core.specs.declared.start.Start.{Start}
use Rattle.nv_calls.specs.Reading.{WasRead}
use Rattle.nv_session.specs.inside.Alone.{IsAlone}
use Rattle.nv_session.specs.inside.Serving.{state_of}
use Rattle.nv_session.specs.inside.Worlds.{entries_in}
use Rattle.nv_calls.specs.Intakes.{IntakeState}
use Rattle.nv_calls.proofs.Giving.{ends_there}
use Rattle.nv_session.proofs.Serving.{served_piece, served_length, served_more, leaves_turn, leaves_full, not_read_fault, not_write_fault}
use Rattle.nv_session.proofs.Steps.{served_new, alone_has}
use Rattle.nv_session.proofs.Leaving.{ends_has}
use Rattle.nv_session.specs.Sending.{HasSession}
use Rattle.nv_session.proofs.session.Session.serve_all.Goals as goal

pub loop-self-init : goal.loop-self-init
loop-self-init g c =
    let n = c.requires.new in
    record {
      served = ([], each_none _, served_new (state_of c.args.self.now c.args.world.now) _ n);
      ready = c.requires.ready;
      begins = refl;
      waits = inl (ap (λ (x : IntakeState). x.held) n.fresh);
      nothing_waits = c.requires.nothing_waits;
      read_later = omega arith;
      write_later = omega arith;
    }

pub returns-in-Err-clause-leaves : goal.returns-in-Err-clause-leaves
returns-in-Err-clause-leaves g c =
    let i = c.loop-self.invariant in
    let t = c.in-Err.ensures.turns in
    let first = state_of c.args.self.now c.args.world.now in
    let second = state_of c.loop-self.self c.loop-self.world in
    let last = state_of c.turn.new.self c.turn.new.world in
    let there = ends_there second.intake i.waits in (
      i.served.0 ++ t.0 ∷ [],
      each_then _ _ _ i.served.0 (t.0 ∷ []) i.served.1 t.1,
      leaves_turn c.in-Err.ended i.served.0 t.0 (g.I.Source.words c.turn.new.input).left first second last _ _ _ there.0 c.requires.new i.served.2 there.1 there.2 t.2,
    )

pub returns-in-Err-clause-has : goal.returns-in-Err-clause-has
returns-in-Err-clause-has g c =
    let second = state_of c.loop-self.self c.loop-self.world in
    let last = state_of c.turn.new.self c.turn.new.world in
    subst (λ (d : Start). HasSession d (entries_in c.turn.new.world)) c.loop-self.invariant.begins
    (ends_has (IsAtEnd (g.I.Source.words c.turn.new.input).left) c.in-Err.ended _ second last _ _ c.in-Err.ensures.turns.2)

pub loop-self-smaller : goal.loop-self-smaller
loop-self-smaller g c =
    let t = c.in_default.ensures.turns in
    let more = served_more t.0 (state_of c.loop-self.self c.loop-self.world) (state_of c.turn.new.self c.turn.new.world) _ _ t.2.0 in
    omega (arith, more, t.2.3, rw c.loop-self-test.true at c.is_open.ensures.open)

pub loop-self-preserved : goal.loop-self-preserved
loop-self-preserved g c =
    let i = c.loop-self.invariant in
    let t = c.in_default.ensures.turns in
    let first = state_of c.args.self.now c.args.world.now in
    let second = state_of c.loop-self.self c.loop-self.world in
    let third = state_of c.turn.new.self c.turn.new.world in
    record {
      served = (
        i.served.0 ++ t.0 ∷ [],
        each_then _ _ _ i.served.0 (t.0 ∷ []) i.served.1 t.1,
        served_piece i.served.0 t.0 first second third _ _ _ i.served.2 t.2.0,
      );
      ready = t.2.1;
      begins = c.in_default.ensures.begins ∙ i.begins;
      waits = t.2.2;
      nothing_waits = c.in_default.ensures.nothing_waits;
      read_later = omega (arith, c.in_default.ensures.read_later);
      write_later = omega (arith, c.in_default.ensures.write_later);
    }

pub returns-clause-leaves : goal.returns-clause-leaves
returns-clause-leaves g c =
    let i = c.loop-self.invariant in
    let first = state_of c.args.self.now c.args.world.now in
    let second = state_of c.loop-self.self c.loop-self.world in
    let all = served_length (concat i.served.0) first second _ _ c.requires.new i.served.2 in
    let read : WasRead (g.I.Source.words c.loop-self.input).left (concat i.served.0) = inr (omega (arith, all, rw c.loop-self-test.false at c.is_open.ensures.full)) in
    let e = c.end.ensures in
    let alone = subst (λ (d : Start). IsAlone d (entries_in c.loop-self.world)) i.begins i.ready.alone in (
      i.served.0,
      i.served.1,
      leaves_full c.end.result e.0 i.served.0 (g.I.Source.words c.loop-self.input).left first second _ _ e.1 c.requires.new i.served.2 e.2 e.3 alone read,
    )

pub returns-clause-has : goal.returns-clause-has
returns-clause-has g c =
    let i = c.loop-self.invariant in
    subst (λ (d : Start). HasSession d (entries_in c.loop-self.world)) i.begins (alone_has _ (entries_in c.loop-self.world) i.ready.alone)

pub returns-clause-read : goal.returns-clause-read
returns-clause-read g c = λ e. absurd (not_read_fault c.end.ensures.0 (sym c.end.ensures.1 ∙ e))

pub returns-clause-write : goal.returns-clause-write
returns-clause-write g c = λ e. absurd (not_write_fault c.end.ensures.0 (sym c.end.ensures.1 ∙ e))
