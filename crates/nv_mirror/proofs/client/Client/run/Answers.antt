use Rattle.std.proofs.Common.{rules, ◌≡◌, ℕ, [], ◌∷◌, ◌++◌, length, refl, ap, inl, inr, sym, ◌∙◌, arith}
use Rattle.std.specs.Io.KnownBytes.{IsAtEnd}
use Rattle.std.specs.List.{concat}
use Rattle.nv_io.proofs.StreamLemmas.{each_none, each_then}
use Rattle.nv_stream.specs.State.{stream_end}
use Rattle.nv_mirror.specs.Ends.{IsReadToEnd}
use Rattle.nv_mirror.specs.inside.Steps.{Standing, standing_of}
use Rattle.nv_mirror.proofs.Outs.{known_none, known_both}
use Rattle.nv_mirror.proofs.Standings.{steps_none, steps_push, steps_last, sum_push, follows_from, follows_over, at_once, on_fresh, not_read_fault, not_output_fault, not_server_fault}
use Rattle.nv_mirror.proofs.client.Client.run.Goals as goal

pub loop-self-init : goal.loop-self-init
loop-self-init g c =
    let start : c.args.self.now.stream.start ≡ 0 = ap (λ (s : Standing). s.stream.start) c.requires.fresh.standing in
    let held : c.args.self.now.stream.held ≡ [] = ap (λ (s : Standing). s.stream.held) c.requires.fresh.standing in
    record {
      stepped = ([], [], each_none _, known_none _, steps_none ⊥ (standing_of c.args.self.now) _ refl, omega (arith, start, ap (length {A = ℕ}) held), inl refl);
      ready = c.requires.fresh.ready;
      waits = inl held;
      fits = omega (arith, start, ap (length {A = ℕ}) held);
      sized = c.requires.room;
      read_later = omega arith;
      write_later = omega arith;
    }

pub returns-in-Err-clause-follows : goal.returns-in-Err-clause-follows
returns-in-Err-clause-follows g c =
    let i = c.loop-self.invariant.stepped in
    let t = c.in-Err.ensures.turns in
    let first = standing_of c.args.self.now in
    let second = standing_of c.loop-self.self in
    let last = standing_of c.turn.new.self in
    let fresh = on_fresh c.args.self.now.lister.buffer first c.requires.fresh.standing in
    let left = (g.I.Source.words c.turn.new.input).left in
    let pieces = i.0 ++ t.0 ∷ [] in (
      pieces,
      i.1 ++ t.1,
      each_then _ _ _ i.0 (t.0 ∷ []) i.2 t.2,
      known_both _ _ _ i.1 t.1 i.3 t.3,
      follows_from (IsAtEnd left) (IsReadToEnd left (concat pieces)) c.in-Err.followed c.args.self.now.lister.buffer (concat pieces) (i.1 ++ t.1) first last fresh (λ e. inl e)
          (steps_last (IsAtEnd left) c.in-Err.followed i.0 t.0 i.1 t.1 first second last i.4 t.4),
      at_once c.args.self.now.lister.buffer i.0 t.0 i.1 t.1 first second fresh c.loop-self.invariant.waits i.4,
    )

pub loop-self-smaller : goal.loop-self-smaller
loop-self-smaller g c =
    let t = c.in_default.ensures.turns in
    omega (arith, t.5.0, t.5.2, c.taken.ensures)

pub loop-self-preserved : goal.loop-self-preserved
loop-self-preserved g c =
    let i = c.loop-self.invariant.stepped in
    let t = c.in_default.ensures.turns in
    let first = standing_of c.args.self.now in
    let second = standing_of c.loop-self.self in
    let last = standing_of c.turn.new.self in
    let fresh = on_fresh c.args.self.now.lister.buffer first c.requires.fresh.standing in
    let sized : length c.turn.new.room ≡ 65536 = search (rules, c.loop-self.invariant.sized) in
    record {
      stepped = (
        i.0 ++ t.0 ∷ [],
        i.1 ++ t.1,
        each_then _ _ _ i.0 (t.0 ∷ []) i.2 t.2,
        known_both _ _ _ i.1 t.1 i.3 t.3,
        steps_push ⊥ i.0 t.0 i.1 t.1 first second last i.4 t.4,
        omega (arith, i.5, t.5.2, sum_push i.0 t.0),
        at_once c.args.self.now.lister.buffer i.0 t.0 i.1 t.1 first second fresh c.loop-self.invariant.waits i.4,
      );
      ready = c.in_default.ensures.ready;
      waits = c.in_default.ensures.waits;
      fits = omega (arith, t.5.1, t.5.2, c.taken.ensures);
      sized = sized;
      read_later = omega (arith, c.in_default.ensures.read_later, c.loop-self.invariant.read_later);
      write_later = omega (arith, c.in_default.ensures.write_later, c.loop-self.invariant.write_later);
    }

pub returns-clause-follows : goal.returns-clause-follows
returns-clause-follows g c =
    let i = c.loop-self.invariant.stepped in
    let first = standing_of c.args.self.now in
    let last = standing_of c.loop-self.self in
    let fresh = on_fresh c.args.self.now.lister.buffer first c.requires.fresh.standing in
    let left = (g.I.Source.words c.loop-self.input).left in
    let over : IsReadToEnd left (concat i.0) = inr (omega (arith, i.5, c.taken.ensures)) in (
      i.0,
      i.1,
      i.2,
      i.3,
      follows_over (IsReadToEnd left (concat i.0)) c.end.result c.args.self.now.lister.buffer (concat i.0) i.1 first last fresh c.loop-self.invariant.waits over c.end.ensures i.4,
      i.6,
    )

pub returns-clause-read : goal.returns-clause-read
returns-clause-read g c = λ e. absurd (not_read_fault (stream_end c.loop-self.self.stream) (sym c.end.ensures ∙ e))

pub returns-clause-write : goal.returns-clause-write
returns-clause-write g c = λ e. absurd (not_output_fault (stream_end c.loop-self.self.stream) (sym c.end.ensures ∙ e))

pub returns-clause-no_server : goal.returns-clause-no_server
returns-clause-no_server g c = λ e. absurd (not_server_fault (stream_end c.loop-self.self.stream) (sym c.end.ensures ∙ e))
