use Rattle.std.proofs.Common.{List, [], Some, refl, sym, ◌∙◌, subst, inl, inr}
use Rattle.nv_history.specs.Events.{Entry}
use Rattle.nv_core.specs.declared.start.Start.{Start}
use Rattle.nv_world.specs.Worlds.{start_of}
use Rattle.nv_session.specs.Sending.{cause_after, HasSession}
use Rattle.nv_session.specs.inside.Alone.{HasNothingDue}
use Rattle.nv_session.specs.inside.Leaving.{LeavesWith, IsClosedSo, leaves_open}
use Rattle.nv_session.specs.inside.Serving.{state_of}
use Rattle.nv_session.specs.inside.Worlds.{entries_in, IsEndedBy}
use Rattle.nv_session.proofs.Lone.{alone_if, opened_rests}
use Rattle.nv_io.proofs.StreamLemmas.{each_none}
use Rattle.nv_session.proofs.Steps.{begun, due_has}
use Rattle.nv_session.proofs.Leaving.{closed_has, ends_before, ends_opened, left_ends, read_fault, write_fault}
use Rattle.nv_session.proofs.session.Session.run.Goals as goal

pub returns-in_default-clause-ends : goal.returns-in_default-clause-ends
returns-in_default-clause-ends g c =
    ([], each_none _, ends_before (start_of c.args.world.now) (g.I.Source.words c.args.input.now).left _ c.open.new.world.history c.in_default.ensures.err)

pub returns-in_default-clause-has : goal.returns-in_default-clause-has
returns-in_default-clause-has g c = inl c.in_default.ensures.err

pub ended-requires-clause-nothing_due : goal.ended-requires-clause-nothing_due
ended-requires-clause-nothing_due g c =
    let start = start_of c.args.world.now in
    subst (λ (d : Start). HasNothingDue d (entries_in c.open.new.world)) (sym c.in-Ok.ensures.begins)
    (subst (λ (h : List Entry). HasNothingDue start h) (sym c.in-Ok.ensures.entries) (opened_rests start c.requires.capacity))

pub returns-in-Some-clause-ends : goal.returns-in-Some-clause-ends
returns-in-Some-clause-ends g c =
    let start = start_of c.args.world.now in
    let h = entries_in c.open.new.world in
    let due = subst (λ (l : List Entry). HasNothingDue start l) (sym c.in-Ok.ensures.entries) (opened_rests start c.requires.capacity) in (
      [],
      each_none _,
      ends_opened start c.in-Some.ended (g.I.Source.words c.args.input.now).left _ h c.in-Ok.ensures.entries due
          (subst (λ (d : Start). IsEndedBy (Some c.in-Some.ended) (cause_after d h)) c.in-Ok.ensures.begins c.in-Some.ensures),
    )

pub returns-in-Some-clause-has : goal.returns-in-Some-clause-has
returns-in-Some-clause-has g c =
    let start = start_of c.args.world.now in
    inr (due_has start (entries_in c.open.new.world)
    (subst (λ (l : List Entry). HasNothingDue start l) (sym c.in-Ok.ensures.entries) (opened_rests start c.requires.capacity)))

pub serve_all-ended-requires-clause-new : goal.serve_all-ended-requires-clause-new
serve_all-ended-requires-clause-new g c =
    let w = c.open.new.world in
    let start = start_of c.args.world.now in
    let due = subst (λ (d : Start). HasNothingDue d (entries_in w)) (sym c.in-Ok.ensures.begins)
    (subst (λ (l : List Entry). HasNothingDue start l) (sym c.in-Ok.ensures.entries) (opened_rests start c.requires.capacity)) in
    (begun (state_of c.args.self.now w) c.requires.unused.fresh (alone_if (start_of w) (entries_in w) due c.in-None.ensures) c.in-Ok.ensures.entries c.requires.unused.untold).0

pub serve_all-ended-requires-clause-ready : goal.serve_all-ended-requires-clause-ready
serve_all-ended-requires-clause-ready g c =
    let w = c.open.new.world in
    let start = start_of c.args.world.now in
    let due = subst (λ (d : Start). HasNothingDue d (entries_in w)) (sym c.in-Ok.ensures.begins)
    (subst (λ (l : List Entry). HasNothingDue start l) (sym c.in-Ok.ensures.entries) (opened_rests start c.requires.capacity)) in
    (begun (state_of c.args.self.now w) c.requires.unused.fresh (alone_if (start_of w) (entries_in w) due c.in-None.ensures) c.in-Ok.ensures.entries c.requires.unused.untold).1

pub returns-in-None-clause-ends : goal.returns-in-None-clause-ends
returns-in-None-clause-ends g c =
    let start = start_of c.args.world.now in
    let ended = c.serve_all-ended.result in
    let h = entries_in c.serve_all-ended.new.world in
    let k = entries_in c.close_for.new.world in
    let l = c.serve_all-ended.ensures.leaves in
    let begins = c.serve_all-ended.ensures.begins ∙ c.in-Ok.ensures.begins in (
      l.0,
      l.1,
      left_ends start ended c.close_for.result l.0 (g.I.Source.words c.serve_all-ended.new.input).left h k k _ _
          (subst (λ (d : Start). LeavesWith d ended l.0 (g.I.Source.words c.serve_all-ended.new.input).left h (g.S.Sink.words c.args.output.now).taken (g.S.Sink.words c.serve_all-ended.new.output).taken) c.in-Ok.ensures.begins l.2)
          (subst (λ (d : Start). IsClosedSo d (leaves_open ended) ended c.close_for.result h k) begins c.close_for.ensures.closed)
          refl,
    )

pub returns-in-None-clause-has : goal.returns-in-None-clause-has
returns-in-None-clause-has g c =
    let start = start_of c.args.world.now in
    let ended = c.serve_all-ended.result in
    let h = entries_in c.serve_all-ended.new.world in
    let k = entries_in c.close_for.new.world in
    let begins = c.serve_all-ended.ensures.begins ∙ c.in-Ok.ensures.begins in
    inr (closed_has start (leaves_open ended) ended c.close_for.result h k
    (subst (λ (d : Start). HasSession d h) c.in-Ok.ensures.begins c.serve_all-ended.ensures.has)
    (subst (λ (d : Start). IsClosedSo d (leaves_open ended) ended c.close_for.result h k) begins c.close_for.ensures.closed))

pub returns-in-None-clause-read : goal.returns-in-None-clause-read
returns-in-None-clause-read g c = λ e.
    c.serve_all-ended.ensures.read
    (read_fault _ c.serve_all-ended.result c.close_for.result (entries_in c.serve_all-ended.new.world) (entries_in c.close_for.new.world) c.close_for.ensures.closed e)

pub returns-in-None-clause-write : goal.returns-in-None-clause-write
returns-in-None-clause-write g c = λ e.
    c.serve_all-ended.ensures.write
    (write_fault _ c.serve_all-ended.result c.close_for.result (entries_in c.serve_all-ended.new.world) (entries_in c.close_for.new.world) c.close_for.ensures.closed e)
