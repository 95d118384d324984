use Rattle.std.proofs.Common.{◌≡◌, ◌⊎◌, ◌<◌, ℕ, [], sym, subst, Some}
use Rattle.nv_turn.specs.Story.{HasEachUpTo, entries_by}
use Rattle.nv_core.specs.declared.entry.Entry.{Entry}
use Rattle.nv_serve.specs.Links.{LanesWords}
use Rattle.nv_serve.specs.inside.Jobs.{AreJoined}
use Rattle.nv_serve.proofs.Headlining.{all_ready, have_passes, has_all, shows}
use Rattle.nv_serve.proofs.serving.serve_core.Goals as goal

pub run_lanes-requires-clause-ready : goal.run_lanes-requires-clause-ready
run_lanes-requires-clause-ready g c κs within =
    let t : LanesWords _ _ _ = record { input = g.L.In.Source.words; output = g.L.Out.Sink.words; lane = g.L.Lane.words } in
    let p = c.requires.passes in
    all_ready t c.args.turn.turn (Some p.0) c.args.jobs.now c.deal.new.jobs c.deal.ensures.length (c.deal.ensures.deals (Some p.0) p.1)

pub join_all-last-requires-clause-passes : goal.join_all-last-requires-clause-passes
join_all-last-requires-clause-passes g c =
    let t : LanesWords _ _ _ = record { input = g.L.In.Source.words; output = g.L.Out.Sink.words; lane = g.L.Lane.words } in
    let p = c.requires.passes in
    have_passes t c.args.turn.turn (Some p.0) c.args.jobs.now c.deal.new.jobs c.run_lanes.new.jobs c.deal.ensures.length c.run_lanes.ensures.length (c.deal.ensures.deals (Some p.0) p.1) c.run_lanes.ensures.serves

pub close-core-requires-clause-all : goal.close-core-requires-clause-all
close-core-requires-clause-all g c =
    let t : LanesWords _ _ _ = record { input = g.L.In.Source.words; output = g.L.Out.Sink.words; lane = g.L.Lane.words } in
    let p = c.requires.passes in
    subst (λ (n : ℕ). HasEachUpTo n c.join_all-last.result.numbers) (sym c.requires.count.0)
    (has_all t c.args.turn.turn (Some p.0) c.args.jobs.now c.deal.new.jobs c.run_lanes.new.jobs c.join_all-last.new.jobs c.join_all-last.result c.requires.some c.deal.ensures.length c.run_lanes.ensures.length
    (c.deal.ensures.deals (Some p.0) p.1) c.run_lanes.ensures.serves (subst (λ (f : Entry → ℕ). AreJoined f c.run_lanes.new.jobs c.join_all-last.new.jobs c.join_all-last.result) c.callers_law.ensures c.join_all-last.ensures.joined))

pub returns : goal.returns
returns g c start is =
    let t : LanesWords _ _ _ = record { input = g.L.In.Source.words; output = g.L.Out.Sink.words; lane = g.L.Lane.words } in
    let j = c.join_all-last in
    let w = c.close-core in
    let last = j.result in
    let joined = subst (λ (f : Entry → ℕ). AreJoined f c.run_lanes.new.jobs j.new.jobs last) c.callers_law.ensures j.ensures.joined in
    let left = shows t c.args.turn.turn start c.args.jobs.now c.deal.new.jobs c.run_lanes.new.jobs j.new.jobs last (g.C.Story.start w.result) c.was_spent-spent.result c.has_failed-failed.result c.requires.some
    c.deal.ensures.length c.run_lanes.ensures.length j.ensures.length (c.deal.ensures.deals (Some start) is) c.run_lanes.ensures.serves joined j.ensures.start
    (λ n out. subst (λ (f : Entry → ℕ). entries_by f n last.seen ≡ []) c.callers_law.ensures (w.ensures.callers n (subst (λ (m : ℕ). (n ≡ 0) ⊎ (m < n)) (sym c.requires.count.0) out)))
    w.ensures.start (c.was_spent-spent.ensures.runs last.seen w.ensures.seen) c.asking_law.ensures c.quitting_law.ensures c.count_laws.ensures.histories
    (λ none. c.has_seen_spent-seen.ensures (c.was_spent-spent.ensures.none none)) c.has_failed-failed.ensures.none c.has_failed-failed.ensures.some in
    record { begins = left.0; story = last.seen; stands_for = w.ensures.seen; leaves = left.1 }
