use Rattle.std.proofs.Common.{Bool, List, cond, false, ap, refl, ◌∙◌}
use Rattle.nv_watch.specs.FollowedMarks.{Followed}
use Rattle.nv_watch.specs.MarkRule.{marks_found}
use Rattle.nv_watch.specs.SeenWorlds.{editor_seen}
use Rattle.nv_watch.proofs.Checked.{caught_up, editor_is_last, stays_checked}
use Rattle.nv_watch.proofs.mark_check.MarkCheckWatcher.catch_up.Goals as goal

pub returns-clause-seen : goal.returns-clause-seen
returns-clause-seen c = λ seen old here.
    let k = c.args.world.now in
    let before = c.args.self.now.before.items in
    let marks = c.args.self.now.marks.items in (
      refl,
      caught_up _ _ _ seen k
          (c.in_ok-renew_if.ensures
          ∙ ap (λ (ms : List Followed). cond c.args.self.now.is_behind (marks_found false ms (editor_seen k)) before) c.as_slice-marks.ensures.value
          ∙ ap (λ (b : Bool). cond b (marks_found false marks (editor_seen k)) before) old.0)
          old.1
          (editor_is_last seen k here),
    )

pub returns-clause-same : goal.returns-clause-same
returns-clause-same c = λ seen old. (refl, stays_checked _ _ _ _ _ _ seen c.in_ok-renew_if.ensures old.0 old.1)
