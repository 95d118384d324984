use Rattle.std.proofs.Common.{List, [], ◌∷◌, ◌++◌, false, ap, sym, subst, ◌∙◌}
use Rattle.nv_watch.specs.FollowedMarks.{Followed}
use Rattle.nv_watch.specs.MarkRule.{marks_found}
use Rattle.nv_watch.specs.SeenWorlds.{editor_seen}
use Rattle.nv_watch.specs.Verdicts.{sight}
use Rattle.nv_watch.specs.declared.verdict.Verdict.{Verdict}
use Rattle.nv_watch.specs.inside.Checked.{HasCheckedIn}
use Rattle.nv_watch.proofs.Checked.{caught_up, checked_more, editor_with}
use Rattle.nv_watch.proofs.mark_check.MarkCheckWatcher.see.Goals as goal

pub returns-clause-seen : goal.returns-clause-seen
returns-clause-seen c = λ seen old.
    let x = sight c.args.world.now c.args.step.now in (
      old.0,
      subst (λ (v : Verdict). HasCheckedIn c.follow_step.new.marks.items c.renew_if.new.before.items v (seen ++ x ∷ []))
          (sym c.with-self.ensures)
          (caught_up _ _ _ _ c.args.world.now (c.in_ok-renew_if.ensures
          ∙ ap (λ (ms : List Followed). marks_found false ms (editor_seen c.args.world.now)) c.as_slice.ensures.value)
          (checked_more _ _ _ _ seen x _ c.in_ok-broken.ensures.broken c.in_ok-broken.ensures.marks old.1)
          (editor_with seen x)),
    )
