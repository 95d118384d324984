use Rattle.std.proofs.Common.{[], ◌∷◌, ◌++◌, refl, sym, subst}
use Rattle.nv_watch.specs.Verdicts.{sight}
use Rattle.nv_watch.specs.declared.verdict.Verdict.{Verdict}
use Rattle.nv_watch.specs.inside.Checked.{IsBehindIn}
use Rattle.nv_watch.proofs.Checked.{checked_more, passed_quietly}
use Rattle.nv_watch.proofs.mark_check.MarkCheckWatcher.glance.Goals as goal

pub returns-clause-first : goal.returns-clause-first
returns-clause-first c = λ seen old next.
    let x = sight c.args.world.now c.args.step.now in (
      refl,
      subst (λ (v : Verdict). IsBehindIn c.follow_step.new.marks.items v (seen ++ x ∷ []))
          (sym c.with-self.ensures)
          (checked_more _ _ _ _ seen x _ c.in_ok-broken.ensures.broken c.in_ok-broken.ensures.marks old.1),
    )

pub returns-clause-later : goal.returns-clause-later
returns-clause-later c = λ seen old next.
    let x = sight c.args.world.now c.args.step.now in (
      refl,
      subst (λ (v : Verdict). IsBehindIn c.follow_step.new.marks.items v (seen ++ x ∷ []))
          (sym c.with-self.ensures)
          (passed_quietly _ _ _ _ seen x _ c.in_ok-broken.ensures.broken c.in_ok-broken.ensures.marks old.1 next),
    )
