use Rattle.std.proofs.Common.{[], ◌∷◌, ◌++◌, sym, subst}
use Rattle.nv_watch.specs.Verdicts.{sight}
use Rattle.nv_watch.specs.declared.verdict.Verdict.{Verdict}
use Rattle.nv_watch.specs.inside.GridsFolded.{HasFoldedIn}
use Rattle.nv_watch.proofs.GridFolds.{folded_more}
use Rattle.nv_watch.proofs.grid_fold.GridFoldWatcher.see.Goals as goal

pub returns-clause-seen : goal.returns-clause-seen
returns-clause-seen c = λ seen had.
    let x = sight c.args.world.now c.args.step.now in
    subst (λ (v : Verdict). HasFoldedIn c.fold_step.new.clients.items v (seen ++ x ∷ [])) (sym c.with-self.ensures)
    (folded_more c.args.self.now.clients.items c.fold_step.new.clients.items c.args.self.now.verdict seen x c.in_ok-right.right c.in_ok-right.ensures had)
