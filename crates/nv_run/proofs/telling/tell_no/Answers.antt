use Rattle.std.proofs.Common.{◌≡◌, ℕ, List, ◌++◌, ap, ◌∙◌}
use Rattle.std.specs.Prelude.{codes, decimal}
use Rattle.nv_replay.specs.declared.ending.ReplayEnd.TheVariants.{Objects}
use Rattle.nv_run.specs.Statuses.{line_of_replay}
use Rattle.nv_run.proofs.Lines.{tells_as}
use Rattle.nv_run.proofs.telling.tell_no.Goals as goal

pub returns : goal.returns
returns g c =
    let entry = c.format-entry.result.now in
    let line : codes "nvimd: watcher " ++ (c.format-watcher.result.now ++ (codes " says no at entry " ++ (entry ++ codes "\n"))) ≡ line_of_replay (Objects c.args.watcher c.args.entry) =
    ap (λ (d : List ℕ). codes "nvimd: watcher " ++ (d ++ (codes " says no at entry " ++ (entry ++ codes "\n")))) c.format-watcher.ensures.text
    ∙ ap (λ (d : List ℕ). codes "nvimd: watcher " ++ (decimal c.args.watcher ++ (codes " says no at entry " ++ (d ++ codes "\n")))) c.format-entry.ensures.text in
    tells_as _ (line_of_replay (Objects c.args.watcher c.args.entry)) _ _ line c.tell.ensures
