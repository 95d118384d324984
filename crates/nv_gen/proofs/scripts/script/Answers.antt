use Rattle.std.proofs.Common.{ap, sym, List, subst}
use Rattle.std.specs.List.{AllByRecursion}
use Rattle.nv_history.specs.Events.{Entry}
use Rattle.nv_core.specs.Contents.{plain_entries}
use Rattle.nv_gen.specs.Story.{IsLightEntry}
use Rattle.nv_gen.proofs.Lights.{script_is_light}
use Rattle.nv_gen.proofs.Stories.{script_told}
use Rattle.nv_gen.proofs.scripts.script.Goals as goal

pub returns-clause-script : goal.returns-clause-script
returns-clause-script c =
    script_told _ _ _ _ _ _ _ _ _ _ _ c.in_ok-attach.ensures c.in_ok-attach_ui.ensures c.in_ok-name_marks.ensures
    (ap plain_entries c.new-entries.ensures.items) c.in_ok-open.ensures c.in_ok-turn.ensures c.in_ok-turn-2.ensures c.in_ok-turn-3.ensures
    c.in_ok-push_rounds.ensures c.in_ok-close.ensures

pub returns-clause-light : goal.returns-clause-light
returns-clause-light c =
    subst (λ (entries : List Entry). AllByRecursion IsLightEntry entries) (sym (returns-clause-script c)) (script_is_light c.args.seed)
