use Rattle.std.proofs.Common.{◌≡◌, ◌∙◌, sym, ap, subst, rules, w64, true}
use Rattle.std.specs.Prelude.{option_copied, is_some}
use Rattle.std.proofs.lemmas.Int.{to_z-of_z}
use mir.Val.{SFits}
use Rattle.nv_windows.specs.Workspace.{is_live_window}
use Rattle.nv_api_win.proofs.LiveThings.{window_again}
use Rattle.nv_api_win.proofs.opening.named_place.Goals as goal

pub returns-in-Some-clause-beside : goal.returns-in-Some-clause-beside
returns-in-Some-clause-beside c =
    let ws = c.args.editor.now.stage.workspace in
    let w = c.in-Some.window.now in
    let fits : SFits w64 w.handle = search rules in
    subst (λ n. is_live_window ws n ≡ true) (sym (to_z-of_z w64 w.handle fits))
    (ap is_some (window_again ws _ w (sym c.window_named.ensures ∙ ap option_copied c.in-Some.is)))
