use Rattle.std.proofs.Common.{◌∙◌, sym, ap}
use Rattle.std.specs.Prelude.{option_copied}
use Rattle.nv_api_win.proofs.LiveThings.{window_again}
use Rattle.nv_api_win.proofs.finding.the_window.Goals as goal

pub returns-in-Some-clause-live : goal.returns-in-Some-clause-live
returns-in-Some-clause-live c =
    window_again c.args.editor.now.stage.workspace _ c.in-Some.window.now (sym c.window_named.ensures ∙ ap option_copied c.in-Some.is)
