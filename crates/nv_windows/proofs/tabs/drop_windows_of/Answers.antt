use Rattle.std.proofs.Common.{rules, not}
use Rattle.std.proofs.lemmas.Fn.{filter_same}
use Rattle.nv_windows.specs.Operations.{is_in}
use Rattle.nv_windows.specs.declared.window.Window.{Window}
use Rattle.nv_windows.proofs.tabs.drop_windows_of.Goals as goal

pub returns : goal.returns
returns c =
    λ ws seated same.
    filter_same _ (λ (w : Window). not (is_in ws.tabpages c.args.handle w.handle)) _
    (λ x b f' k. search rules) _ _ c.retain.ensures.filtered
