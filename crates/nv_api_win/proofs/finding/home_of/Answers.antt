use Rattle.std.proofs.Common.{rules, ◌∙◌, ap, w64}
use Rattle.std.specs.Prelude.{pos, option_map, unwrap_or}
use Rattle.std.proofs.lemmas.Int.{to_z-of_z}
use mir.Val.{SFits}
use Rattle.nv_windows.specs.Workspace.{Page, tabpage_of}
use Rattle.nv_api_win.proofs.Homes.{home_or_none}
use Rattle.nv_api_win.proofs.finding.home_of.Goals as goal

pub returns : goal.returns
returns c =
    let fits : SFits w64 c.args.window.now.handle = search rules in
    let told : SFits w64 c.unwrap_or.result = search rules in
    to_z-of_z w64 c.unwrap_or.result told ∙ c.unwrap_or.ensures ∙ ap (λ o. unwrap_or o (pos 0)) c.home.ensures
    ∙ (λ i. unwrap_or (option_map (λ (t : Page). t.handle) (tabpage_of c.args.windows.now (to_z-of_z w64 c.args.window.now.handle fits i))) (pos 0))
    ∙ home_or_none (tabpage_of c.args.windows.now c.args.window.now.handle)
