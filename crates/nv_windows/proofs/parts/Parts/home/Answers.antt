use Rattle.std.proofs.Common.{rules, ◌∙◌, sym, ap, w64, arith, length, Some, None, refl}
use Rattle.std.specs.Prelude.{option_map}
use Rattle.std.proofs.lemmas.Int.{to_z-of_z}
use mir.Val.{to_z, of_z, SFits}
use Rattle.nv_windows.specs.Workspace.{Page}
use Rattle.nv_windows.specs.Kept.{workspace_of}
use Rattle.nv_windows.proofs.PartsAt.{home_found, home_missing, home_is, page_is}
use Rattle.nv_windows.proofs.parts.Parts.home.Goals as goal

pub returns-in_err-home : goal.returns-in_err-home
returns-in_err-home c =
    c.from_residual.ensures ∙ sym (ap (option_map (λ (t : Page). t.handle)) (home_missing (workspace_of c.args.self.now) c.args.window
    (home_is c.deref.result.now c.args.self.now.tabpages.items c.args.window (to_z w64 (of_z w64 c.args.window)) None c.deref.ensures.value (to_z-of_z w64 c.args.window c.ranges.window) (sym c.in_err-home.was ∙ c.home_of.ensures.place))))

pub returns : goal.returns
returns c =
    let is = page_is (workspace_of c.args.self.now) c.args.self.now.tabpages.items c.in_ok-home.home c.index.result.now refl (omega (arith, c.in_ok-home.ensures.within, ap length c.deref.ensures.value)) c.index.ensures in
    let fits : SFits w64 c.index.result.now.handle = search rules in
    ap Some (to_z-of_z w64 c.index.result.now.handle fits)
    ∙ sym (ap (option_map (λ (t : Page). t.handle)) (home_found (workspace_of c.args.self.now) c.args.window c.in_ok-home.home
    (home_is c.deref.result.now c.args.self.now.tabpages.items c.args.window (to_z w64 (of_z w64 c.args.window)) (Some c.in_ok-home.home) c.deref.ensures.value (to_z-of_z w64 c.args.window c.ranges.window) (sym c.in_ok-home.was ∙ c.home_of.ensures.place)) ∙ ap Some is))
