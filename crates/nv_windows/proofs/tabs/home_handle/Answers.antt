use Rattle.std.proofs.Common.{rules, ◌≡◌, ◌∙◌, sym, ap, subst, w64, get_or, Option, Some, None}
use Rattle.std.specs.Prelude.{position}
use Rattle.std.specs.Option.{option_map_or}
use Rattle.std.proofs.lemmas.Int.{to_z-of_z}
use mir.Val.{SFits}
use Rattle.nv_layout.specs.Changes.{holds}
use Rattle.nv_layout.specs.Content.{shape_of}
use Rattle.nv_windows.specs.Workspace.{Page}
use Rattle.nv_windows.specs.declared.window.Tabpage.{Tabpage}
use Rattle.nv_windows.proofs.PageOrder.{page_found, page_missing}
use Rattle.nv_windows.proofs.tabs.home_handle.Goals as goal

pub returns-in-Some : goal.returns-in-Some
returns-in-Some c =
    let fits : SFits w64 (get_or c.args.tabpages.now c.in-Some.home c.index-tabpages-home.result).handle = search rules in
    to_z-of_z w64 (get_or c.args.tabpages.now c.in-Some.home c.index-tabpages-home.result).handle fits
    ∙ sym (ap (λ (o : Option Page). option_map_or (λ t. t.handle) o c.args.other) (page_found (λ (p : Page). holds c.args.window p.tree) c.args.tabpages.now c.in-Some.home c.index-tabpages-home.result
    (subst (λ w. position (λ (t : Tabpage). holds w (shape_of t.tree)) c.args.tabpages.now ≡ Some c.in-Some.home) (to_z-of_z w64 c.args.window c.ranges.window) (sym c.home_of.ensures.place ∙ c.in-Some.is))))

pub returns-in-None : goal.returns-in-None
returns-in-None c =
    to_z-of_z w64 c.args.other c.ranges.other
    ∙ sym (ap (λ (o : Option Page). option_map_or (λ t. t.handle) o c.args.other) (page_missing (λ (p : Page). holds c.args.window p.tree) c.args.tabpages.now
    (subst (λ w. position (λ (t : Tabpage). holds w (shape_of t.tree)) c.args.tabpages.now ≡ None) (to_z-of_z w64 c.args.window c.ranges.window) (sym c.home_of.ensures.place ∙ c.in-None.is))))
