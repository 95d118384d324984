use Rattle.std.proofs.Common.{◌≡◌, ◌∙◌, sym, ap, subst, w64, Some, None}
use Rattle.std.specs.Prelude.{position}
use Rattle.std.specs.Ordering.{int_eq}
use Rattle.std.proofs.lemmas.Int.{to_z-of_z}
use Rattle.nv_windows.specs.Workspace.{page_of}
use Rattle.nv_windows.specs.declared.window.Tabpage.{Tabpage}
use Rattle.nv_windows.specs.Workspace.{Page}
use Rattle.nv_windows.proofs.PageOrder.{page_found, page_missing}
use Rattle.nv_windows.proofs.tabs.tabpage_at.Goals as goal

pub returns-in_err-place : goal.returns-in_err-place
returns-in_err-place c =
    rw c.from_residual.ensures (page_missing (λ (p : Page). int_eq p.handle c.args.handle) c.args.tabpages.now
    (subst (λ n. position (λ (t : Tabpage). int_eq t.handle n) c.args.tabpages.now ≡ None) (to_z-of_z w64 c.args.handle c.ranges.handle) (sym c.place_of.ensures.place ∙ c.in_err-place.was)))

pub returns : goal.returns
returns c =
    page_found (λ (p : Page). int_eq p.handle c.args.handle) c.args.tabpages.now c.in_ok-place.place c.index-tabpages-place.result
    (subst (λ n. position (λ (t : Tabpage). int_eq t.handle n) c.args.tabpages.now ≡ Some c.in_ok-place.place) (to_z-of_z w64 c.args.handle c.ranges.handle) (sym c.place_of.ensures.place ∙ c.in_ok-place.was))
    ∙ ap (λ (t : Tabpage). Some (page_of t)) (sym c.index-tabpages-place.is)
