use Rattle.std.proofs.Common.{rules, ◌≡◌, ◌∙◌, sym, ap, not, w64}
use Rattle.std.specs.Prelude.{if◌then◌else◌, filter}
use Rattle.std.specs.Ordering.{int_eq}
use Rattle.std.proofs.lemmas.Int.{to_z-of_z}
use mir.Val.{to_z, of_z, SFits}
use Rattle.nv_windows.specs.Workspace.{Page, Workspace, page_of}
use Rattle.nv_windows.specs.Pages.{pages_of}
use Rattle.nv_windows.specs.Kept.{workspace_of}
use Rattle.nv_windows.specs.declared.window.Tabpage.{Tabpage}
use Rattle.nv_windows.specs.Operations.{is_in, other_tabpages, current_without, place_among, handle_at}
use Rattle.nv_windows.specs.declared.window.Window.{Window}
use Rattle.nv_windows.proofs.Lists.{filter-map}
use Rattle.nv_windows.proofs.parts.Parts.close_tabpage.Goals as goal

pub returns : goal.returns
returns c =
    let old : Workspace = (workspace_of c.args.self.now) in
    let windows : c.drop_windows_of.new.windows.items ≡ filter (λ w. not (is_in old.tabpages c.args.tabpage w.handle)) old.windows =
    c.drop_windows_of.ensures old c.requires (ap pages_of (sym c.deref.ensures.value))
    ∙ (λ i. filter (λ (w : Window). not (is_in old.tabpages (to_z-of_z w64 c.args.tabpage c.ranges.tabpage i) w.handle)) old.windows) in
    let tabpages : pages_of c.drop_tabpage.new.tabpages.items ≡ other_tabpages c.args.tabpage old.tabpages =
    ap pages_of (c.drop_tabpage.ensures ∙ (λ i. filter (λ (t : Tabpage). not (int_eq t.handle (to_z-of_z w64 c.args.tabpage c.ranges.tabpage i))) c.args.self.now.tabpages.items))
    ∙ sym (filter-map (λ (p : Page). not (int_eq p.handle c.args.tabpage)) page_of c.args.self.now.tabpages.items) in
    let fits : SFits w64 c.args.self.now.tabpage = search rules in
    let fits_too : SFits w64 c.current_after-self.result = search rules in
    let place : c.place_among-place.result ≡ place_among c.args.tabpage old.tabpages =
    c.place_among-place.ensures ∙ (λ i. place_among (to_z-of_z w64 c.args.tabpage c.ranges.tabpage i) (pages_of (c.deref-2.ensures.value i))) in
    let current : to_z w64 (of_z w64 c.current_after-self.result) ≡ current_without c.args.tabpage old =
    to_z-of_z w64 c.current_after-self.result fits_too ∙ c.current_after-self.ensures
    ∙ (λ i. if int_eq (to_z-of_z w64 c.args.self.now.tabpage fits i) (to_z-of_z w64 c.args.tabpage c.ranges.tabpage i) then handle_at (place i) ((ap pages_of c.deref-3.ensures.value ∙ tabpages) i) else to_z-of_z w64 c.args.self.now.tabpage fits i) in
    λ i. record old { windows = windows i; tabpages = tabpages i; tabpage = current i }
