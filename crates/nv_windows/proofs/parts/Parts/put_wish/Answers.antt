use Rattle.std.proofs.Common.{◌≡◌, ◌∙◌, ap, w64, ◌++◌, take, drop, length, arith}
use Rattle.std.proofs.lemmas.List.{length-map}
use Rattle.nv_windows.proofs.Mapped.{all_put, length_tabs}
use Rattle.std.proofs.lemmas.Int.{to_z-of_z}
use Rattle.nv_layout.specs.Changes.{with_wish}
use Rattle.nv_windows.specs.Workspace.{Page, Workspace, page_of}
use Rattle.nv_windows.specs.Kept.{workspace_of}
use Rattle.nv_windows.specs.Pages.{pages_of}
use Rattle.nv_windows.specs.Operations.{tabpages_with}
use Rattle.nv_windows.proofs.parts.Parts.put_wish.Goals as goal

pub returns : goal.returns
returns c =
    let old : Workspace = workspace_of c.args.self.now in
    let tabpages : pages_of c.put_wish.new.tabpages ≡ tabpages_with c.args.window (λ (t : Page). record t { tree = with_wish c.args.axis c.args.wish c.args.window t.tree }) old.tabpages =
    c.put_wish.ensures ∙ (λ i. tabpages_with (to_z-of_z w64 c.args.window c.ranges.window i) (λ (t : Page). record t { tree = with_wish c.args.axis c.args.wish (to_z-of_z w64 c.args.window c.ranges.window i) t.tree }) (pages_of (c.deref_mut.ensures.value i))) in
    let whole : take c.args.self.now.tabpages.len (c.put_wish.new.tabpages ++ drop (length c.put_wish.new.tabpages) c.args.self.now.tabpages.items) ≡ c.put_wish.new.tabpages =
    all_put c.args.self.now.tabpages.len c.put_wish.new.tabpages c.args.self.now.tabpages.items
    (omega (arith, length_tabs c.args.window (λ (t : Page). record t { tree = with_wish c.args.axis c.args.wish c.args.window t.tree }) old.tabpages (pages_of c.put_wish.new.tabpages) tabpages, length-map c.put_wish.new.tabpages page_of, length-map c.args.self.now.tabpages.items page_of, c.args.self.now.tabpages.ok.0)) in
    λ i. record old { tabpages = (ap pages_of whole ∙ tabpages) i }
