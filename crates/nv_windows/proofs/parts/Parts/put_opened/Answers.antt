use Rattle.std.proofs.Common.{rules, ◌≡◌, ◌++◌, ◌∷◌, [], ◌∙◌, sym, ap, w64, set, refl}
use Rattle.std.specs.Prelude.{pos, ◌+ℤ◌}
use Rattle.std.proofs.lemmas.List.{map-set}
use mir.Val.{to_z, of_z}
use Rattle.nv_layout.specs.Content.{shape_of}
use Rattle.nv_windows.specs.Workspace.{Page, Workspace, page_of, window_on}
use Rattle.nv_windows.specs.Pages.{pages_of}
use Rattle.nv_windows.specs.Kept.{workspace_of, page_at}
use Rattle.nv_windows.proofs.PartsAt.{page_is}
use Rattle.nv_windows.proofs.parts.Parts.put_opened.Goals as goal

pub returns-clause-ok : goal.returns-clause-ok
returns-clause-ok c =
    let old : Workspace = workspace_of c.args.self.now in
    let windows : c.push.new.self.items ≡ old.windows ++ window_on old.next_window c.args.buffer ∷ [] = search rules in
    let tabpages : pages_of (set c.args.self.now.tabpages.items c.args.home (record c.index_mut.result.now { tree = c.args.tree })) ≡ set old.tabpages c.args.home (record (page_at old c.args.home) { tree = shape_of c.args.tree }) =
    map-set page_of c.args.self.now.tabpages.items c.args.home (record c.index_mut.result.now { tree = c.args.tree })
    ∙ ap (λ (p : Page). set old.tabpages c.args.home (record p { tree = shape_of c.args.tree })) (sym (page_is old c.args.self.now.tabpages.items c.args.home c.index_mut.result.now refl c.requires.place c.index_mut.ensures.value)) in
    let next : to_z w64 (of_z w64 (to_z w64 (of_z w64 c.args.self.now.next_window) +ℤ pos 1)) ≡ old.next_window +ℤ pos 1 = search rules in
    λ i. record {
      windows = windows i;
      tabpages = tabpages i;
      tabpage = old.tabpage;
      width = old.width;
      height = old.height;
      next_window = next i;
      next_tabpage = old.next_tabpage;
    }
