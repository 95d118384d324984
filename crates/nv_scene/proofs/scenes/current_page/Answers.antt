use Rattle.std.proofs.Common.{◌≡◌, ap, sym, ◌∙◌, rules, to_z, of_z, w64}
use Rattle.nv_windows.specs.Workspace.{Workspace, tabpage_at}
use Rattle.nv_scene.proofs.Living.{page_there}
use Rattle.nv_scene.proofs.scenes.current_page.Goals as goal

pub unreachable-requires : goal.unreachable-requires
unreachable-requires c =
    let ws : Workspace = c.args.editor.now.stage.workspace in
    let e : to_z w64 (of_z w64 c.current.result) ≡ c.current.result = search rules in
    let handle : to_z w64 (of_z w64 c.current.result) ≡ ws.tabpage = e ∙ c.current.ensures ∙ ap (λ (v : Workspace). v.tabpage) c.windows-windows.ensures in
    page_there ws c.known.ensures.workspace (sym (λ i. tabpage_at (c.windows-windows.ensures i) (handle i)) ∙ c.in-None.ensures)

pub returns : goal.returns
returns c =
    let ws : Workspace = c.args.editor.now.stage.workspace in
    let e : to_z w64 (of_z w64 c.current.result) ≡ c.current.result = search rules in
    let handle : to_z w64 (of_z w64 c.current.result) ≡ ws.tabpage = e ∙ c.current.ensures ∙ ap (λ (v : Workspace). v.tabpage) c.windows-windows.ensures in
    sym (λ i. tabpage_at (c.windows-windows.ensures i) (handle i)) ∙ c.in-Some.ensures
