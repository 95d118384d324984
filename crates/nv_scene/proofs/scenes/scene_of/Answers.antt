use Rattle.std.proofs.Common.{◌≡◌, All, List, ap, sym, subst, ◌∙◌, true}
use Rattle.nv_layout.specs.Places.{IsRoomy, rects, separators}
use Rattle.nv_layout.specs.declared.nodes.Placed.{Placed}
use Rattle.nv_windows.specs.Rooms.{windows_area}
use Rattle.nv_windows.specs.Workspace.{Page, Workspace, is_live_window, page_of}
use Rattle.nv_model.specs.Standing.{seen_now}
use Rattle.nv_scene.specs.Scenes.{ArePanesIn, bars_of, looks_of, normal_colours}
use Rattle.nv_scene.proofs.Living.{page_sound, tree_live}
use Rattle.nv_scene.proofs.Parted.{area_on_screen, span_of, windows_of}
use Rattle.nv_scene.proofs.SceneSound.{scene_sound}
use Rattle.nv_scene.proofs.scenes.scene_of.Goals as goal

pub placed-requires-clause-filled : goal.placed-requires-clause-filled
placed-requires-clause-filled c =
    (page_sound c.args.editor.now.stage.workspace (page_of c.current_page.result.now) c.known.ensures.workspace c.current_page.ensures).filled

pub placed-requires-clause-roomy : goal.placed-requires-clause-roomy
placed-requires-clause-roomy c =
    let ws : Workspace = c.args.editor.now.stage.workspace in
    let page : Page = page_of c.current_page.result.now in
    let area : c.windows_area.result ≡ windows_area ws = c.windows_area.ensures ∙ ap windows_area c.windows.ensures in
    subst (IsRoomy page.tree) (sym area) (page_sound ws page c.known.ensures.workspace c.current_page.ensures).roomy

pub panes_in-requires : goal.panes_in-requires
panes_in-requires c =
    let ws : Workspace = c.args.editor.now.stage.workspace in
    let page : Page = page_of c.current_page.result.now in
    let placed : c.as_slice.result.now ≡ rects page.tree c.windows_area.result = c.as_slice.ensures.value ∙ c.in_ok-placed.ensures in
    subst (λ (ps : List Placed). All (λ (p : Placed). is_live_window ws p.window ≡ true) ps) (sym placed)
    (tree_live ws page c.known.ensures.workspace c.current_page.ensures c.windows_area.result)

pub separators-requires : goal.separators-requires
separators-requires c =
    let ws : Workspace = c.args.editor.now.stage.workspace in
    let page : Page = page_of c.current_page.result.now in
    let sound = page_sound ws page c.known.ensures.workspace c.current_page.ensures in
    let area : c.windows_area.result ≡ windows_area ws = c.windows_area.ensures ∙ ap windows_area c.windows.ensures in
    let placed : c.as_slice-2.result.now ≡ rects page.tree (windows_area ws) =
    c.as_slice-2.ensures.value ∙ c.in_ok-placed.ensures ∙ ap (rects page.tree) area in
    windows_of page.tree (windows_area ws) c.as_slice-2.result.now sound.filled sound.roomy
    (area_on_screen ws.width ws.height c.known.ensures.workspace.width c.known.ensures.workspace.height) placed

pub returns-clause-scene : goal.returns-clause-scene
returns-clause-scene c =
    let ws : Workspace = c.args.editor.now.stage.workspace in
    let page : Page = page_of c.current_page.result.now in
    let sound = page_sound ws page c.known.ensures.workspace c.current_page.ensures in
    let area : c.windows_area.result ≡ windows_area ws = c.windows_area.ensures ∙ ap windows_area c.windows.ensures in
    let items : c.in_ok-placed.placed.items ≡ rects page.tree (windows_area ws) = c.in_ok-placed.ensures ∙ ap (rects page.tree) area in
    let placed : c.as_slice-2.result.now ≡ rects page.tree (windows_area ws) = c.as_slice-2.ensures.value ∙ items in
    record {
      page = page;
      window = c.current_window.result;
      page_is = c.current_page.ensures;
      window_is = c.current_window.ensures;
      width = c.size-width.ensures.width ∙ ap (λ (v : Workspace). v.width) c.windows-2.ensures;
      height = c.size-width.ensures.height ∙ ap (λ (v : Workspace). v.height) c.windows-2.ensures;
      panes =
          subst (λ (ps : List Placed). ArePanesIn (seen_now c.args.editor.now) ps c.in_ok-panes.panes.items) (c.as_slice.ensures.value ∙ items)
          c.in_ok-panes.ensures.panes;
      separators =
          c.in_ok-separators.ensures
          ∙ ap (separators page.tree) (span_of page.tree (windows_area ws) c.as_slice-2.result.now sound.filled sound.roomy placed);
      cursor = c.spot_of.ensures;
      looks = c.looks_of.ensures ∙ ap looks_of c.groups-groups.ensures;
      bars = c.bars_of.ensures ∙ ap bars_of c.groups-groups.ensures;
      colours = c.normal_colours.ensures ∙ ap normal_colours c.groups-groups.ensures;
      patches = c.new.ensures.items;
    }

pub returns-clause-sound : goal.returns-clause-sound
returns-clause-sound c =
    scene_sound c.args.editor.now _ c.known.ensures c.requires.settled (returns-clause-scene c) c.in_ok-panes.ensures.stops
