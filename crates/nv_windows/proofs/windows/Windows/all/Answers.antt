use Rattle.std.proofs.Common.{◌∙◌, sym, ap}
use Rattle.std.specs.Prelude.{flat_map}
use Rattle.nv_windows.specs.Workspace.{Workspace, page_of}
use Rattle.nv_windows.specs.Rooms.{windows_in}
use Rattle.nv_windows.proofs.PartsAt.{if_ok}
use Rattle.nv_windows.proofs.SoundLaws.{flat_map-map}
use Rattle.nv_windows.proofs.windows.Windows.all.Goals as goal

pub returns : goal.returns
returns c =
    if_ok c.all_windows.result _ _ (λ all e. e ∙ ap (flat_map _) c.deref.ensures.value ∙ sym (flat_map-map windows_in page_of c.self.inside.parts.tabpages.items)
    ∙ ap (λ (v : Workspace). flat_map windows_in v.tabpages) c.self.view_is) c.all_windows.ensures
