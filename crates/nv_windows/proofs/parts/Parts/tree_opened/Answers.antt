use Rattle.std.proofs.Common.{◌<◌, ◌∙◌, sym, ap, w64, arith, length, refl}
use Rattle.std.proofs.lemmas.List.{length-map}
use mir.Val.{to_z, of_z}
use Rattle.nv_layout.specs.Changes.{split}
use Rattle.nv_layout.specs.Content.{shape_of}
use Rattle.nv_windows.specs.Workspace.{Page, page_of}
use Rattle.nv_windows.specs.Kept.{workspace_of}
use Rattle.nv_windows.proofs.PartsAt.{opened_small, page_is, if_ok}
use Rattle.nv_windows.proofs.parts.Parts.tree_opened.Goals as goal

pub returns-clause-small : goal.returns-clause-small
returns-clause-small c =
    let h : c.args.home < length (workspace_of c.args.self.now).tabpages = omega (arith, c.requires.place, length-map c.args.self.now.tabpages.items page_of) in
    let is = page_is (workspace_of c.args.self.now) c.args.self.now.tabpages.items c.args.home c.index.result.now refl c.requires.place c.index.ensures in
    if_ok c.opened.result _ _ (λ t e. opened_small (workspace_of c.args.self.now) c.args.home c.args.side (to_z w64 (of_z w64 c.args.beside)) (record { window = to_z w64 (of_z w64 c.args.self.now.next_window); width = 0; height = 0 }) (shape_of t) c.requires.sound h
    (e ∙ ap (λ (p : Page). split c.args.side (to_z w64 (of_z w64 c.args.beside)) (record { window = to_z w64 (of_z w64 c.args.self.now.next_window); width = 0; height = 0 }) p.tree) (sym is))) c.opened.ensures
