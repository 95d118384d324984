use Rattle.std.proofs.Common.{rules, ◌≡◌, ◌∙◌, sym, ap, w64, set, refl}
use Rattle.std.proofs.lemmas.Int.{to_z-of_z}
use Rattle.std.proofs.lemmas.List.{map-set}
use Rattle.nv_windows.specs.Workspace.{Workspace, page_of}
use Rattle.nv_windows.specs.Pages.{pages_of}
use Rattle.nv_windows.specs.Kept.{workspace_of, page_at}
use Rattle.nv_windows.proofs.PartsAt.{page_is, on_err}
use Rattle.nv_windows.specs.Operations.{other_windows, page_without}
use Rattle.std.proofs.Math.Seq.{map-set_same}
use Rattle.nv_windows.proofs.parts.Parts.close_one.Goals as goal

pub returns-in_err-close_in-clause-err : goal.returns-in_err-close_in-clause-err
returns-in_err-close_in-clause-err c =
    let tabpages : pages_of (set c.args.self.now.tabpages.items c.args.home c.close_in.new.tabpage) ≡ pages_of c.args.self.now.tabpages.items =
    map-set_same page_of c.args.self.now.tabpages.items c.args.home c.close_in.new.tabpage c.index_mut.result.now (c.in_err-close_in.ensures.err ∙ ap page_of c.index_mut.ensures.value) in
    on_err c.from_residual.result _ (λ i. record (workspace_of c.args.self.now) { tabpages = tabpages i })

pub returns-clause-ok : goal.returns-clause-ok
returns-clause-ok c =
    let old : Workspace = (workspace_of c.args.self.now) in
    let windows : c.drop_window.new.windows.items ≡ other_windows c.args.window old.windows = search rules in
    let tabpages : pages_of (set c.args.self.now.tabpages.items c.args.home c.close_in.new.tabpage) ≡ set old.tabpages c.args.home (page_without c.args.window (page_at old c.args.home)) =
    map-set page_of c.args.self.now.tabpages.items c.args.home c.close_in.new.tabpage
    ∙ ap (set old.tabpages c.args.home) (c.in_ok-close_in.ensures.ok ∙ ap (λ w. page_without w (page_of c.index_mut.result.now)) (to_z-of_z w64 c.args.window c.ranges.window)
    ∙ ap (page_without c.args.window) (sym (page_is old c.args.self.now.tabpages.items c.args.home c.index_mut.result.now refl c.requires.place c.index_mut.ensures.value))) in
    λ i. record old { windows = windows i; tabpages = tabpages i }
