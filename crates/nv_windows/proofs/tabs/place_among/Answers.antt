use Rattle.std.proofs.Common.{◌≡◌, ◌∙◌, subst, w64}
use Rattle.std.specs.Prelude.{position}
use Rattle.std.specs.Ordering.{int_eq}
use Rattle.std.proofs.lemmas.Int.{to_z-of_z}
use Rattle.nv_windows.specs.declared.window.Tabpage.{Tabpage}
use Rattle.nv_windows.proofs.PageOrder.{stands_before}
use Rattle.nv_windows.proofs.tabs.place_among.Goals as goal

pub returns : goal.returns
returns c =
    c.unwrap_or.ensures
    ∙ stands_before c.args.tabpages.now c.args.handle c.place_of.result
    (subst (λ n. c.place_of.result ≡ position (λ (t : Tabpage). int_eq t.handle n) c.args.tabpages.now) (to_z-of_z w64 c.args.handle c.ranges.handle) c.place_of.ensures.place)
