use Rattle.std.proofs.Common.{◌≡◌, ◌∙◌, sym, subst, w64, Some, None}
use Rattle.std.specs.Prelude.{position}
use Rattle.std.specs.Ordering.{int_eq}
use Rattle.std.proofs.lemmas.Int.{to_z-of_z}
use Rattle.nv_windows.specs.declared.window.Tabpage.{Tabpage}
use Rattle.nv_windows.proofs.PageOrder.{put_there, put_last}
use Rattle.nv_windows.proofs.tabs.place_behind.Goals as goal

pub returns-in-Some-clause-put : goal.returns-in-Some-clause-put
returns-in-Some-clause-put c = λ new.
    put_there c.args.tabpages.now c.args.handle c.in-Some.before new
    (subst (λ n. position (λ (t : Tabpage). int_eq t.handle n) c.args.tabpages.now ≡ Some c.in-Some.before) (to_z-of_z w64 c.args.handle c.ranges.handle) (sym c.place_of.ensures.place ∙ c.in-Some.is))

pub returns-in-None-clause-put : goal.returns-in-None-clause-put
returns-in-None-clause-put c = λ new.
    put_last c.args.tabpages.now c.args.handle new
    (subst (λ n. position (λ (t : Tabpage). int_eq t.handle n) c.args.tabpages.now ≡ None) (to_z-of_z w64 c.args.handle c.ranges.handle) (sym c.place_of.ensures.place ∙ c.in-None.is))
