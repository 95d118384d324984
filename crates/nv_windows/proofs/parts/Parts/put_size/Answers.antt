use Rattle.std.proofs.Common.{◌∙◌, sym, ap, subst, true, false, refl}
use Rattle.std.specs.Prelude.{if◌then◌else◌, All}
use Rattle.nv_layout.specs.Content.{shape_of}
use Rattle.nv_layout.specs.Least.{IsMeasurable}
use Rattle.nv_windows.specs.Kept.{workspace_of}
use Rattle.nv_windows.specs.declared.window.Tabpage.{Tabpage}
use Rattle.nv_windows.proofs.PartsAt.{fit_is, all_small}
use Rattle.nv_windows.specs.Operations.{with_size}
use Rattle.nv_windows.proofs.parts.Parts.put_size.Goals as goal

pub all_fit-requires : goal.all_fit-requires
all_fit-requires c = subst (All (λ (t : Tabpage). IsMeasurable (shape_of t.tree))) (sym c.deref.ensures.value) (all_small c.args.self.now.tabpages.items (workspace_of c.args.self.now) c.requires refl)

pub returns-then-not-all_fit-clause-told : goal.returns-then-not-all_fit-clause-told
returns-then-not-all_fit-clause-told c = fit_is c.args.width c.args.height c.deref.result.now c.args.self.now.tabpages.items (workspace_of c.args.self.now) false c.deref.ensures.value refl (sym c.if-not-all_fit.true ∙ c.all_fit.ensures)

pub returns-then-not-all_fit-clause-after : goal.returns-then-not-all_fit-clause-after
returns-then-not-all_fit-clause-after c =
    ap (λ b. if b then with_size c.args.width c.args.height (workspace_of c.args.self.now) else workspace_of c.args.self.now)
    (fit_is c.args.width c.args.height c.deref.result.now c.args.self.now.tabpages.items (workspace_of c.args.self.now) false c.deref.ensures.value refl (sym c.if-not-all_fit.true ∙ c.all_fit.ensures))

pub returns-clause-told : goal.returns-clause-told
returns-clause-told c = fit_is c.args.width c.args.height c.deref.result.now c.args.self.now.tabpages.items (workspace_of c.args.self.now) true c.deref.ensures.value refl (sym c.if-not-all_fit.false ∙ c.all_fit.ensures)

pub returns-clause-after : goal.returns-clause-after
returns-clause-after c =
    ap (λ b. if b then with_size c.args.width c.args.height (workspace_of c.args.self.now) else workspace_of c.args.self.now)
    (fit_is c.args.width c.args.height c.deref.result.now c.args.self.now.tabpages.items (workspace_of c.args.self.now) true c.deref.ensures.value refl (sym c.if-not-all_fit.false ∙ c.all_fit.ensures))
