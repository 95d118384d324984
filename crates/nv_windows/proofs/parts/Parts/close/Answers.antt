use Rattle.std.proofs.Common.{rules, ◌≡◌, ◌<◌, ◌∙◌, sym, ap, subst, true, not, w64, arith, length, Some, None, refl}
use Rattle.std.specs.Prelude.{position}
use Rattle.std.proofs.lemmas.Int.{to_z-of_z}
use Rattle.std.proofs.lemmas.List.{length-map}
use mir.Val.{to_z, of_z, SFits}
use Rattle.nv_layout.specs.Changes.{holds}
use Rattle.nv_layout.specs.Content.{shape_of}
use Rattle.nv_layout.specs.Least.{IsMeasurable, leaves_of}
use Rattle.nv_windows.specs.Workspace.{Page, page_of, tabpage_of}
use Rattle.nv_windows.specs.Kept.{workspace_of, page_at}
use Rattle.nv_windows.specs.declared.window.Tabpage.{Tabpage}
use Rattle.nv_windows.proofs.PartsAt.{home_found, home_holds, home_missing, sound_small, home_is, page_is, same_there}
use Rattle.nv_windows.specs.Operations.{without_tabpage}
use Rattle.nv_windows.specs.Kept.{without_window_at}
use Rattle.nv_windows.proofs.Cases.{close_missing, close_many, close_last, close_tab, many_windows, one_window, one_tabpage, more_tabpages, closed_whole}
use Rattle.nv_windows.proofs.parts.Parts.close.Goals as goal

pub returns-in_default-clause-told : goal.returns-in_default-clause-told
returns-in_default-clause-told c = sym (ap not (close_missing (workspace_of c.args.self.now) c.args.window (home_missing (workspace_of c.args.self.now) c.args.window (home_is c.deref.result.now c.args.self.now.tabpages.items c.args.window (to_z w64 (of_z w64 c.args.window)) None c.deref.ensures.value (to_z-of_z w64 c.args.window c.ranges.window) (sym c.in_default.is ∙ c.home_of.ensures.place)))).0)

pub returns-in_default-clause-after : goal.returns-in_default-clause-after
returns-in_default-clause-after c = sym (close_missing (workspace_of c.args.self.now) c.args.window (home_missing (workspace_of c.args.self.now) c.args.window (home_is c.deref.result.now c.args.self.now.tabpages.items c.args.window (to_z w64 (of_z w64 c.args.window)) None c.deref.ensures.value (to_z-of_z w64 c.args.window c.ranges.window) (sym c.in_default.is ∙ c.home_of.ensures.place)))).1

pub leaves-requires : goal.leaves-requires
leaves-requires c =
    let h : c.in-Some.home < length c.args.self.now.tabpages.items = omega (arith, c.in-Some.ensures.within, ap length c.deref.ensures.value) in
    subst (λ (p : Page). IsMeasurable p.tree) (page_is (workspace_of c.args.self.now) c.args.self.now.tabpages.items c.in-Some.home c.index.result.now refl h c.index.ensures)
    (sound_small (workspace_of c.args.self.now) c.in-Some.home c.requires.sound (omega (arith, h, length-map c.args.self.now.tabpages.items page_of)))

pub close_one-requires-clause-held : goal.close_one-requires-clause-held
close_one-requires-clause-held c =
    subst (λ w. holds w (page_at (workspace_of c.args.self.now) c.in-Some.home).tree ≡ true) (sym (to_z-of_z w64 c.args.window c.ranges.window))
    (home_holds (workspace_of c.args.self.now) c.args.window c.in-Some.home (home_is c.deref.result.now c.args.self.now.tabpages.items c.args.window (to_z w64 (of_z w64 c.args.window)) (Some c.in-Some.home) c.deref.ensures.value (to_z-of_z w64 c.args.window c.ranges.window) (sym c.in-Some.is ∙ c.home_of.ensures.place)))

pub close_one-requires-clause-more : goal.close_one-requires-clause-more
close_one-requires-clause-more c =
    let h : c.in-Some.home < length c.args.self.now.tabpages.items = omega (arith, c.in-Some.ensures.within, ap length c.deref.ensures.value) in
    subst (λ (p : Page). 1 < length (leaves_of p.tree)) (sym (page_is (workspace_of c.args.self.now) c.args.self.now.tabpages.items c.in-Some.home c.index.result.now refl h c.index.ensures))
    (omega (arith, c.if-leaves-gt1.true, c.leaves.ensures))

pub returns-then-leaves-gt1-clause-told : goal.returns-then-leaves-gt1-clause-told
returns-then-leaves-gt1-clause-told c =
    let h : c.in-Some.home < length c.args.self.now.tabpages.items = omega (arith, c.in-Some.ensures.within, ap length c.deref.ensures.value) in
    let at : position (λ (t : Page). holds c.args.window t.tree) (workspace_of c.args.self.now).tabpages ≡ Some c.in-Some.home = (home_is c.deref.result.now c.args.self.now.tabpages.items c.args.window (to_z w64 (of_z w64 c.args.window)) (Some c.in-Some.home) c.deref.ensures.value (to_z-of_z w64 c.args.window c.ranges.window) (sym c.in-Some.is ∙ c.home_of.ensures.place)) in
    let is : page_at (workspace_of c.args.self.now) c.in-Some.home ≡ page_of c.index.result.now = page_is (workspace_of c.args.self.now) c.args.self.now.tabpages.items c.in-Some.home c.index.result.now refl h c.index.ensures in
    let found : tabpage_of (workspace_of c.args.self.now) c.args.window ≡ Some (page_of c.index.result.now) = home_found (workspace_of c.args.self.now) c.args.window c.in-Some.home at ∙ ap Some is in
    let held : holds c.args.window (shape_of c.index.result.now.tree) ≡ true = ap (λ (p : Page). holds c.args.window p.tree) (sym is) ∙ home_holds (workspace_of c.args.self.now) c.args.window c.in-Some.home at in
    sym (ap not (close_many (workspace_of c.args.self.now) c.args.window (page_of c.index.result.now) found (many_windows (page_of c.index.result.now) (omega (arith, c.if-leaves-gt1.true, c.leaves.ensures)))).0)

pub returns-then-leaves-gt1-clause-after : goal.returns-then-leaves-gt1-clause-after
returns-then-leaves-gt1-clause-after c =
    let h : c.in-Some.home < length c.args.self.now.tabpages.items = omega (arith, c.in-Some.ensures.within, ap length c.deref.ensures.value) in
    let at : position (λ (t : Page). holds c.args.window t.tree) (workspace_of c.args.self.now).tabpages ≡ Some c.in-Some.home = (home_is c.deref.result.now c.args.self.now.tabpages.items c.args.window (to_z w64 (of_z w64 c.args.window)) (Some c.in-Some.home) c.deref.ensures.value (to_z-of_z w64 c.args.window c.ranges.window) (sym c.in-Some.is ∙ c.home_of.ensures.place)) in
    let is : page_at (workspace_of c.args.self.now) c.in-Some.home ≡ page_of c.index.result.now = page_is (workspace_of c.args.self.now) c.args.self.now.tabpages.items c.in-Some.home c.index.result.now refl h c.index.ensures in
    let found : tabpage_of (workspace_of c.args.self.now) c.args.window ≡ Some (page_of c.index.result.now) = home_found (workspace_of c.args.self.now) c.args.window c.in-Some.home at ∙ ap Some is in
    let held : holds c.args.window (shape_of c.index.result.now.tree) ≡ true = ap (λ (p : Page). holds c.args.window p.tree) (sym is) ∙ home_holds (workspace_of c.args.self.now) c.args.window c.in-Some.home at in
    c.in_ok-close_one.ensures.ok
    ∙ ap (λ w. without_window_at w c.in-Some.home (workspace_of c.args.self.now)) (to_z-of_z w64 c.args.window c.ranges.window)
    ∙ closed_whole (workspace_of c.args.self.now) c.args.window c.in-Some.home c.requires.sound at
    ∙ sym (close_many (workspace_of c.args.self.now) c.args.window (page_of c.index.result.now) found (many_windows (page_of c.index.result.now) (omega (arith, c.if-leaves-gt1.true, c.leaves.ensures)))).1

pub returns-then-len-eq1-clause-told : goal.returns-then-len-eq1-clause-told
returns-then-len-eq1-clause-told c =
    let h : c.in-Some.home < length c.args.self.now.tabpages.items = omega (arith, c.in-Some.ensures.within, ap length c.deref.ensures.value) in
    let at : position (λ (t : Page). holds c.args.window t.tree) (workspace_of c.args.self.now).tabpages ≡ Some c.in-Some.home = (home_is c.deref.result.now c.args.self.now.tabpages.items c.args.window (to_z w64 (of_z w64 c.args.window)) (Some c.in-Some.home) c.deref.ensures.value (to_z-of_z w64 c.args.window c.ranges.window) (sym c.in-Some.is ∙ c.home_of.ensures.place)) in
    let is : page_at (workspace_of c.args.self.now) c.in-Some.home ≡ page_of c.index.result.now = page_is (workspace_of c.args.self.now) c.args.self.now.tabpages.items c.in-Some.home c.index.result.now refl h c.index.ensures in
    let found : tabpage_of (workspace_of c.args.self.now) c.args.window ≡ Some (page_of c.index.result.now) = home_found (workspace_of c.args.self.now) c.args.window c.in-Some.home at ∙ ap Some is in
    let held : holds c.args.window (shape_of c.index.result.now.tree) ≡ true = ap (λ (p : Page). holds c.args.window p.tree) (sym is) ∙ home_holds (workspace_of c.args.self.now) c.args.window c.in-Some.home at in
    sym (ap not (close_last (workspace_of c.args.self.now) c.args.window (page_of c.index.result.now) found (one_window c.args.window (page_of c.index.result.now) held (omega (arith, c.if-leaves-gt1.false, c.leaves.ensures))) (one_tabpage (workspace_of c.args.self.now) c.len.result (length-map c.args.self.now.tabpages.items page_of ∙ omega (arith, c.len.ensures, c.args.self.now.tabpages.ok.0)) c.if-len-eq1.true)).0)

pub returns-then-len-eq1-clause-after : goal.returns-then-len-eq1-clause-after
returns-then-len-eq1-clause-after c =
    let h : c.in-Some.home < length c.args.self.now.tabpages.items = omega (arith, c.in-Some.ensures.within, ap length c.deref.ensures.value) in
    let at : position (λ (t : Page). holds c.args.window t.tree) (workspace_of c.args.self.now).tabpages ≡ Some c.in-Some.home = (home_is c.deref.result.now c.args.self.now.tabpages.items c.args.window (to_z w64 (of_z w64 c.args.window)) (Some c.in-Some.home) c.deref.ensures.value (to_z-of_z w64 c.args.window c.ranges.window) (sym c.in-Some.is ∙ c.home_of.ensures.place)) in
    let is : page_at (workspace_of c.args.self.now) c.in-Some.home ≡ page_of c.index.result.now = page_is (workspace_of c.args.self.now) c.args.self.now.tabpages.items c.in-Some.home c.index.result.now refl h c.index.ensures in
    let found : tabpage_of (workspace_of c.args.self.now) c.args.window ≡ Some (page_of c.index.result.now) = home_found (workspace_of c.args.self.now) c.args.window c.in-Some.home at ∙ ap Some is in
    let held : holds c.args.window (shape_of c.index.result.now.tree) ≡ true = ap (λ (p : Page). holds c.args.window p.tree) (sym is) ∙ home_holds (workspace_of c.args.self.now) c.args.window c.in-Some.home at in
    sym (close_last (workspace_of c.args.self.now) c.args.window (page_of c.index.result.now) found (one_window c.args.window (page_of c.index.result.now) held (omega (arith, c.if-leaves-gt1.false, c.leaves.ensures))) (one_tabpage (workspace_of c.args.self.now) c.len.result (length-map c.args.self.now.tabpages.items page_of ∙ omega (arith, c.len.ensures, c.args.self.now.tabpages.ok.0)) c.if-len-eq1.true)).1

pub returns-clause-told : goal.returns-clause-told
returns-clause-told c =
    let h : c.in-Some.home < length c.args.self.now.tabpages.items = omega (arith, c.in-Some.ensures.within, ap length c.deref.ensures.value) in
    let at : position (λ (t : Page). holds c.args.window t.tree) (workspace_of c.args.self.now).tabpages ≡ Some c.in-Some.home = (home_is c.deref.result.now c.args.self.now.tabpages.items c.args.window (to_z w64 (of_z w64 c.args.window)) (Some c.in-Some.home) c.deref.ensures.value (to_z-of_z w64 c.args.window c.ranges.window) (sym c.in-Some.is ∙ c.home_of.ensures.place)) in
    let is : page_at (workspace_of c.args.self.now) c.in-Some.home ≡ page_of c.index.result.now = page_is (workspace_of c.args.self.now) c.args.self.now.tabpages.items c.in-Some.home c.index.result.now refl h c.index.ensures in
    let found : tabpage_of (workspace_of c.args.self.now) c.args.window ≡ Some (page_of c.index.result.now) = home_found (workspace_of c.args.self.now) c.args.window c.in-Some.home at ∙ ap Some is in
    let held : holds c.args.window (shape_of c.index.result.now.tree) ≡ true = ap (λ (p : Page). holds c.args.window p.tree) (sym is) ∙ home_holds (workspace_of c.args.self.now) c.args.window c.in-Some.home at in
    sym (ap not (close_tab (workspace_of c.args.self.now) c.args.window (page_of c.index.result.now) found (one_window c.args.window (page_of c.index.result.now) held (omega (arith, c.if-leaves-gt1.false, c.leaves.ensures))) (more_tabpages (workspace_of c.args.self.now) c.len.result (length-map c.args.self.now.tabpages.items page_of ∙ omega (arith, c.len.ensures, c.args.self.now.tabpages.ok.0)) c.if-len-eq1.false)).0)

pub returns-clause-after : goal.returns-clause-after
returns-clause-after c =
    let h : c.in-Some.home < length c.args.self.now.tabpages.items = omega (arith, c.in-Some.ensures.within, ap length c.deref.ensures.value) in
    let at : position (λ (t : Page). holds c.args.window t.tree) (workspace_of c.args.self.now).tabpages ≡ Some c.in-Some.home = (home_is c.deref.result.now c.args.self.now.tabpages.items c.args.window (to_z w64 (of_z w64 c.args.window)) (Some c.in-Some.home) c.deref.ensures.value (to_z-of_z w64 c.args.window c.ranges.window) (sym c.in-Some.is ∙ c.home_of.ensures.place)) in
    let is : page_at (workspace_of c.args.self.now) c.in-Some.home ≡ page_of c.index.result.now = page_is (workspace_of c.args.self.now) c.args.self.now.tabpages.items c.in-Some.home c.index.result.now refl h c.index.ensures in
    let found : tabpage_of (workspace_of c.args.self.now) c.args.window ≡ Some (page_of c.index.result.now) = home_found (workspace_of c.args.self.now) c.args.window c.in-Some.home at ∙ ap Some is in
    let held : holds c.args.window (shape_of c.index.result.now.tree) ≡ true = ap (λ (p : Page). holds c.args.window p.tree) (sym is) ∙ home_holds (workspace_of c.args.self.now) c.args.window c.in-Some.home at in
    let fits : SFits w64 c.index-2.result.now.handle = search rules in
    c.close_tabpage.ensures
    ∙ ap (λ n. without_tabpage n (workspace_of c.args.self.now)) (to_z-of_z w64 c.index-2.result.now.handle fits ∙ ap (λ (t : Tabpage). t.handle) (same_there c.args.self.now.tabpages.items c.in-Some.home c.index-2.result.now c.index.result.now h c.index-2.ensures c.index.ensures))
    ∙ sym (close_tab (workspace_of c.args.self.now) c.args.window (page_of c.index.result.now) found (one_window c.args.window (page_of c.index.result.now) held (omega (arith, c.if-leaves-gt1.false, c.leaves.ensures))) (more_tabpages (workspace_of c.args.self.now) c.len.result (length-map c.args.self.now.tabpages.items page_of ∙ omega (arith, c.len.ensures, c.args.self.now.tabpages.ok.0)) c.if-len-eq1.false)).1
