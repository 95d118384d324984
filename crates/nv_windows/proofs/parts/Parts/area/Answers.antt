use Rattle.std.proofs.Common.{rules, ◌≡◌, ◌<◌, ◌∙◌, sym, ap, subst, w64, arith, length, Some, None, refl}
use Rattle.std.proofs.lemmas.Int.{to_z-of_z}
use Rattle.std.proofs.lemmas.List.{length-map}
use mir.Val.{to_z, of_z}
use Rattle.nv_layout.specs.Content.{shape_of}
use Rattle.nv_layout.specs.Places.{rects, rect_among, IsRoomy}
use Rattle.nv_windows.specs.Sound.{IsSoundPage}
use Rattle.nv_windows.specs.Workspace.{page_of}
use Rattle.nv_windows.specs.Kept.{workspace_of}
use Rattle.nv_windows.proofs.PartsAt.{sound_at, home_found, home_missing, area_missing, area_there, home_is, page_is}
use Rattle.nv_windows.specs.Rooms.{windows_area}
use Rattle.nv_windows.proofs.parts.Parts.area.Goals as goal

pub returns-in_err-home : goal.returns-in_err-home
returns-in_err-home c =
    c.from_residual.ensures ∙ sym (area_missing (workspace_of c.args.self.now) c.args.window (home_missing (workspace_of c.args.self.now) c.args.window
    (home_is c.deref.result.now c.args.self.now.tabpages.items c.args.window (to_z w64 (of_z w64 c.args.window)) None c.deref.ensures.value (to_z-of_z w64 c.args.window c.ranges.window) (sym c.in_err-home.was ∙ c.home_of.ensures.place))))

pub rect_of-requires-clause-filled : goal.rect_of-requires-clause-filled
rect_of-requires-clause-filled c =
    let h : c.in_ok-home.home < length (workspace_of c.args.self.now).tabpages = omega (arith, c.in_ok-home.ensures.within, ap length c.deref.ensures.value, length-map c.args.self.now.tabpages.items page_of) in
    let is = page_is (workspace_of c.args.self.now) c.args.self.now.tabpages.items c.in_ok-home.home c.index.result.now refl (omega (arith, c.in_ok-home.ensures.within, ap length c.deref.ensures.value)) c.index.ensures in
    let page : IsSoundPage c.args.self.now.width c.args.self.now.height (page_of c.index.result.now) = subst (IsSoundPage c.args.self.now.width c.args.self.now.height) is (sound_at (workspace_of c.args.self.now) c.in_ok-home.home c.requires h) in
    page.filled

pub rect_of-requires-clause-roomy : goal.rect_of-requires-clause-roomy
rect_of-requires-clause-roomy c =
    let h : c.in_ok-home.home < length (workspace_of c.args.self.now).tabpages = omega (arith, c.in_ok-home.ensures.within, ap length c.deref.ensures.value, length-map c.args.self.now.tabpages.items page_of) in
    let is = page_is (workspace_of c.args.self.now) c.args.self.now.tabpages.items c.in_ok-home.home c.index.result.now refl (omega (arith, c.in_ok-home.ensures.within, ap length c.deref.ensures.value)) c.index.ensures in
    let page : IsSoundPage c.args.self.now.width c.args.self.now.height (page_of c.index.result.now) = subst (IsSoundPage c.args.self.now.width c.args.self.now.height) is (sound_at (workspace_of c.args.self.now) c.in_ok-home.home c.requires h) in
    subst (IsRoomy (shape_of c.index.result.now.tree)) (sym c.windows_area-screen.ensures) page.roomy

pub returns-in_err-rect : goal.returns-in_err-rect
returns-in_err-rect c =
    let h : c.in_ok-home.home < length (workspace_of c.args.self.now).tabpages = omega (arith, c.in_ok-home.ensures.within, ap length c.deref.ensures.value, length-map c.args.self.now.tabpages.items page_of) in
    let is = page_is (workspace_of c.args.self.now) c.args.self.now.tabpages.items c.in_ok-home.home c.index.result.now refl (omega (arith, c.in_ok-home.ensures.within, ap length c.deref.ensures.value)) c.index.ensures in
    let page : IsSoundPage c.args.self.now.width c.args.self.now.height (page_of c.index.result.now) = subst (IsSoundPage c.args.self.now.width c.args.self.now.height) is (sound_at (workspace_of c.args.self.now) c.in_ok-home.home c.requires h) in
    let found : None ≡ rect_among c.args.window (rects (shape_of c.index.result.now.tree) (windows_area (workspace_of c.args.self.now))) = search rules in
    c.from_residual-in_err-rect.ensures ∙ sym (area_there (workspace_of c.args.self.now) c.args.window c.in_ok-home.home (page_of c.index.result.now) None
    (home_found (workspace_of c.args.self.now) c.args.window c.in_ok-home.home
    (home_is c.deref.result.now c.args.self.now.tabpages.items c.args.window (to_z w64 (of_z w64 c.args.window)) (Some c.in_ok-home.home) c.deref.ensures.value (to_z-of_z w64 c.args.window c.ranges.window) (sym c.in_ok-home.was ∙ c.home_of.ensures.place)) ∙ ap Some is) found)

pub returns : goal.returns
returns c =
    let h : c.in_ok-home.home < length (workspace_of c.args.self.now).tabpages = omega (arith, c.in_ok-home.ensures.within, ap length c.deref.ensures.value, length-map c.args.self.now.tabpages.items page_of) in
    let is = page_is (workspace_of c.args.self.now) c.args.self.now.tabpages.items c.in_ok-home.home c.index.result.now refl (omega (arith, c.in_ok-home.ensures.within, ap length c.deref.ensures.value)) c.index.ensures in
    let page : IsSoundPage c.args.self.now.width c.args.self.now.height (page_of c.index.result.now) = subst (IsSoundPage c.args.self.now.width c.args.self.now.height) is (sound_at (workspace_of c.args.self.now) c.in_ok-home.home c.requires h) in
    let found : Some c.in_ok-rect.rect ≡ rect_among c.args.window (rects (shape_of c.index.result.now.tree) (windows_area (workspace_of c.args.self.now))) = search rules in
    ap Some c.without_status.ensures
    ∙ sym (area_there (workspace_of c.args.self.now) c.args.window c.in_ok-home.home (page_of c.index.result.now) (Some c.in_ok-rect.rect)
    (home_found (workspace_of c.args.self.now) c.args.window c.in_ok-home.home
    (home_is c.deref.result.now c.args.self.now.tabpages.items c.args.window (to_z w64 (of_z w64 c.args.window)) (Some c.in_ok-home.home) c.deref.ensures.value (to_z-of_z w64 c.args.window c.ranges.window) (sym c.in_ok-home.was ∙ c.home_of.ensures.place)) ∙ ap Some is) found)
