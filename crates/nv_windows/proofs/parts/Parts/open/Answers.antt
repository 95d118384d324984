use Rattle.std.proofs.Common.{rules, ◌≡◌, ◌∙◌, sym, ap, subst, true, w64, Some, None}
use Rattle.std.proofs.lemmas.Int.{to_z-of_z}
use mir.Val.{to_z, of_z, SFits}
use Rattle.nv_layout.specs.Changes.{holds, split}
use Rattle.nv_layout.specs.Content.{shape_of}
use Rattle.nv_windows.specs.Kept.{workspace_of, page_at}
use Rattle.nv_windows.proofs.PartsAt.{home_found, home_holds, home_missing, home_is}
use Rattle.nv_windows.specs.Rooms.{has_room, next_leaf}
use Rattle.nv_windows.specs.Kept.{with_next_window, with_tree_at}
use Rattle.nv_windows.specs.declared.window.Opened.TheVariants.{Window as OpenedWindow}
use Rattle.nv_windows.specs.Operations.{with_wishes, entered_where, with_window}
use Rattle.nv_windows.proofs.Cases.{room_of, no_room, some_room, not_opened, is_opened, opened_whole}
use Rattle.nv_windows.proofs.parts.Parts.open.Goals as goal

pub returns-in_default-clause-told : goal.returns-in_default-clause-told
returns-in_default-clause-told c = no_room (workspace_of c.args.self.now) c.args.beside c.args.side true (sym c.window_left.ensures ∙ c.if-not-window_left.false) (ap (room_of (workspace_of c.args.self.now) c.args.beside c.args.side) (home_missing (workspace_of c.args.self.now) c.args.beside (home_is c.deref.result.now c.args.self.now.tabpages.items c.args.beside (to_z w64 (of_z w64 c.args.beside)) None c.deref.ensures.value (to_z-of_z w64 c.args.beside c.ranges.beside) (sym c.in_default.is ∙ c.home_of.ensures.place))))

pub returns-in_default-clause-after : goal.returns-in_default-clause-after
returns-in_default-clause-after c = not_opened (workspace_of c.args.self.now) c.args.beside c.args.side c.args.buffer c.args.wishes.width c.args.wishes.height c.args.enter (ap (room_of (workspace_of c.args.self.now) c.args.beside c.args.side) (home_missing (workspace_of c.args.self.now) c.args.beside (home_is c.deref.result.now c.args.self.now.tabpages.items c.args.beside (to_z w64 (of_z w64 c.args.beside)) None c.deref.ensures.value (to_z-of_z w64 c.args.beside c.ranges.beside) (sym c.in_default.is ∙ c.home_of.ensures.place))))

pub tree_opened-requires-clause-held : goal.tree_opened-requires-clause-held
tree_opened-requires-clause-held c =
    subst (λ w. holds w (page_at (workspace_of c.args.self.now) c.in-Some.home).tree ≡ true) (sym (to_z-of_z w64 c.args.beside c.ranges.beside))
    (home_holds (workspace_of c.args.self.now) c.args.beside c.in-Some.home (home_is c.deref.result.now c.args.self.now.tabpages.items c.args.beside (to_z w64 (of_z w64 c.args.beside)) (Some c.in-Some.home) c.deref.ensures.value (to_z-of_z w64 c.args.beside c.ranges.beside) (sym c.in-Some.is ∙ c.home_of.ensures.place)))

pub returns-then-not-fits-clause-told : goal.returns-then-not-fits-clause-told
returns-then-not-fits-clause-told c = no_room (workspace_of c.args.self.now) c.args.beside c.args.side true (sym c.window_left.ensures ∙ c.if-not-window_left.false)
    (ap (room_of (workspace_of c.args.self.now) c.args.beside c.args.side) (home_found (workspace_of c.args.self.now) c.args.beside c.in-Some.home (home_is c.deref.result.now c.args.self.now.tabpages.items c.args.beside (to_z w64 (of_z w64 c.args.beside)) (Some c.in-Some.home) c.deref.ensures.value (to_z-of_z w64 c.args.beside c.ranges.beside) (sym c.in-Some.is ∙ c.home_of.ensures.place)))
    ∙ ap (has_room (workspace_of c.args.self.now)) (sym (c.in_ok-tree.ensures.tree ∙ ap (λ w. split c.args.side w (next_leaf (workspace_of c.args.self.now)) (page_at (workspace_of c.args.self.now) c.in-Some.home).tree) (to_z-of_z w64 c.args.beside c.ranges.beside))) ∙ sym c.fits.ensures ∙ c.if-not-fits.true)

pub returns-then-not-fits-clause-after : goal.returns-then-not-fits-clause-after
returns-then-not-fits-clause-after c = not_opened (workspace_of c.args.self.now) c.args.beside c.args.side c.args.buffer c.args.wishes.width c.args.wishes.height c.args.enter
    (ap (room_of (workspace_of c.args.self.now) c.args.beside c.args.side) (home_found (workspace_of c.args.self.now) c.args.beside c.in-Some.home (home_is c.deref.result.now c.args.self.now.tabpages.items c.args.beside (to_z w64 (of_z w64 c.args.beside)) (Some c.in-Some.home) c.deref.ensures.value (to_z-of_z w64 c.args.beside c.ranges.beside) (sym c.in-Some.is ∙ c.home_of.ensures.place)))
    ∙ ap (has_room (workspace_of c.args.self.now)) (sym (c.in_ok-tree.ensures.tree ∙ ap (λ w. split c.args.side w (next_leaf (workspace_of c.args.self.now)) (page_at (workspace_of c.args.self.now) c.in-Some.home).tree) (to_z-of_z w64 c.args.beside c.ranges.beside))) ∙ sym c.fits.ensures ∙ c.if-not-fits.true)

pub returns-clause-told : goal.returns-clause-told
returns-clause-told c =
    let fits : SFits w64 c.args.self.now.next_window = search rules in
    ap OpenedWindow (to_z-of_z w64 c.args.self.now.next_window fits) ∙ some_room (workspace_of c.args.self.now) c.args.beside c.args.side (sym c.window_left.ensures ∙ c.if-not-window_left.false)
    (ap (room_of (workspace_of c.args.self.now) c.args.beside c.args.side) (home_found (workspace_of c.args.self.now) c.args.beside c.in-Some.home (home_is c.deref.result.now c.args.self.now.tabpages.items c.args.beside (to_z w64 (of_z w64 c.args.beside)) (Some c.in-Some.home) c.deref.ensures.value (to_z-of_z w64 c.args.beside c.ranges.beside) (sym c.in-Some.is ∙ c.home_of.ensures.place)))
    ∙ ap (has_room (workspace_of c.args.self.now)) (sym (c.in_ok-tree.ensures.tree ∙ ap (λ w. split c.args.side w (next_leaf (workspace_of c.args.self.now)) (page_at (workspace_of c.args.self.now) c.in-Some.home).tree) (to_z-of_z w64 c.args.beside c.ranges.beside))) ∙ sym c.fits.ensures ∙ c.if-not-fits.false)

pub returns-clause-after : goal.returns-clause-after
returns-clause-after c =
    let fits : SFits w64 c.args.self.now.next_window = search rules in
    c.enter_where.ensures
    ∙ ap (entered_where c.args.enter (to_z w64 (of_z w64 c.args.self.now.next_window))) (c.in_ok-put_opened.ensures.ok
    ∙ ap (λ b. with_next_window b (with_tree_at (workspace_of c.args.self.now) c.in-Some.home (shape_of c.wishing-tree.result))) (to_z-of_z w64 c.args.buffer c.ranges.buffer)
    ∙ opened_whole (workspace_of c.args.self.now) c.args.beside c.args.side c.args.buffer c.args.wishes.width c.args.wishes.height c.in-Some.home (shape_of c.wishing-tree.result) c.requires.sound (home_is c.deref.result.now c.args.self.now.tabpages.items c.args.beside (to_z w64 (of_z w64 c.args.beside)) (Some c.in-Some.home) c.deref.ensures.value (to_z-of_z w64 c.args.beside c.ranges.beside) (sym c.in-Some.is ∙ c.home_of.ensures.place))
    (c.wishing-tree.ensures ∙ (λ i. with_wishes (to_z-of_z w64 c.args.self.now.next_window fits i) c.args.wishes.width c.args.wishes.height ((c.in_ok-tree.ensures.tree ∙ ap (λ w. split c.args.side w (next_leaf (workspace_of c.args.self.now)) (page_at (workspace_of c.args.self.now) c.in-Some.home).tree) (to_z-of_z w64 c.args.beside c.ranges.beside)) i))))
    ∙ ap (λ w. entered_where c.args.enter w (with_window c.args.beside c.args.side c.args.buffer c.args.wishes.width c.args.wishes.height (workspace_of c.args.self.now))) (to_z-of_z w64 c.args.self.now.next_window fits)
    ∙ is_opened (workspace_of c.args.self.now) c.args.beside c.args.side c.args.buffer c.args.wishes.width c.args.wishes.height c.args.enter (sym c.window_left.ensures ∙ c.if-not-window_left.false)
    (ap (room_of (workspace_of c.args.self.now) c.args.beside c.args.side) (home_found (workspace_of c.args.self.now) c.args.beside c.in-Some.home (home_is c.deref.result.now c.args.self.now.tabpages.items c.args.beside (to_z w64 (of_z w64 c.args.beside)) (Some c.in-Some.home) c.deref.ensures.value (to_z-of_z w64 c.args.beside c.ranges.beside) (sym c.in-Some.is ∙ c.home_of.ensures.place)))
    ∙ ap (has_room (workspace_of c.args.self.now)) (sym (c.in_ok-tree.ensures.tree ∙ ap (λ w. split c.args.side w (next_leaf (workspace_of c.args.self.now)) (page_at (workspace_of c.args.self.now) c.in-Some.home).tree) (to_z-of_z w64 c.args.beside c.ranges.beside))) ∙ sym c.fits.ensures ∙ c.if-not-fits.false)
