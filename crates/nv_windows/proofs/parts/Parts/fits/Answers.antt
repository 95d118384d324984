use Rattle.std.proofs.Common.{◌≡◌, ◌∙◌, sym, ap, subst, true, false, w64, Option, Some, None}
use Rattle.std.specs.Option.{option_map_or}
use Rattle.std.proofs.lemmas.Int.{to_z-of_z}
use mir.Val.{to_z, of_z}
use Rattle.nv_layout.specs.Changes.{holds, split}
use Rattle.nv_windows.specs.Workspace.{Page}
use Rattle.nv_windows.specs.Kept.{workspace_of, page_at}
use Rattle.nv_windows.proofs.PartsAt.{home_found, home_holds, home_missing, home_is}
use Rattle.nv_windows.specs.Rooms.{has_room, next_leaf}
use Rattle.nv_windows.proofs.parts.Parts.fits.Goals as goal

pub returns-in_default : goal.returns-in_default
returns-in_default c =
    sym (ap (λ (o : Option Page). option_map_or (λ t. has_room (workspace_of c.args.self.now) (split c.args.side c.args.beside (next_leaf (workspace_of c.args.self.now)) t.tree)) o false)
    (home_missing (workspace_of c.args.self.now) c.args.beside
    (home_is c.deref.result.now c.args.self.now.tabpages.items c.args.beside (to_z w64 (of_z w64 c.args.beside)) None c.deref.ensures.value (to_z-of_z w64 c.args.beside c.ranges.beside) (sym c.in_default.is ∙ c.home_of.ensures.place))))

pub tree_opened-requires-clause-held : goal.tree_opened-requires-clause-held
tree_opened-requires-clause-held c =
    subst (λ w. holds w (page_at (workspace_of c.args.self.now) c.in-Some.home).tree ≡ true) (sym (to_z-of_z w64 c.args.beside c.ranges.beside))
    (home_holds (workspace_of c.args.self.now) c.args.beside c.in-Some.home
    (home_is c.deref.result.now c.args.self.now.tabpages.items c.args.beside (to_z w64 (of_z w64 c.args.beside)) (Some c.in-Some.home) c.deref.ensures.value (to_z-of_z w64 c.args.beside c.ranges.beside) (sym c.in-Some.is ∙ c.home_of.ensures.place)))

pub returns : goal.returns
returns c =
    c.fits.ensures
    ∙ ap (has_room (workspace_of c.args.self.now)) (c.in_ok-tree.ensures.tree ∙ ap (λ w. split c.args.side w (next_leaf (workspace_of c.args.self.now)) (page_at (workspace_of c.args.self.now) c.in-Some.home).tree) (to_z-of_z w64 c.args.beside c.ranges.beside))
    ∙ sym (ap (λ (o : Option Page). option_map_or (λ t. has_room (workspace_of c.args.self.now) (split c.args.side c.args.beside (next_leaf (workspace_of c.args.self.now)) t.tree)) o false)
    (home_found (workspace_of c.args.self.now) c.args.beside c.in-Some.home
    (home_is c.deref.result.now c.args.self.now.tabpages.items c.args.beside (to_z w64 (of_z w64 c.args.beside)) (Some c.in-Some.home) c.deref.ensures.value (to_z-of_z w64 c.args.beside c.ranges.beside) (sym c.in-Some.is ∙ c.home_of.ensures.place))))
