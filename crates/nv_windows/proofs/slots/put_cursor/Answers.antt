use Rattle.std.proofs.Common.{◌≡◌, ◌∙◌, sym, subst, w64, Some, None}
use Rattle.std.specs.Prelude.{pos, position}
use Rattle.std.proofs.lemmas.Int.{to_z-of_z}
use Rattle.nv_windows.specs.Workspace.{window_on}
use Rattle.nv_windows.specs.declared.window.Window.{Window}
use Rattle.nv_windows.proofs.Lists.{find_nowhere, map_nowhere}
use Rattle.nv_windows.proofs.Rising.{has_handle, changed_there}
use Rattle.nv_windows.proofs.slots.put_cursor.Goals as goal

pub returns-in-Some : goal.returns-in-Some
returns-in-Some c =
    changed_there (pos 1000) c.args.windows.now c.args.handle c.in-Some.place (λ (w : Window). record w { cursor = c.args.cursor }) (window_on (pos 0) (pos 0)) c.requires
    (subst (λ n. position (has_handle n) c.args.windows.now ≡ Some c.in-Some.place) (to_z-of_z w64 c.args.handle c.ranges.handle) (sym c.place_of.ensures.place ∙ c.in-Some.is))

pub returns-in_default : goal.returns-in_default
returns-in_default c =
    sym (map_nowhere (has_handle c.args.handle) (λ (w : Window). record w { cursor = c.args.cursor }) c.args.windows.now (find_nowhere (has_handle c.args.handle) c.args.windows.now
    (subst (λ n. position (has_handle n) c.args.windows.now ≡ None) (to_z-of_z w64 c.args.handle c.ranges.handle) (sym c.place_of.ensures.place ∙ c.in_default.is))))
