use Rattle.std.proofs.Common.{◌≡◌, ◌∙◌, sym, ap, subst, w64, Some, None}
use Rattle.std.specs.Prelude.{position, option_copied}
use Rattle.std.proofs.lemmas.Int.{to_z-of_z}
use Rattle.nv_windows.proofs.Lists.{find_nowhere, find_by_position}
use Rattle.nv_windows.proofs.Rising.{has_handle}
use Rattle.nv_windows.proofs.slots.window_at.Goals as goal

pub returns-in_err-place : goal.returns-in_err-place
returns-in_err-place c =
    ap option_copied c.from_residual.ensures
    ∙ sym (find_nowhere (has_handle c.args.handle) c.args.windows.now
    (subst (λ n. position (has_handle n) c.args.windows.now ≡ None) (to_z-of_z w64 c.args.handle c.ranges.handle) (sym c.place_of.ensures.place ∙ c.in_err-place.was)))

pub returns : goal.returns
returns c =
    sym (find_by_position (has_handle c.args.handle) c.args.windows.now c.in_ok-place.place _
    (subst (λ n. position (has_handle n) c.args.windows.now ≡ Some c.in_ok-place.place) (to_z-of_z w64 c.args.handle c.ranges.handle) (sym c.place_of.ensures.place ∙ c.in_ok-place.was)))
