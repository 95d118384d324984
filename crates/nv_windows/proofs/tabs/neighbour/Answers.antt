use Rattle.std.proofs.Common.{rules, ◌≡◌, ◌-◌, ◌∙◌, subst, w64, get_or}
use Rattle.std.specs.Prelude.{pos, position}
use Rattle.std.specs.Ordering.{int_eq}
use Rattle.std.proofs.lemmas.Int.{to_z-of_z}
use mir.Val.{SFits}
use Rattle.nv_windows.proofs.PageOrder.{in_front}
use Rattle.nv_windows.proofs.tabs.neighbour.Goals as goal

pub returns-then-place-gt0 : goal.returns-then-place-gt0
returns-then-place-gt0 c =
    let fits : SFits w64 (get_or c.args.handles.now (c.unwrap_or-place.result - 1) (pos 0)) = search rules in
    to_z-of_z w64 (get_or c.args.handles.now (c.unwrap_or-place.result - 1) (pos 0)) fits
    ∙ in_front c.args.handles.now c.args.window c.place_among_handles.result c.unwrap_or-place.result (pos 0)
    (subst (λ w. c.place_among_handles.result ≡ position (λ k. int_eq k w) c.args.handles.now) (to_z-of_z w64 c.args.window c.ranges.window) c.place_among_handles.ensures)
    c.unwrap_or-place.ensures c.if-place-gt0.true
