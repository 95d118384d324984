use Rattle.std.proofs.Common.{◌≡◌, drop}
use Rattle.std.specs.Prelude.{flat_map}
use Rattle.nv_model.specs.Standing.{seen_now}
use Rattle.nv_scene.specs.Settling.{window_settling}
use Rattle.nv_scene.proofs.settling.is_settled.Given as goal

abbrev pub invariant-loop-window : goal.invariant-loop-window
invariant-loop-window l =
    flat_map (window_settling (seen_now l.editor)) l.window-items ≡ flat_map (window_settling (seen_now l.editor)) (drop l.window-index l.window-items)
