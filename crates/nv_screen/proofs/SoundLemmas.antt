-- The windows of a sound scene can be drawn.
use Rattle.std.proofs.Common.{◌<◌, ◌^◌, List, [], ◌∷◌, ◌++◌, map, All, arith}
use Rattle.std.specs.List.{AllByRecursion}
use Rattle.std.proofs.lemmas.List.Elements.{All-cons, All-nil}
use Rattle.nv_layout.specs.declared.nodes.Rect.{Rect}
use Rattle.nv_layout.specs.Tiling.{LiesIn}
use Rattle.nv_screen.specs.declared.scene.Pane.{Pane}
use Rattle.nv_screen.specs.declared.scene.Scene.{Scene}
use Rattle.nv_screen.specs.Laws.{SoundScenesAreDrawable, SoundScenesAreInReach}
use Rattle.nv_screen.specs.Sound.{IsDrawable, IsInReach, IsSoundPane, pane_area, whole_screen}

drawable : (ps : List Pane) → AllByRecursion IsSoundPane ps → All IsDrawable ps
drawable [] all = All-nil IsDrawable
drawable (p ∷ ps) all = All-cons IsDrawable p ps (all.0.wide, all.0.stop) (drawable ps all.1)

in_reach : (s : Scene) (ps : List Pane) (rs : List Rect) → s.width < 2 ^ 32 → s.height < 2 ^ 32 → AllByRecursion IsSoundPane ps
    → AllByRecursion (LiesIn (whole_screen s)) (map pane_area ps ++ rs) → All IsInReach ps
in_reach s [] rs wide high all inside = All-nil IsInReach
in_reach s (p ∷ ps) rs wide high all inside =
    All-cons IsInReach p ps
    (record {
      drawable = (all.0.wide, all.0.stop);
      rows = omega (arith, inside.0.bottom, high);
      cols = omega (arith, inside.0.right, wide);
    })
    (in_reach s ps rs wide high all.1 inside.1)

pub sound_is_drawable : SoundScenesAreDrawable
sound_is_drawable s sound = drawable s.panes.items sound.panes

pub sound_is_in_reach : SoundScenesAreInReach
sound_is_in_reach s sound wide high = in_reach s s.panes.items s.separators.items wide high sound.panes sound.inside
