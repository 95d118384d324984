-- Laws of pictures.
use Rattle.std.specs.Prelude.{◌≡◌, ℕ, pos, neg_ℤ, List, map, min, sum}
use Rattle.nv_linegrid.specs.Scrolls.{shift_by}
use Rattle.nv_linegrid.specs.Told.{IsDrawn, View}
use Rattle.nv_screen.specs.declared.scene.Scene.{Scene}
use Rattle.nv_screen.specs.Sound.{IsSoundScene}
use Rattle.nv_painter.specs.Pictures.{picture_of}

-- a sound scene is a whole screen with its cursor and its windows on it
abbrev pub SoundScenesAreShown : Type 0
SoundScenesAreShown = (s : Scene) → IsSoundScene s → IsDrawn (picture_of s)

-- the rows of lines, each counted at most as many as a window has, move the window as all their
-- rows do
abbrev pub CutHeightsMoveAlike : Type 0
CutHeightsMoveAlike =
    (v : View) (heights : List ℕ) →
    let cut = sum (map (min v.height) heights) in
    let whole = sum heights in
    (shift_by v (pos cut) cut ≡ shift_by v (pos whole) whole)
    × (shift_by v (neg_ℤ (pos cut)) cut ≡ shift_by v (neg_ℤ (pos whole)) whole)
