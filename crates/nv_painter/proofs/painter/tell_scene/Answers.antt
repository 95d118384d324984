use Rattle.std.proofs.Common.{◌≡◌, subst, sym}
use Rattle.nv_linegrid.specs.Told.{IsDrawn, Wanted}
use Rattle.nv_painter.specs.Pictures.{picture_of}
use Rattle.nv_painter.proofs.PictureLemmas.{sound_is_shown}
use Rattle.nv_painter.proofs.painter.tell_scene.Goals as goal

pub tell_sketch-requires-clause-drawn : goal.tell_sketch-requires-clause-drawn
tell_sketch-requires-clause-drawn c = sound_is_shown c.args.scene.now c.requires.sound

pub tell-requires : goal.tell-requires
tell-requires c =
    let s = c.args.scene.now in
    let drawn : Wanted = record { screen = c.in_ok-screen.screen; colours = s.colours; cursor = c.args.cursor; views = c.args.views.items } in
    let is : drawn ≡ picture_of s = λ i. record {
      screen = c.in_ok-screen.ensures i;
      colours = s.colours;
      cursor = c.requires.cursor i;
      views = c.requires.views i;
    } in
    record { drawn = subst IsDrawn (sym is) (sound_is_shown s c.requires.sound) }
