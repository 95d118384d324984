use Rattle.std.proofs.Common.{◌<◌, ◌^◌, ◌∙◌, arith, refl, subst, rules}
use Rattle.nv_linegrid.specs.Batch.{batch, told_after}
use Rattle.nv_linegrid.specs.Laws.{ShowsWanted}
use Rattle.nv_screen.proofs.SoundLemmas.{sound_is_in_reach}
use Rattle.nv_painter.specs.Painters.{Painting}
use Rattle.nv_painter.specs.Pictures.{picture_of}
use Rattle.nv_painter.proofs.LastLemmas.{told_stays}
use Rattle.nv_painter.proofs.ToldLemmas.{scene_is_shown}
use Rattle.nv_painter.proofs.painter.Painter.paint.Goals as goal

pub cursor_cell-requires : goal.cursor_cell-requires
cursor_cell-requires c =
    let s = c.args.scene in
    let wide : s.width < 2 ^ 32 = search (rules, arith) in
    let high : s.height < 2 ^ 32 = search (rules, arith) in
    sound_is_in_reach s c.requires wide high

pub invariant_of-self-2 : goal.invariant_of-self-2
invariant_of-self-2 c = record {
  sound = c.requires;
  same = told_stays c.self.inside.told c.tell_scene.new.told (picture_of c.args.scene) c.in_ok-events.ensures.told;
}

pub returns-clause-events : goal.returns-clause-events
returns-clause-events c =
    let told = λ (p : Painting). p.told in
    c.in_ok-events.ensures.events ∙ (λ i. batch (told (c.self.view_is i)) (picture_of c.args.scene))

pub returns-clause-told : goal.returns-clause-told
returns-clause-told c =
    let told = λ (p : Painting). p.told in
    c.in_ok-events.ensures.told ∙ (λ i. told_after (told (c.self.view_is i)) (picture_of c.args.scene))

pub returns-clause-shows : goal.returns-clause-shows
returns-clause-shows c =
    let w = picture_of c.args.scene in
    let told = λ (p : Painting). p.told in
    let shows = subst (λ (p : Painting). ShowsWanted p.told w) c.self.view_is c.in_ok-events.ensures.shows in
    scene_is_shown c.args.self.now.told c.tell_scene.new.told c.in_ok-events.events.items c.args.scene w refl
    (c.in_ok-events.ensures.events ∙ (λ i. batch (told (c.self.view_is i)) w))
    (c.in_ok-events.ensures.told ∙ (λ i. told_after (told (c.self.view_is i)) w)) shows
