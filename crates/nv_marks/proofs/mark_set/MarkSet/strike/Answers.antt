use Rattle.std.proofs.Common.{◌∙◌, ap, refl, subst, map, List}
use Rattle.nv_places.specs.Places.{further}
use Rattle.nv_marks.specs.Keeping.{put_back_mark}
use Rattle.nv_marks.specs.Order.{IsInOrder}
use Rattle.nv_marks.specs.Striking.{Strike, struck_among}
use Rattle.nv_marks.specs.declared.extmark.Mark.{Mark}
use Rattle.nv_marks.specs.declared.keeping.Kept.{Kept}
use Rattle.nv_marks.specs.inside.Restoring.{without_all}
use Rattle.nv_marks.proofs.StrikeLemmas.{all_struck}
use Rattle.nv_marks.proofs.mark_set.MarkSet.strike.Goals as goal

pub returns-clause-marks : goal.returns-clause-marks
returns-clause-marks c =
    let ms : List Mark = c.args.self.now.marks in
    all_struck c.args.start c.args.old (further c.args.start c.args.old) ms c.remove_all.new.self.marks c.put_back.new.self.marks c.args.self.now.greatest c.len-count.ensures.sound
    (struck_among c.args.start c.args.old ms) c.struck.inside.gone.items c.struck.inside.hidden.items refl refl
    (ap (λ (s : Strike). s.hidden) (c.struck.view_is ∙ c.requires))
    (ap (λ (s : Strike). s.gone) (c.struck.view_is ∙ c.requires))
    (c.remove_all.ensures.marks ∙ ap (λ (l : List Mark). without_all l ms) c.deref.ensures.value)
    (subst (λ (l : List Kept). IsInOrder (map (put_back_mark l) c.remove_all.new.self.marks) c.put_back.new.self.marks) c.deref-2.ensures.value c.put_back.ensures.marks)
