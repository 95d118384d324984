use Rattle.std.proofs.Common.{◌∙◌, ap, map, not, List}
use Rattle.std.specs.Prelude.{filter}
use Rattle.nv_places.specs.declared.place.Pos.{Pos}
use Rattle.nv_marks.specs.Keeping.{is_struck}
use Rattle.nv_marks.specs.Striking.{Strike, hiding_mark}
use Rattle.nv_marks.specs.declared.extmark.Mark.{Mark}
use Rattle.nv_marks.proofs.mark_set.MarkSet.find_struck.Goals as goal

pub returns : goal.returns
returns c =
    let found = c.in_ok-gone.ensures.found ∙ ap (λ (p : Pos). filter (is_struck c.args.start p) c.args.self.now.marks) c.further.ensures in
    let hidden =
    c.in_ok-hidden.ensures
    ∙ ap (λ (l : List Mark). map hiding_mark (filter (λ m. m.restore) l)) (c.deref.ensures.value ∙ found) in
    let gone = c.keep_gone.ensures ∙ ap (filter (λ (m : Mark). not m.restore)) found in
    λ i. let s : Strike = record { hidden = hidden i; gone = gone i } in s
