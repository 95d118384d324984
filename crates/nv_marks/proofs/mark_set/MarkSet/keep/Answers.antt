use Rattle.std.proofs.Common.{◌∙◌, ◌++◌, ap, sym, subst, map, List}
use Rattle.std.specs.Prelude.{filter}
use Rattle.std.proofs.lemmas.Result.{on_ok_weaker}
use Rattle.nv_places.specs.declared.place.Pos.{Pos}
use Rattle.nv_places.specs.Places.{further}
use Rattle.nv_marks.specs.Marks.{Marks}
use Rattle.nv_marks.specs.Order.{IsInOrder}
use Rattle.nv_marks.specs.Keeping.{is_kept, kept_of}
use Rattle.nv_marks.specs.declared.extmark.Mark.{Mark}
use Rattle.nv_marks.specs.inside.Records.{marks_among}
use Rattle.nv_marks.specs.inside.Chunks.{spread_records}
use Rattle.nv_marks.proofs.StoredLemmas.{ends_of_stored}
use Rattle.nv_marks.proofs.EmptyLemmas.{none_kept}
use Rattle.nv_marks.proofs.KeepLemmas.{found_in_order}
use Rattle.nv_marks.proofs.mark_set.MarkSet.keep.Goals as goal

pub find_kept-requires-clause-ends : goal.find_kept-requires-clause-ends
find_kept-requires-clause-ends c = ends_of_stored c.self.inside.store.chunks.items c.self.inside.greatest.entries c.self.invariant.0

pub find_kept-requires-clause-all : goal.find_kept-requires-clause-all
find_kept-requires-clause-all c = c.self.invariant.0.all

pub find_kept-requires-clause-distinct : goal.find_kept-requires-clause-distinct
find_kept-requires-clause-distinct c = c.self.invariant.0.sound.distinct

pub returns-clause-ok : goal.returns-clause-ok
returns-clause-ok c =
    let from : Pos = c.args.start in
    let to : Pos = further c.args.start c.args.old in
    on_ok_weaker c.put_kept.result
    (λ is. is
    ∙ ap (λ (l : List Mark). c.args.into.now.items ++ map (kept_of from c.further.result) l)
    (found_in_order (is_kept from c.further.result) (marks_among (spread_records c.self.inside.store.chunks.items)) c.in_ok-found.found.items c.sort_marks.new.marks
    c.self.inside.greatest.entries c.self.invariant.0.sound c.in_ok-found.ensures
    (subst (λ (l : List Mark). IsInOrder l c.sort_marks.new.marks) c.as_mut_slice-found.ensures.value c.sort_marks.ensures))
    ∙ ap (λ (p : Pos). c.args.into.now.items ++ map (kept_of from p) (filter (is_kept from p) (marks_among (spread_records c.self.inside.store.chunks.items)))) c.further.ensures
    ∙ ap (λ (v : Marks). c.args.into.now.items ++ map (kept_of from to) (filter (is_kept from to) v.marks)) c.self.view_is)
    c.put_kept.ensures.ok

pub returns-then-len-eq0-clause-ok : goal.returns-then-len-eq0-clause-ok
returns-then-len-eq0-clause-ok c =
    none_kept c.args.into.now.items c.args.start c.args.old c.args.self.now.marks (sym c.len.ensures.count ∙ c.if-len-eq0.true)
