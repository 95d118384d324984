use Rattle.std.proofs.Common.{◌∙◌, ap, sym, Some}
use Rattle.std.specs.Prelude.{option_map, is_some}
use Rattle.nv_marks.specs.inside.Records.{mark_among, marks_among}
use Rattle.nv_marks.specs.inside.Chunks.{spread_records}
use Rattle.nv_marks.proofs.IndexLemmas.{no_mark}
use Rattle.nv_marks.proofs.PartsLemmas.{mark_by_start, end_known}
use Rattle.nv_marks.proofs.parts.find_mark.Goals as goal

pub returns-in_err-start : goal.returns-in_err-start
returns-in_err-start c =
    c.from_residual-in_err-start.ensures
    ∙ sym (mark_by_start (spread_records c.args.store.now.chunks.items) (spread_records c.args.store.now.chunks.items) c.args.ns c.args.id
    ∙ ap (option_map (mark_among (spread_records c.args.store.now.chunks.items))) (sym c.find.ensures ∙ c.in_err-start.was))

pub mark_of-requires-clause-end : goal.mark_of-requires-clause-end
mark_of-requires-clause-end c =
    end_known (spread_records c.args.store.now.chunks.items) c.args.ns c.args.id c.in_ok-start.start c.requires.ends (sym c.find.ensures ∙ c.in_ok-start.was)

pub returns : goal.returns
returns c =
    ap Some c.mark_of.ensures
    ∙ sym (mark_by_start (spread_records c.args.store.now.chunks.items) (spread_records c.args.store.now.chunks.items) c.args.ns c.args.id
    ∙ ap (option_map (mark_among (spread_records c.args.store.now.chunks.items))) (sym c.find.ensures ∙ c.in_ok-start.was))

pub returns-in_err-home : goal.returns-in_err-home
returns-in_err-home c =
    c.from_residual.ensures
    ∙ sym (no_mark c.args.index.now (marks_among (spread_records c.args.store.now.chunks.items)) c.args.ns c.args.id c.requires.index
    (ap is_some (sym c.in_err-home.was) ∙ c.home.ensures))
