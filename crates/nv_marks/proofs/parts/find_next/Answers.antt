use Rattle.std.proofs.Common.{◌∙◌, ap, sym, Some}
use Rattle.std.specs.Prelude.{option_map}
use Rattle.nv_marks.specs.inside.Records.{mark_among}
use Rattle.nv_marks.specs.inside.Chunks.{spread_records}
use Rattle.nv_marks.proofs.PartsLemmas.{mark_by_start, end_known}
use Rattle.nv_marks.proofs.parts.find_next.Goals as goal

pub returns-in_err-start : goal.returns-in_err-start
returns-in_err-start c =
    c.from_residual.ensures
    ∙ sym (mark_by_start (spread_records c.args.store.now.chunks.items) (spread_records c.args.store.now.chunks.items) c.args.ns c.args.id
    ∙ ap (option_map (mark_among (spread_records c.args.store.now.chunks.items))) (sym c.find_next.ensures ∙ c.in_err-start.was))

pub mark_from-requires-clause-end : goal.mark_from-requires-clause-end
mark_from-requires-clause-end c =
    end_known (spread_records c.args.store.now.chunks.items) c.args.ns c.args.id c.in_ok-start.start c.requires.ends (sym c.find_next.ensures ∙ c.in_ok-start.was)

pub returns : goal.returns
returns c =
    ap Some c.mark_from.ensures
    ∙ sym (mark_by_start (spread_records c.args.store.now.chunks.items) (spread_records c.args.store.now.chunks.items) c.args.ns c.args.id
    ∙ ap (option_map (mark_among (spread_records c.args.store.now.chunks.items))) (sym c.find_next.ensures ∙ c.in_ok-start.was))
