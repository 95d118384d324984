use Rattle.std.proofs.Common.{◌∙◌, ◌+◌, ap, sym}
use Rattle.nv_marks.specs.inside.Chunks.{spread_records}
use Rattle.nv_marks.specs.inside.Stored.{extended_list}
use Rattle.nv_marks.proofs.PartsLemmas.{list_none}
use Rattle.nv_marks.proofs.list.list_part.Goals as goal

pub returns-then-is_passed-clause-ok : goal.returns-then-is_passed-clause-ok
returns-then-is_passed-clause-ok c =
    list_none (c.args.range.held + c.args.range.limit) c.args.into.now.items
    ∙ ap (extended_list (c.args.range.held + c.args.range.limit) c.args.into.now.items)
    (sym (c.is_passed.ensures c.if-is_passed.true (spread_records c.args.store.now.chunks.items) c.requires.reach))
