use Rattle.std.proofs.Common.{◌∙◌, sym}
use Rattle.nv_marks.proofs.EmptyLemmas.{none_cleared}
use Rattle.nv_marks.proofs.StrikeLemmas.{starting_all}
use Rattle.nv_marks.proofs.mark_set.MarkSet.starting.Goals as goal

pub returns-clause-found : goal.returns-clause-found
returns-clause-found c =
    starting_all c.args.ns c.args.from c.args.to c.args.self.now.marks c.len-2.result c.new-found.result.items c.select.new.into.items c.len-2.ensures.count c.new-found.ensures.items
    c.in_ok-select.ensures.ok

pub returns-then-len-eq0-clause-found : goal.returns-then-len-eq0-clause-found
returns-then-len-eq0-clause-found c =
    none_cleared c.args.ns c.args.from c.args.to c.args.self.now.marks c.new-found.result.items (sym c.len.ensures.count ∙ c.if-len-eq0.true) c.new-found.ensures.items
