use Rattle.nv_marks.proofs.IndexLemmas.{one_namespace}
use Rattle.nv_marks.proofs.index.Index.has_only.Goals as goal

pub returns : goal.returns
returns c = λ upto n i has.
    one_namespace c.args.self.now c.args.ns (c.are_from.ensures c.if-not-are_from.false) (c.are_up_to.ensures upto) n i has
