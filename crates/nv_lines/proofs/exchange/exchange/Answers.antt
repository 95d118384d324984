use Rattle.std.proofs.Common.{ap, ◌∙◌}
use Rattle.std.specs.List.{splice}
use Rattle.nv_lines.proofs.Splices.{vec_gave}
use Rattle.nv_lines.proofs.exchange.exchange.Goals as goal

pub returns-clause-ok : goal.returns-clause-ok
returns-clause-ok g c =
    let h = rw c.in_ok-gone.was at c.splice.ensures.items in
    h.4 ∙ ap (splice c.args.items.now.items c.args.from c.args.to) (vec_gave h.0 c.args.new.items h.1 h.2.0 (h.2.1 ∙ c.args.new.ok.0) h.3)
