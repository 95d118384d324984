use Rattle.std.proofs.Common.{All, sym, subst}
use Rattle.nv_places.specs.Flat.{IsLine}
use Rattle.nv_lines.specs.inside.Held.{held_lines}
use Rattle.nv_lines.proofs.Splices.{All-splice}
use Rattle.nv_lines.proofs.listing.LineList.replace.Goals as goal

pub invariant_of-self-2 : goal.invariant_of-self-2
invariant_of-self-2 c =
    subst (All IsLine) (sym c.in_ok-held.ensures.ok)
    (All-splice IsLine (held_lines c.self-2.inside.held) (held_lines c.new.inside.held) c.args.from c.args.to c.self-2.invariant c.new.invariant)
