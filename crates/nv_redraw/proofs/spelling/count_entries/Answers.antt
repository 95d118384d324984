use Rattle.std.proofs.Common.{◌≡◌, List, length, drop, ap, ◌∙◌, arith}
use Rattle.std.proofs.lemmas.List.{take_rest}
use Rattle.nv_linegrid.specs.declared.event.Redraw.{Redraw}
use Rattle.nv_redraw.specs.Values.{NamedEvents}
use Rattle.nv_redraw.specs.inside.Naming.{count_named}
use Rattle.nv_redraw.proofs.NamingLemmas.{front_at}
use Rattle.nv_redraw.proofs.spelling.count_entries.Goals as goal

pub loop-at-preserved : goal.loop-at-preserved
loop-at-preserved c =
    let es = c.args.events.now in
    let at = c.loop-at.at in
    let n = c.count_named-at.result in
    let name = c.name_of.result.now in
    let count : n ≡ count_named name (drop at es) = c.count_named-at.ensures.count ∙ ap (λ (l : List Redraw). count_named name l) (take_rest es at) in
    let front = front_at es at n c.index-events-at.result name (omega arith) c.index-events-at.is c.name_of.ensures count in
    let longer = ap (λ (gs : List NamedEvents). length gs) front.step in
    record { within = front.within; few = omega (arith, front.some, c.loop-at.invariant.few); all = omega (arith, longer, c.loop-at.invariant.all) }
