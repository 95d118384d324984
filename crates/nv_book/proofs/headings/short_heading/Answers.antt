use Rattle.std.proofs.Common.{sym, ◌∙◌}
use Rattle.nv_book.proofs.Lengths.{opening_items, closing_items, taking_items, no_short_items}
use Rattle.nv_book.proofs.headings.short_heading.Goals as goal

pub returns-then-items-eq2 : goal.returns-then-items-eq2
returns-then-items-eq2 c =
    c.opening.ensures ∙ sym (opening_items c.args.items.now c.index-items-0.result c.index-items-1.result c.if-items-eq2.true c.index-items-0.is c.index-items-1.is)

pub returns-then-items-eq3 : goal.returns-then-items-eq3
returns-then-items-eq3 c =
    c.closing.ensures
    ∙ sym (closing_items c.args.items.now c.index-items-0-then-items-eq3.result c.index-items-1-then-items-eq3.result c.index-items-2.result c.if-items-eq3.true c.index-items-0-then-items-eq3.is c.index-items-1-then-items-eq3.is c.index-items-2.is)

pub returns-then-items-eq4 : goal.returns-then-items-eq4
returns-then-items-eq4 c =
    c.taking.ensures
    ∙ sym (taking_items c.args.items.now c.index-items-0-then-items-eq4.result c.index-items-1-then-items-eq4.result c.index-items-2-then-items-eq4.result c.index-items-3.result c.if-items-eq4.true
    c.index-items-0-then-items-eq4.is c.index-items-1-then-items-eq4.is c.index-items-2-then-items-eq4.is c.index-items-3.is)

pub returns : goal.returns
returns c = no_short_items c.args.items.now c.if-items-eq2.false c.if-items-eq3.false c.if-items-eq4.false
