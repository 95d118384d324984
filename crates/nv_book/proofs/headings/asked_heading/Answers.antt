use Rattle.std.proofs.Common.{sym, ◌∙◌, ◌≡◌, ap, Bool, true, false, Option}
use Rattle.std.specs.Prelude.{if◌then◌else◌, None}
use Rattle.nv_value.specs.View.{content}
use Rattle.nv_book.specs.Headings.{Heading as PlainHeading, asking_in}
use Rattle.nv_book.specs.declared.headings.Heading.{Heading}
use Rattle.nv_book.proofs.Results.{if_ok}
use Rattle.nv_book.proofs.Lengths.{asking_items, no_asking_items, no_asked_items}
use Rattle.nv_book.proofs.headings.asked_heading.Goals as goal

pub returns-then-items-ne6 : goal.returns-then-items-ne6
returns-then-items-ne6 c = no_asked_items c.args.items.now c.if-items-ne6.true

pub returns-then-not-is_text : goal.returns-then-not-is_text
returns-then-not-is_text c = no_asking_items c.args.items.now c.index-items-0.result c.if-items-ne6.false c.index-items-0.is (sym c.is_text.ensures ∙ c.if-not-is_text.true)

pub returns : goal.returns
returns c =
    if_ok c.asking.result _ _
    (λ found e.
    e ∙ sym (asking_items c.args.items.now c.index-items-0.result c.index-items-1.result c.index-items-2.result c.index-items-3.result c.index-items-4.result c.index-items-5.result c.if-items-ne6.false
    c.index-items-0.is c.index-items-1.is c.index-items-2.is c.index-items-3.is c.index-items-4.is c.index-items-5.is ∙ ap (λ (b : Bool). if b then asking_in (content c.index-items-1.result) (content c.index-items-2.result) (content c.index-items-3.result) (content c.index-items-4.result) (content c.index-items-5.result) else None) (sym c.is_text.ensures ∙ c.if-not-is_text.false)))
    c.asking.ensures
