-- inside: what a heading holds.
use Rattle.nv_core.specs.Contents.{plain_entry}
use Rattle.nv_book.specs.Headings.{Heading as PlainHeading}
use Rattle.nv_book.specs.declared.headings.Heading.{Heading}

-- the entry of a heading, and its count
abbrev pub plain_heading : Heading → PlainHeading
plain_heading h = record { entry = plain_entry h.entry; count = h.count }
