use Rattle.std.proofs.Common.{ℕ, ◌≡◌, ◌≤◌, Option, Some, None, sym, ap, ◌∙◌, subst}
use Rattle.std.specs.Prelude.{option_map}
use Rattle.nv_value.specs.Content.{Tree}
use Rattle.nv_value.specs.View.{content}
use Rattle.nv_args.specs.Weight.{weight}
use Rattle.nv_core.specs.Contents.{plain_event}
use Rattle.nv_book.specs.Books.{most_value}
use Rattle.nv_book.specs.declared.headings.Heading.{Heading}
use Rattle.nv_book.specs.inside.Heads.{plain_heading}
use Rattle.nv_book.proofs.Backs.{heading_told}
use Rattle.nv_book.proofs.Spelling.{light_event}
use Rattle.nv_book.proofs.parts.part_in.Goals as goal

pub returns-in-Some-clause-light : goal.returns-in-Some-clause-light
returns-in-Some-clause-light c =
    let h = c.in-Some.heading in
    let told = heading_told (content c.args.value.now) (plain_heading h) (sym c.in_ok-heading.ensures ∙ ap (option_map plain_heading) c.in-Some.is) in
    light_event (plain_event h.entry.event) h.entry.caller h.count (subst (λ (t : Tree). weight t ≤ most_value) told.tree_is c.requires)
