use Rattle.std.proofs.Common.{◌≡◌, sym, ap, ◌∙◌}
use Rattle.nv_value.specs.Content.{trees_of}
use Rattle.nv_core.specs.Contents.{plain_event}
use Rattle.nv_core.specs.declared.entry.Event.{Event}
use Rattle.nv_book.specs.Books.{event_values}
use Rattle.nv_book.proofs.Results.{if_ok}
use Rattle.nv_book.proofs.values.entry_values.Goals as goal

pub returns-in-Request : goal.returns-in-Request
returns-in-Request c =
    if_ok c.frame_values.result _ _
    (λ vs h. h c.args.count ∙ ap (λ (e : Event). trees_of (event_values c.args.entry.now.caller c.args.count (plain_event e))) (sym c.in-Request.is))
    c.frame_values.ensures
