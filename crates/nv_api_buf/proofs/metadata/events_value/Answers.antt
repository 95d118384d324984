use Rattle.std.proofs.Common.{List, map, ap, sym, ◌∙◌}
use Rattle.nv_value.specs.Content.{Tree, list, trees_of}
use Rattle.nv_value.proofs.Contents.{content-List}
use Rattle.nv_api_buf.specs.inside.Shapes.{event_shaped, form_of_row}
use Rattle.nv_api_buf.proofs.Tables.{map_twice, events_are}
use Rattle.nv_api_buf.proofs.metadata.events_value.Goals as goal

pub returns : goal.returns
returns c =
    content-List c.in_ok-items.items
    ∙ ap (λ (ts : List Tree). list (trees_of ts))
    (c.in_ok-items.ensures ∙ sym (map_twice event_shaped form_of_row c.events.result.now) ∙ ap (map event_shaped) c.events.ensures ∙ events_are)
