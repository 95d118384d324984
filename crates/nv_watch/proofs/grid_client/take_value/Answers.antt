use Rattle.std.proofs.Common.{rules, ◌≡◌, List, Option, ap, ◌∙◌, subst}
use Rattle.std.specs.Prelude.{Vec}
use Rattle.std.specs.Global.{Global}
use Rattle.nv_value.specs.View.{content}
use Rattle.nv_linegrid.specs.declared.event.Redraw.{Redraw}
use Rattle.nv_redraw.specs.Values.{batch_tree}
use Rattle.nv_redraw.specs.Reading.{AreEventsOf}
use Rattle.nv_watch.proofs.GridClients.{took_no_events, took_events}
use Rattle.nv_watch.proofs.grid_client.take_value.Goals as goal

pub returns-in-None : goal.returns-in-None
returns-in-None c =
    took_no_events (content c.args.value.now) _ (subst (λ (o : Option (Vec Redraw Global)). AreEventsOf o (content c.args.value.now)) c.in-None.is c.in_ok-batch_of.ensures)

pub returns-in_ok-taken-in-Some : goal.returns-in_ok-taken-in-Some
returns-in_ok-taken-in-Some c =
    let t = content c.args.value.now in
    let es : List Redraw = c.in-Some.events.items in
    let same : c.as_slice.result.now ≡ es = c.as_slice.ensures.value in
    let told : batch_tree es ≡ t = subst (λ (o : Option (Vec Redraw Global)). AreEventsOf o t) c.in-Some.is c.in_ok-batch_of.ensures in
    took_events t c.as_slice.result.now _ _ _ (search rules) (ap batch_tree same ∙ told) (search rules) (search rules) (search rules)
