-- What a client shows that folds the redraw events that it is sent (help: ui-events, ui-linegrid).
use Rattle.std.specs.Prelude.{◌≡◌, Bool, true, false, List, [], ◌∷◌, Option, Some, None, option_and_then}
use Rattle.std.specs.List.{AllZip, list_any}
use Rattle.nv_value.specs.Content.{Tree}
use Rattle.nv_linegrid.specs.declared.event.Redraw.{Redraw}
use Rattle.nv_linegrid.specs.declared.event.Redraw.TheVariants.{Flush}
use Rattle.nv_linegrid.specs.Client.{Client, client_after, client_after_all}
use Rattle.nv_redraw.specs.Reading.{AreTypedEvents}
use Rattle.nv_redraw.specs.Taking.{client_left}
use Rattle.nv_redraw.specs.Values.{batch_tree}

-- whether an event is a flush (help: ui-event-flush)
abbrev pub is_flush : Redraw → Bool
is_flush Flush = true
is_flush _ = false

-- what a value tells: the events that have this value, or none where no events have it
abbrev pub IsTellingOf : Tree → Option (List Redraw) → Type 0
IsTellingOf t None = (es : List Redraw) → AreTypedEvents es → batch_tree es ≡ t → ⊥
IsTellingOf t (Some es) = AreTypedEvents es × (batch_tree es ≡ t)

-- what values tell, each of them
abbrev pub AreTellingsOf : List Tree → List (Option (List Redraw)) → Type 0
AreTellingsOf ts os = AllZip IsTellingOf ts os

-- ---- a client that takes what fits, and nothing else

-- after events, one after another
abbrev pub client_by_events : Client → List Redraw → Client
client_by_events c [] = c
client_by_events c (e ∷ es) = client_by_events (client_left c (client_after c e)) es

-- after what a value tells: as it was where that is no events
abbrev pub client_by_telling : Client → Option (List Redraw) → Client
client_by_telling c None = c
client_by_telling c (Some es) = client_by_events c es

-- after what values tell, one after another
abbrev pub client_by_tellings : Client → List (Option (List Redraw)) → Client
client_by_tellings c [] = c
client_by_tellings c (o ∷ os) = client_by_tellings (client_by_telling c o) os

-- ---- a client to which all fits

-- after what a value tells; none where that is no events, or one of them doesn't fit
abbrev pub client_if_fits : Client → Option (List Redraw) → Option Client
client_if_fits c None = None
client_if_fits c (Some es) = client_after_all c es

-- after what values tell, one after another
abbrev pub client_if_all_fit : Client → List (Option (List Redraw)) → Option Client
client_if_all_fit c [] = Some c
client_if_all_fit c (o ∷ os) =
    option_and_then (λ d. client_if_all_fit d os) (client_if_fits c o)

-- ---- flushes

-- whether a flush is among what a value tells, and among what values tell
abbrev pub has_flush : Option (List Redraw) → Bool
has_flush None = false
has_flush (Some es) = list_any is_flush es

abbrev pub have_flush : List (Option (List Redraw)) → Bool
have_flush os = list_any has_flush os
