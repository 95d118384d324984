-- What a client took of values.
use Rattle.std.specs.Prelude.{◌≡◌, ◌&&◌, ◌||◌, List, Option, Some, is_some}
use Rattle.nv_hl.specs.declared.colours.Colours.{Colours}
use Rattle.nv_value.specs.Content.{Tree}
use Rattle.nv_linegrid.specs.declared.event.Redraw.{Redraw}
use Rattle.nv_linegrid.specs.declared.event.Redraw.TheVariants.{DefaultColors}
use Rattle.nv_linegrid.specs.Client.{Client}
use Rattle.nv_watch.specs.declared.grid_client.Taken.{Taken}
use Rattle.nv_watch.specs.GridClients.{AreTellingsOf, client_by_tellings, client_if_all_fit, have_flush}

-- the default colours after an event
abbrev pub colours_after_event : Option Colours → Redraw → Option Colours
colours_after_event told (DefaultColors colours) = Some colours
colours_after_event told _ = told

-- what was told, and more
abbrev pub taken_both : Taken → Taken → Taken
taken_both a b = record { fits = a.fits && b.fits; flushed = a.flushed || b.flushed }

-- a client took what fits of what values tell
pub record TookValues (ts : List Tree) (old new : Client) (taken : Taken) : Type 0 where
  pub tellings : List (Option (List Redraw))
  pub tell : AreTellingsOf ts tellings
  pub after : new ≡ client_by_tellings old tellings
  pub fits : taken.fits ≡ is_some (client_if_all_fit old tellings)
  pub flushed : taken.flushed ≡ have_flush tellings
