-- Which values tell batches.
use Rattle.std.specs.Prelude.{◌≡◌, ℕ, ◌^◌, ◌<◌, List, Vec, Option, None, Some}
use Rattle.std.specs.Global.{Global}
use Rattle.std.specs.List.{AllByRecursion}
use Rattle.nv_value.specs.Content.{Tree}
use Rattle.nv_hl.specs.declared.attribute.Attr.{Attr}
use Rattle.nv_hl.specs.declared.colours.Colours.{Colours}
use Rattle.nv_linegrid.specs.declared.event.Run.{Run}
use Rattle.nv_linegrid.specs.declared.event.Run.TheVariants.{Same, One, Times}
use Rattle.nv_linegrid.specs.declared.event.Redraw.{Redraw}
use Rattle.nv_linegrid.specs.declared.event.Redraw.TheVariants.{Resize, DefaultColors, HlAttr, Clear, Scroll, LineOf, Goto, Flush}
use Rattle.nv_redraw.specs.Values.{batch_tree}

-- what the types of a `Redraw` say: numbers of 8, 32 and 64 bits

abbrev pub IsColourBelow : ℕ → Option ℕ → Type 0
IsColourBelow limit None = Unit {0}
IsColourBelow limit (Some n) = n < limit

pub record IsTypedAttr (a : Attr) : Type 0 where
  pub fg : IsColourBelow (2 ^ 32) a.fg
  pub bg : IsColourBelow (2 ^ 32) a.bg
  pub sp : IsColourBelow (2 ^ 32) a.sp
  pub ctermfg : IsColourBelow (2 ^ 8) a.ctermfg
  pub ctermbg : IsColourBelow (2 ^ 8) a.ctermbg

pub record AreTypedColours (c : Colours) : Type 0 where
  pub fg : c.fg < 2 ^ 32
  pub bg : c.bg < 2 ^ 32
  pub sp : c.sp < 2 ^ 32
  pub cterm_fg : c.cterm_fg < 2 ^ 32
  pub cterm_bg : c.cterm_bg < 2 ^ 32

abbrev pub IsTypedRun : Run → Type 0
IsTypedRun (Same text) = Unit {0}
IsTypedRun (One text id) = Unit {0}
IsTypedRun (Times text id n) = n < 2 ^ 32

abbrev pub IsTypedEvent : Redraw → Type 0
IsTypedEvent (Resize grid width height) = (width < 2 ^ 32) × (height < 2 ^ 32)
IsTypedEvent (DefaultColors colours) = AreTypedColours colours
IsTypedEvent (HlAttr id attr) = IsTypedAttr attr
IsTypedEvent (Clear grid) = Unit {0}
IsTypedEvent (Scroll grid top bot left right rows) =
    (top < 2 ^ 32) × (bot < 2 ^ 32) × (left < 2 ^ 32) × (right < 2 ^ 32)
IsTypedEvent (LineOf grid row col cells) =
    (row < 2 ^ 32) × (col < 2 ^ 32) × AllByRecursion IsTypedRun cells
IsTypedEvent (Goto grid row col) = (row < 2 ^ 32) × (col < 2 ^ 32)
IsTypedEvent Flush = Unit {0}

abbrev pub AreTypedEvents : List Redraw → Type 0
AreTypedEvents es = AllByRecursion IsTypedEvent es

-- the events that a value tells, or none where no events have this value
abbrev pub AreEventsOf : Option (Vec Redraw Global) → Tree → Type 0
AreEventsOf None t = (es : List Redraw) → AreTypedEvents es → batch_tree es ≡ t → ⊥
AreEventsOf (Some es) t = batch_tree es.items ≡ t

-- events that have one value are the same
abbrev pub OneValueOneBatch : Type 0
OneValueOneBatch =
    (es fs : List Redraw) → AreTypedEvents es → AreTypedEvents fs → batch_tree es ≡ batch_tree fs
    → es ≡ fs
