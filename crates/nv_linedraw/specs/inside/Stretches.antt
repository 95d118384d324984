-- inside: spans on a stretch of a line.
use Rattle.std.specs.Prelude.{◌≡◌, ℕ, ◌≤◌, true, false, List}
use Rattle.nv_hl.specs.declared.attribute.Attr.{Attr}
use Rattle.nv_linedraw.specs.declared.looks.Span.{Span}
use Rattle.nv_linedraw.specs.declared.spans.Stretch.{Stretch}
use Rattle.nv_linedraw.specs.LineCells.{attr_over, span_holds}

-- the byte is in the stretch
pub record IsInStretch (stretch : Stretch) (offset : ℕ) : Type 0 where
  pub first : stretch.first ≤ offset
  pub last : offset ≤ stretch.last

-- the span holds all of the stretch
abbrev pub HoldsStretch : Span → Stretch → Type 0
HoldsStretch s stretch = (offset : ℕ) → IsInStretch stretch offset → span_holds s offset ≡ true

-- the span holds nothing of it
abbrev pub MissesStretch : Span → Stretch → Type 0
MissesStretch s stretch = (offset : ℕ) → IsInStretch stretch offset → span_holds s offset ≡ false

-- on the stretch the spans show the same, whatever they are laid over
abbrev pub ShowAlike : Stretch → List Span → List Span → Type 0
ShowAlike stretch xs ys =
    (low : Attr) (offset : ℕ) → IsInStretch stretch offset
    → attr_over low xs offset ≡ attr_over low ys offset
