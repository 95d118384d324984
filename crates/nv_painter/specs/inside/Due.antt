-- inside: which cells of a row may differ from what it shows.
use Rattle.std.specs.Prelude.{◌≡◌, ◌<◌, ◌≤◌, ℕ, IfSome, List, [], drop, get_or, length, take, Option, Some, None}
use Rattle.nv_hl.specs.declared.attribute.Attr.{Attr}
use Rattle.nv_hl.specs.declared.cell.Cell.{Cell}
use Rattle.nv_linegrid.specs.Client.{Shown, ShownRows}
use Rattle.nv_painter.specs.inside.Sketch.{ShowsCells}

-- inside: a row shows these cells, but for those from one to before another
pub record ShowsBut (attrs : List Attr) (cells : List Cell) (row : List (Option Shown))
    (from to : ℕ) : Type 0 where
  pub order : from ≤ to
  pub within : to ≤ length cells
  pub count : length row ≡ length cells
  pub front : ShowsCells attrs (take from cells) (take from row)
  pub back : ShowsCells attrs (drop to cells) (drop to row)

-- inside: of each row for which two places are known, all cells are shown but for those between
abbrev pub AreKnown : List (Option (ℕ × ℕ)) → List Attr → List (List Cell) → ShownRows → Type 0
AreKnown known attrs drawn rows =
    (k : ℕ) → IfSome (get_or known k None)
    (λ d. ShowsBut attrs (get_or drawn k []) (get_or rows k []) d.0 d.1)

-- inside: a row shows these cells already, or they are drawn and it shows them but for some
abbrev pub IsDue : Option (ℕ × ℕ) → List Attr → List Cell → List Cell → List (Option Shown) → Type 0
IsDue None attrs drawn cells row = ShowsCells attrs cells row
IsDue (Some d) attrs drawn cells row = (drawn ≡ cells) × ShowsBut attrs cells row d.0 d.1

-- inside: the same of each row of a screen
pub record AreDue (dues : List (Option (ℕ × ℕ))) (drawn : List (List Cell)) (attrs : List Attr)
    (rows : ShownRows)
    (screen : List (List Cell)) : Type 0 where
  pub high : length screen ≡ length drawn
  pub each : (k : ℕ) → k < length drawn
      → IsDue (get_or dues k None) attrs (get_or drawn k []) (get_or screen k []) (get_or rows k [])
