-- Worked examples: whole screens.
use Rattle.std.specs.Prelude.{◌≡◌, ℕ, Bool, true, false, List, [], ◌∷◌, ◌++◌, codes, map, replicate}
use Rattle.nv_hl.specs.declared.attribute.Attr.{Attr}
use Rattle.nv_hl.specs.declared.cell.Cell.{Cell}
use Rattle.nv_hl.specs.Attributes.{empty_attr}
use Rattle.nv_hl.specs.Cells.{cell_of, space}
use Rattle.nv_layout.specs.declared.nodes.Rect.{Rect}
use Rattle.nv_linedraw.specs.declared.looks.Looks.{Looks}
use Rattle.nv_screen.specs.declared.scene.Bars.{Bars}
use Rattle.nv_screen.specs.declared.scene.Pane.{Pane}
use Rattle.nv_screen.specs.declared.scene.Scene.{Scene}
use Rattle.nv_screen.specs.declared.scene.SceneLine.{SceneLine}
use Rattle.nv_screen.specs.Drawing.{drawn_rows}

-- the first groups: NonText, EndOfBuffer and SpecialKey bold, StatusLine reverse and bold,
-- StatusLineNC reverse, WinSeparator empty
abbrev pub bold_attr : Attr
bold_attr = record empty_attr { bold = true }

abbrev pub reverse_attr : Attr
reverse_attr = record empty_attr { reverse = true }

abbrev pub reverse_bold_attr : Attr
reverse_bold_attr = record empty_attr { reverse = true; bold = true }

abbrev pub first_looks : Looks
first_looks = record { nontext = bold_attr; special = bold_attr; beyond = bold_attr }

abbrev pub first_bars : Bars
first_bars = record { current = reverse_bold_attr; other = reverse_attr; separator = empty_attr }

-- a window over a text of one line without colours
pub record HasLine (p : Pane) (rect : Rect) (current : Bool) (bytes status : List ℕ) : Type 0 where
  pub rect_is : p.rect ≡ rect
  pub stop_is : p.tabstop ≡ 8
  pub current_is : p.current ≡ current
  pub status_is : p.status ≡ status
  pub line : SceneLine
  pub lines_are : p.lines.items ≡ line ∷ []
  pub bytes_are : line.bytes ≡ bytes
  pub plain : line.spans.items ≡ []

-- a scene with the first groups and without patches
pub record HasPanes (s : Scene) (width height : ℕ) (ps : List Pane) (rs : List Rect) : Type 0 where
  pub width_is : s.width ≡ width
  pub height_is : s.height ≡ height
  pub panes_are : s.panes.items ≡ ps
  pub separators_are : s.separators.items ≡ rs
  pub looks_are : s.looks ≡ first_looks
  pub bars_are : s.bars ≡ first_bars
  pub no_patches : s.patches.items ≡ []

-- cells with one byte each, and so many spaces behind them
abbrev pub text_cells : Attr → List ℕ → ℕ → List Cell
text_cells attr text n = map (λ byte. cell_of (byte ∷ []) attr) text ++ replicate n (space attr)

abbrev pub plain_spaces : ℕ → List Cell
plain_spaces n = replicate n (space empty_attr)

abbrev pub first_rect : Rect
first_rect = record { row = 0; col = 0; width = 12; height = 2 }

-- one window over an empty text without a name, on 12 by 4 cells: a blank line, a row past the
-- text, the status line, and the last row blank
abbrev pub FirstScreenIsDrawn : Type 0
FirstScreenIsDrawn =
    (s : Scene) (p : Pane) → HasPanes s 12 4 (p ∷ []) []
    → HasLine p first_rect true [] (codes "[No Name]")
    → drawn_rows s
    ≡ plain_spaces 12
    ∷ (cell_of (0x7E ∷ []) bold_attr ∷ plain_spaces 11)
    ∷ text_cells reverse_bold_attr (codes "[No Name]") 3
    ∷ plain_spaces 12
    ∷ []

abbrev pub left_rect : Rect
left_rect = record { row = 0; col = 0; width = 40; height = 22 }

abbrev pub right_rect : Rect
right_rect = record { row = 0; col = 41; width = 39; height = 22 }

abbrev pub middle_rect : Rect
middle_rect = record { row = 0; col = 40; width = 1; height = 23 }

abbrev pub bar_cell : Cell
bar_cell = cell_of (0xE2 ∷ 0x94 ∷ 0x82 ∷ []) empty_attr

abbrev pub beyond_cells : ℕ → List Cell
beyond_cells n = cell_of (0x7E ∷ []) bold_attr ∷ plain_spaces n

-- two windows side by side over one text, `ab`, on 80 by 24 cells: 40 and 39 columns, with the
-- separator in column 40, and the last row blank
abbrev pub TwoWindowsAreDrawn : Type 0
TwoWindowsAreDrawn =
    (s : Scene) (p q : Pane) → HasPanes s 80 24 (p ∷ q ∷ []) (middle_rect ∷ [])
    → HasLine p left_rect true (codes "ab") (codes "[No Name] [+]")
    → HasLine q right_rect false (codes "ab") (codes "[No Name] [+]")
    → drawn_rows s
    ≡ (text_cells empty_attr (codes "ab") 38 ++ bar_cell ∷ text_cells empty_attr (codes "ab") 37)
    ∷ replicate 21 (beyond_cells 39 ++ bar_cell ∷ beyond_cells 38)
    ++ (text_cells reverse_bold_attr (codes "[No Name] [+]") 27
    ++ bar_cell ∷ text_cells reverse_attr (codes "[No Name] [+]") 26)
    ∷ plain_spaces 80
    ∷ []
