-- Worked batches of a screen of 12 columns and 4 rows with one window.
use Prim.Native.String.{String}
use Rattle.std.specs.Prelude.{◌≡◌, ℕ, ℤ, pos, negsuc, true, List, [], ◌∷◌, ◌++◌, map, replicate, codes}
use Rattle.nv_hl.specs.declared.attribute.Attr.{Attr}
use Rattle.nv_hl.specs.declared.cell.Cell.{Cell}
use Rattle.nv_hl.specs.declared.colours.Colours.{Colours}
use Rattle.nv_hl.specs.Attributes.{empty_attr}
use Rattle.nv_hl.specs.Cells.{cell_of, space}
use Rattle.nv_linegrid.specs.declared.event.Run.TheVariants.{Same, One, Times}
use Rattle.nv_linegrid.specs.declared.event.Redraw.TheVariants.{Resize, DefaultColors, HlAttr, Clear, Scroll, LineOf, Goto, Flush}
use Rattle.nv_linegrid.specs.Told.{Wanted, nothing_told}
use Rattle.nv_linegrid.specs.Batch.{batch, told_after}

abbrev pub bold : Attr
bold = record empty_attr { bold = true }

abbrev pub reverse_bold : Attr
reverse_bold = record empty_attr { reverse = true; bold = true }

abbrev pub default_colours : Colours
default_colours = record { fg = 16777215; bg = 0; sp = 16711680; cterm_fg = 0; cterm_bg = 0 }

-- a cell a byte
abbrev pub cells_of_text : Attr → String → List Cell
cells_of_text attr text = map (λ byte. cell_of (byte ∷ []) attr) (codes text)

abbrev pub spaces : ℕ → Attr → List Cell
spaces n attr = replicate n (space attr)

-- a window of two rows with its status line, which shows a buffer from a line on
abbrev pub screen_of : ℤ → ℕ → List ℕ → List Cell → List Cell → List Cell → ℕ × ℕ → Wanted
screen_of tick first heights upper lower status cursor = record {
  screen = record {
    width = 12;
    height = 4;
    rows = upper ∷ lower ∷ status ∷ spaces 12 empty_attr ∷ [];
  };
  colours = default_colours;
  cursor = cursor;
  views =
      record {
        window = pos 1000;
        row = 0;
        col = 0;
        width = 12;
        height = 2;
        buffer = pos 1;
        tick = tick;
        tabstop = 8;
        first = first;
        heights = heights;
      }
      ∷ [];
}

-- the screen of an empty buffer
abbrev pub empty_screen : Wanted
empty_screen =
    screen_of (pos 2) 0 (1 ∷ []) (spaces 12 empty_attr)
    (cells_of_text bold "~" ++ spaces 11 empty_attr)
    (cells_of_text reverse_bold "[No Name]" ++ spaces 3 reverse_bold) (0, 0)

abbrev pub letter_row : String → List Cell
letter_row text = cells_of_text empty_attr text ++ spaces 11 empty_attr

-- two lines of one letter each, the first of them shown at the top
abbrev pub letters_screen : ℕ → String → String → ℕ → Wanted
letters_screen first upper lower row =
    screen_of (pos 3) first (1 ∷ 1 ∷ []) (letter_row upper) (letter_row lower)
    (cells_of_text reverse_bold "[No Name] [+") (row, 0)

-- the first batch of an empty screen
unfoldable pub EmptyScreenIsTold : Type 0
EmptyScreenIsTold =
    batch nothing_told empty_screen
    ≡ Resize (pos 1) 12 4
    ∷ DefaultColors default_colours
    ∷ HlAttr 1 bold
    ∷ HlAttr 2 reverse_bold
    ∷ Clear (pos 1)
    ∷ LineOf (pos 1) 1 0 (One (codes "~") 1 ∷ [])
    ∷ LineOf (pos 1) 2 0
    (One (codes "[") 2 ∷ Same (codes "N") ∷ Same (codes "o") ∷ Same (codes " ") ∷ Same (codes "N")
    ∷ Same (codes "a")
    ∷ Same (codes "m") ∷ Same (codes "e") ∷ Same (codes "]") ∷ Times (codes " ") 2 3 ∷ [])
    ∷ Goto (pos 1) 0 0
    ∷ Flush
    ∷ []

-- of four lines a window of two rows goes down by one: the text moves up, and the line that came is
-- told
unfoldable pub ScrollDownIsTold : Type 0
ScrollDownIsTold =
    batch (told_after nothing_told (letters_screen 0 "a" "b" 0)) (letters_screen 1 "b" "c" 1)
    ≡ Scroll (pos 1) 0 2 0 12 (pos 1)
    ∷ LineOf (pos 1) 1 0 (One (codes "c") 0 ∷ Times (codes " ") 0 11 ∷ [])
    ∷ Goto (pos 1) 1 0
    ∷ Flush
    ∷ []

-- and up again
unfoldable pub ScrollUpIsTold : Type 0
ScrollUpIsTold =
    batch (told_after nothing_told (letters_screen 1 "b" "c" 1)) (letters_screen 0 "a" "b" 0)
    ≡ Scroll (pos 1) 0 2 0 12 (negsuc 0)
    ∷ LineOf (pos 1) 0 0 (One (codes "a") 0 ∷ Times (codes " ") 0 11 ∷ [])
    ∷ Goto (pos 1) 0 0
    ∷ Flush
    ∷ []
