-- Worked screens, computed.
use Rattle.std.proofs.Common.{◌≡◌, ℕ, ◌+◌, Bool, true, false, List, [], ◌∷◌, codes, refl, ◌∙◌, ap}
use Rattle.std.specs.Str.{chars, is_utf8}
use Rattle.std.specs.Str.Lossy.{utf8_valid_len}
use Rattle.unicode_segmentation.proofs.Computing.{unicode_segmentation}
use Rattle.unicode_width.proofs.Computing.{unicode_width}
use Rattle.nv_text.specs.Pieces.{parts}
use Rattle.nv_hl.specs.declared.cell.Cell.{Cell}
use Rattle.nv_hl.specs.Cells.{blank_rows, with_strip}
use Rattle.nv_layout.specs.declared.nodes.Rect.{Rect}
use Rattle.nv_linedraw.specs.LineCells.{cells_in_one_row, cells_of_line}
use Rattle.nv_screen.specs.declared.scene.Pane.{Pane}
use Rattle.nv_screen.specs.declared.scene.Scene.{Scene}
use Rattle.nv_screen.specs.declared.scene.SceneLine.{SceneLine}
use Rattle.nv_screen.specs.Drawing.{bar_attr, cells_of_width, drawn_rows, line_rows, text_rows, with_pane, with_panes, with_patches, with_rows, with_separators}
use Rattle.nv_screen.specs.Screens.{FirstScreenIsDrawn, HasLine, HasPanes, TwoWindowsAreDrawn, first_bars, first_looks, first_rect, left_rect, middle_rect, right_rect}

-- a window with one line, by what it shows
abbrev one_line : List (List Cell) → Rect → Bool → List ℕ → List ℕ → List (List Cell)
one_line rows rect current bytes status =
    with_strip
    (with_rows rows rect.row rect.col
    (line_rows rect.width first_looks rect.height (cells_of_line rect.width 8 bytes [] first_looks)
    (λ left. text_rows rect.width 8 first_looks left [])))
    (rect.row + rect.height) rect.col
    (cells_of_width rect.width (bar_attr first_bars current) (cells_in_one_row 8 (bar_attr first_bars current) status))

-- a window, by its fields
abbrev by_fields : List (List Cell) → Rect → ℕ → Bool → List SceneLine → List ℕ → List (List Cell)
by_fields rows rect tabstop current lines status =
    with_strip
    (with_rows rows rect.row rect.col (text_rows rect.width tabstop first_looks rect.height lines))
    (rect.row + rect.height) rect.col
    (cells_of_width rect.width (bar_attr first_bars current) (cells_in_one_row tabstop (bar_attr first_bars current) status))

shown : (rows : List (List Cell)) (p : Pane) (rect : Rect) (current : Bool) (bytes status : List ℕ) → HasLine p rect current bytes status
    → with_pane first_looks first_bars rows p ≡ one_line rows rect current bytes status
shown rows p rect current bytes status is =
    (λ i. by_fields rows (is.rect_is i) (is.stop_is i) (is.current_is i) (is.lines_are i) (is.status_is i))
    ∙ (λ i. with_strip
    (with_rows rows rect.row rect.col
    (line_rows rect.width first_looks rect.height (cells_of_line rect.width 8 (is.bytes_are i) (is.plain i) first_looks)
    (λ left. text_rows rect.width 8 first_looks left [])))
    (rect.row + rect.height) rect.col
    (cells_of_width rect.width (bar_attr first_bars current) (cells_in_one_row 8 (bar_attr first_bars current) status)))

drawn : (s : Scene) (w h : ℕ) (ps : List Pane) (rs : List Rect) → HasPanes s w h ps rs
    → drawn_rows s ≡ with_separators first_bars (with_panes first_looks first_bars (blank_rows w h) ps) rs
unfolding drawn_rows
drawn s w h ps rs is =
    λ i. with_patches
    (with_separators (is.bars_are i) (with_panes (is.looks_are i) (is.bars_are i) (blank_rows (is.width_is i) (is.height_is i)) (is.panes_are i)) (is.separators_are i))
    (is.no_patches i)

pub first_screen_is_drawn : FirstScreenIsDrawn
unfolding unicode_segmentation unicode_width parts utf8_valid_len is_utf8 chars cells_of_line
first_screen_is_drawn s p is at =
    drawn s 12 4 (p ∷ []) [] is ∙ shown (blank_rows 12 4) p first_rect true [] (codes "[No Name]") at ∙ refl

pub two_windows_are_drawn : TwoWindowsAreDrawn
unfolding unicode_segmentation unicode_width parts utf8_valid_len is_utf8 chars cells_of_line
two_windows_are_drawn s p q is at to =
    drawn s 80 24 (p ∷ q ∷ []) (middle_rect ∷ []) is
    ∙ ap (λ rows. with_separators first_bars (with_pane first_looks first_bars rows q) (middle_rect ∷ []))
    (shown (blank_rows 80 24) p left_rect true (codes "ab") (codes "[No Name] [+]") at)
    ∙ ap (λ rows. with_separators first_bars rows (middle_rect ∷ []))
    (shown (one_line (blank_rows 80 24) left_rect true (codes "ab") (codes "[No Name] [+]")) q right_rect false (codes "ab") (codes "[No Name] [+]") to)
    ∙ refl
