-- A scene is drawn as a whole screen.
use Rattle.std.proofs.Common.{◌≡◌, ℕ, zero, suc, ◌+◌, ◌-◌, Bool, true, false, cond, List, [], ◌∷◌, length, replicate, refl}
use Rattle.std.proofs.lemmas.List.{length-replicate}
use Rattle.std.specs.List.{AllByRecursion}
use Rattle.nv_hl.specs.declared.cell.Cell.{Cell}
use Rattle.nv_hl.specs.Attributes.{empty_attr}
use Rattle.nv_hl.specs.Cells.{IsSized, blank_rows, is_right_half, space, with_strip}
use Rattle.nv_hl.proofs.CellLemmas.{sized-strip}
use Rattle.nv_layout.specs.declared.nodes.Rect.{Rect}
use Rattle.nv_linedraw.specs.declared.looks.Looks.{Looks}
use Rattle.nv_screen.specs.declared.scene.Bars.{Bars}
use Rattle.nv_screen.specs.declared.scene.Pane.{Pane}
use Rattle.nv_screen.specs.declared.scene.Patch.{Patch}
use Rattle.nv_screen.specs.Drawing.{cell_shown, drawn_rows, pane_rows, separator_cell, status_row, with_left_half, with_pane, with_panes, with_patch_cells, with_patches, with_right_half, with_rows, with_separator, with_separators, with_space}
use Rattle.nv_screen.specs.Laws.{ScreensAreWhole}

module _ (w h : ℕ) where
  abbrev pub Sized : List (List Cell) → Type 0
  Sized rows = IsSized (record { width = w; height = h; rows = rows })

  pub strip : (rows : List (List Cell)) (row col : ℕ) (cs : List Cell) → Sized rows → Sized (with_strip rows row col cs)
  strip rows row col cs s = sized-strip w h rows (with_strip rows row col cs) row col cs s refl

  pub strips : (rows : List (List Cell)) (row col : ℕ) (rs : List (List Cell)) → Sized rows → Sized (with_rows rows row col rs)
  strips rows row col [] s = s
  strips rows row col (r ∷ rs) s = strips (with_strip rows row col r) (row + 1) col rs (strip rows row col r s)

  pub pane : (looks : Looks) (bars : Bars) (rows : List (List Cell)) (p : Pane) → Sized rows → Sized (with_pane looks bars rows p)
  pane looks bars rows p s =
      strip (with_rows rows p.rect.row p.rect.col (pane_rows looks p)) (p.rect.row + p.rect.height) p.rect.col (status_row bars p)
      (strips rows p.rect.row p.rect.col (pane_rows looks p) s)

  pub separator : (bars : Bars) (rows : List (List Cell)) (r : Rect) → Sized rows → Sized (with_separator bars rows r)
  separator bars rows r s = strips rows r.row r.col (replicate r.height (separator_cell bars ∷ [])) s

  pub panes : (looks : Looks) (bars : Bars) (rows : List (List Cell)) (ps : List Pane) → Sized rows → Sized (with_panes looks bars rows ps)
  panes looks bars rows [] s = s
  panes looks bars rows (p ∷ ps) s =
      panes looks bars (with_pane looks bars rows p) ps (pane looks bars rows p s)

  pub separators : (bars : Bars) (rows : List (List Cell)) (rs : List Rect) → Sized rows → Sized (with_separators bars rows rs)
  separators bars rows [] s = s
  separators bars rows (r ∷ rs) s = separators bars (with_separator bars rows r) rs (separator bars rows r s)

  choice : (b : Bool) (xs ys : List (List Cell)) → Sized xs → Sized ys → Sized (cond b xs ys)
  choice true xs ys s t = s
  choice false xs ys s t = t

  pub left : (rows : List (List Cell)) (row col : ℕ) → Sized rows → Sized (with_left_half rows row col)
  left rows row col s = choice (is_right_half (cell_shown rows row col)) (with_space rows row (col - 1)) rows
      (strip rows row (col - 1) (space (cell_shown rows row (col - 1)).attr ∷ []) s) s

  pub right : (rows : List (List Cell)) (row col : ℕ) → Sized rows → Sized (with_right_half rows row col)
  right rows row col s = choice (is_right_half (cell_shown rows row col)) (with_space rows row col) rows
      (strip rows row col (space (cell_shown rows row col).attr ∷ []) s) s

  patch : (rows : List (List Cell)) (row col : ℕ) (cs : List Cell) → Sized rows → Sized (with_patch_cells rows row col cs)
  patch rows row col [] s = s
  patch rows row col (c ∷ cs) s =
      let l = with_left_half rows row col in
      strip (with_right_half l row (col + suc (length cs))) row col (c ∷ cs) (right l row (col + suc (length cs)) (left rows row col s))

  patches : (rows : List (List Cell)) (ps : List Patch) → Sized rows → Sized (with_patches rows ps)
  patches rows [] s = s
  patches rows (p ∷ ps) s = patches (with_patch_cells rows p.row p.col p.cells.items) ps (patch rows p.row p.col p.cells.items s)

  wide : (n : ℕ) → AllByRecursion (λ (r : List Cell). length r ≡ w) (replicate n (replicate w (space empty_attr)))
  wide zero = tt
  wide (suc n) = (length-replicate w (space empty_attr), wide n)

  pub blank : Sized (blank_rows w h)
  blank = record { high = length-replicate h (replicate w (space empty_attr)); wide = wide h }

pub screens_are_whole : ScreensAreWhole
unfolding drawn_rows
screens_are_whole s =
    patches s.width s.height _ s.patches.items
    (separators s.width s.height s.bars _ s.separators.items (panes s.width s.height s.looks s.bars (blank_rows s.width s.height) s.panes.items (blank s.width s.height)))
