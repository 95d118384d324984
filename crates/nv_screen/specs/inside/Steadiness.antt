-- inside: when rows of two scenes show the same.
use Rattle.std.specs.Prelude.{◌≡◌, ℕ, ◌+◌, ◌-◌, ◌<◌, ◌≤◌, Bool, true, false, List, [], ◌∷◌, length, slice_index_or}
use Rattle.nv_linedraw.specs.declared.looks.Looks.{Looks}
use Rattle.nv_screen.specs.declared.scene.Bars.{Bars}
use Rattle.nv_screen.specs.declared.scene.Pane.{Pane}
use Rattle.nv_screen.specs.declared.scene.Scene.{Scene}
use Rattle.nv_screen.specs.declared.scene.SceneLine.{SceneLine}
use Rattle.nv_screen.specs.Drawing.{pane_rows, status_row, text_rows}

-- inside: as many flags, and none is set that wasn't
pub record AreLowered (old new : List Bool) : Type 0 where
  pub count : length new ≡ length old
  pub lowered : (r : ℕ) → slice_index_or new r false ≡ true → slice_index_or old r false ≡ true

-- inside: lines with the same bytes and spans
pub record AreSameLines (a b : SceneLine) : Type 0 where
  pub bytes : a.bytes ≡ b.bytes
  pub spans : a.spans.items ≡ b.spans.items

-- inside: a row shows the same of two texts that are laid in so many rows from a row on
abbrev pub ShowsSame : ℕ → ℕ → ℕ → ℕ → List SceneLine → List SceneLine → ℕ → Type 0
ShowsSame width tabstop at room ls ms r =
    (looks : Looks) → at ≤ r → r < at + room
    → slice_index_or (text_rows width tabstop looks room ls) (r - at) []
    ≡ slice_index_or (text_rows width tabstop looks room ms) (r - at) []

-- inside: windows of the same place whose Tabs are as wide
pub record HaveSameShape (p q : Pane) : Type 0 where
  pub rect : p.rect ≡ q.rect
  pub stop : p.tabstop ≡ q.tabstop

-- inside: a row shows the same of two windows, where they have it
pub record AgreeAt (p q : Pane) (r : ℕ) : Type 0 where
  pub rect : p.rect ≡ q.rect
  pub text : (looks : Looks) → p.rect.row ≤ r → r < p.rect.row + p.rect.height
      → slice_index_or (pane_rows looks p) (r - p.rect.row) []
      ≡ slice_index_or (pane_rows looks q) (r - p.rect.row) []
  pub status : (bars : Bars) → r ≡ p.rect.row + p.rect.height
      → status_row bars p ≡ status_row bars q

-- inside: a row shows the same of the windows of two scenes, one by one
abbrev pub AllAgreeAt : List Pane → List Pane → ℕ → Type 0
AllAgreeAt [] [] r = Unit {0}
AllAgreeAt [] (q ∷ qs) r = ⊥
AllAgreeAt (p ∷ ps) [] r = ⊥
AllAgreeAt (p ∷ ps) (q ∷ qs) r = AgreeAt p q r × AllAgreeAt ps qs r

-- inside: scenes without patches that differ at most in what their windows show
pub record HaveSameFrame (a b : Scene) : Type 0 where
  pub width : a.width ≡ b.width
  pub height : a.height ≡ b.height
  pub looks : a.looks ≡ b.looks
  pub bars : a.bars ≡ b.bars
  pub separators : a.separators.items ≡ b.separators.items
  pub count : length a.panes.items ≡ length b.panes.items
  pub plain_before : a.patches.items ≡ []
  pub plain_now : b.patches.items ≡ []

-- inside: a row of the text of a window that is as wide as the screen
pub record IsWideText (screen : ℕ) (p : Pane) (r : ℕ) : Type 0 where
  pub col : p.rect.col ≡ 0
  pub width : p.rect.width ≡ screen
  pub top : p.rect.row ≤ r
  pub bottom : r < p.rect.row + p.rect.height
