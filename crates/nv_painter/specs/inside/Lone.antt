-- inside: a window alone on a screen.
use Rattle.std.specs.Prelude.{◌≡◌, ◌<◌, ◌+◌, ◌-◌, ℕ, pos, length, min}
use Rattle.nv_screen.specs.declared.scene.Pane.{Pane}
use Rattle.nv_screen.specs.Sound.{AreInRows}

-- inside: a window alone on a screen, but for a status line and a row below it
pub record IsLonePane (width height : ℕ) (p : Pane) : Type 0 where
  pub window : p.window ≡ pos 1000
  pub row : p.rect.row ≡ 0
  pub col : p.rect.col ≡ 0
  pub width_is : p.rect.width ≡ width
  pub height_is : p.rect.height + 2 ≡ height
  pub wide : 0 < width
  pub high : 2 < height
  pub stop : 0 < p.tabstop
  pub count : length p.lines.items ≡ min p.rect.height (p.count - p.top)
  pub rows : AreInRows p.top p.lines.items
