-- inside: places of which what lies outside the window isn't looked at.
use Rattle.std.specs.Prelude.{◌≡◌, ℕ, ◌<◌, List, None, Option, length, min, option_map, slice_index_or}
use Rattle.nv_screen.specs.declared.scene.Pane.{Pane}
use Rattle.nv_screen.specs.Cursor.{bytes_at}
use Rattle.nv_virt.specs.Texts.{line_above, tail_of_line}

-- a row up to a greatest one, and in a row before that a column, up to the width
pub record IsPlaceNear (most width : ℕ) (place wanted : ℕ × ℕ) : Type 0 where
  pub row : place.0 ≡ min most wanted.0
  pub col : place.0 < most → min width place.1 ≡ min width wanted.1

-- a column up to the width
abbrev pub capped_by : ℕ → Option ℕ → Option ℕ
capped_by width col = option_map (min width) col

-- the columns behind the texts at the ends of lines, up to the width, of those lines that may end
-- in the window
pub record AreCapped (p : Pane) (ends wanted : List (Option ℕ)) : Type 0 where
  pub count : length wanted ≡ length ends
  pub each :
      (n : ℕ) → (tail_of_line p.rect.width p.tabstop (bytes_at p.lines.items n)).0 < p.rect.height
      → slice_index_or ends n None ≡ capped_by p.rect.width (slice_index_or wanted n None)

-- the rows at which the lines of a window begin, up to its height
pub record AreTops (p : Pane) (tops : List ℕ) : Type 0 where
  pub count : length tops ≡ length p.lines.items
  pub each :
      (n : ℕ) → n < length p.lines.items
      → slice_index_or tops n 0 ≡ min p.rect.height (line_above p n)
