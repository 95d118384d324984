-- Rows of the screen that stay the same from one scene to the next.
use Rattle.std.specs.Prelude.{◌≡◌, ℕ, Bool, true, false, List, [], slice_index_or}
use Rattle.nv_hl.specs.declared.cell.Cell.{Cell}
use Rattle.nv_screen.specs.declared.scene.Scene.{Scene}
use Rattle.nv_screen.specs.Drawing.{drawn_rows}

-- a row of the screen that a scene is drawn as, from the top
abbrev pub screen_row : Scene → ℕ → List Cell
screen_row s r = slice_index_or (drawn_rows s) r []

-- each row whose flag is set shows the same in both scenes
abbrev pub AreSteady : List Bool → Scene → Scene → Type 0
AreSteady flags a b =
    (r : ℕ) → slice_index_or flags r false ≡ true → screen_row a r ≡ screen_row b r
