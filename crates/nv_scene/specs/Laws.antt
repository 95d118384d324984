-- Laws of settling and of scenes.
use Rattle.std.specs.Prelude.{◌≡◌, ℕ, ℤ, pos, ◌<◌, ◌≤◌, true, false, All, [], ◌∷◌, ◌++◌, codes, length, replicate, IfSome, Some, slice_range}
use Rattle.std.specs.List.{IsDistinct}
use Rattle.nv_marks.specs.Sound.{same_name}
use Rattle.nv_hl.specs.Attributes.{empty_attr}
use Rattle.nv_hl.specs.Cells.{cell_of}
use Rattle.nv_layout.specs.Content.{Shape}
use Rattle.nv_layout.specs.Division.{total}
use Rattle.nv_layout.specs.Least.{NoneEmpty}
use Rattle.nv_layout.specs.Places.{IsRoomy, rects}
use Rattle.nv_layout.specs.declared.nodes.Rect.{Rect}
use Rattle.nv_layout.specs.declared.nodes.Side.TheVariants.{Right}
use Rattle.nv_windows.specs.Rooms.{text_area}
use Rattle.nv_windows.specs.Sound.{IsSoundWorkspace}
use Rattle.nv_windows.specs.declared.window.Window.{Window}
use Rattle.nv_screen.specs.Cursor.{cursor_of_scene}
use Rattle.nv_screen.specs.Drawing.{drawn_rows, screen_of_scene}
use Rattle.nv_screen.specs.Screens.{bar_cell, beyond_cells, bold_attr, plain_spaces, reverse_attr, reverse_bold_attr, text_cells}
use Rattle.nv_screen.specs.declared.scene.Scene.{Scene}
use Rattle.nv_model.specs.Editors.{ModelEditor, fresh_editor}
use Rattle.nv_model.specs.Operations.{after_operation, after_operations, spliced, ui_put, window_opened}
use Rattle.nv_model.specs.Seen.{Seen, SeenBuffer, seen_of}
use Rattle.nv_model.specs.declared.parts.Limits.{Limits}
use Rattle.nv_scene.specs.Scenes.{IsSceneOf}
use Rattle.nv_scene.specs.Separators.{spanned_area}
use Rattle.nv_scene.specs.Settling.{IsSettled, line_heights, settle_operations}

-- settling twice is settling once
abbrev pub SettlingIsOnce : Type 0
SettlingIsOnce =
    (m : ModelEditor) → IsSoundWorkspace m.stage.workspace
    → IsSettled (seen_of (after_operations (settle_operations (seen_of m)) m))

-- a window shows its cursor: the cursor's line isn't before the first one, and the lines between
-- leave it a row
pub record ShowsCursor (w : Window) (area : Rect) (b : SeenBuffer) : Type 0 where
  pub first : w.top ≤ w.cursor.row
  pub room : total (slice_range (line_heights area.width b) w.top w.cursor.row) < area.height

-- a window over a buffer, with text cells and with its cursor in a line
pub record IsWindowOn (s : Seen) (w : Window) (area : Rect) (b : SeenBuffer) : Type 0 where
  pub area_is : text_area s.stage.workspace w.handle ≡ Some area
  pub buffer_is : s.buffer w.buffer ≡ Some b
  pub wide : 0 < area.width
  pub high : 0 < area.height
  pub stop : 0 < b.tabstop
  pub row : w.cursor.row < length b.lines

-- once settled, each window shows its cursor
abbrev pub SettledShowCursors : Type 0
SettledShowCursors =
    (s : Seen) → IsSettled s
    → All
    (λ (w : Window). (area : Rect) (b : SeenBuffer) → IsWindowOn s w area b
    → ShowsCursor w area b)
    s.stage.workspace.windows

-- the windows of a tree span the area that it divides among them
abbrev pub RectsSpanTheirArea : Type 0
RectsSpanTheirArea =
    (t : Shape) (area : Rect) → NoneEmpty t → IsRoomy t area → spanned_area (rects t area) ≡ area

-- ---- what is seen decides the scene

-- no two marks of a buffer have one namespace and id
abbrev pub AreNamedApart : Seen → Type 0
AreNamedApart s = (n : ℤ) → IfSome (s.buffer n) (λ b. IsDistinct same_name b.marks)

-- scenes that are drawn as one screen, with the cursor in one cell and one set of default colours
pub record AreDrawnAlike (a b : Scene) : Type 0 where
  pub screen : screen_of_scene a ≡ screen_of_scene b
  pub cursor : cursor_of_scene a ≡ cursor_of_scene b
  pub colours : a.colours ≡ b.colours

-- two scenes of one editor are drawn alike
abbrev pub ScenesAreDrawnAlike : Type 0
ScenesAreDrawnAlike =
    (s : Seen) (a b : Scene) → AreNamedApart s → IsSceneOf s a → IsSceneOf s b → AreDrawnAlike a b

-- ---- worked scenes

-- a fresh editor with a UI of this size
abbrev pub editor_on_screen : Limits → ℕ → ℕ → ModelEditor
editor_on_screen limits width height =
    after_operation
    (ui_put (record {
      session = 1;
      width = width;
      height = height;
      rgb = true;
      many = false;
    }))
    (fresh_editor limits)

-- its scene on 12 by 4 cells: a blank line, a row past the text, the status line, and the last row
-- blank, with the cursor in the first cell
abbrev pub FirstSceneIsDrawn : Type 0
FirstSceneIsDrawn =
    (limits : Limits) (scene : Scene) → IsSceneOf (seen_of (editor_on_screen limits 12 4)) scene
    → drawn_rows scene
    ≡ plain_spaces 12
    ∷ (cell_of (0x7E ∷ []) bold_attr ∷ plain_spaces 11)
    ∷ text_cells reverse_bold_attr (codes "[No Name]") 3
    ∷ plain_spaces 12
    ∷ []

-- a text `ab`, and a second window over it at the right, which isn't entered
abbrev pub editor_of_two : Limits → ModelEditor
editor_of_two limits =
    after_operations
    (spliced (pos 1) (record {
      from = 0;
      until = 0;
      bytes = codes "ab";
      rows = false;
      part = record { change = 1; part = 0; back = false };
    })
    ∷ window_opened (pos 1000) Right (pos 1) 0 0
    ∷ [])
    (editor_on_screen limits 80 24)

-- its scene on 80 by 24 cells: 40 and 39 columns, with the separator in column 40, and the last row
-- blank
abbrev pub TwoScenesAreDrawn : Type 0
TwoScenesAreDrawn =
    (limits : Limits) (scene : Scene) → IsSceneOf (seen_of (editor_of_two limits)) scene
    → drawn_rows scene
    ≡ (text_cells empty_attr (codes "ab") 38 ++ bar_cell ∷ text_cells empty_attr (codes "ab") 37)
    ∷ replicate 21 (beyond_cells 39 ++ bar_cell ∷ beyond_cells 38)
    ++ (text_cells reverse_bold_attr (codes "[No Name] [+]") 27
    ++ bar_cell ∷ text_cells reverse_attr (codes "[No Name] [+]") 26)
    ∷ plain_spaces 80
    ∷ []
