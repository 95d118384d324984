-- The scene of an editor: what the windows of the current tabpage show on the screen.
use Rattle.std.specs.Prelude.{◌≡◌, ℕ, List, [], ◌∷◌, codes, Some, unwrap_or}
use Rattle.std.specs.Option.{option_map_or}
use Rattle.nv_hl.specs.declared.attribute.Attr.{Attr}
use Rattle.nv_hl.specs.declared.colours.Colours.{Colours}
use Rattle.nv_hl.specs.Attributes.{empty_attr}
use Rattle.nv_hl.specs.Groups.{NamedGroup, attr_of, known_id}
use Rattle.nv_layout.specs.Places.{rects, separators}
use Rattle.nv_layout.specs.declared.nodes.Placed.{Placed}
use Rattle.nv_linedraw.specs.declared.looks.Looks.{Looks}
use Rattle.nv_windows.specs.Rooms.{windows_area, without_status}
use Rattle.nv_windows.specs.Workspace.{Page, current_window, tabpage_at, window_at}
use Rattle.nv_windows.specs.declared.window.Window.{Window}
use Rattle.nv_screen.specs.declared.scene.Bars.{Bars}
use Rattle.nv_screen.specs.declared.scene.Pane.{Pane}
use Rattle.nv_screen.specs.declared.scene.Scene.{Scene}
use Rattle.nv_screen.specs.declared.scene.Spot.{Spot}
use Rattle.nv_model.specs.Seen.{Seen}
use Rattle.nv_scene.specs.Panes.{IsPaneIn}

-- ---- attributes

-- the attribute of the group of a name, the empty one where no group has it (help:
-- highlight-groups)
abbrev pub attr_named : List NamedGroup → List ℕ → Attr
attr_named groups name = option_map_or (attr_of groups) (known_id groups name) empty_attr

-- the attributes of what isn't text (help: hl-NonText, hl-SpecialKey, hl-EndOfBuffer)
abbrev pub looks_of : List NamedGroup → Looks
looks_of groups = record {
  nontext = attr_named groups (codes "NonText");
  special = attr_named groups (codes "SpecialKey");
  beyond = attr_named groups (codes "EndOfBuffer");
}

-- the attributes of status lines and separators (help: hl-StatusLine, hl-StatusLineNC,
-- hl-WinSeparator)
abbrev pub bars_of : List NamedGroup → Bars
bars_of groups = record {
  current = attr_named groups (codes "StatusLine");
  other = attr_named groups (codes "StatusLineNC");
  separator = attr_named groups (codes "WinSeparator");
}

-- the colours of text that has none of its own: those of an attribute, and for those that it hasn't
-- white on black with red lines, 0 in a terminal (help: ui-event-default_colors_set; own rule)
abbrev pub colours_by : Attr → Colours
colours_by attr = record {
  fg = unwrap_or attr.fg 0xFFFFFF;
  bg = unwrap_or attr.bg 0;
  sp = unwrap_or attr.sp 0xFF0000;
  cterm_fg = unwrap_or attr.ctermfg 0;
  cterm_bg = unwrap_or attr.ctermbg 0;
}

-- those of `Normal` (help: hl-Normal)
abbrev pub normal_colours : List NamedGroup → Colours
normal_colours groups = colours_by (attr_named groups (codes "Normal"))

-- ---- windows

-- panes show windows in their rectangles, in the same order; the last row of each rectangle is the
-- status line's
abbrev pub ArePanesIn : Seen → List Placed → List Pane → Type 0
ArePanesIn s [] [] = Unit {0}
ArePanesIn s [] (p ∷ ps) = ⊥
ArePanesIn s (at ∷ more) [] = ⊥
ArePanesIn s (at ∷ more) (p ∷ ps) =
    IsPaneIn s at.window (without_status at.rect) p × ArePanesIn s more ps

-- the cursor of a window
abbrev pub spot_of : Window → Spot
spot_of w = record { window = w.handle; row = w.cursor.row; byte = w.cursor.col }

-- A scene shows an editor: the windows of the current tabpage in tree order, each in its part of
-- the screen but for the last row, and the separators between them; the cursor of the current
-- window; the attributes that the groups have; and no patches.
pub record IsSceneOf (s : Seen) (scene : Scene) : Type 0 where
  pub page : Page
  pub window : Window
  pub page_is : tabpage_at s.stage.workspace s.stage.workspace.tabpage ≡ Some page
  pub window_is : window_at s.stage.workspace (current_window s.stage.workspace) ≡ Some window
  pub width : scene.width ≡ s.stage.workspace.width
  pub height : scene.height ≡ s.stage.workspace.height
  pub panes : ArePanesIn s (rects page.tree (windows_area s.stage.workspace)) scene.panes.items
  pub separators : scene.separators.items ≡ separators page.tree (windows_area s.stage.workspace)
  pub cursor : scene.cursor ≡ spot_of window
  pub looks : scene.looks ≡ looks_of s.stage.groups
  pub bars : scene.bars ≡ bars_of s.stage.groups
  pub colours : scene.colours ≡ normal_colours s.stage.groups
  pub patches : scene.patches.items ≡ []
