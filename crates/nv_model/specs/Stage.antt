-- An editor but for its buffers: windows and tabpages, namespaces, groups, virtual texts, UIs, the
-- next buffer's handle and limits.
use Rattle.std.specs.Prelude.{ℕ, ℤ, pos, ◌-◌, ◌==◌, if◌then◌else◌, not, List, [], ◌∷◌, length, map, filter, fold, min, nat_lt}
use Rattle.std.specs.List.{list_any}
use Rattle.std.specs.Ordering.{int_eq}
use Rattle.nv_places.specs.Flat.{lines_of, line_at}
use Rattle.nv_places.specs.Places.{place_of, extent_of}
use Rattle.nv_places.specs.declared.place.Pos.{Pos}
use Rattle.nv_hl.specs.Groups.{NamedGroup, fresh_groups}
use Rattle.nv_windows.specs.Workspace.{Workspace, fresh_workspace}
use Rattle.nv_windows.specs.Operations.{with_size}
use Rattle.nv_windows.specs.Views.{Move, view_after}
use Rattle.nv_windows.specs.declared.window.Window.{Window}
use Rattle.nv_notes.specs.Notes.{NoteText}
use Rattle.nv_model.specs.Buffers.{Splice, text_after, inverse_splice}
use Rattle.nv_model.specs.declared.parts.Limits.{Limits}
use Rattle.nv_model.specs.declared.parts.Ui.{Ui}

-- all of an editor but its buffers. The namespaces are their names by id from 1, with the empty
-- name for those made without one; the virtual texts are in the order of their buffers and of the
-- numbers of the settings that they came with
pub record Stage : Type 0 where
  pub workspace : Workspace
  pub namespaces : List (List ℕ)
  pub groups : List NamedGroup
  pub notes : List ((ℤ × ℕ) × NoteText)
  pub uis : List Ui
  pub next_buffer : ℤ
  pub limits : Limits

-- the stage with its windows and tabpages updated
abbrev pub in_workspace : (Workspace → Workspace) → Stage → Stage
in_workspace update stage = record stage { workspace = update stage.workspace }

-- a handle as an argument names it: 0 is the current one (help: api-types)
abbrev pub or_current : ℤ → ℤ → ℤ
or_current current n = if int_eq n (pos 0) then current else n

-- a splice of this text, in rows and columns
abbrev pub move_of : List ℕ → Splice → Move
move_of text s = record {
  start = place_of text s.from;
  old = extent_of (inverse_splice text s).bytes;
  new = extent_of s.bytes;
  count = length (lines_of (text_after text s));
}

-- a cursor kept in its line: at most at the last byte (own rule)
abbrev pub cursor_in_line : List (List ℕ) → Pos → Pos
cursor_in_line lines p = record p { col = min p.col (length (line_at lines p.row) - 1) }

abbrev pub view_in_line : List (List ℕ) → Window → Window
view_in_line lines w = record w { cursor = cursor_in_line lines w.cursor }

-- a window that shows a buffer after a splice of its text: it moves, and its cursor stays in its
-- line
abbrev pub view_moved : List ℕ → Splice → Window → Window
view_moved text s w =
    view_in_line (lines_of (text_after text s)) (view_after (move_of text s) w)

-- the windows after a splice of the text of a buffer
abbrev pub views_moved : ℤ → List ℕ → Splice → List Window → List Window
views_moved n text s windows =
    map (λ w. if int_eq w.buffer n then view_moved text s w else w) windows

-- and after splices made one after another
abbrev pub views_moved_by : ℤ → List ℕ → List Splice → List Window → List Window
views_moved_by n text [] windows = windows
views_moved_by n text (s ∷ ss) windows =
    views_moved_by n (text_after text s) ss (views_moved n text s windows)

-- the stage with the views of a buffer moved by splices
abbrev pub stage_with_views : ℤ → List ℕ → List Splice → Stage → Stage
stage_with_views n text ss stage =
    in_workspace (λ ws. record ws { windows = views_moved_by n text ss ws.windows }) stage

-- the least of some numbers, the first of which is given
abbrev pub least_of : ℕ → List ℕ → ℕ
least_of n ns = fold min n ns

-- the stage with these UIs: the screen has their least width by their least height, and stays
-- where there is none (own rule)
abbrev pub with_uis : List Ui → Stage → Stage
with_uis [] stage = record stage { uis = [] }
with_uis (u ∷ us) stage = record stage {
  uis = u ∷ us;
  workspace =
      with_size
      (least_of u.width (map (λ v. v.width) us)) (least_of u.height (map (λ v. v.height) us))
      stage.workspace;
}

-- UIs by rising sessions, with one in place of its session's
abbrev pub ui_among : Ui → List Ui → List Ui
ui_among ui [] = ui ∷ []
ui_among ui (u ∷ us) =
    if ui.session == u.session then ui ∷ us
    else if nat_lt ui.session u.session then ui ∷ u ∷ us
    else u ∷ ui_among ui us

-- UIs but those of some sessions
abbrev pub other_uis : List ℕ → List Ui → List Ui
other_uis sessions uis = filter (λ u. not (list_any (λ s. s == u.session) sessions)) uis

-- a fresh editor has buffer 1 in window 1000 of tabpage 1, on a screen of 80 by 24 (own rule)
abbrev pub fresh_stage : Limits → Stage
fresh_stage limits = record {
  workspace = fresh_workspace (pos 1);
  namespaces = [];
  groups = fresh_groups;
  notes = [];
  uis = [];
  next_buffer = pos 2;
  limits = limits;
}
