-- Which lines' cells are kept (own rule).
use Rattle.std.specs.Prelude.{ℕ, Bool, false, ◌&&◌, ◌==◌, bytes_eq, nat_le, if◌then◌else◌, List, [], ◌∷◌, length, take}
use Rattle.nv_hl.specs.declared.cell.Cell.{Cell}
use Rattle.nv_hl.specs.Attributes.{same_attr, same_flag}
use Rattle.nv_linedraw.specs.declared.looks.Looks.{Looks}
use Rattle.nv_linedraw.specs.declared.looks.Span.{Span}
use Rattle.nv_linedraw.specs.LineCells.{cells_of_line}
use Rattle.nv_screen.specs.declared.scene.Pane.{Pane}
use Rattle.nv_screen.specs.declared.scene.Scene.{Scene}
use Rattle.nv_screen.specs.declared.scene.SceneLine.{SceneLine}

-- all that the cells of a line depend on
pub record LineKey : Type 0 where
  pub bytes : List ℕ
  pub spans : List Span
  pub width : ℕ
  pub tabstop : ℕ
  pub looks : Looks

abbrev pub key_of_line : ℕ → ℕ → Looks → SceneLine → LineKey
key_of_line width tabstop looks line = record {
  bytes = line.bytes;
  spans = line.spans.items;
  width = width;
  tabstop = tabstop;
  looks = looks;
}

abbrev pub cells_of_key : LineKey → List Cell
cells_of_key k = cells_of_line k.width k.tabstop k.bytes k.spans k.looks

-- ---- sameness

abbrev pub same_span : Span → Span → Bool
same_span a b =
    (a.from == b.from) && (a.to == b.to) && same_flag a.eol b.eol && same_attr a.attr b.attr

abbrev pub same_spans : List Span → List Span → Bool
same_spans [] [] = Bool.true
same_spans (a ∷ as_) (b ∷ bs) = same_span a b && same_spans as_ bs
same_spans [] (b ∷ bs) = false
same_spans (a ∷ as_) [] = false

abbrev pub same_looks : Looks → Looks → Bool
same_looks a b =
    same_attr a.nontext b.nontext && same_attr a.special b.special && same_attr a.beyond b.beyond

-- whether two keys are equal, part by part
unfoldable pub same_line_key : LineKey → LineKey → Bool
same_line_key a b =
    (a.width == b.width) && (a.tabstop == b.tabstop) && bytes_eq a.bytes b.bytes
    && same_spans a.spans b.spans
    && same_looks a.looks b.looks

-- ---- the list of kept keys, the one used last at its front

abbrev pub most_keys : ℕ
most_keys = 1024

abbrev pub most_cells : ℕ
most_cells = 2000

-- the keys without this one
abbrev pub keys_without : LineKey → List LineKey → List LineKey
keys_without key [] = []
keys_without key (k ∷ ks) = if same_line_key key k then ks else k ∷ keys_without key ks

-- a key goes to the front, and of more than so many keys the last one goes
abbrev pub key_in_front : LineKey → List LineKey → List LineKey
key_in_front key keys = take most_keys (key ∷ keys_without key keys)

-- a line whose cells are too many isn't kept
abbrev pub keys_with_line : LineKey → List LineKey → List LineKey
keys_with_line key keys =
    if nat_le (length (cells_of_key key)) most_cells then key_in_front key keys else keys

abbrev pub keys_with_lines : ℕ → ℕ → Looks → List LineKey → List SceneLine → List LineKey
keys_with_lines width tabstop looks keys [] = keys
keys_with_lines width tabstop looks keys (line ∷ lines) =
    keys_with_lines width tabstop looks (keys_with_line (key_of_line width tabstop looks line) keys)
    lines

-- the windows in order, and the lines of each in order
abbrev pub keys_with_panes : Looks → List LineKey → List Pane → List LineKey
keys_with_panes looks keys [] = keys
keys_with_panes looks keys (p ∷ ps) =
    keys_with_panes looks (keys_with_lines p.rect.width p.tabstop looks keys p.lines.items) ps

-- the keys that are kept once a scene was painted
abbrev pub keys_after : List LineKey → Scene → List LineKey
keys_after keys s = keys_with_panes s.looks keys s.panes.items
