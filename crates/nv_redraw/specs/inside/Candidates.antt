-- inside: the events that a value tells, if it is the value of a batch.
use Rattle.std.specs.Prelude.{ℕ, zero, suc, ℤ, pos, negsuc, ◌^◌, Bool, nat_lt, if◌then◌else◌, List, [], ◌∷◌, ◌++◌, codes, bytes_eq, Option, None, Some, is_some, option_map}
use Rattle.nv_value.specs.Content.{Tree, Trees, no_more, one, nil, integer, big, text, list, pairs}
use Rattle.nv_hl.specs.declared.attribute.Attr.{Attr}
use Rattle.nv_hl.specs.declared.colours.Colours.{Colours}
use Rattle.nv_linegrid.specs.declared.event.Run.{Run}
use Rattle.nv_linegrid.specs.declared.event.Run.TheVariants.{Same, One, Times}
use Rattle.nv_linegrid.specs.declared.event.Redraw.{Redraw}
use Rattle.nv_linegrid.specs.declared.event.Redraw.TheVariants.{Resize, DefaultColors, HlAttr, Clear, Scroll, LineOf, Goto, Flush}

-- ---- parts of a value, and something in their place where there are none

abbrev pub items_in : Tree → Trees
items_in (list ts) = ts
items_in _ = no_more

abbrev pub pairs_of_map : Tree → Trees
pairs_of_map (pairs ts) = ts
pairs_of_map _ = no_more

abbrev pub nth_tree : Trees → ℕ → Tree
nth_tree no_more n = nil
nth_tree (one t ts) zero = t
nth_tree (one t ts) (suc n) = nth_tree ts n

abbrev pub rest_trees : Trees → Trees
rest_trees no_more = no_more
rest_trees (one t ts) = ts

abbrev pub integer_or_0 : Tree → ℤ
integer_or_0 (integer z) = z
integer_or_0 _ = pos 0

abbrev pub if_below : ℕ → ℕ → ℕ
if_below limit n = if nat_lt n limit then n else 0

abbrev pub below_or_0 : ℕ → ℤ → ℕ
below_or_0 limit (pos n) = if_below limit n
below_or_0 limit (negsuc n) = 0

-- a number of 32 bits
abbrev pub size_in : Tree → ℕ
size_in t = below_or_0 (2 ^ 32) (integer_or_0 t)

abbrev pub positive_or_0 : ℤ → ℕ
positive_or_0 (pos n) = n
positive_or_0 (negsuc n) = 0

abbrev pub id_or_0 : Tree → ℕ
id_or_0 (integer z) = positive_or_0 z
id_or_0 (big n) = n
id_or_0 _ = 0

abbrev pub bytes_in : Tree → List ℕ
bytes_in (text bytes) = bytes
bytes_in _ = []

-- ---- attributes

abbrev pub is_key_tree : List ℕ → Tree → Bool
is_key_tree key t = bytes_eq (bytes_in t) key

-- the value of the first pair with this key
abbrev pub value_of_key : List ℕ → Trees → Option Tree
value_of_key key (one k (one v ts)) = if is_key_tree key k then Some v else value_of_key key ts
value_of_key key _ = None

abbrev pub colour_of_key : List ℕ → Trees → Option ℕ
colour_of_key key ts = option_map size_in (value_of_key key ts)

abbrev pub cterm_of_key : List ℕ → Trees → Option ℕ
cterm_of_key key ts = option_map (λ t. below_or_0 (2 ^ 8) (integer_or_0 t)) (value_of_key key ts)

abbrev pub flag_of_key : List ℕ → Trees → Bool
flag_of_key key ts = is_some (value_of_key key ts)

abbrev pub attr_of_maps : Trees → Trees → Attr
attr_of_maps rgb cterm = record {
  fg = colour_of_key (codes "foreground") rgb;
  bg = colour_of_key (codes "background") rgb;
  sp = colour_of_key (codes "special") rgb;
  ctermfg = cterm_of_key (codes "foreground") cterm;
  ctermbg = cterm_of_key (codes "background") cterm;
  reverse = flag_of_key (codes "reverse") rgb;
  italic = flag_of_key (codes "italic") rgb;
  bold = flag_of_key (codes "bold") rgb;
  underline = flag_of_key (codes "underline") rgb;
  undercurl = flag_of_key (codes "undercurl") rgb;
  strikethrough = flag_of_key (codes "strikethrough") rgb;
}

-- ---- events

abbrev pub run_in : Trees → Run
run_in (one a (one b (one c ts))) = Times (bytes_in a) (id_or_0 b) (size_in c)
run_in (one a (one b no_more)) = One (bytes_in a) (id_or_0 b)
run_in ts = Same (bytes_in (nth_tree ts 0))

abbrev pub runs_in : Trees → List Run
runs_in no_more = []
runs_in (one t ts) = run_in (items_in t) ∷ runs_in ts

abbrev pub colours_in : Trees → Colours
colours_in ts = record {
  fg = size_in (nth_tree ts 0);
  bg = size_in (nth_tree ts 1);
  sp = size_in (nth_tree ts 2);
  cterm_fg = size_in (nth_tree ts 3);
  cterm_bg = size_in (nth_tree ts 4);
}

abbrev pub grid_in : Trees → ℤ
grid_in ts = integer_or_0 (nth_tree ts 0)

abbrev pub size_at : Trees → ℕ → ℕ
size_at ts n = size_in (nth_tree ts n)

-- the event of a name and arguments
unfoldable pub candidate : List ℕ → Trees → Redraw
candidate name ts =
    if bytes_eq name (codes "grid_resize") then
    Resize (grid_in ts) (size_at ts 1) (size_at ts 2) else
    if bytes_eq name (codes "default_colors_set") then DefaultColors (colours_in ts) else
    if bytes_eq name (codes "hl_attr_define") then
    HlAttr (id_or_0 (nth_tree ts 0))
    (attr_of_maps (pairs_of_map (nth_tree ts 1)) (pairs_of_map (nth_tree ts 2))) else
    if bytes_eq name (codes "grid_clear") then Clear (grid_in ts) else
    if bytes_eq name (codes "grid_scroll") then
    Scroll (grid_in ts) (size_at ts 1) (size_at ts 2) (size_at ts 3) (size_at ts 4)
    (integer_or_0 (nth_tree ts 5)) else
    if bytes_eq name (codes "grid_line") then
    LineOf (grid_in ts) (size_at ts 1) (size_at ts 2) (runs_in (items_in (nth_tree ts 3))) else
    if bytes_eq name (codes "grid_cursor_goto") then
    Goto (grid_in ts) (size_at ts 1) (size_at ts 2) else
    Flush

-- the events of a name, one for each list of arguments
abbrev pub candidates_named : List ℕ → Trees → List Redraw
candidates_named name no_more = []
candidates_named name (one t ts) = candidate name (items_in t) ∷ candidates_named name ts

abbrev pub candidates_of_entry : Trees → List Redraw
candidates_of_entry ts = candidates_named (bytes_in (nth_tree ts 0)) (rest_trees ts)

abbrev pub candidates_of_entries : Trees → List Redraw
candidates_of_entries no_more = []
candidates_of_entries (one t ts) = candidates_of_entry (items_in t) ++ candidates_of_entries ts

-- the events of a notification's arguments
abbrev pub candidates : Tree → List Redraw
candidates t = candidates_of_entries (items_in (nth_tree (items_in t) 2))
