-- The values that tell events and batches (help: ui-events, ui-linegrid; MessagePack-RPC
-- specification, "Notification Message").
use Rattle.std.specs.Prelude.{ℕ, pos, Bool, true, false, nat_lt, if◌then◌else◌, List, [], ◌∷◌, ◌++◌, map, codes, bytes_eq, Option, Some, None, option_map}
use Rattle.nv_value.specs.Content.{Tree, trees_of, in_turn, integer, big, truth, text, list, pairs}
use Rattle.nv_hl.specs.declared.attribute.Attr.{Attr}
use Rattle.nv_linegrid.specs.declared.event.Run.{Run}
use Rattle.nv_linegrid.specs.declared.event.Run.TheVariants.{Same, One, Times}
use Rattle.nv_linegrid.specs.declared.event.Redraw.{Redraw}
use Rattle.nv_linegrid.specs.declared.event.Redraw.TheVariants.{Resize, DefaultColors, HlAttr, Clear, Scroll, LineOf, Goto, Flush}

-- a list of values
abbrev pub tuple_tree : List Tree → Tree
tuple_tree ts = list (trees_of ts)

abbrev pub number_tree : ℕ → Tree
number_tree n = integer (pos n)

-- a number of 64 bits: above the greatest i64 it is `big`
abbrev pub id_tree : ℕ → Tree
id_tree n = if nat_lt n 0x8000000000000000 then integer (pos n) else big n

-- ---- attributes

-- the fields of a map: keys, each with its value where it has one
abbrev pub AttrFields : Type 0
AttrFields = List (List ℕ × Option Tree)

-- a key with its value, and nothing where it has none
abbrev pub pair_if_there : List ℕ → Option Tree → List (Tree × Tree)
pair_if_there key None = []
pair_if_there key (Some value) = (text key, value) ∷ []

abbrev pub pairs_there : AttrFields → List (Tree × Tree)
pairs_there [] = []
pairs_there (f ∷ fs) = pair_if_there f.0 f.1 ++ pairs_there fs

-- a map of the fields that have a value
abbrev pub map_tree : AttrFields → Tree
map_tree fs = pairs (in_turn (pairs_there fs))

abbrev pub colour_tree : Option ℕ → Option Tree
colour_tree colour = option_map number_tree colour

-- a flag is told only where it is set
abbrev pub flag_tree : Bool → Option Tree
flag_tree false = None
flag_tree true = Some (truth true)

abbrev pub flag_fields : Attr → AttrFields
flag_fields a =
    (codes "reverse", flag_tree a.reverse)
    ∷ (codes "italic", flag_tree a.italic)
    ∷ (codes "bold", flag_tree a.bold)
    ∷ (codes "underline", flag_tree a.underline)
    ∷ (codes "undercurl", flag_tree a.undercurl)
    ∷ (codes "strikethrough", flag_tree a.strikethrough)
    ∷ []

-- an attribute in 24-bit colours (help: ui-event-hl_attr_define)
abbrev pub rgb_fields : Attr → AttrFields
rgb_fields a =
    (codes "foreground", colour_tree a.fg)
    ∷ (codes "background", colour_tree a.bg)
    ∷ (codes "special", colour_tree a.sp)
    ∷ flag_fields a

-- and in a terminal's colours, which have no special one
abbrev pub cterm_fields : Attr → AttrFields
cterm_fields a =
    (codes "foreground", colour_tree a.ctermfg)
    ∷ (codes "background", colour_tree a.ctermbg)
    ∷ flag_fields a

-- ---- events

-- `[text]`, `[text, id]` or `[text, id, count]` (help: ui-event-grid_line)
abbrev pub run_tree : Run → Tree
run_tree (Same bytes) = tuple_tree (text bytes ∷ [])
run_tree (One bytes id) = tuple_tree (text bytes ∷ id_tree id ∷ [])
run_tree (Times bytes id n) = tuple_tree (text bytes ∷ id_tree id ∷ number_tree n ∷ [])

-- the name of an event (help: ui-linegrid)
abbrev pub event_name : Redraw → List ℕ
event_name (Resize grid width height) = codes "grid_resize"
event_name (DefaultColors colours) = codes "default_colors_set"
event_name (HlAttr id attr) = codes "hl_attr_define"
event_name (Clear grid) = codes "grid_clear"
event_name (Scroll grid top bot left right rows) = codes "grid_scroll"
event_name (LineOf grid row col cells) = codes "grid_line"
event_name (Goto grid row col) = codes "grid_cursor_goto"
event_name Flush = codes "flush"

-- its arguments (help: ui-linegrid): `info` of hl_attr_define is empty, `cols` of grid_scroll is 0,
-- and `wrap` of grid_line is false (own rule)
abbrev pub event_arguments : Redraw → List Tree
event_arguments (Resize grid width height) =
    integer grid ∷ number_tree width ∷ number_tree height ∷ []
event_arguments (DefaultColors c) =
    number_tree c.fg ∷ number_tree c.bg ∷ number_tree c.sp ∷ number_tree c.cterm_fg
    ∷ number_tree c.cterm_bg
    ∷ []
event_arguments (HlAttr id attr) =
    id_tree id ∷ map_tree (rgb_fields attr) ∷ map_tree (cterm_fields attr) ∷ tuple_tree [] ∷ []
event_arguments (Clear grid) = integer grid ∷ []
event_arguments (Scroll grid top bot left right rows) =
    integer grid ∷ number_tree top ∷ number_tree bot ∷ number_tree left ∷ number_tree right
    ∷ integer rows
    ∷ number_tree 0
    ∷ []
event_arguments (LineOf grid row col cells) =
    integer grid ∷ number_tree row ∷ number_tree col ∷ tuple_tree (map run_tree cells)
    ∷ truth false
    ∷ []
event_arguments (Goto grid row col) = integer grid ∷ number_tree row ∷ number_tree col ∷ []
event_arguments Flush = []

abbrev pub event_tree : Redraw → Tree
event_tree e = tuple_tree (event_arguments e)

-- ---- batches

-- neighbouring events of one name
pub record NamedEvents : Type 0 where
  pub name : List ℕ
  pub events : List Redraw

-- an event before others, which joins the first of them where they have its name
abbrev pub with_event : Redraw → List NamedEvents → List NamedEvents
with_event e [] = record { name = event_name e; events = e ∷ [] } ∷ []
with_event e (g ∷ gs) =
    if bytes_eq (event_name e) g.name then record { name = g.name; events = e ∷ g.events } ∷ gs
    else record { name = event_name e; events = e ∷ [] } ∷ g ∷ gs

-- events by their names: neighbours of one name are together
abbrev pub events_by_name : List Redraw → List NamedEvents
events_by_name [] = []
events_by_name (e ∷ es) = with_event e (events_by_name es)

-- a name, and then the arguments of each event (help: ui-events)
abbrev pub entry_tree : NamedEvents → Tree
entry_tree g = tuple_tree (text g.name ∷ map event_tree g.events)

-- a batch: the notification `[2, "redraw", entries]`
unfoldable pub batch_tree : List Redraw → Tree
batch_tree es =
    tuple_tree (number_tree 2 ∷ text (codes "redraw")
    ∷ tuple_tree (map entry_tree (events_by_name es))
    ∷ [])
