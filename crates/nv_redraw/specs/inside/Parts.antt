-- inside: parts of spellings that are written together.
use Rattle.std.specs.Prelude.{ℕ, ℤ, List, [], ◌∷◌, ◌++◌, codes}
use Rattle.nv_msgpack.specs.Shortest.{integer_spelling, unsigned_spelling}
use Rattle.nv_hl.specs.declared.attribute.Attr.{Attr}
use Rattle.nv_redraw.specs.Values.{AttrFields, colour_tree, flag_tree}

-- a list of three, the kind of a notification, and the name
abbrev pub front_of_batch : List ℕ
front_of_batch = 0x93 ∷ 2 ∷ 0xa6 ∷ codes "redraw"

-- a list of five, the grid, the row and the column
abbrev pub place_spelling : ℤ → ℕ → ℕ → List ℕ
place_spelling grid row col =
    0x95 ∷ (integer_spelling grid ++ (unsigned_spelling row ++ unsigned_spelling col))

abbrev pub rgb_colours : Attr → AttrFields
rgb_colours a =
    (codes "foreground", colour_tree a.fg)
    ∷ (codes "background", colour_tree a.bg)
    ∷ (codes "special", colour_tree a.sp)
    ∷ []

abbrev pub cterm_colours : Attr → AttrFields
cterm_colours a =
    (codes "foreground", colour_tree a.ctermfg) ∷ (codes "background", colour_tree a.ctermbg) ∷ []

abbrev pub upper_flags : Attr → AttrFields
upper_flags a =
    (codes "reverse", flag_tree a.reverse)
    ∷ (codes "italic", flag_tree a.italic)
    ∷ (codes "bold", flag_tree a.bold)
    ∷ []

abbrev pub lower_flags : Attr → AttrFields
lower_flags a =
    (codes "underline", flag_tree a.underline)
    ∷ (codes "undercurl", flag_tree a.undercurl)
    ∷ (codes "strikethrough", flag_tree a.strikethrough)
    ∷ []
