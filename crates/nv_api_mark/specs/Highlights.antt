-- Attributes of groups as calls give them (help: nvim_set_hl(), nvim_get_hl()).
use Rattle.std.specs.Prelude.{ℕ, Bool, true, false, List, [], ◌∷◌, ◌++◌, codes, Option, Some, None, if◌then◌else◌}
use Rattle.nv_value.specs.Content.{Tree, truth, text}
use Rattle.nv_args.specs.Dicts.{optional_key, flag_or, colour_at, terminal_colour_at}
use Rattle.nv_args.specs.KeyValues.{takes_colour, takes_terminal_colour, takes_flag, takes_string}
use Rattle.nv_args.specs.Maps.{Key}
use Rattle.nv_hl.specs.Groups.{NamedGroup, name_at}
use Rattle.nv_hl.specs.declared.attribute.Attr.{Attr}
use Rattle.nv_hl.specs.declared.linking.Group.{Group}
use Rattle.nv_hl.specs.declared.linking.Group.TheVariants.{Plain, Link}
use Rattle.nv_model.specs.Answering.{natural, key_value}

-- the keys
abbrev pub highlight_keys : List Key
highlight_keys =
    optional_key (codes "fg") takes_colour
    ∷ optional_key (codes "bg") takes_colour
    ∷ optional_key (codes "sp") takes_colour
    ∷ optional_key (codes "ctermfg") takes_terminal_colour
    ∷ optional_key (codes "ctermbg") takes_terminal_colour
    ∷ optional_key (codes "reverse") takes_flag
    ∷ optional_key (codes "italic") takes_flag
    ∷ optional_key (codes "bold") takes_flag
    ∷ optional_key (codes "underline") takes_flag
    ∷ optional_key (codes "undercurl") takes_flag
    ∷ optional_key (codes "strikethrough") takes_flag
    ∷ optional_key (codes "link") takes_string
    ∷ optional_key (codes "default") takes_flag
    ∷ []

-- the key that names a group
abbrev pub linking_keys : List (List ℕ)
linking_keys = codes "link" ∷ []

-- the attribute that pairs that count give
abbrev pub attr_in : List (Tree × Tree) → Attr
attr_in pairs = record {
  fg = colour_at (codes "fg") pairs;
  bg = colour_at (codes "bg") pairs;
  sp = colour_at (codes "sp") pairs;
  ctermfg = terminal_colour_at (codes "ctermfg") pairs;
  ctermbg = terminal_colour_at (codes "ctermbg") pairs;
  reverse = flag_or false (codes "reverse") pairs;
  italic = flag_or false (codes "italic") pairs;
  bold = flag_or false (codes "bold") pairs;
  underline = flag_or false (codes "underline") pairs;
  undercurl = flag_or false (codes "undercurl") pairs;
  strikethrough = flag_or false (codes "strikethrough") pairs;
}

-- what is told of a colour where there is one, and of a flag where it is set
abbrev pub colour_entry : Tree × Tree → Option ℕ → List (Tree × Tree)
colour_entry key None = []
colour_entry key (Some colour) = (key.0, natural colour) ∷ []

abbrev pub flag_entry : Tree × Tree → Bool → List (Tree × Tree)
flag_entry key is_set = if is_set then key ∷ [] else []

abbrev set_flag : Tree
set_flag = truth true

-- an attribute as it is told, its keys in their order
abbrev pub attr_entries : Attr → List (Tree × Tree)
attr_entries attr =
    colour_entry (key_value "fg" set_flag) attr.fg
    ++ (colour_entry (key_value "bg" set_flag) attr.bg
    ++ (colour_entry (key_value "sp" set_flag) attr.sp
    ++ (colour_entry (key_value "ctermfg" set_flag) attr.ctermfg
    ++ (colour_entry (key_value "ctermbg" set_flag) attr.ctermbg
    ++ (flag_entry (key_value "reverse" set_flag) attr.reverse
    ++ (flag_entry (key_value "italic" set_flag) attr.italic
    ++ (flag_entry (key_value "bold" set_flag) attr.bold
    ++ (flag_entry (key_value "underline" set_flag) attr.underline
    ++ (flag_entry (key_value "undercurl" set_flag) attr.undercurl
    ++ flag_entry (key_value "strikethrough" set_flag) attr.strikethrough)))))))))

-- a group as it is told: the name that it links to, or its attribute
abbrev pub group_entries : List NamedGroup → Option Group → List (Tree × Tree)
group_entries groups None = []
group_entries groups (Some (Plain attr)) = attr_entries attr
group_entries groups (Some (Link id)) = key_value "link" (text (name_at groups id)) ∷ []
