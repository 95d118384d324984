-- The highlight groups of an editor (help: highlight-groups, nvim_set_hl(),
-- nvim_get_hl_id_by_name()).
use Rattle.std.specs.Prelude.{ℕ, zero, suc, ◌+◌, ◌-◌, ◌^◌, ◌<◌, ◌≤◌, All, Bool, true, false, List, [], ◌∷◌, ◌++◌, Option, Some, None, length, map, codes, is_some, option_map, position, slice_get, slice_set, if◌then◌else◌}
use Rattle.std.specs.Option.{option_map_or}
use Rattle.std.specs.List.{IsDistinct}
use Rattle.std.specs.Str.{bytes_eq}
use Rattle.nv_hl.specs.declared.attribute.Attr.{Attr}
use Rattle.nv_hl.specs.declared.linking.Group.{Group}
use Rattle.nv_hl.specs.declared.linking.Group.TheVariants.{Plain, Link}
use Rattle.nv_hl.specs.Attributes.{empty_attr}

-- a group with its name, and whether it was ever put or isn't empty at first
pub record NamedGroup : Type 0 where
  pub name : List ℕ
  pub group : Group
  pub was_put : Bool

-- the group of an id; ids count from 1
abbrev pub entry_at : List NamedGroup → ℕ → Option NamedGroup
entry_at groups zero = None
entry_at groups (suc index) = slice_get groups index

-- the id has a group
abbrev pub HasGroup : List NamedGroup → ℕ → Type 0
HasGroup groups id = (0 < id) × (id ≤ length groups)

-- the id of the group of this name
abbrev pub known_id : List NamedGroup → List ℕ → Option ℕ
known_id groups name = option_map (λ index. index + 1) (position (λ g. bytes_eq name g.name) groups)

abbrev pub name_at : List NamedGroup → ℕ → List ℕ
name_at groups id = option_map_or (λ g. g.name) (entry_at groups id) []

abbrev pub group_at : List NamedGroup → ℕ → Option Group
group_at groups id = option_map (λ g. g.group) (entry_at groups id)

abbrev pub was_put_at : List NamedGroup → ℕ → Bool
was_put_at groups id = option_map_or (λ g. g.was_put) (entry_at groups id) false

-- the groups with one more at the end, unless there is one of its name
abbrev pub with_named : List NamedGroup → NamedGroup → List NamedGroup
with_named groups g = if is_some (known_id groups g.name) then groups else groups ++ g ∷ []

-- a group that was only named
abbrev pub empty_group : List ℕ → NamedGroup
empty_group name = record { name = name; group = Plain empty_attr; was_put = false }

-- the groups with another group put at the id
abbrev pub with_group : List NamedGroup → ℕ → Group → List NamedGroup
with_group groups id group =
    slice_set groups (id - 1) (record { name = name_at groups id; group = group; was_put = true })

-- a link leads to one of the first n groups
abbrev pub LinksWithin : ℕ → Group → Type 0
LinksWithin n (Plain attr) = Unit {0}
LinksWithin n (Link id) = (0 < id) × (id ≤ n)

-- what an editor's groups always keep: the ids fit 32 bits, each link leads to a group, and no two
-- have one name
pub record AreSound (groups : List NamedGroup) : Type 0 where
  pub few : length groups < 2 ^ 32
  pub linked : All (λ g. LinksWithin (length groups) g.group) groups
  pub distinct : IsDistinct bytes_eq (map (λ g. g.name) groups)

-- the attribute at the end of at most so many links; a chain that goes on is the empty attribute
-- (own rule)
unfoldable pub attr_along : ℕ → List NamedGroup → Option Group → Attr
attr_along links groups None = empty_attr
attr_along links groups (Some (Plain attr)) = attr
attr_along zero groups (Some (Link id)) = empty_attr
attr_along (suc links) groups (Some (Link id)) = attr_along links groups (group_at groups id)

-- the attribute of a group: of the one that its links lead to, where they are at most 64 (own rule)
abbrev pub attr_of : List NamedGroup → ℕ → Attr
attr_of groups id = attr_along 64 groups (group_at groups id)

-- the groups of a fresh editor, with ids from 1 (help: highlight-groups; own rule for their
-- attributes)
abbrev pub fresh_groups : List NamedGroup
fresh_groups =
    (record { name = codes "Normal"; group = Plain empty_attr; was_put = false })
    ∷ (record {
      name = codes "NonText";
      group = Plain (record empty_attr { bold = true });
      was_put = true;
    })
    ∷ (record { name = codes "EndOfBuffer"; group = Link 2; was_put = true })
    ∷ (record {
      name = codes "SpecialKey";
      group = Plain (record empty_attr { bold = true });
      was_put = true;
    })
    ∷ (record {
      name = codes "StatusLine";
      group = Plain (record empty_attr { reverse = true; bold = true });
      was_put = true;
    })
    ∷ (record {
      name = codes "StatusLineNC";
      group = Plain (record empty_attr { reverse = true });
      was_put = true;
    })
    ∷ (record { name = codes "WinSeparator"; group = Plain empty_attr; was_put = false })
    ∷ []
