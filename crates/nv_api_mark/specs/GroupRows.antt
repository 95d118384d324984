-- The methods on highlight groups (help: api-highlights; the help tag of each is its name).
use Rattle.std.specs.Prelude.{ℕ, ℤ, pos, ◌+◌, Bool, true, false, not, ◌&&◌, nat_lt, List, [], ◌∷◌, ◌++◌, length, codes, Option, Some, None, option_and_then, unwrap_or, if◌then◌else◌}
use Rattle.std.specs.Option.{option_map_or}
use Rattle.std.specs.Ordering.{int_eq}
use Rattle.nv_value.specs.Content.{Tree, nil}
use Rattle.nv_value.specs.declared.fault.ApiFault.{ApiFault}
use Rattle.nv_args.specs.Faults.{out_of_bounds, limit_reached}
use Rattle.nv_args.specs.Arguments.{string_in, last_pairs}
use Rattle.nv_args.specs.Reading.{Arg, number_at, string_at, pairs_at}
use Rattle.nv_args.specs.Maps.{Key, unknown_key, value_of, or_else}
use Rattle.nv_hl.specs.Groups.{NamedGroup, known_id, group_at, was_put_at}
use Rattle.nv_hl.specs.declared.linking.Group.TheVariants.{Plain, Link}
use Rattle.nv_hl.specs.declared.linking.Group.{Group}
use Rattle.nv_model.specs.Stage.{Stage}
use Rattle.nv_model.specs.Seen.{Seen}
use Rattle.nv_model.specs.Operations.{Operation, group_put}
use Rattle.nv_model.specs.Answers.{Answer, replied, unless}
use Rattle.nv_model.specs.Answering.{reply_of, fault_or, natural, dict_of}
use Rattle.nv_args.specs.Dicts.{flag_or}
use Rattle.nv_args.specs.KeyValues.{takes_string}
use Rattle.nv_args.specs.Naming.{is_group_name, bad_name_fault, wrong_value_of, naming_fault}
use Rattle.nv_api_mark.specs.Groups.{group_operations, groups_with, id_among}
use Rattle.nv_api_mark.specs.Highlights.{highlight_keys, linking_keys, attr_in, group_entries}

-- the fault of an argument that is no group's name
abbrev pub name_fault : List ℕ → Option ApiFault
name_fault name = if is_group_name name then None else Some bad_name_fault

-- the fault of a group's name and the Dict behind it: unknown keys, then the name, then the values
-- in their order
abbrev pub highlight_fault : List ℕ → List (Tree × Tree) → Option ApiFault
highlight_fault name pairs =
    or_else (unknown_key highlight_keys pairs)
    (or_else (name_fault name) (wrong_value_of linking_keys highlight_keys pairs))

-- the name that is linked to, where there is one
abbrev pub link_in : List (Tree × Tree) → Option (List ℕ)
link_in pairs = option_and_then string_in (value_of (codes "link") pairs)

-- what is put of a group: a link, which leaves the other keys out of account, or an attribute
abbrev pub group_in : List NamedGroup → List ℕ → List (Tree × Tree) → Option (List ℕ) → Group
group_in groups name pairs None = Plain (attr_in pairs)
group_in groups name pairs (Some link) = Link (id_among (groups_with groups name) link)

-- the groups that are made for it: of its name, and then of the one that it links to
abbrev pub link_operations : List NamedGroup → Option (List ℕ) → List Operation
link_operations groups None = []
link_operations groups (Some link) = group_operations groups link

abbrev pub groups_operations : List NamedGroup → List ℕ → Option (List ℕ) → List Operation
groups_operations groups name link =
    group_operations groups name ++ link_operations (groups_with groups name) link

-- a group stays where `default` is true and it was put before, or isn't empty at first
abbrev pub stays : List NamedGroup → List ℕ → List (Tree × Tree) → Bool
stays groups name pairs = flag_or false (codes "default") pairs
    && option_map_or (was_put_at groups) (known_id groups name) false

-- a group put, with those that are made for it
abbrev pub group_put_answer : Stage → List ℕ → List (Tree × Tree) → Answer
group_put_answer stage name pairs =
    unless ((
      nat_lt stage.limits.groups
          (length stage.groups + length (groups_operations stage.groups name (link_in pairs))),
      limit_reached,
    ) ∷ [])
    (replied nil (groups_operations stage.groups name (link_in pairs)
    ++ group_put (id_among stage.groups name) (group_in stage.groups name pairs (link_in pairs))
    ∷ []) [])

abbrev pub group_answer : Stage → ℤ → List ℕ → List (Tree × Tree) → Answer
group_answer stage namespace name pairs =
    fault_or (highlight_fault name pairs) (
    unless ((not (int_eq namespace (pos 0)), out_of_bounds) ∷ [])
    (if stays stage.groups name pairs then reply_of nil else group_put_answer stage name pairs))

-- nvim_set_hl(ns_id, name, val): the group of a name is put, made where it isn't known; with
-- `default` only where it wasn't put before
abbrev pub nvim_set_hl : Seen → ℕ → List Arg → Answer
nvim_set_hl s session args =
    group_answer s.stage (number_at args 0) (string_at args 1) (last_pairs (pairs_at args 2))

-- the key `name`, which is required
abbrev pub name_keys : List Key
name_keys = (record { name = codes "name"; takes = takes_string; required = true }) ∷ []

abbrev pub given_name : List (Tree × Tree) → List ℕ
given_name pairs = unwrap_or (option_and_then string_in (value_of (codes "name") pairs)) []

abbrev pub group_reply : Stage → ℤ → List (Tree × Tree) → Answer
group_reply stage namespace pairs =
    fault_or (naming_fault (codes "name" ∷ []) name_keys pairs) (
    unless ((not (int_eq namespace (pos 0)), out_of_bounds) ∷ [])
    (reply_of (dict_of (group_entries stage.groups
    (option_and_then (group_at stage.groups) (known_id stage.groups (given_name pairs)))))))

-- nvim_get_hl(ns_id, opts): the group of the key `name`: what it links to, or its colours and
-- flags; nothing of an unknown one
abbrev pub nvim_get_hl : Seen → ℕ → List Arg → Answer
nvim_get_hl s session args = group_reply s.stage (number_at args 0) (last_pairs (pairs_at args 1))

-- nvim_get_hl_id_by_name(name): the id of a group, which is made empty where it isn't known
abbrev pub nvim_get_hl_id_by_name : Seen → ℕ → List Arg → Answer
nvim_get_hl_id_by_name s session args =
    fault_or (name_fault (string_at args 0)) (
    unless ((
      nat_lt s.stage.limits.groups
          (length s.stage.groups + length (group_operations s.stage.groups (string_at args 0))),
      limit_reached,
    ) ∷ [])
    (replied (natural (id_among s.stage.groups (string_at args 0)))
    (group_operations s.stage.groups (string_at args 0)) []))
