-- The options of a buffer (help: options, nvim_get_option_value(), nvim_set_option_value()).
use Rattle.std.specs.Prelude.{ℕ, ℤ, pos, List, [], ◌∷◌, codes, bytes_eq, Option, Some, None, is_none, option_map, option_and_then, unwrap_or, if◌then◌else◌}
use Rattle.nv_value.specs.Content.{Tree, nil, truth, integer}
use Rattle.nv_value.specs.declared.fault.ApiFault.{ApiFault}
use Rattle.nv_msgpack.specs.Handle.{handle_in, integer_of}
use Rattle.nv_args.specs.Faults.{invalid_value, unknown_name}
use Rattle.nv_args.specs.Arguments.{truth_in, last_pairs}
use Rattle.nv_args.specs.Reading.{Arg, string_at, object_at, pairs_at}
use Rattle.nv_args.specs.Maps.{Key, unknown_key, wrong_value, map_fault, value_of}
use Rattle.nv_model.specs.Seen.{Seen, SeenBuffer}
use Rattle.nv_model.specs.Operations.{Operation, modifiable_put, modified_put, listed_put, tabstop_put}
use Rattle.nv_model.specs.Answers.{Answer, replied, or_refused, on_buffer}
use Rattle.nv_model.specs.Answering.{reply_of, fault_or}
use Rattle.nv_args.specs.Dicts.{optional_key}
use Rattle.nv_args.specs.KeyValues.{number_between, takes_handle, takes_string}

-- an option of a buffer: its name, its value, and what a value given for it does, nothing where it
-- isn't of the option's type or range
pub record BufferOption : Type 0 where
  pub name : List ℕ
  pub get : SeenBuffer → Tree
  pub put : ℤ → Tree → Option Operation

-- the cells of a tabstop: 1 to 9999 (help: 'tabstop'; own rule for its greatest)
abbrev pub tabstop_of : ℤ → Option ℕ
tabstop_of = number_between 1 9999

-- the options (help: 'modifiable', 'modified', 'buflisted', 'tabstop')
abbrev pub modifiable_option : BufferOption
modifiable_option = record {
  name = codes "modifiable";
  get = λ b. truth b.modifiable;
  put = λ n t. option_map (modifiable_put n) (truth_in t);
}

abbrev pub modified_option : BufferOption
modified_option = record {
  name = codes "modified";
  get = λ b. truth b.modified;
  put = λ n t. option_map (modified_put n) (truth_in t);
}

abbrev pub listed_option : BufferOption
listed_option = record {
  name = codes "buflisted";
  get = λ b. truth b.listed;
  put = λ n t. option_map (listed_put n) (truth_in t);
}

abbrev pub tabstop_option : BufferOption
tabstop_option = record {
  name = codes "tabstop";
  get = λ b. integer (pos b.tabstop);
  put = λ n t. option_map (tabstop_put n) (option_and_then tabstop_of (integer_of t));
}

abbrev pub buffer_options : List BufferOption
buffer_options = modifiable_option ∷ modified_option ∷ listed_option ∷ tabstop_option ∷ []

-- the option of this name
abbrev pub option_among : List BufferOption → List ℕ → Option BufferOption
option_among [] name = None
option_among (o ∷ os) name = if bytes_eq o.name name then Some o else option_among os name

abbrev pub option_named : List ℕ → Option BufferOption
option_named name = option_among buffer_options name

-- the keys that say whose option is meant: `buf`, a buffer, and `scope`, without effect (own rule)
abbrev pub option_keys : List Key
option_keys =
    optional_key (codes "buf") (takes_handle (pos 0))
    ∷ optional_key (codes "scope") takes_string
    ∷ []

-- the buffer whose option is meant: that of the key `buf`, and else the current one
abbrev pub option_buffer : List (Tree × Tree) → ℤ
option_buffer pairs =
    unwrap_or (option_and_then (handle_in (pos 0)) (value_of (codes "buf") pairs)) (pos 0)

-- nvim_get_option_value(name, opts): the value of a buffer's option
abbrev pub nvim_get_option_value : Seen → ℕ → List Arg → Answer
nvim_get_option_value s session args =
    on_buffer s (option_buffer (last_pairs (pairs_at args 1))) (λ n b.
    fault_or (map_fault option_keys (last_pairs (pairs_at args 1))) (
    or_refused (option_named (string_at args 0)) (unknown_name (string_at args 0)) (λ o.
    reply_of (o.get b))))

-- the fault of a value that an option of this name doesn't take
abbrev pub value_fault : ℤ → Tree → Option BufferOption → Option ApiFault
value_fault n t None = None
value_fault n t (Some o) = if is_none (o.put n t) then Some (invalid_value o.name) else None

-- nvim_set_option_value(name, value, opts): the value of a buffer's option is put
abbrev pub nvim_set_option_value : Seen → ℕ → List Arg → Answer
nvim_set_option_value s session args =
    on_buffer s (option_buffer (last_pairs (pairs_at args 2))) (λ n b.
    fault_or (unknown_key option_keys (last_pairs (pairs_at args 2))) (
    fault_or (value_fault n (object_at args 1) (option_named (string_at args 0))) (
    fault_or (wrong_value option_keys (last_pairs (pairs_at args 2))) (
    or_refused (option_named (string_at args 0)) (unknown_name (string_at args 0)) (λ o.
    or_refused (o.put n (object_at args 1)) (invalid_value o.name) (λ operation.
    replied nil (operation ∷ []) []))))))
