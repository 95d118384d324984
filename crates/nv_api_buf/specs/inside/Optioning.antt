-- inside: what is answered of an option, step by step.
use Rattle.std.specs.Prelude.{ℕ, ℤ, List, [], ◌∷◌, Option}
use Rattle.nv_value.specs.Content.{Tree, nil}
use Rattle.nv_args.specs.Faults.{invalid_value, unknown_name}
use Rattle.nv_args.specs.Maps.{unknown_key, wrong_value, map_fault}
use Rattle.nv_model.specs.Seen.{SeenBuffer}
use Rattle.nv_model.specs.Answers.{Answer, replied, or_refused}
use Rattle.nv_model.specs.Answering.{reply_of, fault_or}
use Rattle.nv_api_buf.specs.OptionRows.{BufferOption, option_keys, option_named, value_fault}

-- the value of the option of a name
abbrev pub value_answer : SeenBuffer → List ℕ → Answer
value_answer b name = or_refused (option_named name) (unknown_name name) (λ o. reply_of (o.get b))

-- its keys are looked at first
abbrev pub value_keyed : List (Tree × Tree) → List ℕ → SeenBuffer → Answer
value_keyed pairs name b = fault_or (map_fault option_keys pairs) (value_answer b name)

-- an option is put
abbrev pub puts_answer : ℤ → Tree → List ℕ → Option BufferOption → Answer
puts_answer n t name option =
    or_refused option (unknown_name name) (λ o.
    or_refused (o.put n t) (invalid_value o.name) (λ operation.
    replied nil (operation ∷ []) []))

-- the keys and the value are looked at first
abbrev pub puts_keyed : List (Tree × Tree) → Tree → List ℕ → ℤ → Answer
puts_keyed pairs t name n =
    fault_or (unknown_key option_keys pairs) (
    fault_or (value_fault n t (option_named name)) (
    fault_or (wrong_value option_keys pairs) (
    puts_answer n t name (option_named name))))
