-- Namespaces (help: namespace, nvim_create_namespace(), nvim_get_namespaces()).
use Rattle.std.specs.Prelude.{ℕ, ℤ, pos, negsuc, ◌+◌, ◌&&◌, nat_le, List, [], ◌∷◌, length, map, Option, Some, None, if◌then◌else◌}
use Rattle.nv_value.specs.Content.{text}
use Rattle.nv_args.specs.Faults.{limit_reached}
use Rattle.nv_args.specs.Reading.{Arg, string_at}
use Rattle.nv_model.specs.Stage.{Stage}
use Rattle.nv_model.specs.Seen.{Seen}
use Rattle.nv_model.specs.Operations.{namespace_made}
use Rattle.nv_model.specs.Answers.{Answer, replied, unless}
use Rattle.nv_model.specs.Answering.{reply_of, natural, dict_of}
use Rattle.nv_editor.specs.Namespaces.{id_of_name, named_namespaces}

-- the id of a namespace by its name; none has the empty name
abbrev pub namespace_named : List ℕ → Stage → Option ℕ
namespace_named name stage = id_of_name name stage.namespaces

-- a number that was given to a namespace (own rule: another one is out of bounds)
abbrev pub namespace_of_id : Stage → ℤ → Option ℕ
namespace_of_id stage (pos ns) =
    if nat_le 1 ns && nat_le ns (length stage.namespaces) then Some ns else None
namespace_of_id stage (negsuc n) = None

-- the next namespace
abbrev pub new_namespace_answer : Stage → List ℕ → Answer
new_namespace_answer stage name =
    unless ((nat_le stage.limits.namespaces (length stage.namespaces), limit_reached) ∷ [])
    (replied (natural (length stage.namespaces + 1)) (namespace_made name ∷ []) [])

abbrev pub namespace_answer : Stage → List ℕ → Option ℕ → Answer
namespace_answer stage name (Some ns) = reply_of (natural ns)
namespace_answer stage name None = new_namespace_answer stage name

-- nvim_create_namespace(name): the id of a known name, and else a new one, from 1
abbrev pub nvim_create_namespace : Seen → ℕ → List Arg → Answer
nvim_create_namespace s session args =
    namespace_answer s.stage (string_at args 0) (namespace_named (string_at args 0) s.stage)

-- nvim_get_namespaces(): the ids by their names
abbrev pub nvim_get_namespaces : Seen → ℕ → List Arg → Answer
nvim_get_namespaces s session args =
    reply_of (dict_of (map (λ entry. (text entry.0, natural entry.1))
    (named_namespaces 1 s.stage.namespaces)))
