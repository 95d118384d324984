-- inside: what is answered of marks of a buffer, step by step.
use Rattle.std.specs.Prelude.{ℤ, List, [], ◌∷◌, codes, Option, false}
use Rattle.nv_value.specs.Content.{Tree}
use Rattle.nv_args.specs.Arguments.{last_pairs}
use Rattle.nv_args.specs.Dicts.{flag_key, flag_or}
use Rattle.nv_args.specs.Faults.{out_of_bounds}
use Rattle.nv_args.specs.Maps.{map_fault}
use Rattle.nv_args.specs.Reading.{Arg, number_at, pairs_at}
use Rattle.nv_marks.specs.declared.extmark.Mark.{Mark}
use Rattle.nv_model.specs.Answers.{Answer, or_refused}
use Rattle.nv_model.specs.Answering.{reply_of, fault_or, array_of}
use Rattle.nv_model.specs.Seen.{Seen, SeenBuffer}
use Rattle.nv_api_mark.specs.Namespaces.{namespace_of_id}
use Rattle.nv_api_mark.specs.MarkRows.{mark_numbered, place_values_if_any}

-- the place of one mark
abbrev pub place_told : Seen → ℤ → List (Tree × Tree) → Option Mark → Answer
place_told s n pairs found =
    reply_of (array_of (
    place_values_if_any s.stage n (flag_or false (codes "details") pairs) found))

-- one mark of a buffer, by the second and the third argument
abbrev pub numbered_answer : Seen → SeenBuffer → List Arg → (Option Mark → Answer) → Answer
numbered_answer s b args next =
    or_refused (namespace_of_id s.stage (number_at args 1)) out_of_bounds
    (λ ns. next (mark_numbered b ns (number_at args 2)))

abbrev pub by_id_answer : Seen → ℤ → SeenBuffer → List Arg → Answer
by_id_answer s n b args =
    fault_or (map_fault (flag_key (codes "details") ∷ []) (last_pairs (pairs_at args 3)))
    (numbered_answer s b args (place_told s n (last_pairs (pairs_at args 3))))
