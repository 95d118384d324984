-- What is answered of a mark that is to be set.
use Rattle.std.proofs.Common.{◌≡◌, ◌∙◌, ap, ℕ, ℤ, true, List, Option, Some, codes}
use Rattle.nv_value.specs.Content.{Tree}
use Rattle.nv_places.specs.declared.place.Pos.{Pos}
use Rattle.nv_args.specs.Dicts.{flag_or}
use Rattle.nv_args.specs.Faults.{out_of_bounds}
use Rattle.nv_args.specs.Reading.{Arg, number_at}
use Rattle.nv_model.specs.Answers.{or_refused}
use Rattle.nv_model.specs.Seen.{Seen, SeenBuffer}
use Rattle.nv_api_mark.specs.Namespaces.{namespace_of_id}
use Rattle.nv_api_mark.specs.MarkRows.{mark_answer}
use Rattle.nv_api_mark.specs.Setting.{place_by_numbers}
use Rattle.nv_api_mark.specs.inside.Marking.{placed_answer, unkeyed_answer, with_end}

-- its namespace and its start were found
pub start_found : (s : Seen) (n : ℤ) (b : SeenBuffer) (args : List Arg) (pairs : List (Tree × Tree)) (ns : ℕ) (start : Pos) (lines : List (List ℕ))
    → namespace_of_id s.stage (number_at args 1) ≡ Some ns
    → place_by_numbers (flag_or true (codes "strict") pairs) b.lines (number_at args 2) (number_at args 3) ≡ Some start
    → b.lines ≡ lines
    → unkeyed_answer s n b args pairs ≡ with_end lines start pairs (λ stop. mark_answer s n b ns start stop pairs)
start_found s n b args pairs ns start lines known placed same =
    ap (λ (o : Option ℕ). or_refused o out_of_bounds (λ ns. or_refused (place_by_numbers (flag_or true (codes "strict") pairs) b.lines (number_at args 2) (number_at args 3)) out_of_bounds (placed_answer s n b pairs ns))) known
    ∙ ap (λ (o : Option Pos). or_refused o out_of_bounds (placed_answer s n b pairs ns)) placed
    ∙ ap (λ (t : List (List ℕ)). with_end t start pairs (λ stop. mark_answer s n b ns start stop pairs)) same
