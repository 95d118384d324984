use Rattle.std.proofs.Common.{◌≡◌, ◌∙◌, ◌++◌, ◌∷◌, [], List, Option, None, Some, ℕ, ap, append-nil, map, option_map, rules, subst, sym}
use Rattle.std.specs.Prelude.{option_to_list}
use Rattle.nv_places.specs.Flat.{IsLine}
use Rattle.nv_value.specs.View.{content}
use Rattle.nv_args.specs.Chunks.{GivenChunk, chunk_in}
use Rattle.nv_args.specs.inside.Parts.{part_lent}
use Rattle.nv_api_mark.specs.Setting.{chunk_with}
use Rattle.nv_api_mark.proofs.Parts.{line_of_part}
use Rattle.nv_api_mark.proofs.painting.push_chunk.Goals as goal

pub from_vec-requires : goal.from_vec-requires
from_vec-requires c =
    let given = c.in-Some.given in
    let found : chunk_in (content c.args.item.now) ≡ Some (part_lent given) = sym c.chunk_in.ensures ∙ ap (option_map part_lent) c.in-Some.is in
    let same : c.in_ok-from_slice.field-0.items ≡ given.text.now = search rules in
    subst IsLine (sym same) (line_of_part (content c.args.item.now) (part_lent given) found c.requires)

pub returns-in_default : goal.returns-in_default
returns-in_default c =
    let gs = c.args.groups.now in
    let olds = c.args.chunks.now.items in
    let none : chunk_in (content c.args.item.now) ≡ None = sym c.chunk_in.ensures ∙ ap (option_map part_lent) c.in_default.is in
    sym (append-nil olds) ∙ ap (λ (o : Option GivenChunk). olds ++ map (chunk_with gs) (option_to_list o)) (sym none)

pub returns : goal.returns
returns c =
    let gs = c.args.groups.now in
    let olds = c.args.chunks.now.items in
    let given = c.in-Some.given in
    let found : chunk_in (content c.args.item.now) ≡ Some (part_lent given) = sym c.chunk_in.ensures ∙ ap (option_map part_lent) c.in-Some.is in
    let bytes : c.in_ok-text.text ≡ given.text.now = search rules in
    c.in_ok-push.ensures.items
    ∙ (λ i. olds ++ record { text = bytes i; group = c.id_of_group.ensures i } ∷ [])
    ∙ ap (λ (o : Option GivenChunk). olds ++ map (chunk_with gs) (option_to_list o)) (sym found)
