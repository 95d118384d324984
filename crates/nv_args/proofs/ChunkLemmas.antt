-- Lemmas on the parts of a virtual text.
use Rattle.std.proofs.Common.{◌≡◌, ℕ, Bool, true, false, ◌&&◌, List, [], ◌∷◌, ◌++◌, map, Option, Some, None, refl, sym, ap, ◌∙◌}
use Rattle.std.specs.Prelude.{is_some, flat_map, option_and_then, option_to_list}
use Rattle.std.specs.Option.{option_map_or}
use Rattle.std.specs.List.{list_all}
use Rattle.nv_value.specs.Content.{Tree, list}
use Rattle.nv_value.specs.View.{content, contents}
use Rattle.nv_value.specs.declared.value.Value.{Value}
use Rattle.nv_args.specs.Arguments.{tree_list}
use Rattle.nv_args.specs.Chunks.{GivenChunk, chunk_among, chunk_in, names_of_chunks, takes_chunks}
use Rattle.nv_args.specs.Naming.{is_group_name, names_groups}
use Rattle.nv_args.specs.inside.Parts.{names_group_of}
use Rattle.nv_args.proofs.KindLemmas.{tree_list-contents}

-- a list as a part
pub list_as_chunk : (t : Tree) (values : List Value) → t ≡ list (contents values) → chunk_among (map content values) ≡ chunk_in t
list_as_chunk t values is = ap chunk_among (sym (tree_list-contents values)) ∙ ap chunk_in (sym is)

-- a list of parts
pub list_of_chunks : (t : Tree) (values : List Value) (b : Bool) → t ≡ list (contents values)
    → b ≡ list_all (λ u. is_some (chunk_in u)) (map content values) → b ≡ takes_chunks t
list_of_chunks t values b is e =
    e ∙ ap (list_all (λ u. is_some (chunk_in u))) (sym (tree_list-contents values)) ∙ ap takes_chunks (sym is)

-- the names of groups among parts
names_one : (o : Option GivenChunk) (rest : List GivenChunk) (b : Bool) → b ≡ list_all is_group_name (names_of_chunks rest)
    → (option_map_or is_group_name (option_and_then (λ c. c.1) o) true && b) ≡ list_all is_group_name (names_of_chunks (option_to_list o ++ rest))
names_one None rest b e = e
names_one (Some (text, None)) rest b e = e
names_one (Some (text, Some name)) rest b e = ap (λ t. is_group_name name && t) e

names_all : (ts : List Tree)
    → list_all names_group_of ts ≡ list_all is_group_name (names_of_chunks (flat_map (λ t. option_to_list (chunk_in t)) ts))
names_all [] = refl
names_all (t ∷ ts) = names_one (chunk_in t) (flat_map (λ u. option_to_list (chunk_in u)) ts) (list_all names_group_of ts) (names_all ts)

pub list_names : (t : Tree) (values : List Value) (b : Bool) → t ≡ list (contents values)
    → b ≡ list_all names_group_of (map content values) → b ≡ names_groups t
list_names t values b is e =
    e ∙ ap (list_all names_group_of) (sym (tree_list-contents values))
    ∙ names_all (tree_list (contents values))
    ∙ ap names_groups (sym is)
