-- Lemmas on the strings of values.
use Rattle.std.proofs.Common.{◌≡◌, ℕ, List, [], ◌∷◌, map, Option, Some, None, refl, ap, ◌∙◌}
use Rattle.nv_value.specs.View.{content, contents}
use Rattle.nv_value.specs.declared.value.Value.{Value}
use Rattle.nv_args.specs.Arguments.{string_in, strings_in, with_string}
use Rattle.nv_api_buf.specs.inside.Parts.{texts_of}
use Rattle.std.specs.Prelude.{unwrap_or}

-- where all values are strings, they are these
one-more : (s : Option (List ℕ)) (o : Option (List (List ℕ))) (texts all : List (List ℕ))
    → ((more : List (List ℕ)) → o ≡ Some more → texts ≡ more) → with_string s o ≡ Some all
    → unwrap_or s [] ∷ texts ≡ all
one-more None o texts all rest e = cc
one-more (Some s) None texts all rest e = cc
one-more (Some s) (Some more) texts all rest e =
    let same : s ∷ more ≡ all = cc in
    ap (λ (ts : List (List ℕ)). s ∷ ts) (rest more refl) ∙ same

pub texts-are : (values : List Value) (all : List (List ℕ)) → strings_in (contents values) ≡ Some all
    → texts_of (map content values) ≡ all
texts-are [] all e = cc
texts-are (v ∷ values) all e =
    one-more (string_in (content v)) (strings_in (contents values)) (texts_of (map content values)) all
    (λ more is. texts-are values more is) e
