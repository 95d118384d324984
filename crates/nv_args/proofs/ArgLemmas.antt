-- What arguments give at a place.
use Rattle.std.proofs.Common.{◌≡◌, ℕ, Bool, true, false, List, [], map, Option, refl, sym, ap, ◌∙◌}
use Rattle.std.specs.Prelude.{slice_get, option_map, unwrap_or}
use Rattle.nv_value.specs.Content.{Tree, Trees, nil}
use Rattle.nv_value.specs.View.{content}
use Rattle.nv_args.specs.declared.args.Args.{Args}
use Rattle.nv_args.specs.declared.kinds.Kind.{Kind as TypeKind}
use Rattle.nv_args.specs.Arguments.{truth_in, string_in, pairs_in}
use Rattle.nv_args.specs.Table.{Kind}
use Rattle.nv_args.specs.Kinds.{kind_of}
use Rattle.nv_args.specs.Methods.{kind_of_parameter}
use Rattle.nv_args.specs.Reading.{array_in, number_of, flag_of, string_of, values_of, pairs_of, object_of, number_at, flag_at, string_at, values_at, pairs_at, object_at}
use Rattle.nv_args.specs.Args.{typed_arguments}
use Rattle.nv_args.specs.inside.Held.{is_flag_kind, is_string_kind, is_list_kind, is_map_kind, is_any_kind}
use Rattle.nv_args.proofs.HeldLemmas.{held_there, held-there, no-flag, no-string, no-list, no-map, no-any, the-flag, the-string, the-list, the-map, the-any}

-- the kinds of the parameters, and the values
abbrev pub kinds_in : Args → List Kind
kinds_in args = map kind_of_parameter args.parameters.now

abbrev pub values_in : Args → List Tree
values_in args = map content args.values.now

-- the argument at a place, by the kind and the value there
pub there : (args : Args) (place : ℕ) (o : Option Kind) (t : Option Tree)
    → o ≡ slice_get (kinds_in args) place → t ≡ slice_get (values_in args) place
    → held_there o t ≡ slice_get (typed_arguments args) place
unfolding typed_arguments
there args place o t kind value =
    ap (λ (k : Option Kind). held_there k t) kind
    ∙ ap (held_there (slice_get (kinds_in args) place)) value
    ∙ sym (held-there (kinds_in args) (values_in args) place)

-- the number at a place
pub number-there : (args : Args) (place : ℕ) (o : Option Kind) (t : Option Tree)
    → o ≡ slice_get (kinds_in args) place → t ≡ slice_get (values_in args) place
    → number_of (held_there o t) ≡ number_at (typed_arguments args) place
number-there args place o t kind value = ap number_of (there args place o t kind value)

-- what isn't of the kind
pub flag-absent : (args : Args) (place : ℕ) (k : Option TypeKind) (b : Bool)
    → option_map kind_of k ≡ slice_get (kinds_in args) place
    → b ≡ is_flag_kind (option_map kind_of k) → b ≡ false → false ≡ flag_at (typed_arguments args) place
flag-absent args place k b kind test against =
    sym (no-flag (option_map kind_of k) (slice_get (values_in args) place) (sym test ∙ against))
    ∙ ap flag_of (there args place (option_map kind_of k) _ kind refl)

-- what is
pub flag-there : (args : Args) (place : ℕ) (k : Option TypeKind) (b : Bool) (t : Option Tree)
    → option_map kind_of k ≡ slice_get (kinds_in args) place
    → b ≡ is_flag_kind (option_map kind_of k) → b ≡ true → t ≡ slice_get (values_in args) place
    → unwrap_or (truth_in (unwrap_or t nil)) false ≡ flag_at (typed_arguments args) place
flag-there args place k b t kind test holds value =
    sym (the-flag (option_map kind_of k) t (sym test ∙ holds))
    ∙ ap flag_of (there args place (option_map kind_of k) t kind value)

-- what isn't of the kind
pub string-absent : (args : Args) (place : ℕ) (k : Option TypeKind) (b : Bool)
    → option_map kind_of k ≡ slice_get (kinds_in args) place
    → b ≡ is_string_kind (option_map kind_of k) → b ≡ false → [] ≡ string_at (typed_arguments args) place
string-absent args place k b kind test against =
    sym (no-string (option_map kind_of k) (slice_get (values_in args) place) (sym test ∙ against))
    ∙ ap string_of (there args place (option_map kind_of k) _ kind refl)

-- what is
pub string-there : (args : Args) (place : ℕ) (k : Option TypeKind) (b : Bool) (t : Option Tree)
    → option_map kind_of k ≡ slice_get (kinds_in args) place
    → b ≡ is_string_kind (option_map kind_of k) → b ≡ true → t ≡ slice_get (values_in args) place
    → unwrap_or (string_in (unwrap_or t nil)) [] ≡ string_at (typed_arguments args) place
string-there args place k b t kind test holds value =
    sym (the-string (option_map kind_of k) t (sym test ∙ holds))
    ∙ ap string_of (there args place (option_map kind_of k) t kind value)

-- what isn't of the kind
pub list-absent : (args : Args) (place : ℕ) (k : Option TypeKind) (b : Bool)
    → option_map kind_of k ≡ slice_get (kinds_in args) place
    → b ≡ is_list_kind (option_map kind_of k) → b ≡ false → Trees.no_more ≡ values_at (typed_arguments args) place
list-absent args place k b kind test against =
    sym (no-list (option_map kind_of k) (slice_get (values_in args) place) (sym test ∙ against))
    ∙ ap values_of (there args place (option_map kind_of k) _ kind refl)

-- what is
pub list-there : (args : Args) (place : ℕ) (k : Option TypeKind) (b : Bool) (t : Option Tree)
    → option_map kind_of k ≡ slice_get (kinds_in args) place
    → b ≡ is_list_kind (option_map kind_of k) → b ≡ true → t ≡ slice_get (values_in args) place
    → unwrap_or (array_in (unwrap_or t nil)) Trees.no_more ≡ values_at (typed_arguments args) place
list-there args place k b t kind test holds value =
    sym (the-list (option_map kind_of k) t (sym test ∙ holds))
    ∙ ap values_of (there args place (option_map kind_of k) t kind value)

-- what isn't of the kind
pub map-absent : (args : Args) (place : ℕ) (k : Option TypeKind) (b : Bool)
    → option_map kind_of k ≡ slice_get (kinds_in args) place
    → b ≡ is_map_kind (option_map kind_of k) → b ≡ false → [] ≡ pairs_at (typed_arguments args) place
map-absent args place k b kind test against =
    sym (no-map (option_map kind_of k) (slice_get (values_in args) place) (sym test ∙ against))
    ∙ ap pairs_of (there args place (option_map kind_of k) _ kind refl)

-- what is
pub map-there : (args : Args) (place : ℕ) (k : Option TypeKind) (b : Bool) (t : Option Tree)
    → option_map kind_of k ≡ slice_get (kinds_in args) place
    → b ≡ is_map_kind (option_map kind_of k) → b ≡ true → t ≡ slice_get (values_in args) place
    → unwrap_or (pairs_in (unwrap_or t nil)) [] ≡ pairs_at (typed_arguments args) place
map-there args place k b t kind test holds value =
    sym (the-map (option_map kind_of k) t (sym test ∙ holds))
    ∙ ap pairs_of (there args place (option_map kind_of k) t kind value)

-- what isn't of the kind
pub any-absent : (args : Args) (place : ℕ) (k : Option TypeKind) (b : Bool)
    → option_map kind_of k ≡ slice_get (kinds_in args) place
    → b ≡ is_any_kind (option_map kind_of k) → b ≡ false → nil ≡ object_at (typed_arguments args) place
any-absent args place k b kind test against =
    sym (no-any (option_map kind_of k) (slice_get (values_in args) place) (sym test ∙ against))
    ∙ ap object_of (there args place (option_map kind_of k) _ kind refl)

-- what is
pub any-there : (args : Args) (place : ℕ) (k : Option TypeKind) (b : Bool) (t : Option Tree)
    → option_map kind_of k ≡ slice_get (kinds_in args) place
    → b ≡ is_any_kind (option_map kind_of k) → b ≡ true → t ≡ slice_get (values_in args) place
    → unwrap_or t nil ≡ object_at (typed_arguments args) place
any-there args place k b t kind test holds value =
    sym (the-any (option_map kind_of k) t (sym test ∙ holds))
    ∙ ap object_of (there args place (option_map kind_of k) t kind value)
