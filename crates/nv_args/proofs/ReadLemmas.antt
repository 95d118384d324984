-- The reading of all arguments.
use Rattle.std.proofs.Common.{◌≡◌, ℕ, ◌+◌, ◌<◌, Bool, false, not, List, [], ◌∷◌, length, map, Some, None, Ok, Err, refl, sym, ap, ◌∙◌, arith}
use Rattle.std.proofs.lemmas.Bool.Decides.{nat_tests}
use Rattle.std.proofs.lemmas.List.{length-map}
use Rattle.std.specs.Borrow.{Bor}
use Rattle.std.specs.Prelude.{◌==◌, get_or, slice_get}
use Rattle.nv_value.specs.Content.{Tree}
use Rattle.nv_value.specs.View.{content}
use Rattle.nv_value.specs.declared.value.Value.{Value}
use Rattle.nv_args.specs.declared.signatures.Parameter.{Parameter as Taken}
use Rattle.nv_args.specs.declared.signatures.Signature.{Signature as Told}
use Rattle.nv_args.specs.Arguments.{refuse}
use Rattle.nv_args.specs.Faults.{wrong_count, wrong_type}
use Rattle.nv_args.specs.Table.{Kind, Parameter, Signature, type_name}
use Rattle.nv_args.specs.Methods.{kind_of_parameter, parameter_of, signature_of}
use Rattle.nv_args.specs.Reading.{read, read_from}
use Rattle.nv_args.specs.Args.{typed_arguments}
use Rattle.nv_args.specs.inside.Held.{args_held, first_wrong}
use Rattle.nv_args.proofs.HeldLemmas.{read-all, read-wrong}
use Rattle.nv_args.proofs.KindLemmas.{map-there}

same-count : (a b : ℕ) → a ≡ b → not (a == b) ≡ false
same-count a b e = grind (arith, nat_tests)

-- the kinds of parameters
kinds_are : (taken : List Taken) → map (λ p. p.kind) (map parameter_of taken) ≡ map kind_of_parameter taken
kinds_are [] = refl
kinds_are (t ∷ taken) = ap (λ (ks : List Kind). kind_of_parameter t ∷ ks) (kinds_are taken)

-- as many values as parameters are read one by one
read-one_by_one : (s : Signature) (given : List Tree) → length given ≡ length s.parameters
    → read s given ≡ read_from 1 s.name s.parameters given
read-one_by_one s given many =
    ap (λ (b : Bool). refuse b (wrong_count (length s.parameters) (length given)) (read_from 1 s.name s.parameters given))
    (same-count (length given) (length s.parameters) many)

-- the first value that isn't of its kind is refused
pub read-refused : (s : Told) (given : List Tree) (place n : ℕ) (d : Taken) (told : List ℕ)
    → length given ≡ length s.parameters.now
    → Some place ≡ first_wrong (map kind_of_parameter s.parameters.now) given
    → place < length s.parameters.now → n ≡ place + 1
    → told ≡ type_name (kind_of_parameter (get_or s.parameters.now place d))
    → read (signature_of s) given ≡ Err (wrong_type n s.name.now told)
read-refused s given place n d told many found within number type_is =
    let f : Parameter → Kind = λ p. p.kind in
    let taken : List Taken = s.parameters.now in
    let are : map f (map parameter_of taken) ≡ map kind_of_parameter taken = kinds_are taken in
    let kind : Kind = kind_of_parameter (get_or taken place d) in
    let count : length given ≡ length (map parameter_of taken) = many ∙ sym (length-map taken parameter_of) in
    let wrong : first_wrong (map f (map parameter_of taken)) given ≡ Some place =
    ap (λ (ks : List Kind). first_wrong ks given) are ∙ sym found in
    let there : slice_get (map f (map parameter_of taken)) place ≡ Some kind =
    ap (λ (ks : List Kind). slice_get ks place) are ∙ map-there kind_of_parameter taken place d within in
    let number_is : n ≡ 1 + place = omega arith in
    read-one_by_one (signature_of s) given count
    ∙ read-wrong 1 n s.name.now (map parameter_of taken) given place kind number_is wrong there
    ∙ ap (λ (w : List ℕ). Err (wrong_type n s.name.now w)) (sym type_is)

-- and where all are, they are the arguments
pub read-accepted : (s : Told) (values : Bor (List Value))
    → length (map content values.now) ≡ length s.parameters.now
    → None ≡ first_wrong (map kind_of_parameter s.parameters.now) (map content values.now)
    → read (signature_of s) (map content values.now) ≡ Ok (typed_arguments (record { parameters = s.parameters; values = values }))
unfolding typed_arguments
read-accepted s values many found =
    let f : Parameter → Kind = λ p. p.kind in
    let taken : List Taken = s.parameters.now in
    let given : List Tree = map content values.now in
    let are : map f (map parameter_of taken) ≡ map kind_of_parameter taken = kinds_are taken in
    let count : length given ≡ length (map parameter_of taken) = many ∙ sym (length-map taken parameter_of) in
    let wrong : first_wrong (map f (map parameter_of taken)) given ≡ None =
    ap (λ (ks : List Kind). first_wrong ks given) are ∙ sym found in
    read-one_by_one (signature_of s) given count
    ∙ read-all 1 s.name.now (map parameter_of taken) given count wrong
    ∙ ap (λ (ks : List Kind). Ok (args_held ks given)) are
