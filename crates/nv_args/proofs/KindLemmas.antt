-- Values by the kinds of parameters.
use Rattle.std.proofs.Common.{◌≡◌, ℕ, zero, suc, ◌+◌, ◌<◌, Bool, true, false, ◌&&◌, cond, List, [], ◌∷◌, length, map, drop, Option, Some, None, refl, sym, ap, ◌∙◌, arith}
use Rattle.std.proofs.lemmas.Bool.Decides.{nat_tests}
use Rattle.std.specs.Prelude.{◌==◌, get_or, slice_get, is_some, option_map, option_and_then, unwrap_or}
use Rattle.std.specs.List.{list_all}
use Rattle.nv_value.specs.Content.{Tree, Trees, list}
use Rattle.nv_value.specs.View.{content, contents}
use Rattle.nv_value.specs.declared.value.Value.{Value}
use Rattle.nv_args.specs.declared.signatures.Parameter.{Parameter as Taken}
use Rattle.nv_args.specs.Arguments.{tree_list, string_in, strings_in, with_string, pairs_in}
use Rattle.nv_args.specs.Methods.{kind_of_parameter}
use Rattle.nv_args.specs.Reading.{list_arg, array_in, values_passing, arg_of}
use Rattle.nv_args.specs.inside.Held.{first_wrong}

-- a list is a Dict where it is empty
pub dict-list : (t : Tree) (values : List Value) (n : ℕ) (b : Bool) → t ≡ list (contents values)
    → n ≡ length values → b ≡ (n == 0) → b ≡ is_some (pairs_in t)
dict-list t [] n b is count e = e ∙ ap (λ (m : ℕ). m == 0) count ∙ ap (λ (u : Tree). is_some (pairs_in u)) (sym is)
dict-list t (v ∷ values) n b is count e =
    let none : (length (v ∷ values) == 0) ≡ false = grind (arith, nat_tests) in
    e ∙ ap (λ (m : ℕ). m == 0) count ∙ none ∙ ap (λ (u : Tree). is_some (pairs_in u)) (sym is)

-- the trees of values, one by one
pub tree_list-contents : (values : List Value) → tree_list (contents values) ≡ map content values
tree_list-contents [] = refl
tree_list-contents (v ∷ values) = ap (λ (ts : List Tree). content v ∷ ts) (tree_list-contents values)

some-list : (b : Bool) (ts : Trees) → b ≡ is_some (option_map list_arg (cond b (Some ts) None))
some-list true ts = refl
some-list false ts = refl

-- a list whose values pass
pub list-passing : (test : List Tree → Bool) (t : Tree) (values : List Value) (b : Bool)
    → t ≡ list (contents values) → b ≡ test (map content values)
    → b ≡ is_some (option_map list_arg (option_and_then (values_passing test) (array_in t)))
list-passing test t values b is e =
    e
    ∙ ap test (sym (tree_list-contents values))
    ∙ some-list (test (tree_list (contents values))) (contents values)
    ∙ ap (λ (u : Tree). is_some (option_map list_arg (option_and_then (values_passing test) (array_in u)))) (sym is)

-- strings, where all values are
with-all : (s : Option (List ℕ)) (b : Bool) (o : Option (List (List ℕ)))
    → (b ≡ true → o ≡ Some (unwrap_or o [])) → (is_some s && b) ≡ true
    → with_string s o ≡ Some (unwrap_or (with_string s o) [])
with-all None b o rest e = cc
with-all (Some s) false o rest e = cc
with-all (Some s) true (Some strings) rest e = refl
with-all (Some s) true None rest e = let no : None ≡ Some [] = rest refl in cc

pub all-strings : (values : List Value) (b : Bool)
    → b ≡ list_all (λ t. is_some (string_in t)) (map content values) → b ≡ true
    → strings_in (contents values) ≡ Some (unwrap_or (strings_in (contents values)) [])
all-strings [] b is holds = refl
all-strings (v ∷ values) b is holds =
    with-all (string_in (content v)) (list_all (λ t. is_some (string_in t)) (map content values)) (strings_in (contents values))
    (λ e. all-strings values _ refl e) (sym is ∙ holds)

-- and none, where one isn't
with-none : (s : Option (List ℕ)) (b : Bool) (o : Option (List (List ℕ)))
    → (b ≡ false → o ≡ None) → (is_some s && b) ≡ false → with_string s o ≡ None
with-none None b o rest e = refl
with-none (Some s) false o rest e = ap (with_string (Some s)) (rest refl)
with-none (Some s) true o rest e = cc

pub not-all-strings : (values : List Value) (b : Bool)
    → b ≡ list_all (λ t. is_some (string_in t)) (map content values) → b ≡ false
    → strings_in (contents values) ≡ None
not-all-strings [] b is fails = cc
not-all-strings (v ∷ values) b is fails =
    with-none (string_in (content v)) (list_all (λ t. is_some (string_in t)) (map content values)) (strings_in (contents values))
    (λ e. not-all-strings values _ refl e) (sym is ∙ fails)

-- what stands at a place of a list that was mapped
pub map-there : {X Y : Type 0} (f : X → Y) (xs : List X) (place : ℕ) (d : X) → place < length xs
    → slice_get (map f xs) place ≡ Some (f (get_or xs place d))
map-there f [] place d within = absurd (omega arith)
map-there f (x ∷ xs) zero d within = refl
map-there f (x ∷ xs) (suc place) d within = map-there f xs place d (omega arith)

-- the first wrong value from a place on
wrong-step : (taken : List Taken) (values : List Value) (place : ℕ) (d : Taken) (v : Value)
    → place < length taken → place < length values → v ≡ get_or values place v
    → first_wrong (drop place (map kind_of_parameter taken)) (drop place (map content values))
    ≡ cond (is_some (arg_of (kind_of_parameter (get_or taken place d)) (content v)))
    (option_map (λ n. suc n) (first_wrong (drop (suc place) (map kind_of_parameter taken)) (drop (suc place) (map content values))))
    (Some 0)
wrong-step [] values place d v a b is = absurd (omega arith)
wrong-step (k ∷ taken) [] place d v a b is = absurd (omega arith)
wrong-step (k ∷ taken) (x ∷ values) zero d v a b is =
    ap (λ (u : Value). cond (is_some (arg_of (kind_of_parameter k) (content u)))
    (option_map (λ n. suc n) (first_wrong (map kind_of_parameter taken) (map content values))) (Some 0)) (sym is)
wrong-step (k ∷ taken) (x ∷ values) (suc place) d v a b is =
    wrong-step taken values place d v (omega arith) (omega arith) is

-- it stands there
pub wrong-here : (taken : List Taken) (values : List Value) (place : ℕ) (d : Taken) (v : Value)
    (b : Bool) (all : Option ℕ) → place < length taken → place < length values
    → v ≡ get_or values place v → b ≡ is_some (arg_of (kind_of_parameter (get_or taken place d)) (content v))
    → b ≡ false
    → all ≡ option_map (λ n. place + n) (first_wrong (drop place (map kind_of_parameter taken)) (drop place (map content values)))
    → Some place ≡ all
wrong-here taken values place d v b all a h is test fails so_far =
    let next = first_wrong (drop (suc place) (map kind_of_parameter taken)) (drop (suc place) (map content values)) in
    let here : is_some (arg_of (kind_of_parameter (get_or taken place d)) (content v)) ≡ false = sym test ∙ fails in
    let found : first_wrong (drop place (map kind_of_parameter taken)) (drop place (map content values)) ≡ Some 0 =
    wrong-step taken values place d v a h is
    ∙ ap (λ (t : Bool). cond t (option_map (λ n. suc n) next) (Some 0)) here in
    let number : place ≡ place + 0 = omega arith in
    ap Some number ∙ sym (so_far ∙ ap (option_map (λ n. place + n)) found)

-- or behind it
pub wrong-behind : (taken : List Taken) (values : List Value) (place m : ℕ) (d : Taken) (v : Value)
    (b : Bool) (all : Option ℕ) → place < length taken → place < length values
    → v ≡ get_or values place v → b ≡ is_some (arg_of (kind_of_parameter (get_or taken place d)) (content v))
    → b ≡ true → m ≡ suc place
    → all ≡ option_map (λ n. place + n) (first_wrong (drop place (map kind_of_parameter taken)) (drop place (map content values)))
    → all ≡ option_map (λ n. m + n) (first_wrong (drop m (map kind_of_parameter taken)) (drop m (map content values)))
wrong-behind taken values place m d v b all a h is test passes next_is so_far =
    let rest : ℕ → Option ℕ = λ k. first_wrong (drop k (map kind_of_parameter taken)) (drop k (map content values)) in
    let here : is_some (arg_of (kind_of_parameter (get_or taken place d)) (content v)) ≡ true = sym test ∙ passes in
    let found : rest place ≡ option_map (λ n. suc n) (rest (suc place)) =
    wrong-step taken values place d v a h is
    ∙ ap (λ (t : Bool). cond t (option_map (λ n. suc n) (rest (suc place))) (Some 0)) here in
    so_far
    ∙ ap (option_map (λ n. place + n)) found
    ∙ shifted (rest (suc place))
    ∙ ap (λ (k : ℕ). option_map (λ n. k + n) (rest k)) (sym next_is)
  where
    shifted : (o : Option ℕ) → option_map (λ n. place + n) (option_map (λ n. suc n) o) ≡ option_map (λ n. suc place + n) o
    shifted None = refl
    shifted (Some n) = let e : place + suc n ≡ suc place + n = omega arith in ap Some e
