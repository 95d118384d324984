-- A name is looked for among the names of its length.
use Rattle.std.proofs.Common.{◌≡◌, ◌≢◌, ℕ, zero, suc, ◌<◌, ◌≤◌, Bool, true, false, ◌&&◌, ◌||◌, cond, List, [], ◌∷◌, length, map, drop, get_or, Option, Some, None, refl, sym, ap, ◌∙◌, arith}
use Rattle.std.specs.Borrow.{Bor}
use Rattle.std.specs.Prelude.{◌==◌, nat_lt, bytes_eq, slice_get, option_map, IfSome}
use Rattle.std.specs.Option.{option_or}
use Rattle.std.specs.List.{filter, find, list_any, list_all}
use Rattle.std.proofs.lemmas.Bool.{false≢true}
use Rattle.std.proofs.lemmas.Bool.Decides.{nat_tests}
use Rattle.std.proofs.lemmas.List.{length-map}
use Rattle.std.proofs.lemmas.Slice.Eq.{bytes_eq-Decides}
use Rattle.nv_args.specs.declared.signatures.Signature.{Signature as Told}
use Rattle.nv_args.specs.Methods.{IsBrief, parameter_of, signature_of}
use Rattle.nv_args.specs.Table.{Signature, method_named, other_names, signature_among, table}
use Rattle.nv_args.specs.inside.Lookup.{of_length}
use Rattle.nv_args.proofs.KindLemmas.{map-there}

-- parts of a test
pub first-of : (a b : Bool) → (a && b) ≡ true → a ≡ true
first-of true b e = refl
first-of false b e = e

pub second-of : (a b : Bool) → (a && b) ≡ true → b ≡ true
second-of true b e = e
second-of false b e = absurd (false≢true e)

-- what a test finds stands among what passes another, where what passes the one passes the other
find-filter : {X : Type 0} (test p : X → Bool) → ((x : X) → test x ≡ true → p x ≡ true) → (xs : List X)
    → find test (filter p xs) ≡ find test xs
find-filter test p passes [] = refl
find-filter {X} test p passes (x ∷ xs) =
    by (test x) (p x) refl (passes x) (filter p xs) (find-filter test p passes xs)
  where
    by : (t q : Bool) → test x ≡ t → (t ≡ true → q ≡ true) → (ys : List X) → find test ys ≡ find test xs
        → find test (cond q (x ∷ ys) ys) ≡ cond t (Some x) (find test xs)
    by true true e h ys rest = ap (λ (b : Bool). cond b (Some x) (find test ys)) e
    by true false e h ys rest = absurd (false≢true (h refl))
    by false true e h ys rest = ap (λ (b : Bool). cond b (Some x) (find test ys)) e ∙ rest
    by false false e h ys rest = rest

-- a name is as long as one that it equals
as_long : (name : List ℕ) (signature : Signature) → bytes_eq name signature.name ≡ true
    → (length signature.name == length name) ≡ true
as_long name signature e =
    let same : name ≡ signature.name = (bytes_eq-Decides name signature.name).0 e in
    let count : length signature.name ≡ length name = ap (length {A = ℕ}) (sym same) in
    grind (arith, nat_tests, count)

-- so it is looked for among those of its length
pub among_length : (name : List ℕ) (signatures : List Signature)
    → signature_among name (of_length (length name) signatures) ≡ signature_among name signatures
unfolding of_length
among_length name signatures =
    find-filter (λ s. bytes_eq name s.name) (λ s. length s.name == length name) (as_long name) signatures

-- what is got lies within
got_within : {X : Type 0} (xs : List X) (k : ℕ) (y : X) → slice_get xs k ≡ Some y → k < length xs
got_within [] k y e = cc
got_within (z ∷ xs) zero y e = omega arith
got_within (z ∷ xs) (suc k) y e = omega (arith, got_within xs k y e)

-- places at which some things stand lie within
at_place_within : {X : Type 0} (all found : List X) (places : List ℕ) (i place : ℕ)
    → map (slice_get all) places ≡ map Some found → i < length places → place ≡ get_or places i 0
    → place < length all
at_place_within all [] [] i place are within is = absurd (omega arith)
at_place_within all (x ∷ found) [] i place are within is = absurd (omega arith)
at_place_within all [] (p ∷ places) i place are within is = cc
at_place_within all (x ∷ found) (p ∷ places) zero place are within is =
    let there : slice_get all place ≡ Some x = cc in got_within all place x there
at_place_within all (x ∷ found) (p ∷ places) (suc i) place are within is =
    let rest : map (slice_get all) places ≡ map Some found = cc in
    at_place_within all found places i place rest (omega arith) is

-- what stands there is the next of them
at_place : {X : Type 0} (all found : List X) (places : List ℕ) (i place : ℕ) (y : X)
    → map (slice_get all) places ≡ map Some found → i < length places → place ≡ get_or places i 0
    → slice_get all place ≡ Some y → drop i found ≡ y ∷ drop (suc i) found
at_place all [] [] i place y are within is there = absurd (omega arith)
at_place all (x ∷ found) [] i place y are within is there = absurd (omega arith)
at_place all [] (p ∷ places) i place y are within is there = cc
at_place {X} all (x ∷ found) (p ∷ places) zero place y are within is there =
    let same : x ≡ y = cc in ap (λ (z : X). z ∷ found) same
at_place all (x ∷ found) (p ∷ places) (suc i) place y are within is there =
    let rest : map (slice_get all) places ≡ map Some found = cc in
    at_place all found places i place y rest (omega arith) is there

-- as many things as places
as_many : {X : Type 0} (all found : List X) (places : List ℕ)
    → map (slice_get all) places ≡ map Some found → length found ≡ length places
as_many all [] [] are = refl
as_many all (x ∷ found) [] are = cc
as_many all [] (p ∷ places) are = cc
as_many all (x ∷ found) (p ∷ places) are =
    let rest : map (slice_get all) places ≡ map Some found = cc in
    ap suc (as_many all found places rest)

drop-all : {X : Type 0} (xs : List X) (n : ℕ) → length xs ≤ n → drop n xs ≡ []
drop-all [] zero h = refl
drop-all [] (suc n) h = refl
drop-all (x ∷ xs) zero h = absurd (omega arith)
drop-all (x ∷ xs) (suc n) h = drop-all xs n (omega arith)

-- ---- names by their places, some of which were looked at

-- a place lies within the table
pub place_within : (name : List ℕ) (told : List Told) (places : List ℕ) (i place : ℕ)
    → map (slice_get (map signature_of told)) places ≡ map Some (of_length (length name) (map signature_of told))
    → i < length places → place ≡ get_or places i 0 → place < length told
place_within name told places i place are within is =
    let all = map signature_of told in
    let there : place < length all = at_place_within all (of_length (length name) all) places i place are within is in
    omega (arith, there, length-map told signature_of)

-- what is looked for from there on
next_is : (name bytes : List ℕ) (told : List Told) (places : List ℕ) (i place : ℕ) (d : Told) (test : Bool)
    → map (slice_get (map signature_of told)) places ≡ map Some (of_length (length name) (map signature_of told))
    → i < length places → place ≡ get_or places i 0 → bytes ≡ (get_or told place d).name.now → bytes_eq name bytes ≡ test
    → signature_among name (drop i (of_length (length name) (map signature_of told)))
    ≡ cond test (Some (signature_of (get_or told place d))) (signature_among name (drop (suc i) (of_length (length name) (map signature_of told))))
next_is name bytes told places i place d test are within is named same =
    let all = map signature_of told in
    let found = of_length (length name) all in
    let s : Signature = signature_of (get_or told place d) in
    let there : slice_get all place ≡ Some s = map-there signature_of told place d (place_within name told places i place are within is) in
    ap (signature_among name) (at_place all found places i place s are within is there)
    ∙ ap (λ (b : Bool). cond b (Some s) (signature_among name (drop (suc i) found))) (ap (bytes_eq name) (sym named) ∙ same)

-- the name stands at this place
pub found_at : (name bytes : List ℕ) (told : List Told) (places : List ℕ) (i place : ℕ) (d : Told)
    → map (slice_get (map signature_of told)) places ≡ map Some (of_length (length name) (map signature_of told))
    → i < length places → place ≡ get_or places i 0 → bytes ≡ (get_or told place d).name.now → bytes_eq name bytes ≡ true
    → signature_among name (drop i (of_length (length name) (map signature_of told))) ≡ signature_among name (map signature_of told)
    → Some (signature_of (get_or told place d)) ≡ signature_among name (map signature_of told)
found_at name bytes told places i place d are within is named same so_far =
    sym (next_is name bytes told places i place d true are within is named same) ∙ so_far

-- it doesn't
pub passed_at : (name bytes : List ℕ) (told : List Told) (places : List ℕ) (i m place : ℕ) (d : Told)
    → map (slice_get (map signature_of told)) places ≡ map Some (of_length (length name) (map signature_of told))
    → i < length places → place ≡ get_or places i 0 → bytes ≡ (get_or told place d).name.now → bytes_eq name bytes ≡ false → m ≡ suc i
    → signature_among name (drop i (of_length (length name) (map signature_of told))) ≡ signature_among name (map signature_of told)
    → signature_among name (drop m (of_length (length name) (map signature_of told))) ≡ signature_among name (map signature_of told)
passed_at name bytes told places i m place d are within is named same next so_far =
    ap (λ (k : ℕ). signature_among name (drop k (of_length (length name) (map signature_of told)))) next
    ∙ sym (next_is name bytes told places i place d false are within is named same) ∙ so_far

-- none is left
pub none_left : (name : List ℕ) (all : List Signature) (places : List ℕ) (i : ℕ)
    → map (slice_get all) places ≡ map Some (of_length (length name) all) → length places ≤ i
    → signature_among name (drop i (of_length (length name) all)) ≡ signature_among name all
    → None ≡ signature_among name all
none_left name all places i are end so_far =
    let found = of_length (length name) all in
    let count : length found ≡ length places = as_many all found places are in
    sym (ap (signature_among name) (drop-all found i (omega arith))) ∙ so_far

-- ---- lengths that no name has

none_by : (lengths : List ℕ) (count : ℕ) → list_any (λ n. n == count) lengths ≡ false
    → (signatures : List Signature) → list_all (λ s. list_any (λ n. n == length s.name) lengths) signatures ≡ true
    → of_length count signatures ≡ []
unfolding of_length
none_by lengths count none [] all = refl
none_by lengths count none (s ∷ signatures) all =
    by (length s.name == count) refl
    (none_by lengths count none signatures
    (second-of (list_any (λ n. n == length s.name) lengths) (list_all (λ s. list_any (λ n. n == length s.name) lengths) signatures) all))
  where
    by : (b : Bool) → (length s.name == count) ≡ b → filter (λ t. length t.name == count) signatures ≡ []
        → cond b (s ∷ filter (λ t. length t.name == count) signatures) (filter (λ t. length t.name == count) signatures) ≡ []
    by false e h = h
    by true e h =
        let same : length s.name ≡ count = grind (arith, nat_tests, e) in
        let there : list_any (λ n. n == length s.name) lengths ≡ true =
        first-of (list_any (λ n. n == length s.name) lengths) (list_all (λ t. list_any (λ n. n == length t.name) lengths) signatures) all in
        absurd (false≢true (sym none ∙ ap (λ (k : ℕ). list_any (λ n. n == k) lengths) (sym same) ∙ there))

-- the lengths of the table's names
abbrev pub lengths : List ℕ
lengths = 11 ∷ 12 ∷ 13 ∷ 14 ∷ 15 ∷ 16 ∷ 17 ∷ 18 ∷ 19 ∷ 20 ∷ 21 ∷ 22 ∷ 23 ∷ 24 ∷ 26 ∷ []

all_lengths : list_all (λ s. list_any (λ n. n == length s.name) lengths) table ≡ true
all_lengths = refl

pub none_of_length : (count : ℕ) → list_any (λ n. n == count) lengths ≡ false → of_length count table ≡ []
none_of_length count none = none_by lengths count none table all_lengths

-- tests of numbers that differ
pub neither : (a b : Bool) → a ≡ false → b ≡ false → (a || b) ≡ false
neither true b e f = absurd (false≢true (sym e))
neither false b e f = f

pub not_same : (n count : ℕ) → count ≢ n → (n == count) ≡ false
not_same n count apart = grind (arith, nat_tests, apart)

-- ---- the signature that was found

found_passes : {X : Type 0} (test p : X → Bool) (xs : List X) (x : X) → list_all p xs ≡ true
    → find test xs ≡ Some x → p x ≡ true
found_passes test p [] x all e = cc
found_passes {X} test p (y ∷ xs) x all e =
    by (test y) (first-of (p y) (list_all p xs) all) (λ f. found_passes test p xs x (second-of (p y) (list_all p xs) all) f) e
  where
    by : (t : Bool) → p y ≡ true → (find test xs ≡ Some x → p x ≡ true) → cond t (Some y) (find test xs) ≡ Some x → p x ≡ true
    by true h rest f = let same : y ≡ x = cc in ap p (sym same) ∙ h
    by false h rest f = rest f

-- a name that both tables are asked for is found in one of them
pub named_passes : (p : Signature → Bool) (name : List ℕ) (s : Signature) → list_all p table ≡ true
    → list_all p other_names ≡ true → method_named name ≡ Some s → p s ≡ true
named_passes p name s first more e =
    by (signature_among name table) (signature_among name other_names)
    (λ f. found_passes (λ t. bytes_eq name t.name) p table s first f)
    (λ f. found_passes (λ t. bytes_eq name t.name) p other_names s more f) e
  where
    by : (o q : Option Signature) → (o ≡ Some s → p s ≡ true) → (q ≡ Some s → p s ≡ true)
        → option_or o q ≡ Some s → p s ≡ true
    by None q g h f = h f
    by (Some t) q g h f = g f

-- and has that name
found_test : {X : Type 0} (test : X → Bool) (xs : List X) (x : X) → find test xs ≡ Some x → test x ≡ true
found_test test [] x e = cc
found_test {X} test (y ∷ xs) x e = by (test y) refl (λ f. found_test test xs x f) e
  where
    by : (t : Bool) → test y ≡ t → (find test xs ≡ Some x → test x ≡ true) → cond t (Some y) (find test xs) ≡ Some x → test x ≡ true
    by true is rest f = let same : y ≡ x = cc in ap test (sym same) ∙ is
    by false is rest f = rest f

pub named_same : (name : List ℕ) (s : Signature) → method_named name ≡ Some s → name ≡ s.name
named_same name s e =
    let test : bytes_eq name s.name ≡ true =
    by (signature_among name table) (signature_among name other_names)
    (found_test (λ t. bytes_eq name t.name) table s) (found_test (λ t. bytes_eq name t.name) other_names s) e in
    (bytes_eq-Decides name s.name).0 test
  where
    by : (o q : Option Signature) → (o ≡ Some s → bytes_eq name s.name ≡ true) → (q ≡ Some s → bytes_eq name s.name ≡ true)
        → option_or o q ≡ Some s → bytes_eq name s.name ≡ true
    by None q g h f = h f
    by (Some t) q g h f = g f

pub name_found : (name : List ℕ) (o : Option (Bor Told)) → option_map (λ s. signature_of s.now) o ≡ method_named name
    → IfSome o (λ s. s.now.name.now ≡ name)
name_found name None e = tt
name_found name (Some told) e = sym (named_same name (signature_of told.now) (sym e))

-- each is brief
abbrev is_brief : Signature → Bool
is_brief s = nat_lt 0 (length s.name) && (nat_lt (length s.name) 32 && nat_lt (length s.parameters) 7)

brief_told : list_all is_brief table ≡ true
brief_told = refl

brief_others : list_all is_brief other_names ≡ true
brief_others = refl

pub brief_found : (name : List ℕ) (o : Option (Bor Told)) → option_map (λ s. signature_of s.now) o ≡ method_named name
    → IfSome o (λ s. IsBrief s.now)
brief_found name None e = tt
brief_found name (Some told) e =
    let s = signature_of told.now in
    let test : is_brief s ≡ true = named_passes is_brief name s brief_told brief_others (sym e) in
    let there : nat_lt 0 (length s.name) ≡ true = first-of (nat_lt 0 (length s.name)) (nat_lt (length s.name) 32 && nat_lt (length s.parameters) 7) test in
    let both : (nat_lt (length s.name) 32 && nat_lt (length s.parameters) 7) ≡ true =
    second-of (nat_lt 0 (length s.name)) (nat_lt (length s.name) 32 && nat_lt (length s.parameters) 7) test in
    let short : nat_lt (length s.name) 32 ≡ true = first-of (nat_lt (length s.name) 32) (nat_lt (length s.parameters) 7) both in
    let few : nat_lt (length s.parameters) 7 ≡ true = second-of (nat_lt (length s.name) 32) (nat_lt (length s.parameters) 7) both in
    let count : length (map parameter_of told.now.parameters.now) ≡ length told.now.parameters.now =
    length-map told.now.parameters.now parameter_of in
    record {
      some = grind (arith, nat_tests, there);
      name = grind (arith, nat_tests, short);
      parameters = (let below : length s.parameters < 7 = grind (arith, nat_tests, few) in omega (arith, below, count));
    }
