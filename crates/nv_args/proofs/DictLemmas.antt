-- Lemmas on the pairs of a Dict of which the last counts.
use Rattle.std.proofs.Common.{◌≡◌, ℕ, zero, suc, ◌+◌, ◌<◌, ◌≤◌, nat_cmp, Bor, Bool, true, false, cond, not, ◌&&◌, ◌||◌, List, [], ◌∷◌, length, map, drop, Option, Some, None, refl, sym, ap, ◌∙◌, arith}
use Rattle.std.proofs.lemmas.Bool.{false≢true}
use Rattle.std.proofs.lemmas.List.{at_drop_more, drop-map}
use Rattle.std.proofs.lemmas.Slice.Eq.{bytes_eq-Decides}
use Rattle.std.proofs.lemmas.Bool.{and_parts}
use Rattle.std.proofs.lemmas.Map.Text.{is_eq-slice_cmp}
use Rattle.std.specs.BTreeMap.{is_at}
use Rattle.std.specs.BTreeSet.{insert_key}
use Rattle.std.specs.Cmp.Lexicographic.{slice_cmp, bytes_decides, nat_list_eq_equiv}
use Rattle.std.specs.List.{list_any}
use Rattle.std.specs.Ordering.{is_eq, match_ordering}
use Rattle.std.specs.declared.cmp.Ordering.{Ordering}
use Rattle.std.specs.declared.cmp.Ordering.TheVariants.{Less, Equal, Greater}
use Rattle.std.specs.Prelude.{is_some, option_map, option_and_then, unwrap_or, bytes_eq, find, get_or}
use Rattle.nv_value.specs.Content.{Tree}
use Rattle.nv_value.specs.View.{content, pair_content}
use Rattle.nv_value.proofs.Contents.{pair_content_is}
use Rattle.nv_value.specs.declared.value.Pair.{Pair}
use Rattle.nv_value.specs.declared.fault.ApiFault.{ApiFault}
use Rattle.nv_args.specs.Arguments.{string_in, is_same, last_pairs}
use Rattle.nv_args.specs.Faults.{invalid_key, invalid_value}
use Rattle.nv_args.specs.Maps.{Key, is_name, has_name, value_of, known_key, takes_value, unknown_key, wrong_value, missing_key, map_fault, or_else}
use Rattle.nv_args.specs.Naming.{bad_name_fault, is_one_of, names_groups, wrong_value_of, naming_fault}
use Rattle.nv_args.specs.Rules.{key_of}
use Rattle.nv_args.specs.declared.rules.Rule.{Rule}
use Rattle.nv_args.specs.inside.Looking.{key_name, is_known, are_known, is_faultless, are_faultless, is_key_among, fault_after, misnames, pair_fault, fault_that_counts}

-- the second where the first has none
abbrev pub or_value : Option Tree → Option Tree → Option Tree
or_value (Some t) other = Some t
or_value None other = other

or_value-none : (o : Option Tree) → or_value o None ≡ o
or_value-none (Some t) = refl
or_value-none None = refl

-- the value of the last pair of a name
abbrev pub last_value : List ℕ → List (Tree × Tree) → Option Tree
last_value name [] = None
last_value name (p ∷ ps) = or_value (last_value name ps) (cond (has_name name p) (Some p.1) None)

-- a pair has a name where its key is that string
same-name : (name : List ℕ) (key : Option (List ℕ)) → is_same (Some name) key ≡ is_name name key
same-name name None = refl
same-name name (Some bytes) = nat_list_eq_equiv.symm name bytes

key-of-name : (name : List ℕ) (key : Option (List ℕ)) → is_name name key ≡ true → key ≡ Some name
key-of-name name None e = absurd (false≢true e)
key-of-name name (Some bytes) e = ap Some ((bytes_eq-Decides bytes name).0 e)

is_some-or : (b : Bool) (t : Tree) (o : Option Tree) → is_some (or_value o (cond b (Some t) None)) ≡ b || is_some o
is_some-or true t (Some u) = refl
is_some-or true t None = refl
is_some-or false t (Some u) = refl
is_some-or false t None = refl

-- a name is a key among pairs where it has a value
named-among : (name : List ℕ) (ps : List (Tree × Tree)) → is_key_among (Some name) ps ≡ is_some (last_value name ps)
named-among name [] = refl
named-among name (p ∷ ps) =
    ap (λ b. b || is_key_among (Some name) ps) (same-name name (string_in p.0))
    ∙ ap (λ b. has_name name p || b) (named-among name ps)
    ∙ sym (is_some-or (has_name name p) p.1 (last_value name ps))

kept-value : (o : Option Tree) (t : Tree) → is_some o ≡ true → o ≡ or_value o (Some t)
kept-value (Some u) t e = refl
kept-value None t e = absurd (false≢true e)

no-value : (o : Option Tree) (t : Tree) → is_some o ≡ false → Some t ≡ or_value o (Some t)
no-value (Some u) t e = absurd (false≢true (sym e))
no-value None t e = refl

-- the value of a key among the pairs that count is that of its last pair
pub value_of-last : (name : List ℕ) (ps : List (Tree × Tree)) → value_of name (last_pairs ps) ≡ last_value name ps
value_of-last name [] = refl
value_of-last name (p ∷ ps) = by (value_of-last name ps) (has_name name p) refl (is_key_among (string_in p.0) ps) refl
  where
    by : value_of name (last_pairs ps) ≡ last_value name ps → (h : Bool) → has_name name p ≡ h → (a : Bool) → is_key_among (string_in p.0) ps ≡ a
        → value_of name (cond a (last_pairs ps) (p ∷ last_pairs ps)) ≡ or_value (last_value name ps) (cond h (Some p.1) None)
    by behind true he true ae =
        let key : string_in p.0 ≡ Some name = key-of-name name (string_in p.0) he in
        behind ∙ kept-value (last_value name ps) p.1 (sym (named-among name ps) ∙ ap (λ k. is_key_among k ps) (sym key) ∙ ae)
    by behind true he false ae =
        let key : string_in p.0 ≡ Some name = key-of-name name (string_in p.0) he in
        ap (λ b. option_map (λ (pair : Tree × Tree). pair.1) (cond b (Some p) (find (has_name name) (last_pairs ps)))) he
        ∙ no-value (last_value name ps) p.1 (sym (named-among name ps) ∙ ap (λ k. is_key_among k ps) (sym key) ∙ ae)
    by behind false he true ae = behind ∙ sym (or_value-none (last_value name ps))
    by behind false he false ae =
        ap (λ b. option_map (λ (pair : Tree × Tree). pair.1) (cond b (Some p) (find (has_name name) (last_pairs ps)))) he
        ∙ behind
        ∙ sym (or_value-none (last_value name ps))

-- a value that pairs behind some have is that of all
pub last_value-behind : (name : List ℕ) (n : ℕ) (ps : List (Tree × Tree)) (t : Tree) → last_value name (drop n ps) ≡ Some t → last_value name ps ≡ Some t
last_value-behind name zero ps t e = e
last_value-behind name (suc n) [] t e = e
last_value-behind name (suc n) (p ∷ ps) t e =
    ap (λ o. or_value o (cond (has_name name p) (Some p.1) None)) (last_value-behind name n ps t e)

pub last_value-here : (name : List ℕ) (p : Tree × Tree) (ps : List (Tree × Tree)) → last_value name ps ≡ None → has_name name p ≡ true
    → last_value name (p ∷ ps) ≡ Some p.1
last_value-here name p ps none e =
    ap (λ b. or_value (last_value name ps) (cond b (Some p.1) None)) e ∙ ap (λ o. or_value o (Some p.1)) none

-- the fault of one pair, else of those behind it
two-faults : (a b : Bool) (x y : ApiFault) (o : Option ApiFault) → cond a (Some x) (cond b (Some y) o) ≡ or_else (cond a (Some x) (cond b (Some y) None)) o
two-faults true b x y o = refl
two-faults false true x y o = refl
two-faults false false x y o = refl

wrong-step : (naming : List (List ℕ)) (keys : List Key) (p : Tree × Tree) (ps : List (Tree × Tree))
    → wrong_value_of naming keys (p ∷ ps) ≡ or_else (pair_fault naming keys p) (wrong_value_of naming keys ps)
wrong-step naming keys p ps =
    two-faults (not (takes_value (known_key keys (string_in p.0)) p.1)) (misnames naming p) (invalid_value (key_name p)) bad_name_fault
    (wrong_value_of naming keys ps)

-- the first wrong value from a pair on
pub wrong-on : (naming : List (List ℕ)) (keys : List Key) (p : Tree × Tree) (ps : List (Tree × Tree)) → pair_fault naming keys p ≡ None
    → wrong_value_of naming keys (last_pairs (p ∷ ps)) ≡ wrong_value_of naming keys (last_pairs ps)
wrong-on naming keys p ps none = by (is_key_among (string_in p.0) ps)
  where
    by : (a : Bool) → wrong_value_of naming keys (cond a (last_pairs ps) (p ∷ last_pairs ps)) ≡ wrong_value_of naming keys (last_pairs ps)
    by true = refl
    by false = wrong-step naming keys p (last_pairs ps) ∙ ap (λ o. or_else o (wrong_value_of naming keys (last_pairs ps))) none

pub wrong-again : (naming : List (List ℕ)) (keys : List Key) (p : Tree × Tree) (ps : List (Tree × Tree)) → is_key_among (string_in p.0) ps ≡ true
    → wrong_value_of naming keys (last_pairs (p ∷ ps)) ≡ wrong_value_of naming keys (last_pairs ps)
wrong-again naming keys p ps e = ap (λ a. wrong_value_of naming keys (cond a (last_pairs ps) (p ∷ last_pairs ps))) e

pub wrong-here : (naming : List (List ℕ)) (keys : List Key) (p : Tree × Tree) (ps : List (Tree × Tree)) (fault : ApiFault)
    → is_key_among (string_in p.0) ps ≡ false → pair_fault naming keys p ≡ Some fault
    → wrong_value_of naming keys (last_pairs (p ∷ ps)) ≡ Some fault
wrong-here naming keys p ps fault e some =
    ap (λ a. wrong_value_of naming keys (cond a (last_pairs ps) (p ∷ last_pairs ps))) e
    ∙ wrong-step naming keys p (last_pairs ps)
    ∙ ap (λ o. or_else o (wrong_value_of naming keys (last_pairs ps))) some

-- the fault of a pair that counts, else of those behind it
counts : (naming : List (List ℕ)) (keys : List Key) (p : Tree × Tree) (ps : List (Tree × Tree))
    → wrong_value_of naming keys (last_pairs (p ∷ ps)) ≡ or_else (fault_that_counts naming keys p ps) (wrong_value_of naming keys (last_pairs ps))
counts naming keys p ps = by (is_key_among (string_in p.0) ps) refl (pair_fault naming keys p) refl
  where
    by : (a : Bool) → is_key_among (string_in p.0) ps ≡ a → (o : Option ApiFault) → pair_fault naming keys p ≡ o
        → wrong_value_of naming keys (last_pairs (p ∷ ps))
        ≡ or_else (option_and_then (λ fault. cond a None (Some fault)) o) (wrong_value_of naming keys (last_pairs ps))
    by a ae None oe = wrong-on naming keys p ps oe
    by true ae (Some fault) oe = wrong-again naming keys p ps ae
    by false ae (Some fault) oe = wrong-here naming keys p ps fault ae oe

-- so from a place on
pub wrong-from : (naming : List (List ℕ)) (keys : List Key) (pairs behind : List Pair) (place : ℕ) (pair d : Pair)
    → place < length pairs → pair ≡ get_or pairs place d → behind ≡ drop (place + 1) pairs
    → wrong_value_of naming keys (last_pairs (map pair_content (drop place pairs)))
    ≡ or_else (fault_that_counts naming keys (pair_content pair) (map pair_content behind)) (wrong_value_of naming keys (last_pairs (map pair_content behind)))
wrong-from naming keys pairs behind place pair d within is rest =
    at_drop_more (λ (ps : List Pair). wrong_value_of naming keys (last_pairs (map pair_content ps))) pairs place d within
    ∙ ap (λ (ps : List Pair). wrong_value_of naming keys (last_pairs (map pair_content (get_or pairs place d ∷ ps)))) (sym rest)
    ∙ ap (λ (p : Pair). wrong_value_of naming keys (last_pairs (map pair_content (p ∷ behind)))) (sym is)
    ∙ counts naming keys (pair_content pair) (map pair_content behind)

-- the value of a pair before those that were looked at
pub value-here : (name : List ℕ) (pairs : List Pair) (left place : ℕ) (pair d : Pair) → left ≡ place + 1 → place < length pairs
    → pair ≡ get_or pairs place d → last_value name (map pair_content (drop left pairs)) ≡ None → has_name name (pair_content pair) ≡ true
    → Some (content pair.value) ≡ value_of name (last_pairs (map pair_content pairs))
value-here name pairs left place pair d next within is none e =
    let F : List Pair → Option Tree = λ ps. last_value name (map pair_content ps) in
    let behind : F (drop (place + 1) pairs) ≡ None = ap (λ n. F (drop n pairs)) (sym next) ∙ none in
    let here : F (drop place pairs) ≡ Some (content pair.value) =
    at_drop_more F pairs place d within
    ∙ ap (λ (p : Pair). F (p ∷ drop (place + 1) pairs)) (sym is)
    ∙ last_value-here name (pair_content pair) (map pair_content (drop (place + 1) pairs)) behind e
    ∙ ap (λ (p : Tree × Tree). Some p.1) (pair_content_is pair) in
    sym (value_of-last name (map pair_content pairs)
    ∙ last_value-behind name place (map pair_content pairs) (content pair.value) (ap (last_value name) (drop-map pair_content place pairs) ∙ here))

pub value-nowhere : (name : List ℕ) (pairs : List Pair) (left : ℕ) → left ≡ 0 → last_value name (map pair_content (drop left pairs)) ≡ None
    → None ≡ value_of name (last_pairs (map pair_content pairs))
value-nowhere name pairs left start none =
    sym (value_of-last name (map pair_content pairs) ∙ ap (λ n. last_value name (map pair_content (drop n pairs))) (sym start) ∙ none)

-- where no key names a group
pub none-naming : (keys : List Key) (ps : List (Tree × Tree)) → wrong_value_of [] keys ps ≡ wrong_value keys ps
none-naming keys [] = refl
none-naming keys (p ∷ ps) = by (takes_value (known_key keys (string_in p.0)) p.1) (string_in p.0) (none-naming keys ps)
  where
    by : (b : Bool) (key : Option (List ℕ)) → wrong_value_of [] keys ps ≡ wrong_value keys ps
        → cond (not b) (Some (invalid_value (key_name p))) (cond (is_one_of [] key && not (names_groups p.1)) (Some bad_name_fault) (wrong_value_of [] keys ps))
        ≡ cond b (wrong_value keys ps) (Some (invalid_value (key_name p)))
    by true None e = e
    by true (Some name) e = e
    by false key e = refl

-- the first unknown key from a pair on
pub unknown-known : (keys : List Key) (p : Tree × Tree) (ps : List (Tree × Tree)) → is_known keys p ≡ true
    → unknown_key keys (last_pairs (p ∷ ps)) ≡ unknown_key keys (last_pairs ps)
unknown-known keys p ps e = by (is_key_among (string_in p.0) ps)
  where
    by : (a : Bool) → unknown_key keys (cond a (last_pairs ps) (p ∷ last_pairs ps)) ≡ unknown_key keys (last_pairs ps)
    by true = refl
    by false = ap (λ b. cond b (unknown_key keys (last_pairs ps)) (Some (invalid_key (key_name p)))) e

pub unknown-again : (keys : List Key) (p : Tree × Tree) (ps : List (Tree × Tree)) → is_key_among (string_in p.0) ps ≡ true
    → unknown_key keys (last_pairs (p ∷ ps)) ≡ unknown_key keys (last_pairs ps)
unknown-again keys p ps e = ap (λ a. unknown_key keys (cond a (last_pairs ps) (p ∷ last_pairs ps))) e

pub unknown-here : (keys : List Key) (p : Tree × Tree) (ps : List (Tree × Tree)) → is_key_among (string_in p.0) ps ≡ false → is_known keys p ≡ false
    → unknown_key keys (last_pairs (p ∷ ps)) ≡ Some (invalid_key (key_name p))
unknown-here keys p ps e n =
    ap (λ a. unknown_key keys (cond a (last_pairs ps) (p ∷ last_pairs ps))) e
    ∙ ap (λ b. cond b (unknown_key keys (last_pairs ps)) (Some (invalid_key (key_name p)))) n

-- a key that is no string stands behind no other, and is unknown
pub among-none : (ps : List (Tree × Tree)) → is_key_among None ps ≡ false
among-none [] = refl
among-none (p ∷ ps) = among-none ps

pub unknown-other : (keys : List Key) (p : Tree × Tree) (ps : List (Tree × Tree)) → None ≡ string_in p.0
    → unknown_key keys (last_pairs (p ∷ ps)) ≡ Some (invalid_key [])
unknown-other keys p ps none =
    unknown-here keys p ps (ap (λ k. is_key_among k ps) (sym none) ∙ among-none ps) (ap (λ k. is_some (known_key keys k)) (sym none))
    ∙ ap (λ (k : Option (List ℕ)). Some (invalid_key (unwrap_or k []))) (sym none)

-- where all keys are known, none is unknown
pub none-unknown : (keys : List Key) (ps : List (Tree × Tree)) → are_known keys ps ≡ true → unknown_key keys (last_pairs ps) ≡ None
none-unknown keys [] e = refl
none-unknown keys (p ∷ ps) e =
    let parts = and_parts (is_known keys p) (are_known keys ps) e in
    unknown-known keys p ps parts.0 ∙ none-unknown keys ps parts.1

-- where no pair has a fault, no key is unknown and no value wrong
pair-faultless : (a b : Bool) (x y : ApiFault) → (not b && a) ≡ true → cond (not a) (Some x) (cond b (Some y) None) ≡ None
pair-faultless true true x y e = cc
pair-faultless true false x y e = refl
pair-faultless false true x y e = cc
pair-faultless false false x y e = cc

pub none-faulty : (naming : List (List ℕ)) (keys : List Key) (ps : List (Tree × Tree)) → are_faultless naming keys ps ≡ true
    → (unknown_key keys (last_pairs ps) ≡ None) × (wrong_value_of naming keys (last_pairs ps) ≡ None)
none-faulty naming keys [] e = (refl, refl)
none-faulty naming keys (p ∷ ps) e =
    let parts = and_parts (is_faultless naming keys p) (are_faultless naming keys ps) e in
    let own = and_parts (is_known keys p) _ parts.0 in
    let rest = none-faulty naming keys ps parts.1 in (
      unknown-known keys p ps own.0 ∙ rest.0,
      wrong-on naming keys p ps (pair-faultless (takes_value (known_key keys (string_in p.0)) p.1) (misnames naming p) _ _ own.1) ∙ rest.1,
    )

-- so only a missing key is a fault
pub none-but-missing : (naming : List (List ℕ)) (keys : List Key) (ps : List (Tree × Tree)) (b : Bool)
    → b ≡ are_faultless naming keys ps → b ≡ true
    → missing_key keys (last_pairs ps) ≡ naming_fault naming keys (last_pairs ps)
none-but-missing naming keys ps b is holds =
    let none = none-faulty naming keys ps (sym is ∙ holds) in
    let missing = missing_key keys (last_pairs ps) in
    sym (ap (λ (o : Option ApiFault). or_else o (or_else (wrong_value_of naming keys (last_pairs ps)) missing)) none.0
    ∙ ap (λ (o : Option ApiFault). or_else o missing) none.1)

-- also where no key names a group
pub naming-none : (keys : List Key) (ps : List (Tree × Tree)) → naming_fault [] keys ps ≡ map_fault keys ps
naming-none keys ps =
    ap (λ (o : Option ApiFault). or_else (unknown_key keys ps) (or_else o (missing_key keys ps))) (none-naming keys ps)

or-same : (a b : Bool) → a || (a || b) ≡ a || b
or-same true b = refl
or-same false b = refl

or-swap : (a b c : Bool) → a || (b || c) ≡ b || (a || c)
or-swap true true c = refl
or-swap true false c = refl
or-swap false b c = refl

-- names once one more stands among them
pub names-one-more : (names : List (Bor (List ℕ))) (key : Bor (List ℕ)) (name : List ℕ)
    → list_any (λ k. bytes_eq name k.now) (insert_key (λ x y. slice_cmp nat_cmp x.now y.now) names key)
    ≡ bytes_eq name key.now || list_any (λ k. bytes_eq name k.now) names
names-one-more [] key name = refl
names-one-more (x ∷ xs) key name = by (slice_cmp nat_cmp key.now x.now) refl (names-one-more xs key name)
  where
    by : (o : Ordering) → slice_cmp nat_cmp key.now x.now ≡ o
        → list_any (λ k. bytes_eq name k.now) (insert_key (λ x y. slice_cmp nat_cmp x.now y.now) xs key)
        ≡ bytes_eq name key.now || list_any (λ k. bytes_eq name k.now) xs
        → list_any (λ k. bytes_eq name k.now) (match_ordering o (key ∷ x ∷ xs) (x ∷ xs) (x ∷ insert_key (λ x y. slice_cmp nat_cmp x.now y.now) xs key))
        ≡ bytes_eq name key.now || (bytes_eq name x.now || list_any (λ k. bytes_eq name k.now) xs)
    by Less e behind = refl
    by Equal e behind =
        let same : key.now ≡ x.now = (bytes_decides key.now x.now).0 (sym (is_eq-slice_cmp key.now x.now) ∙ ap is_eq e) in
        sym (or-same (bytes_eq name x.now) (list_any (λ k. bytes_eq name k.now) xs))
        ∙ ap (λ n. bytes_eq name n || (bytes_eq name x.now || list_any (λ k. bytes_eq name k.now) xs)) (sym same)
    by Greater e behind =
        ap (λ b. bytes_eq name x.now || b) behind
        ∙ or-swap (bytes_eq name x.now) (bytes_eq name key.now) (list_any (λ k. bytes_eq name k.now) xs)

-- the pairs from a place on were looked at, from the last: their names, and the first unknown key
pub record LookedAt (rules : List Rule) (pairs : List Pair) (left : ℕ) (names : List (Bor (List ℕ))) (first : Option (Bor (List ℕ))) : Type 0 where
  pub within : left ≤ length pairs
  pub found : option_map (λ (name : Bor (List ℕ)). invalid_key name.now) first
      ≡ unknown_key (map key_of rules) (last_pairs (map pair_content (drop left pairs)))
  pub known : (name : List ℕ) → list_any (λ k. bytes_eq name k.now) names ≡ is_key_among (Some name) (map pair_content (drop left pairs))

-- one pair more
next-pairs : {Y : Type 0} (F : List (Tree × Tree) → Y) (pairs : List Pair) (left place : ℕ) (pair d : Pair) → left ≡ place + 1 → place < length pairs
    → pair ≡ get_or pairs place d
    → F (map pair_content (drop place pairs)) ≡ F (pair_content pair ∷ map pair_content (drop left pairs))
next-pairs F pairs left place pair d next within is =
    at_drop_more (λ (ps : List Pair). F (map pair_content ps)) pairs place d within
    ∙ ap (λ (p : Pair). F (map pair_content (p ∷ drop (place + 1) pairs))) (sym is)
    ∙ ap (λ n. F (pair_content pair ∷ map pair_content (drop n pairs))) (sym next)

key-of-pair : (pair : Pair) (key : Option (List ℕ)) → key ≡ string_in (content pair.key) → key ≡ string_in (pair_content pair).0
key-of-pair pair key e = e ∙ ap (λ (p : Tree × Tree). string_in p.0) (sym (pair_content_is pair))

-- a key that is no string
pub looked-other : (rules : List Rule) (pairs : List Pair) (left place : ℕ) (pair d : Pair) (names : List (Bor (List ℕ))) (first now : Option (Bor (List ℕ)))
    → LookedAt rules pairs left names first → left ≡ place + 1 → pair ≡ get_or pairs place d → None ≡ string_in (content pair.key)
    → option_map (λ (n : Bor (List ℕ)). invalid_key n.now) now ≡ Some (invalid_key []) → LookedAt rules pairs place names now
looked-other rules pairs left place pair d names first now was next is none empty =
    let within : place < length pairs = omega (arith, was.within, next) in
    let key = key-of-pair pair None none in
    let keys = map key_of rules in
    record {
      within = omega (arith, within);
      found =
          empty
          ∙ sym (unknown-other keys (pair_content pair) (map pair_content (drop left pairs)) key)
          ∙ sym (next-pairs (λ ps. unknown_key keys (last_pairs ps)) pairs left place pair d next within is);
      known = λ name.
          was.known name
          ∙ ap (λ k. is_same (Some name) k || is_key_among (Some name) (map pair_content (drop left pairs))) key
          ∙ sym (next-pairs (is_key_among (Some name)) pairs left place pair d next within is);
    }

stands-there : (names : List (Bor (List ℕ))) (name : List ℕ)
    → list_any (is_at (λ (k : Bor (List ℕ)). slice_cmp nat_cmp name k.now)) names ≡ list_any (λ k. bytes_eq name k.now) names
stands-there [] name = refl
stands-there (k ∷ ks) name = λ i. is_eq-slice_cmp name k.now i || stands-there ks name i

-- a key that is a string
pub looked-name : (rules : List Rule) (pairs : List Pair) (left place : ℕ) (pair d : Pair) (names : List (Bor (List ℕ))) (name : Bor (List ℕ))
    (first now : Option (Bor (List ℕ))) (is_new known : Bool)
    → LookedAt rules pairs left names first → left ≡ place + 1 → pair ≡ get_or pairs place d → Some name.now ≡ string_in (content pair.key)
    → known ≡ is_known (map key_of rules) (pair_content pair)
    → is_new ≡ not (list_any (is_at (λ (k : Bor (List ℕ)). slice_cmp nat_cmp name.now k.now)) names)
    → option_map (λ (n : Bor (List ℕ)). invalid_key n.now) now
    ≡ fault_after is_new known name.now (option_map (λ (n : Bor (List ℕ)). invalid_key n.now) first)
    → LookedAt rules pairs place (insert_key (λ x y. slice_cmp nat_cmp x.now y.now) names name) now
looked-name rules pairs left place pair d names name first now is_new known was next is some k n after =
    let within : place < length pairs = omega (arith, was.within, next) in
    let key = key-of-pair pair (Some name.now) some in
    let behind = map pair_content (drop left pairs) in
    let fresh : is_new ≡ not (is_key_among (Some name.now) behind) =
    n ∙ ap not (stands-there names name.now ∙ was.known name.now) in
    record {
      within = omega (arith, within);
      found =
          by (is_key_among (Some name.now) behind) refl is_new fresh known k after
          ∙ sym (next-pairs (λ ps. unknown_key (map key_of rules) (last_pairs ps)) pairs left place pair d next within is);
      known = λ other.
          names-one-more names name other
          ∙ ap (λ b. bytes_eq other name.now || b) (was.known other)
          ∙ ap (λ o. is_same (Some other) o || is_key_among (Some other) behind) key
          ∙ sym (next-pairs (is_key_among (Some other)) pairs left place pair d next within is);
    }
  where
    by : (a : Bool) → is_key_among (Some name.now) (map pair_content (drop left pairs)) ≡ a → (b : Bool) → b ≡ not (is_key_among (Some name.now) (map pair_content (drop left pairs)))
        → (c : Bool) → c ≡ is_known (map key_of rules) (pair_content pair)
        → option_map (λ (n : Bor (List ℕ)). invalid_key n.now) now
        ≡ fault_after b c name.now (option_map (λ (n : Bor (List ℕ)). invalid_key n.now) first)
        → option_map (λ (m : Bor (List ℕ)). invalid_key m.now) now
        ≡ unknown_key (map key_of rules) (last_pairs (pair_content pair ∷ map pair_content (drop left pairs)))
    by true ae true be c ce e = absurd (false≢true (sym (be ∙ ap not ae)))
    by true ae false be c ce e =
        e
        ∙ was.found
        ∙ sym (unknown-again (map key_of rules) (pair_content pair) (map pair_content (drop left pairs))
        (ap (λ o. is_key_among o (map pair_content (drop left pairs))) (sym (key-of-pair pair (Some name.now) some)) ∙ ae))
    by false ae false be c ce e = absurd (false≢true (be ∙ ap not ae))
    by false ae true be true ce e =
        e
        ∙ was.found
        ∙ sym (unknown-known (map key_of rules) (pair_content pair) (map pair_content (drop left pairs)) (sym ce))
    by false ae true be false ce e =
        e
        ∙ ap (λ (o : Option (List ℕ)). Some (invalid_key (unwrap_or o []))) (key-of-pair pair (Some name.now) some)
        ∙ sym (unknown-here (map key_of rules) (pair_content pair) (map pair_content (drop left pairs))
        (ap (λ o. is_key_among o (map pair_content (drop left pairs))) (sym (key-of-pair pair (Some name.now) some)) ∙ ae) (sym ce))
