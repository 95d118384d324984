-- Groups that several names want, one after another.
use Rattle.std.proofs.Common.{◌≡◌, ◌<◌, ◌≤◌, ◌+◌, suc, ◌∙◌, ℕ, Bool, true, false, cond, List, [], ◌∷◌, ◌++◌, length, drop, drop-cons, get_or, map, refl, sym, ap, append_assoc, append-nil, arith, Option, Some, None, is_some}
use Rattle.std.specs.Prelude.{flat_map, option_and_then, option_to_list}
use Rattle.std.proofs.lemmas.List.{drop_all, length-append}
use Rattle.nv_value.specs.Content.{Tree}
use Rattle.nv_value.specs.View.{content}
use Rattle.nv_value.specs.declared.value.Value.{Value}
use Rattle.nv_args.specs.Chunks.{GivenChunk, chunk_in, names_of_chunks}
use Rattle.nv_hl.specs.Groups.{HasGroup, NamedGroup, empty_group, known_id, with_named}
use Rattle.nv_hl.proofs.GroupLemmas.{with_behind, with_there}
use Rattle.nv_model.specs.Operations.{group_made}
use Rattle.nv_api_mark.specs.Groups.{group_operations, groups_of_names, groups_with, names_operations}
use Rattle.nv_api_mark.specs.inside.Marking.{names_among, names_in}

-- names one behind another
pub groups_append : (gs : List NamedGroup) (ns ms : List (List ℕ)) → groups_of_names gs (ns ++ ms) ≡ groups_of_names (groups_of_names gs ns) ms
groups_append gs [] ms = refl
groups_append gs (n ∷ ns) ms = groups_append (groups_with gs n) ns ms

pub operations_append : (gs : List NamedGroup) (ns ms : List (List ℕ))
    → names_operations gs (ns ++ ms) ≡ names_operations gs ns ++ names_operations (groups_of_names gs ns) ms
operations_append gs [] ms = refl
operations_append gs (n ∷ ns) ms =
    ap (λ os. group_operations gs n ++ os) (operations_append (groups_with gs n) ns ms)
    ∙ sym (append_assoc (group_operations gs n) (names_operations (groups_with gs n) ns) (names_operations (groups_of_names (groups_with gs n) ns) ms))

-- those of one name
pub one_operation : (gs : List NamedGroup) (name : List ℕ) → names_operations gs (name ∷ []) ≡ group_operations gs name
one_operation gs name = append-nil (group_operations gs name)

-- each operation makes one group
one_made : (b : Bool) (gs : List NamedGroup) (name : List ℕ) → is_some (known_id gs name) ≡ b
    → length (groups_with gs name) ≡ length gs + length (group_operations gs name)
one_made true gs name is =
    let count : length (groups_with gs name) ≡ length gs = ap (λ c. length (cond c gs (gs ++ empty_group name ∷ []))) is in
    let none : length (group_operations gs name) ≡ 0 = ap (λ c. length (cond c [] (group_made name ∷ []))) is in
    omega (arith, count, none)
one_made false gs name is =
    let count : length (groups_with gs name) ≡ length (gs ++ empty_group name ∷ []) = ap (λ c. length (cond c gs (gs ++ empty_group name ∷ []))) is in
    let one : length (group_operations gs name) ≡ 1 = ap (λ c. length (cond c [] (group_made name ∷ []))) is in
    omega (arith, count, one, length-append gs (empty_group name ∷ []))

pub count_made : (gs : List NamedGroup) (ns : List (List ℕ)) → length (groups_of_names gs ns) ≡ length gs + length (names_operations gs ns)
count_made gs [] = omega arith
count_made gs (n ∷ ns) =
    let first = one_made (is_some (known_id gs n)) gs n refl in
    let rest = count_made (groups_with gs n) ns in
    omega (arith, first, rest, length-append (group_operations gs n) (names_operations (groups_with gs n) ns))

-- a name that is wanted, where it is known and where it isn't
pub wanted_known : (gs ws : List NamedGroup) (name : List ℕ) → is_some (known_id gs name) ≡ true → gs ++ ws ≡ groups_with (gs ++ ws) name
wanted_known gs ws name some = sym (with_there gs ws (empty_group name) some)

pub wanted_new : (gs ws new : List NamedGroup) (name : List ℕ) → is_some (known_id gs name) ≡ false → new ≡ with_named ws (empty_group name)
    → gs ++ new ≡ groups_with (gs ++ ws) name
wanted_new gs ws new name none is = ap (λ xs. gs ++ xs) is ∙ sym (with_behind gs ws (empty_group name) none)

-- the names among parts, with one part in front
pub names_cons : (t : Tree) (ts : List Tree) → names_among (t ∷ ts) ≡ names_in t [] ++ names_among ts
names_cons t ts = by (chunk_in t)
  where
    cs : List GivenChunk
    cs = flat_map (λ u. option_to_list (chunk_in u)) ts

    by : (o : Option GivenChunk) → names_of_chunks (option_to_list o ++ cs) ≡ (option_to_list (option_and_then (λ c. c.1) o) ++ []) ++ names_of_chunks cs
    by None = refl
    by (Some c) = ap (λ l. l ++ names_of_chunks cs) (sym (append-nil (option_to_list c.1)))

pub groups_step : (gs : List NamedGroup) (t : Tree) (ts : List Tree)
    → groups_of_names (groups_of_names gs (names_in t [])) (names_among ts) ≡ groups_of_names gs (names_among (t ∷ ts))
groups_step gs t ts = sym (groups_append gs (names_in t []) (names_among ts)) ∙ ap (groups_of_names gs) (sym (names_cons t ts))

pub operations_step : (gs : List NamedGroup) (t : Tree) (ts : List Tree)
    → names_operations gs (names_in t []) ++ names_operations (groups_of_names gs (names_in t [])) (names_among ts) ≡ names_operations gs (names_among (t ∷ ts))
operations_step gs t ts = sym (operations_append gs (names_in t []) (names_among ts)) ∙ ap (names_operations gs) (sym (names_cons t ts))

-- ---- values one after another

abbrev pub names_from : List Value → ℕ → List (List ℕ)
names_from vs k = names_among (map content (drop k vs))

next_of : (vs : List Value) (k : ℕ) (v : Value) → k < length vs → v ≡ get_or vs k v → map content (drop k vs) ≡ content v ∷ map content (drop (k + 1) vs)
next_of vs k v lt at =
    let next : suc k ≡ k + 1 = omega arith in
    ap (map content) (drop-cons vs k v lt) ∙ (λ i. content (sym at i) ∷ map content (drop (next i) vs))

-- the groups once one more was looked at, and what is done for those behind it
pub groups_next : (gs new : List NamedGroup) (vs : List Value) (k : ℕ) (v : Value) → k < length vs → v ≡ get_or vs k v
    → new ≡ groups_of_names gs (names_in (content v) [])
    → groups_of_names new (names_from vs (k + 1)) ≡ groups_of_names gs (names_from vs k)
groups_next gs new vs k v lt at is =
    ap (λ hs. groups_of_names hs (names_from vs (k + 1))) is
    ∙ groups_step gs (content v) (map content (drop (k + 1) vs))
    ∙ ap (λ ts. groups_of_names gs (names_among ts)) (sym (next_of vs k v lt at))

pub operations_next : (gs new : List NamedGroup) (vs : List Value) (k : ℕ) (v : Value) → k < length vs → v ≡ get_or vs k v
    → new ≡ groups_of_names gs (names_in (content v) [])
    → names_operations gs (names_in (content v) []) ++ names_operations new (names_from vs (k + 1)) ≡ names_operations gs (names_from vs k)
operations_next gs new vs k v lt at is =
    ap (λ hs. names_operations gs (names_in (content v) []) ++ names_operations hs (names_from vs (k + 1))) is
    ∙ operations_step gs (content v) (map content (drop (k + 1) vs))
    ∙ ap (λ ts. names_operations gs (names_among ts)) (sym (next_of vs k v lt at))

-- all were looked at
pub none_left : (vs : List Value) (k : ℕ) → length vs ≤ k → names_from vs k ≡ []
none_left vs k past = ap (λ us. names_among (map content us)) (drop_all k vs past)

-- so many groups come as there are operations
pub same_count : (gs hs : List NamedGroup) (ns ms : List (List ℕ)) → groups_of_names gs ns ≡ groups_of_names hs ms
    → length gs + length (names_operations gs ns) ≡ length hs + length (names_operations hs ms)
same_count gs hs ns ms same = sym (count_made gs ns) ∙ ap length same ∙ count_made hs ms

pub first_count : (gs : List NamedGroup) (ns ms : List (List ℕ))
    → length gs + length (names_operations gs ns) ≤ length gs + length (names_operations gs (ns ++ ms))
first_count gs ns ms =
    let more = ap length (operations_append gs ns ms) in
    omega (arith, more, length-append (names_operations gs ns) (names_operations (groups_of_names gs ns) ms))

pub first_from : (gs : List NamedGroup) (vs : List Value) (k : ℕ) (v : Value) → k < length vs → v ≡ get_or vs k v
    → length gs + length (names_operations gs (names_in (content v) [])) ≤ length gs + length (names_operations gs (names_from vs k))
first_from gs vs k v lt at =
    let rest = map content (drop (k + 1) vs) in
    let is : names_from vs k ≡ names_in (content v) [] ++ names_among rest =
    ap names_among (next_of vs k v lt at) ∙ names_cons (content v) rest in
    let first = first_count gs (names_in (content v) []) (names_among rest) in
    let same = ap (λ ns. length (names_operations gs ns)) is in
    omega (arith, first, same)

-- the groups that are wanted, behind those that are there
pub wanted_count : (gs ws : List NamedGroup) (ns : List (List ℕ)) → gs ++ ws ≡ groups_of_names gs ns
    → length gs + length ws ≡ length gs + length (names_operations gs ns)
wanted_count gs ws ns is = sym (length-append gs ws) ∙ ap length is ∙ count_made gs ns

pub all_wanted : (gs ws new : List NamedGroup) (name : Option (List ℕ)) (cs : List GivenChunk) (ts : List Tree)
    → flat_map (λ t. option_to_list (chunk_in t)) ts ≡ cs → gs ++ ws ≡ groups_of_names gs (option_to_list name)
    → gs ++ new ≡ groups_of_names (gs ++ ws) (names_among ts) → gs ++ new ≡ groups_of_names gs (option_to_list name ++ names_of_chunks cs)
all_wanted gs ws new name cs ts parts first rest =
    rest
    ∙ (λ i. groups_of_names (first i) (names_of_chunks (parts i)))
    ∙ sym (groups_append gs (option_to_list name) (names_of_chunks cs))

-- a group that is there stays
pub has_after : (gs new : List NamedGroup) (ns : List (List ℕ)) (id : ℕ) → new ≡ groups_of_names gs ns → HasGroup gs id → HasGroup new id
has_after gs new ns id is has =
    let count = ap length is ∙ count_made gs ns in (has.0, omega (arith, has.1, count))
