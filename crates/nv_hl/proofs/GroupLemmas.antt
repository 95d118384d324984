-- Lemmas on lists of groups.
use Rattle.std.proofs.Common.{◌≡◌, ◌<◌, ◌≤◌, ◌+◌, ◌-◌, ◌^◌, ◌↔◌, ℕ, zero, suc, List, [], ◌∷◌, ◌++◌, length, refl, sym, ap, subst, ◌∙◌, append_assoc, arith, Bool, true, false, not, cond, Option, Some, None, All, is_some, option_map, unwrap_or, position, slice_get, slice_set, map, eqb, if◌then◌else◌, nat_lt, IfSome, IsSome, ◌||◌}
use Rattle.std.proofs.Math.Nat.{add-zero}
use Rattle.std.proofs.lemmas.Bool.Decides.{nat_tests}
use Rattle.std.proofs.lemmas.Map.Keys.{IsDistinct-push}
use Rattle.std.proofs.lemmas.Bool.{true≢false, ltb-false, lt-ltb, eq-eqb}
use Rattle.std.proofs.lemmas.List.{length-set, length-append, length-map, map-append}
use Rattle.std.proofs.lemmas.List.Elements.{All-nil, All-cons, All-head, All-tail, All-append, All-weaker, All-set}
use Rattle.std.proofs.lemmas.List.Folds.{position_or_len_push}
use Rattle.std.proofs.lemmas.List.Sums.{prefix_len-le-length}
use Rattle.std.proofs.lemmas.Option.{none-some}
use Rattle.std.specs.Cmp.Lexicographic.{bytes_decides, nat_list_eq_equiv}
use Rattle.std.specs.List.{position_or_len, IsDistinct, list_any}
use Rattle.std.specs.Option.{option_map_or}
use Rattle.std.specs.Str.{bytes_eq}
use Rattle.nv_hl.specs.declared.attribute.Attr.{Attr}
use Rattle.nv_hl.specs.declared.linking.Group.{Group}
use Rattle.nv_hl.specs.declared.linking.Group.TheVariants.{Plain, Link}
use Rattle.nv_hl.specs.Attributes.{empty_attr}
use Rattle.nv_hl.specs.Groups.{NamedGroup, HasGroup, LinksWithin, AreSound, entry_at, name_at, known_id, group_at, with_named, with_group, attr_along}

-- ---- the first place that passes a test
none_before : {X Y : Type 0} (f : X → Y) (o : Option X) → option_map f o ≡ None → o ≡ None
none_before f None h = refl
none_before f (Some x) h = absurd (none-some (f x) (sym h))

module _ {X : Type 0} (p : X → Bool) where
  none_passes : (xs : List X) → position p xs ≡ None → position_or_len p xs ≡ length xs
  none_passes xs h = by (nat_lt (position_or_len p xs) (length xs)) refl h
    where
      by : (b : Bool) → nat_lt (position_or_len p xs) (length xs) ≡ b → cond b (Some (position_or_len p xs)) None ≡ None
          → position_or_len p xs ≡ length xs
      by true e k = absurd (none-some (position_or_len p xs) (sym k))
      by false e k =
          let least : length xs ≤ position_or_len p xs = ltb-false (position_or_len p xs) (length xs) e in
          let most : position_or_len p xs ≤ length xs = prefix_len-le-length (λ x. not (p x)) xs in
          omega arith

  -- one more that passes, where none did
  position-push : (xs : List X) (y : X) → position p xs ≡ None → p y ≡ true → position p (xs ++ y ∷ []) ≡ Some (length xs)
  position-push xs y none passes =
      let at : position_or_len p (xs ++ y ∷ []) ≡ length xs =
      position_or_len_push p xs y
      ∙ (λ i. cond (eq-eqb (position_or_len p xs) (length xs) (none_passes xs none) i) (length xs + cond (passes i) 0 1) (position_or_len p xs))
      ∙ add-zero (length xs) in
      let longer : length (xs ++ y ∷ []) ≡ length xs + 1 = length-append xs (y ∷ []) in
      (λ i. cond (nat_lt (at i) (length (xs ++ y ∷ []))) (Some (at i)) None)
      ∙ ap (λ b. cond b (Some (length xs)) None) (lt-ltb (length xs) (length (xs ++ y ∷ [])) (omega arith))

-- ---- names and ids
pub unknown_name : (gs : List NamedGroup) (name : List ℕ) → known_id gs name ≡ None → position (λ g. bytes_eq name g.name) gs ≡ None
unknown_name gs name h = none_before (λ i. i + 1) (position (λ g. bytes_eq name g.name) gs) h

pub known-push : (gs : List NamedGroup) (g : NamedGroup) → known_id gs g.name ≡ None → known_id (gs ++ g ∷ []) g.name ≡ Some (length gs + 1)
known-push gs g h =
    ap (option_map (λ i. i + 1)) (position-push (λ x. bytes_eq g.name x.name) gs g (unknown_name gs g.name h) ((bytes_decides g.name g.name).1 refl))

pub with_named-unknown : (gs : List NamedGroup) (g : NamedGroup) → known_id gs g.name ≡ None → with_named gs g ≡ gs ++ g ∷ []
with_named-unknown gs g h = ap (λ o. if is_some o then gs else gs ++ g ∷ []) h

pub with_named-known : (gs : List NamedGroup) (g : NamedGroup) (id : ℕ) → known_id gs g.name ≡ Some id → with_named gs g ≡ gs
with_named-known gs g id h = ap (λ o. if is_some o then gs else gs ++ g ∷ []) h

-- one more that doesn't pass changes nothing
skipped : (n l : ℕ) → n ≤ l
    → cond (nat_lt (cond (eqb n l) (l + 1) n) (l + 1)) (Some (cond (eqb n l) (l + 1) n)) None ≡ cond (nat_lt n l) (Some n) None
skipped n l h = grind (arith, nat_tests)

position-skip : {X : Type 0} (p : X → Bool) (xs : List X) (y : X) → p y ≡ false → position p (xs ++ y ∷ []) ≡ position p xs
position-skip p xs y fails =
    let n = position_or_len p xs in
    let at : position_or_len p (xs ++ y ∷ []) ≡ cond (eqb n (length xs)) (length xs + 1) n =
    position_or_len_push p xs y ∙ ap (λ b. cond (eqb n (length xs)) (length xs + cond b 0 1) n) fails in
    let longer : length (xs ++ y ∷ []) ≡ length xs + 1 = length-append xs (y ∷ []) in
    let within : n ≤ length xs = prefix_len-le-length (λ x. not (p x)) xs in
    (λ i. cond (nat_lt (at i) (longer i)) (Some (at i)) None) ∙ skipped n (length xs) within

-- the ids of names once there is one group more
known-after-by : (b : Bool) (gs : List NamedGroup) (g : NamedGroup) (name : List ℕ) → bytes_eq g.name name ≡ b
    → known_id gs g.name ≡ None → known_id (gs ++ g ∷ []) name ≡ cond b (Some (length gs + 1)) (known_id gs name)
known-after-by true gs g name is none =
    subst (λ n. known_id (gs ++ g ∷ []) n ≡ Some (length gs + 1)) ((bytes_decides g.name name).0 is) (known-push gs g none)
known-after-by false gs g name is none =
    ap (option_map (λ i. i + 1))
    (position-skip (λ x. bytes_eq name x.name) gs g (sym (nat_list_eq_equiv.symm g.name name) ∙ is))

pub known-after : (gs : List NamedGroup) (g : NamedGroup) (name : List ℕ) → known_id gs g.name ≡ None
    → known_id (gs ++ g ∷ []) name ≡ cond (bytes_eq g.name name) (Some (length gs + 1)) (known_id gs name)
known-after gs g name none = known-after-by (bytes_eq g.name name) gs g name refl none

-- ---- groups behind others

found_if : (b : Bool) (n : ℕ) → is_some (cond b (Some n) None) ≡ b
found_if true n = refl
found_if false n = refl

found_cons : (b : Bool) (n l : ℕ) → nat_lt (cond (not b) (1 + n) 0) (suc l) ≡ cond b true (nat_lt n l)
found_cons true n l = grind (arith, nat_tests)
found_cons false n l = grind (arith, nat_tests)

module _ {X : Type 0} (p : X → Bool) where
  abbrev is_found : List X → Bool
  is_found xs = nat_lt (position_or_len p xs) (length xs)

  or_found : (b : Bool) (s t u : Bool) → u ≡ (s || t) → cond b true u ≡ (cond b true s || t)
  or_found true s t u is = refl
  or_found false s t u is = is

  found_behind : (xs ys : List X) → is_found (xs ++ ys) ≡ (is_found xs || is_found ys)
  found_behind [] ys = refl
  found_behind (x ∷ xs) ys =
      found_cons (p x) (position_or_len p (xs ++ ys)) (length (xs ++ ys))
      ∙ or_found (p x) (is_found xs) (is_found ys) (is_found (xs ++ ys)) (found_behind xs ys)
      ∙ ap (λ t. t || is_found ys) (sym (found_cons (p x) (position_or_len p xs) (length xs)))

  is_position : (xs : List X) → is_some (position p xs) ≡ is_found xs
  is_position xs = found_if (is_found xs) (position_or_len p xs)

some_more : {X Y : Type 0} (f : X → Y) (o : Option X) → is_some (option_map f o) ≡ is_some o
some_more f None = refl
some_more f (Some x) = refl

-- a name is known where it is among the first or the further ones
pub known_behind : (gs hs : List NamedGroup) (name : List ℕ)
    → is_some (known_id (gs ++ hs) name) ≡ (is_some (known_id gs name) || is_some (known_id hs name))
known_behind gs hs name =
    let p = λ (g : NamedGroup). bytes_eq name g.name in
    let next = λ (i : ℕ). i + 1 in
    let has = λ (xs : List NamedGroup). some_more next (position p xs) ∙ is_position p xs in
    has (gs ++ hs) ∙ found_behind p gs hs ∙ (λ i. sym (has gs) i || sym (has hs) i)

with_known : (b : Bool) (gs hs : List NamedGroup) (g : NamedGroup) → is_some (known_id gs g.name) ≡ b
    → with_named (gs ++ hs) g ≡ cond b (gs ++ hs) (gs ++ with_named hs g)
with_known true gs hs g is =
    ap (λ c. cond c (gs ++ hs) ((gs ++ hs) ++ g ∷ [])) (known_behind gs hs g.name ∙ ap (λ c. c || is_some (known_id hs g.name)) is)
with_known false gs hs g is =
    ap (λ c. cond c (gs ++ hs) ((gs ++ hs) ++ g ∷ [])) (known_behind gs hs g.name ∙ ap (λ c. c || is_some (known_id hs g.name)) is)
    ∙ put_behind (is_some (known_id hs g.name))
  where
    put_behind : (c : Bool) → cond c (gs ++ hs) ((gs ++ hs) ++ g ∷ []) ≡ gs ++ cond c hs (hs ++ g ∷ [])
    put_behind true = refl
    put_behind false = append_assoc gs hs (g ∷ [])

-- a group behind others: where its name is known among the first, nothing comes
pub with_behind : (gs hs : List NamedGroup) (g : NamedGroup) → is_some (known_id gs g.name) ≡ false → with_named (gs ++ hs) g ≡ gs ++ with_named hs g
with_behind gs hs g none = with_known false gs hs g none

pub with_there : (gs hs : List NamedGroup) (g : NamedGroup) → is_some (known_id gs g.name) ≡ true → with_named (gs ++ hs) g ≡ gs ++ hs
with_there gs hs g some = with_known true gs hs g some

-- a name that is known stays known
pub stays_known : (gs : List NamedGroup) (g : NamedGroup) (name : List ℕ) → is_some (known_id gs name) ≡ true → is_some (known_id (with_named gs g) name) ≡ true
stays_known gs g name some = by (is_some (known_id gs g.name))
  where
    by : (b : Bool) → is_some (known_id (cond b gs (gs ++ g ∷ [])) name) ≡ true
    by true = some
    by false = known_behind gs (g ∷ []) name ∙ ap (λ c. c || is_some (known_id (g ∷ []) name)) some

-- the id of a name that is known has a group
some_place : (n l : ℕ) (b : Bool) → nat_lt n l ≡ b → is_some (option_map (λ i. i + 1) (cond b (Some n) None)) ≡ true
    → (0 < unwrap_or (option_map (λ i. i + 1) (cond b (Some n) None)) 0) × (unwrap_or (option_map (λ i. i + 1) (cond b (Some n) None)) 0 ≤ l)
some_place n l true lt some = (omega arith, grind (arith, nat_tests, lt))
some_place n l false lt some = absurd (true≢false (sym some))

pub known_has : (gs : List NamedGroup) (name : List ℕ) → is_some (known_id gs name) ≡ true → HasGroup gs (unwrap_or (known_id gs name) 0)
known_has gs name some =
    let n = position_or_len (λ g. bytes_eq name g.name) gs in
    some_place n (length gs) (nat_lt n (length gs)) refl some

-- ---- names alone

abbrev pub names : List NamedGroup → List (List ℕ)
names gs = map (λ g. g.name) gs

position_or_len-map : {X Y : Type 0} (p : Y → Bool) (f : X → Y) (xs : List X)
    → position_or_len p (map f xs) ≡ position_or_len (λ x. p (f x)) xs
position_or_len-map p f [] = refl
position_or_len-map p f (x ∷ xs) = ap (λ n. cond (not (p (f x))) (1 + n) 0) (position_or_len-map p f xs)

position-map : {X Y : Type 0} (p : Y → Bool) (f : X → Y) (xs : List X) → position p (map f xs) ≡ position (λ x. p (f x)) xs
position-map p f xs = λ i.
    cond (nat_lt (position_or_len-map p f xs i) (length-map xs f i)) (Some (position_or_len-map p f xs i)) None

-- ids of names depend on names alone
pub known-names : (gs hs : List NamedGroup) (name : List ℕ) → names gs ≡ names hs → known_id gs name ≡ known_id hs name
known-names gs hs name same =
    ap (option_map (λ i. i + 1))
    (sym (position-map (bytes_eq name) (λ g. g.name) gs) ∙ ap (position (bytes_eq name)) same ∙ position-map (bytes_eq name) (λ g. g.name) hs)

names-set : (gs : List NamedGroup) (i : ℕ) (x : NamedGroup) → x.name ≡ option_map_or (λ g. g.name) (slice_get gs i) []
    → names (slice_set gs i x) ≡ names gs
names-set [] i x h = refl
names-set (g ∷ gs) zero x h = ap (λ (n : List ℕ). n ∷ names gs) h
names-set (g ∷ gs) (suc i) x h = ap (λ ns. g.name ∷ ns) (names-set gs i x h)

pub names-with_group : (gs : List NamedGroup) (id : ℕ) (group : Group) → 0 < id → names (with_group gs id group) ≡ names gs
names-with_group gs zero group h = absurd (omega (arith, h))
names-with_group gs (suc i) group h =
    let x : NamedGroup = record { name = name_at gs (suc i); group = group; was_put = true } in
    let back : suc i - 1 ≡ i = omega arith in
    ap (λ k. names (slice_set gs k x)) back ∙ names-set gs i x refl

none_named-by : (xs : List NamedGroup) (name : List ℕ) → position_or_len (λ g. bytes_eq name g.name) xs ≡ length xs
    → list_any (bytes_eq name) (names xs) ≡ false
none_named-by [] name h = refl
none_named-by (x ∷ xs) name h = by (none_named-by xs name) (bytes_eq name x.name) refl h
  where
    by : (position_or_len (λ g. bytes_eq name g.name) xs ≡ length xs → list_any (bytes_eq name) (names xs) ≡ false)
        → (b : Bool) → bytes_eq name x.name ≡ b
        → cond (not b) (1 + position_or_len (λ g. bytes_eq name g.name) xs) 0 ≡ suc (length xs)
        → list_any (bytes_eq name) (names (x ∷ xs)) ≡ false
    by more true e k = absurd (omega (arith, k))
    by more false e k = ap (λ b. b || list_any (bytes_eq name) (names xs)) e ∙ more (omega (arith, k))

none_named : (gs : List NamedGroup) (name : List ℕ) → known_id gs name ≡ None → list_any (bytes_eq name) (names gs) ≡ false
none_named gs name none =
    none_named-by gs name (none_passes (λ g. bytes_eq name g.name) gs (unknown_name gs name none))

-- ---- which ids have a group
pub entry_there : (gs : List NamedGroup) (id : ℕ) → HasGroup gs id → (g : NamedGroup) × (entry_at gs id ≡ Some g)
entry_there gs zero h = absurd (omega (arith, h.0))
entry_there gs (suc i) h = within gs i (omega (arith, h.1))
  where
    within : (xs : List NamedGroup) (k : ℕ) → k < length xs → (g : NamedGroup) × (slice_get xs k ≡ Some g)
    within [] k lt = absurd (omega arith)
    within (x ∷ xs) zero lt = (x, refl)
    within (x ∷ xs) (suc k) lt = within xs k (omega arith)

some_within : (gs : List NamedGroup) (i : ℕ) → is_some (option_map (λ g. g.group) (slice_get gs i)) ≡ true → i < length gs
some_within [] i h = absurd (true≢false (sym h))
some_within (x ∷ xs) zero h = omega arith
some_within (x ∷ xs) (suc i) h = let below : i < length xs = some_within xs i h in omega arith

pub group_is_there : (gs : List NamedGroup) (id : ℕ) → IsSome (group_at gs id) ↔ HasGroup gs id
group_is_there gs id = (only id, λ h. let e = entry_there gs id h in ap (λ o. is_some (option_map (λ g. g.group) o)) e.1)
  where
    only : (k : ℕ) → IsSome (group_at gs k) → HasGroup gs k
    only zero h = absurd (true≢false (sym h))
    only (suc i) h = let below : i < length gs = some_within gs i h in (omega arith, omega arith)

-- ---- links
links-more : (m n : ℕ) (group : Group) → m ≤ n → LinksWithin m group → LinksWithin n group
links-more m n (Plain attr) more h = tt
links-more m n (Link id) more h = (h.0, omega (arith, h.1))

linked_in : (P : Group → Type 0) (gs : List NamedGroup) (i : ℕ) → All (λ g. P g.group) gs → IfSome (option_map (λ g. g.group) (slice_get gs i)) P
linked_in P [] i all = tt
linked_in P (g ∷ gs) zero all = All-head (λ x. P x.group) g gs all
linked_in P (g ∷ gs) (suc i) all = linked_in P gs i (All-tail (λ x. P x.group) g gs all)

pub sound-group : (gs : List NamedGroup) → AreSound gs → (id : ℕ) → IfSome (group_at gs id) (LinksWithin (length gs))
sound-group gs sound zero = tt
sound-group gs sound (suc i) = linked_in (LinksWithin (length gs)) gs i sound.linked

pub sound-push : (gs : List NamedGroup) (g : NamedGroup) → AreSound gs → length gs < 4294967295
    → LinksWithin (length gs) g.group → known_id gs g.name ≡ None → AreSound (gs ++ g ∷ [])
sound-push gs g sound few link none =
    let longer : length (gs ++ g ∷ []) ≡ length gs + 1 = length-append gs (g ∷ []) in
    let more : length gs ≤ length (gs ++ g ∷ []) = omega arith in
    let Old : NamedGroup → Type 0 = λ x. LinksWithin (length gs) x.group in
    let New : NamedGroup → Type 0 = λ x. LinksWithin (length (gs ++ g ∷ [])) x.group in
    let widen : (x : NamedGroup) → Old x → New x = λ x h. links-more (length gs) (length (gs ++ g ∷ [])) x.group more h in
    record {
      few = omega arith;
      linked = All-append New gs (g ∷ []) (All-weaker Old New widen gs sound.linked) (All-cons New g [] (widen g link) (All-nil New));
      distinct = subst (IsDistinct bytes_eq) (sym (map-append (λ x. x.name) gs (g ∷ [])))
          (IsDistinct-push nat_list_eq_equiv (names gs) g.name sound.distinct (none_named gs g.name none));
    }

pub length-with_group : (gs : List NamedGroup) (id : ℕ) (group : Group) → length (with_group gs id group) ≡ length gs
length-with_group gs id group = length-set gs (id - 1) _

pub sound-with_group : (gs : List NamedGroup) (id : ℕ) (group : Group) → AreSound gs → 0 < id
    → LinksWithin (length gs) group → AreSound (with_group gs id group)
sound-with_group gs id group sound first link =
    let same : length gs ≡ length (with_group gs id group) = sym (length-with_group gs id group) in
    record {
      few = subst (λ n. n < 2 ^ 32) same sound.few;
      linked = subst (λ n. All (λ x. LinksWithin n x.group) (with_group gs id group)) same
          (All-set (λ x. LinksWithin (length gs) x.group) gs (id - 1) _ link sound.linked);
      distinct = subst (IsDistinct bytes_eq) (sym (names-with_group gs id group first)) sound.distinct;
    }

pub sound-nothing : AreSound []
unfolding IsDistinct
sound-nothing = record { few = omega arith; linked = All-nil (λ x. LinksWithin 0 x.group); distinct = tt }

-- ---- following links
module _ (gs : List NamedGroup) where
  pub at_plain : (links : ℕ) (group : Option Group) (attr : Attr) → group ≡ Some (Plain attr) → attr ≡ attr_along links gs group
  unfolding attr_along
  at_plain zero group attr is = sym (ap (attr_along zero gs) is)
  at_plain (suc links) group attr is = sym (ap (attr_along (suc links) gs) is)

  pub at_nothing : (links : ℕ) (group : Option Group) → group ≡ None → empty_attr ≡ attr_along links gs group
  unfolding attr_along
  at_nothing zero group is = sym (ap (attr_along zero gs) is)
  at_nothing (suc links) group is = sym (ap (attr_along (suc links) gs) is)

  pub at_last_link : (group : Option Group) (id : ℕ) → group ≡ Some (Link id) → empty_attr ≡ attr_along 0 gs group
  unfolding attr_along
  at_last_link group id is = sym (ap (attr_along 0 gs) is)

  pub at_link : (more links : ℕ) (group next : Option Group) (id : ℕ) → more ≡ suc links → group ≡ Some (Link id) → next ≡ group_at gs id
      → attr_along links gs next ≡ attr_along more gs group
  unfolding attr_along
  at_link more links group next id counted is reached =
      ap (attr_along links gs) reached ∙ sym (ap (λ n. attr_along n gs group) counted ∙ ap (attr_along (suc links) gs) is)
