-- Names and ids by the bytes of the names, as namespaces come.
use Rattle.std.proofs.Common.{◌≡◌, ◌≤◌, ℕ, suc, ◌+◌, ◌==◌, List, [], ◌∷◌, ◌++◌, length, map, refl, sym, ap, subst, ◌∙◌, arith, Bool, true, false, cond, Option, Some, None, Vec, Ordering, true≢false}
use Rattle.std.specs.Prelude.{position, bytes_eq, option_map}
use Rattle.std.specs.List.{position_from}
use Rattle.std.specs.BTreeMap.{BTreeMap, insert_entry, get_by, is_at}
use Rattle.std.specs.Cmp.Lexicographic.{slice_cmp, bytes_decides, nat_list_cmp_total}
use Rattle.std.specs.Map.{lookup}
use Rattle.std.specs.Ordering.{nat_cmp, is_lt, is_eq, ordering_reverse, match_ordering}
use Rattle.std.specs.declared.cmp.Ordering.TheVariants.{Less, Equal, Greater}
use Rattle.std.proofs.lemmas.Bool.Decides.{nat_tests}
use Rattle.std.proofs.lemmas.Iterator.Adapters.{position_from-zero}
use Rattle.std.proofs.lemmas.Map.Text.{is_eq-slice_cmp}
use Rattle.std.proofs.lemmas.Option.{none-some}
use Rattle.nv_editor.specs.Namespaces.{id_of_name, in_name_order, named_namespaces}
use Rattle.nv_editor.specs.inside.Ids.{ids_kept, AreIdsOf, with_name}

abbrev by_bytes : List ℕ → List ℕ → Ordering
by_bytes xs ys = slice_cmp nat_cmp xs ys

-- ---- the order
back_of_less : (xs ys : List ℕ) → by_bytes xs ys ≡ Less → by_bytes ys xs ≡ Greater
back_of_less xs ys h = nat_list_cmp_total.antisymm ys xs ∙ ap ordering_reverse h

back_of_greater : (xs ys : List ℕ) → by_bytes xs ys ≡ Greater → by_bytes ys xs ≡ Less
back_of_greater xs ys h = nat_list_cmp_total.antisymm ys xs ∙ ap ordering_reverse h

less_from : (o : Ordering) → is_lt o ≡ true → o ≡ Less
less_from Less h = refl
less_from Equal h = absurd (true≢false (sym h))
less_from Greater h = absurd (true≢false (sym h))

apart_from : (xs ys : List ℕ) (o : Ordering) → by_bytes xs ys ≡ o → is_eq o ≡ false → bytes_eq xs ys ≡ false
apart_from xs ys o h apart = sym (is_eq-slice_cmp xs ys) ∙ ap is_eq h ∙ apart

-- ---- one entry put among others
low : (e o : List ℕ × ℕ) (os : List (List ℕ × ℕ)) → is_lt (by_bytes o.0 e.0) ≡ true → in_name_order e (o ∷ os) ≡ o ∷ in_name_order e os
low e o os h = ap (λ (t : Bool). cond t (o ∷ in_name_order e os) (e ∷ o ∷ os)) h

high : (e o : List ℕ × ℕ) (os : List (List ℕ × ℕ)) → is_lt (by_bytes o.0 e.0) ≡ false → in_name_order e (o ∷ os) ≡ e ∷ o ∷ os
high e o os h = ap (λ (t : Bool). cond t (o ∷ in_name_order e os) (e ∷ o ∷ os)) h

commute_less : (a b : List ℕ × ℕ) (l : List (List ℕ × ℕ)) → by_bytes a.0 b.0 ≡ Less
    → in_name_order a (in_name_order b l) ≡ in_name_order b (in_name_order a l)
commute_less a b [] lt = high a b [] (ap is_lt (back_of_less a.0 b.0 lt)) ∙ sym (low b a [] (ap is_lt lt))
commute_less a b (x ∷ l) lt = by (is_lt (by_bytes x.0 a.0)) (is_lt (by_bytes x.0 b.0)) refl refl (commute_less a b l lt)
  where
    by : (t u : Bool) → is_lt (by_bytes x.0 a.0) ≡ t → is_lt (by_bytes x.0 b.0) ≡ u
        → in_name_order a (in_name_order b l) ≡ in_name_order b (in_name_order a l)
        → in_name_order a (in_name_order b (x ∷ l)) ≡ in_name_order b (in_name_order a (x ∷ l))
    by true true t u rest =
        ap (in_name_order a) (low b x l u) ∙ low a x (in_name_order b l) t
        ∙ ap (λ (r : List (List ℕ × ℕ)). x ∷ r) rest
        ∙ sym (ap (in_name_order b) (low a x l t) ∙ low b x (in_name_order a l) u)
    by true false t u rest =
        let through = nat_list_cmp_total.trans x.0 a.0 b.0 (less_from (by_bytes x.0 a.0) t) lt in
        absurd (true≢false (sym (ap is_lt through) ∙ u))
    by false true t u rest =
        ap (in_name_order a) (low b x l u) ∙ high a x (in_name_order b l) t
        ∙ sym (ap (in_name_order b) (high a x l t) ∙ low b a (x ∷ l) (ap is_lt lt) ∙ ap (λ (r : List (List ℕ × ℕ)). a ∷ r) (low b x l u))
    by false false t u rest =
        ap (in_name_order a) (high b x l u) ∙ high a b (x ∷ l) (ap is_lt (back_of_less a.0 b.0 lt))
        ∙ sym (ap (in_name_order b) (high a x l t) ∙ low b a (x ∷ l) (ap is_lt lt) ∙ ap (λ (r : List (List ℕ × ℕ)). a ∷ r) (high b x l u))

commute : (a b : List ℕ × ℕ) (l : List (List ℕ × ℕ)) → bytes_eq a.0 b.0 ≡ false
    → in_name_order a (in_name_order b l) ≡ in_name_order b (in_name_order a l)
commute a b l apart = by (by_bytes a.0 b.0) refl
  where
    by : (o : Ordering) → by_bytes a.0 b.0 ≡ o → in_name_order a (in_name_order b l) ≡ in_name_order b (in_name_order a l)
    by Less is = commute_less a b l is
    by Equal is = absurd (true≢false (sym (ap is_eq is) ∙ is_eq-slice_cmp a.0 b.0 ∙ apart))
    by Greater is = sym (commute_less b a l (back_of_greater a.0 b.0 is))

-- ---- look-ups
found : (name : List ℕ) (id : ℕ) (l : List (List ℕ × ℕ)) → lookup (bytes_eq name) (in_name_order (name, id) l) ≡ Some id
found name id [] = ap (λ (t : Bool). cond t (Some id) None) ((bytes_decides name name).1 refl)
found name id (x ∷ l) = by (is_lt (by_bytes x.0 name)) refl (found name id l)
  where
    by : (t : Bool) → is_lt (by_bytes x.0 name) ≡ t → lookup (bytes_eq name) (in_name_order (name, id) l) ≡ Some id
        → lookup (bytes_eq name) (in_name_order (name, id) (x ∷ l)) ≡ Some id
    by true t rest =
        let apart : bytes_eq name x.0 ≡ false =
        apart_from name x.0 Greater (back_of_less x.0 name (less_from (by_bytes x.0 name) t)) refl in
        ap (lookup (bytes_eq name)) (low (name, id) x l t)
        ∙ ap (λ (u : Bool). cond u (Some x.1) (lookup (bytes_eq name) (in_name_order (name, id) l))) apart
        ∙ rest
    by false t rest =
        ap (lookup (bytes_eq name)) (high (name, id) x l t)
        ∙ ap (λ (u : Bool). cond u (Some id) (lookup (bytes_eq name) (x ∷ l))) ((bytes_decides name name).1 refl)

passed : (name : List ℕ) (e : List ℕ × ℕ) (l : List (List ℕ × ℕ)) → bytes_eq name e.0 ≡ false
    → lookup (bytes_eq name) (in_name_order e l) ≡ lookup (bytes_eq name) l
passed name e [] apart = ap (λ (u : Bool). cond u (Some e.1) None) apart
passed name e (x ∷ l) apart = by (is_lt (by_bytes x.0 e.0)) refl (passed name e l apart)
  where
    by : (t : Bool) → is_lt (by_bytes x.0 e.0) ≡ t → lookup (bytes_eq name) (in_name_order e l) ≡ lookup (bytes_eq name) l
        → lookup (bytes_eq name) (in_name_order e (x ∷ l)) ≡ lookup (bytes_eq name) (x ∷ l)
    by true t rest =
        ap (lookup (bytes_eq name)) (low e x l t) ∙ ap (λ (o : Option ℕ). cond (bytes_eq name x.0) (Some x.1) o) rest
    by false t rest =
        ap (lookup (bytes_eq name)) (high e x l t)
        ∙ ap (λ (u : Bool). cond u (Some e.1) (lookup (bytes_eq name) (x ∷ l))) apart

-- ---- namespaces
some_bytes : (name other : List ℕ) → (length name == 0) ≡ false → (length other == 0) ≡ true → bytes_eq name other ≡ false
some_bytes name [] some none = by name some
  where
    by : (xs : List ℕ) → (length xs == 0) ≡ false → bytes_eq xs [] ≡ false
    by [] h = absurd (true≢false h)
    by (x ∷ xs) h = refl
some_bytes name (o ∷ os) some none = absurd (grind (arith, nat_tests))

named_first : (name : List ℕ) (id : ℕ) (names : List (List ℕ)) → (length name == 0) ≡ false
    → lookup (bytes_eq name) (named_namespaces id names) ≡ position_from (bytes_eq name) id names
named_first name id [] some = refl
named_first name id (n ∷ names) some = by (length n == 0) (bytes_eq name n) refl refl
    (named_first name (suc id) names some ∙ ap (λ (k : ℕ). position_from (bytes_eq name) k names) (omega arith))
  where
    by : (t u : Bool) → (length n == 0) ≡ t → bytes_eq name n ≡ u
        → lookup (bytes_eq name) (named_namespaces (suc id) names) ≡ position_from (bytes_eq name) (id + 1) names
        → lookup (bytes_eq name) (cond (length n == 0) (named_namespaces (suc id) names) (in_name_order (n, id) (named_namespaces (suc id) names)))
        ≡ cond (bytes_eq name n) (Some id) (position_from (bytes_eq name) (id + 1) names)
    by true u t is rest =
        ap (λ (b : Bool). lookup (bytes_eq name) (cond b (named_namespaces (suc id) names) (in_name_order (n, id) (named_namespaces (suc id) names)))) t
        ∙ rest
        ∙ sym (ap (λ (b : Bool). cond b (Some id) (position_from (bytes_eq name) (id + 1) names)) (some_bytes name n some t))
    by false true t is rest =
        ap (λ (b : Bool). lookup (bytes_eq name) (cond b (named_namespaces (suc id) names) (in_name_order (n, id) (named_namespaces (suc id) names)))) t
        ∙ ap (λ (m : List ℕ). lookup (bytes_eq name) (in_name_order (m, id) (named_namespaces (suc id) names))) (sym ((bytes_decides name n).0 is))
        ∙ found name id (named_namespaces (suc id) names)
        ∙ sym (ap (λ (b : Bool). cond b (Some id) (position_from (bytes_eq name) (id + 1) names)) is)
    by false false t is rest =
        ap (λ (b : Bool). lookup (bytes_eq name) (cond b (named_namespaces (suc id) names) (in_name_order (n, id) (named_namespaces (suc id) names)))) t
        ∙ passed name (n, id) (named_namespaces (suc id) names) is
        ∙ rest
        ∙ sym (ap (λ (b : Bool). cond b (Some id) (position_from (bytes_eq name) (id + 1) names)) is)

suc-position_from : (p : List ℕ → Bool) (id : ℕ) (names : List (List ℕ)) → option_map (λ k. suc k) (position_from p id names) ≡ position_from p (id + 1) names
suc-position_from p id [] = refl
suc-position_from p id (n ∷ names) = by (p n) (suc-position_from p (id + 1) names)
  where
    by : (t : Bool) → option_map (λ k. suc k) (position_from p (id + 1) names) ≡ position_from p (id + 1 + 1) names
        → option_map (λ k. suc k) (cond t (Some id) (position_from p (id + 1) names)) ≡ cond t (Some (id + 1)) (position_from p (id + 1 + 1) names)
    by true rest = ap (λ (k : ℕ). Some k) (omega arith)
    by false rest = rest

-- the id of a name that isn't empty is the first place from 1 where it stands
place_is : (name : List ℕ) (names : List (List ℕ)) → (length name == 0) ≡ false → id_of_name name names ≡ position_from (bytes_eq name) 1 names
place_is name names some =
    ap (λ (b : Bool). cond b None (option_map (λ k. suc k) (position (bytes_eq name) names))) some
    ∙ ap (option_map (λ k. suc k)) (position_from-zero (bytes_eq name) names)
    ∙ suc-position_from (bytes_eq name) 0 names

-- ---- one more namespace
push_unnamed : (id : ℕ) (names : List (List ℕ)) (name : List ℕ) → (length name == 0) ≡ true
    → named_namespaces id (names ++ name ∷ []) ≡ named_namespaces id names
push_unnamed id [] name none = ap (λ (t : Bool). cond t [] ((name, id) ∷ [])) none
push_unnamed id (n ∷ names) name none =
    ap (λ (l : List (List ℕ × ℕ)). cond (length n == 0) l (in_name_order (n, id) l)) (push_unnamed (suc id) names name none)

push_named : (id : ℕ) (names : List (List ℕ)) (name : List ℕ) (k : ℕ) → k ≡ id + length names → (length name == 0) ≡ false
    → position_from (bytes_eq name) id names ≡ None
    → named_namespaces id (names ++ name ∷ []) ≡ in_name_order (name, k) (named_namespaces id names)
push_named id [] name k is some fresh =
    ap (λ (t : Bool). cond t [] ((name, id) ∷ [])) some ∙ ap (λ (j : ℕ). (name, j) ∷ []) (sym (is ∙ omega arith))
push_named id (n ∷ names) name k is some fresh = by (length n == 0) (bytes_eq name n) refl refl (push_named (suc id) names name k (is ∙ omega arith) some)
  where
    skip : (t : Bool) → bytes_eq name n ≡ t → cond t (Some id) (position_from (bytes_eq name) (id + 1) names) ≡ None
    skip t e = ap (λ (b : Bool). cond b (Some id) (position_from (bytes_eq name) (id + 1) names)) (sym e) ∙ fresh

    none_behind : bytes_eq name n ≡ false → position_from (bytes_eq name) (suc id) names ≡ None
    none_behind apart = ap (λ (j : ℕ). position_from (bytes_eq name) j names) (omega arith) ∙ skip false apart

    by : (t u : Bool) → (length n == 0) ≡ t → bytes_eq name n ≡ u
        → (position_from (bytes_eq name) (suc id) names ≡ None → named_namespaces (suc id) (names ++ name ∷ []) ≡ in_name_order (name, k) (named_namespaces (suc id) names))
        → cond (length n == 0) (named_namespaces (suc id) (names ++ name ∷ [])) (in_name_order (n, id) (named_namespaces (suc id) (names ++ name ∷ [])))
        ≡ in_name_order (name, k) (cond (length n == 0) (named_namespaces (suc id) names) (in_name_order (n, id) (named_namespaces (suc id) names)))
    by t true e same rest = absurd (none-some id (sym (skip true same)))
    by true false e apart rest =
        ap (λ (b : Bool). cond b (named_namespaces (suc id) (names ++ name ∷ [])) (in_name_order (n, id) (named_namespaces (suc id) (names ++ name ∷ [])))) e
        ∙ rest (none_behind apart)
        ∙ sym (ap (λ (b : Bool). in_name_order (name, k) (cond b (named_namespaces (suc id) names) (in_name_order (n, id) (named_namespaces (suc id) names)))) e)
    by false false e apart rest =
        ap (λ (b : Bool). cond b (named_namespaces (suc id) (names ++ name ∷ [])) (in_name_order (n, id) (named_namespaces (suc id) (names ++ name ∷ [])))) e
        ∙ ap (in_name_order (n, id)) (rest (none_behind apart))
        ∙ sym (commute (name, k) (n, id) (named_namespaces (suc id) names) apart)
        ∙ sym (ap (λ (b : Bool). in_name_order (name, k) (cond b (named_namespaces (suc id) names) (in_name_order (n, id) (named_namespaces (suc id) names)))) e)

-- the namespaces with one more
pub one_more : (names new : List (List ℕ)) (name : List ℕ) (id : ℕ) → new ≡ names ++ name ∷ [] → id ≡ length names + 1 → id_of_name name names ≡ None
    → with_name name id (named_namespaces 1 names) ≡ named_namespaces 1 new
one_more names new name id pushed count fresh = by (length name == 0) refl ∙ ap (named_namespaces 1) (sym pushed)
  where
    by : (t : Bool) → (length name == 0) ≡ t → with_name name id (named_namespaces 1 names) ≡ named_namespaces 1 (names ++ name ∷ [])
    by true none =
        ap (λ (b : Bool). cond b (named_namespaces 1 names) (in_name_order (name, id) (named_namespaces 1 names))) none
        ∙ sym (push_unnamed 1 names name none)
    by false some =
        ap (λ (b : Bool). cond b (named_namespaces 1 names) (in_name_order (name, id) (named_namespaces 1 names))) some
        ∙ sym (push_named 1 names name id (omega arith) some (sym (place_is name names some) ∙ fresh))

-- ---- the map
module _ {A : Type 0} where
  kept_lookup : (es : List (Vec ℕ A × ℕ)) (name : List ℕ)
      → lookup (is_at (λ (k : Vec ℕ A). slice_cmp nat_cmp name k.items)) es
      ≡ lookup (bytes_eq name) (map (λ (e : Vec ℕ A × ℕ). (e.0.items, e.1)) es)
  kept_lookup [] name = refl
  kept_lookup (e ∷ es) name = λ i. cond (is_eq-slice_cmp name e.0.items i) (Some e.1) (kept_lookup es name i)

  -- what the map has of a name that isn't empty is its id
  pub id_found : (ids : BTreeMap (Vec ℕ A) ℕ) (names : List (List ℕ)) (name : List ℕ) → (length name == 0) ≡ false → AreIdsOf ids names
      → get_by (λ (k : Vec ℕ A). slice_cmp nat_cmp name k.items) ids ≡ id_of_name name names
  id_found ids names name some are =
      kept_lookup ids.entries name
      ∙ ap (lookup (bytes_eq name)) are
      ∙ named_first name 1 names some
      ∙ sym (place_is name names some)

  abbrev pairs : List (Vec ℕ A × ℕ) → List (List ℕ × ℕ)
  pairs l = map (λ (d : Vec ℕ A × ℕ). (d.0.items, d.1)) l

  entry_put : (es : List (Vec ℕ A × ℕ)) (key : Vec ℕ A) (id : ℕ)
      → lookup (is_at (λ (k : Vec ℕ A). slice_cmp nat_cmp key.items k.items)) es ≡ None
      → map (λ (e : Vec ℕ A × ℕ). (e.0.items, e.1)) (insert_entry (λ (x y : Vec ℕ A). slice_cmp nat_cmp x.items y.items) es key id)
      ≡ in_name_order (key.items, id) (map (λ (e : Vec ℕ A × ℕ). (e.0.items, e.1)) es)
  entry_put [] key id fresh = refl
  entry_put (e ∷ es) key id fresh = by (by_bytes key.items e.0.items) refl (entry_put es key id)
    where
      absent : (o : Ordering) → by_bytes key.items e.0.items ≡ o
          → cond (is_eq o) (Some e.1) (lookup (is_at (λ (k : Vec ℕ A). slice_cmp nat_cmp key.items k.items)) es) ≡ None
      absent o is = ap (λ (p : Ordering). cond (is_eq p) (Some e.1) (lookup (is_at (λ (k : Vec ℕ A). slice_cmp nat_cmp key.items k.items)) es)) (sym is) ∙ fresh

      chosen : (o : Ordering) → by_bytes key.items e.0.items ≡ o
          → pairs (insert_entry (λ (x y : Vec ℕ A). slice_cmp nat_cmp x.items y.items) (e ∷ es) key id)
          ≡ pairs (match_ordering o ((key, id) ∷ e ∷ es) ((e.0, id) ∷ es) (e ∷ insert_entry (λ (x y : Vec ℕ A). slice_cmp nat_cmp x.items y.items) es key id))
      chosen o is = ap (λ (p : Ordering). pairs (match_ordering p ((key, id) ∷ e ∷ es) ((e.0, id) ∷ es) (e ∷ insert_entry (λ (x y : Vec ℕ A). slice_cmp nat_cmp x.items y.items) es key id))) is

      by : (o : Ordering) → by_bytes key.items e.0.items ≡ o
          → (lookup (is_at (λ (k : Vec ℕ A). slice_cmp nat_cmp key.items k.items)) es ≡ None
          → map (λ (d : Vec ℕ A × ℕ). (d.0.items, d.1)) (insert_entry (λ (x y : Vec ℕ A). slice_cmp nat_cmp x.items y.items) es key id)
          ≡ in_name_order (key.items, id) (map (λ (d : Vec ℕ A × ℕ). (d.0.items, d.1)) es))
          → map (λ (d : Vec ℕ A × ℕ). (d.0.items, d.1)) (insert_entry (λ (x y : Vec ℕ A). slice_cmp nat_cmp x.items y.items) (e ∷ es) key id)
          ≡ in_name_order (key.items, id) (map (λ (d : Vec ℕ A × ℕ). (d.0.items, d.1)) (e ∷ es))
      by Less is rest =
          chosen Less is
          ∙ sym (high (key.items, id) (e.0.items, e.1) (map (λ (d : Vec ℕ A × ℕ). (d.0.items, d.1)) es) (ap is_lt (back_of_less key.items e.0.items is)))
      by Equal is rest = absurd (none-some e.1 (sym (absent Equal is)))
      by Greater is rest =
          chosen Greater is
          ∙ ap (λ (l : List (List ℕ × ℕ)). (e.0.items, e.1) ∷ l) (rest (absent Greater is))
          ∙ sym (low (key.items, id) (e.0.items, e.1) (map (λ (d : Vec ℕ A × ℕ). (d.0.items, d.1)) es) (ap is_lt (back_of_greater key.items e.0.items is)))

  -- the map once a name that isn't empty is put into it
  pub name_put : (ids new : BTreeMap (Vec ℕ A) ℕ) (key : Vec ℕ A) (name : List ℕ) (id : ℕ) (names : List (List ℕ))
      → new.entries ≡ insert_entry (λ (x y : Vec ℕ A). slice_cmp nat_cmp x.items y.items) ids.entries key id
      → key.items ≡ name → (length name == 0) ≡ false → AreIdsOf ids names → id_of_name name names ≡ None
      → ids_kept new ≡ with_name name id (ids_kept ids)
  name_put ids new key name id names entries same some are fresh =
      ap (λ (es : List (Vec ℕ A × ℕ)). map (λ (e : Vec ℕ A × ℕ). (e.0.items, e.1)) es) entries
      ∙ entry_put ids.entries key id
      (ap (λ (n : List ℕ). get_by (λ (k : Vec ℕ A). slice_cmp nat_cmp n k.items) ids) same ∙ id_found ids names name some are ∙ fresh)
      ∙ ap (λ (n : List ℕ). in_name_order (n, id) (ids_kept ids)) same
      ∙ sym (ap (λ (b : Bool). cond b (ids_kept ids) (in_name_order (name, id) (ids_kept ids))) some)

-- ---- how many there are
one-entry-more : (e : List ℕ × ℕ) (l : List (List ℕ × ℕ)) → length (in_name_order e l) ≡ suc (length l)
one-entry-more e [] = refl
one-entry-more e (o ∷ os) = by (is_lt (by_bytes o.0 e.0)) (one-entry-more e os)
  where
    by : (t : Bool) → length (in_name_order e os) ≡ suc (length os)
        → length (cond t (o ∷ in_name_order e os) (e ∷ o ∷ os)) ≡ suc (suc (length os))
    by true rest = ap suc rest
    by false rest = refl

-- no more namespaces have a name than there are
pub named-few : (id : ℕ) (names : List (List ℕ)) → length (named_namespaces id names) ≤ length names
named-few id [] = omega arith
named-few id (name ∷ names) = by (length name == 0) (named-few (suc id) names)
  where
    by : (t : Bool) → length (named_namespaces (suc id) names) ≤ length names
        → length (cond t (named_namespaces (suc id) names) (in_name_order (name, id) (named_namespaces (suc id) names))) ≤ suc (length names)
    by true rest = omega (arith, rest)
    by false rest = omega (arith, rest, one-entry-more (name, id) (named_namespaces (suc id) names))
