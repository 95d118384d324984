-- The index of names, as groups come.
use Rattle.std.proofs.Common.{◌≡◌, ◌+◌, ℕ, List, [], ◌∷◌, ◌++◌, length, refl, sym, ap, subst, ◌∙◌, Bool, true, false, cond, Option, Some, None, Vec, nat_cmp}
use Rattle.std.proofs.lemmas.Map.Text.{is_eq-slice_cmp}
use Rattle.std.specs.BTreeMap.{BTreeMap, UpdatesBy, get_by, is_at}
use Rattle.std.specs.Cmp.{eq_by_cmp_equiv}
use Rattle.std.specs.Cmp.Lexicographic.{slice_cmp, bytes_decides, nat_list_cmp_total, nat_list_eq_equiv}
use Rattle.std.specs.Map.{lookup, IsKeyTest, AreApart, KeepsOthers}
use Rattle.std.specs.Ordering.{is_eq}
use Rattle.std.specs.Str.{bytes_eq}
use Rattle.nv_hl.specs.declared.linking.Group.{Group}
use Rattle.nv_hl.specs.Groups.{NamedGroup, HasGroup, known_id, with_group}
use Rattle.nv_hl.specs.inside.Stored.{IsIndex}
use Rattle.nv_hl.proofs.GroupLemmas.{known-after, known-names, names-with_group}

apart : (bs cs ks : List ℕ) → bytes_eq bs cs ≡ false → bytes_eq bs ks ≡ true → bytes_eq cs ks ≡ false
apart bs cs ks n y = nat_list_eq_equiv.symm cs ks ∙ sym (nat_list_eq_equiv.congr bs ks cs y) ∙ n

apart_in_order : (bs cs ks : List ℕ) → bytes_eq bs cs ≡ false → is_eq (slice_cmp nat_cmp bs ks) ≡ true
    → is_eq (slice_cmp nat_cmp cs ks) ≡ false
apart_in_order bs cs ks n y = is_eq-slice_cmp cs ks ∙ apart bs cs ks n (sym (is_eq-slice_cmp bs ks) ∙ y)

other_entries : {K X : Type 0} (eq : K → K → Bool) (test : K → Bool) (old new : List (K × X)) → KeepsOthers eq test old new
    → (other : K → Bool) → IsKeyTest eq other → AreApart test other → lookup other new ≡ lookup other old
unfolding KeepsOthers
other_entries eq test old new h = h

module _ {A : Type 0} where
  -- what the map has of a name
  abbrev at : BTreeMap (Vec ℕ A) ℕ → List ℕ → Option ℕ
  at m name = get_by (λ k. slice_cmp nat_cmp name k.items) m

  updated-by : (b : Bool) (key : Vec ℕ A) (m n : BTreeMap (Vec ℕ A) ℕ) (w : Option ℕ) (name : List ℕ) → bytes_eq key.items name ≡ b
      → UpdatesBy (λ x y. slice_cmp nat_cmp x.items y.items) (λ k. slice_cmp nat_cmp key.items k.items) m n w
      → at n name ≡ cond b w (at m name)
  updated-by true key m n w name e h = subst (λ l. at n l ≡ w) ((bytes_decides key.items name).0 e) h.1
  updated-by false key m n w name e h =
      other_entries _ _ _ _ h.3 _ (λ x y. (eq_by_cmp_equiv nat_list_cmp_total).congr name x.items y.items)
      (λ k. apart_in_order key.items name k.items e)

  -- the index once there is one group more
  pub index-after : (key : Vec ℕ A) (m n : BTreeMap (Vec ℕ A) ℕ) (id : ℕ) (gs new : List NamedGroup) (g : NamedGroup)
      → new ≡ gs ++ g ∷ [] → key.items ≡ g.name → id ≡ length gs + 1 → known_id gs g.name ≡ None → IsIndex m gs
      → UpdatesBy (λ x y. slice_cmp nat_cmp x.items y.items) (λ k. slice_cmp nat_cmp key.items k.items) m n (Some id)
      → IsIndex n new
  index-after key m n id gs new g pushed same count none is h = λ name.
      let b = bytes_eq key.items name in
      updated-by b key m n (Some id) name refl h
      ∙ (λ i. cond b (Some (count i)) (is name i))
      ∙ ap (λ t. cond (bytes_eq t name) (Some (length gs + 1)) (known_id gs name)) same
      ∙ sym (known-after gs g name none)
      ∙ ap (λ xs. known_id xs name) (sym pushed)

  -- the index once another group is put at an id
  pub index-with_group : (m : BTreeMap (Vec ℕ A) ℕ) (gs new : List NamedGroup) (id : ℕ) (group : Group) → HasGroup gs id
      → new ≡ with_group gs id group → IsIndex m gs → IsIndex m new
  index-with_group m gs new id group there put is = λ name.
      is name
      ∙ sym (ap (λ xs. known_id xs name) put ∙ known-names (with_group gs id group) gs name (names-with_group gs id group there.0))

  -- no group, no name
  pub index-empty : (m : BTreeMap (Vec ℕ A) ℕ) (gs : List NamedGroup) → m.entries ≡ [] → gs ≡ [] → IsIndex m gs
  index-empty m gs empty none = λ name.
      ap (λ es. lookup (is_at (λ k. slice_cmp nat_cmp name k.items)) es) empty ∙ sym (ap (λ xs. known_id xs name) none)
