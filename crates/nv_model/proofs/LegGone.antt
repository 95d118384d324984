-- The parts of changes once a leg in the tree is gone.
use Rattle.std.proofs.Common.{◌≡◌, ℕ, zero, suc, ◌+◌, ◌-◌, ◌<◌, ◌≤◌, List, [], ◌∷◌, ◌++◌, length, take, fold, refl, ap, sym, ◌∙◌, arith, All, Bool, true, false, cond, eqb, ◌||◌, if◌then◌else◌, subst, Option, Some, None, inl, inr}
use Rattle.std.specs.Prelude.{option_map, unwrap_or}
use Rattle.std.specs.Option.{option_map_or}
use Rattle.std.proofs.lemmas.Bool.{cases_eq}
use Rattle.std.proofs.lemmas.Bool.Decides.{nat_tests}
use Rattle.std.proofs.lemmas.List.Elements.{All-append, All-cons, All-nil, All-weaker}
use Rattle.std.proofs.lemmas.List.Folds.{list_any-append}
use Rattle.nv_undo.specs.Tree.{Undo, parent_of, tree_after_leg, has, ancestors, ancestors_within}
use Rattle.nv_undo.specs.Ways.{origin}
use Rattle.nv_undo.specs.declared.legs.Leg.{Leg}
use Rattle.nv_undo.specs.declared.legs.Leg.TheVariants.{Back, Ahead}
use Rattle.nv_undo.proofs.NumberLemmas.{numbered_same, parent_same}
use Rattle.nv_undo.proofs.PathLemmas.{ancestors_below, ancestors_step, has_itself}
use Rattle.nv_buffer.specs.Changes.{lines_after}
use Rattle.nv_buffer.specs.declared.edit.ChangePart.{ChangePart}
use Rattle.nv_buffer.specs.declared.edit.Edit.{Edit}
use Rattle.nv_model.specs.Buffers.{Splice, Kept, ModelBuffer, text_after, inverse_splice, inverse_splices, text_of, is_same_part, kept_text}
use Rattle.nv_model.specs.Undoing.{splices_at, leg_splices}
use Rattle.nv_model.specs.Standing.{AreNumbered, ArePartsMet, AreWithin, IsPartIn, IsValid, LeadTo, splices_of, is_made, text_before, text_met}
use Rattle.nv_model.proofs.KeptPlaces.{AllOther}
use Rattle.nv_model.proofs.LegParts.{AreParts, LegMeets, ahead_meets, back_meets, elsewhere_inverses, elsewhere_others, met-append, met-none, met_ahead, met_back}

-- the splices of edits that are numbered
pub parts-of : (t : List (List ℕ)) (n i : ℕ) (es : List Edit) → AreNumbered n i es → AreParts n i (splices_of t es)
parts-of t n i [] are = tt
parts-of t n i (e ∷ es) are = (are.0, parts-of (lines_after t e) n (suc i) es are.1)

-- they are parts of the change
parts_low : (n i most : ℕ) (ss : List Splice) → AreParts n i ss → i + length ss ≤ most
    → All (λ (s : Splice). (s.part.change ≡ n) × (s.part.part < most)) ss
parts_low n i most [] are low = All-nil (λ (s : Splice). (s.part.change ≡ n) × (s.part.part < most))
parts_low n i most (s ∷ ss) are low =
    let part : s.part.part ≡ i = ap (λ (p : ChangePart). p.part) are.0 in
    All-cons (λ (u : Splice). (u.part.change ≡ n) × (u.part.part < most)) s ss
    (ap (λ (p : ChangePart). p.change) are.0, omega (arith, part, low)) (parts_low n (suc i) most ss are.1 (omega arith))

inverses_low : (n i most : ℕ) (base : List ℕ) (ss : List Splice) → AreParts n i ss → i + length ss ≤ most
    → All (λ (s : Splice). (s.part.change ≡ n) × (s.part.part < most)) (inverse_splices base ss)
inverses_low n i most base [] are low = All-nil (λ (s : Splice). (s.part.change ≡ n) × (s.part.part < most))
inverses_low n i most base (s ∷ ss) are low =
    let part : s.part.part ≡ i = ap (λ (p : ChangePart). p.part) are.0 in
    All-append (λ (u : Splice). (u.part.change ≡ n) × (u.part.part < most)) (inverse_splices (text_after base s) ss) (inverse_splice base s ∷ [])
    (inverses_low n (suc i) most (text_after base s) ss are.1 (omega arith))
    (All-cons (λ (u : Splice). (u.part.change ≡ n) × (u.part.part < most)) (inverse_splice base s) []
    (ap (λ (p : ChangePart). p.change) are.0, omega (arith, part, low)) (All-nil (λ (u : Splice). (u.part.change ≡ n) × (u.part.part < most))))

not_made : (p : ChangePart) (ss : List Splice) → AllOther p ss → is_made p ss ≡ false
not_made p [] others = refl
not_made p (s ∷ ss) others = ap (λ (b : Bool). b || is_made p ss) others.0 ∙ not_made p ss others.1

made_before : (p : ChangePart) (ss ts : List Splice) → AllOther p ts → is_made p (ss ++ ts) ≡ true → is_made p ss ≡ true
made_before p ss ts others made =
    let both : is_made p (ss ++ ts) ≡ (is_made p ss || is_made p ts) = list_any-append (λ (s : Splice). is_same_part p s.part) ss ts in
    by_case (is_made p ss) (sym (ap (λ (b : Bool). is_made p ss || b) (not_made p ts others)) ∙ sym both ∙ made)
  where
    by_case : (b : Bool) → (b || false) ≡ true → b ≡ true
    by_case true is = refl
    by_case false is = cc

above_same : (t u : Undo Kept) → t.changes ≡ u.changes → (steps n : ℕ) → ancestors_within steps t n ≡ ancestors_within steps u n
above_same t u same zero n = refl
above_same t u same (suc steps) n =
    ap (λ (o : Option ℕ). n ∷ option_map_or (ancestors_within steps t) o []) (parent_same t u same n) ∙ by_parent (parent_of u n) (above_same t u same steps)
  where
    by_parent : (o : Option ℕ) → ((p : ℕ) → ancestors_within steps t p ≡ ancestors_within steps u p)
        → n ∷ option_map_or (ancestors_within steps t) o [] ≡ n ∷ option_map_or (ancestors_within steps u) o []
    by_parent None rest = refl
    by_parent (Some p) rest = ap (λ (l : List ℕ). n ∷ l) (rest p)

has_behind : (a c : ℕ) (l : List ℕ) → (c ≡ a → ⊥) → has (a ∷ l) c ≡ has l c
has_behind a c l other = ap (λ (b : Bool). b || has l c) (unequal a c other)
  where
    unequal : (x y : ℕ) → (y ≡ x → ⊥) → eqb x y ≡ false
    unequal x y other = grind (arith, nat_tests)

-- a leg that is gone
pub record IsLegMet (m : ModelBuffer) (leg : Leg) : Type 0 where
  pub meets : LegMeets m [] (text_of m) (leg_splices m.first m.undo leg)
  pub parts : ArePartsMet
      (record m { splices = m.splices ++ leg_splices m.first m.undo leg; modified = true; undo = tree_after_leg leg m.undo })

-- ---- the trees before and after it have the same changes
module _ (first : List ℕ) (t u : Undo Kept) (same : t.changes ≡ u.changes) where
  splices-same : (n : ℕ) → splices_at t n ≡ splices_at u n
  splices-same n =
      ap (λ (o : Option (ℕ × Kept)). option_map_or (λ (c : Kept). c.splices) (option_map (λ (c : ℕ × Kept). c.1) o) []) (numbered_same t u same n)

  texts-same : (n : ℕ) → kept_text first t n ≡ kept_text first u n
  texts-same n =
      ap (λ (o : Option (ℕ × Kept)). option_map_or (λ (c : Kept). c.text) (option_map (λ (c : ℕ × Kept). c.1) o) first) (numbered_same t u same n)

  befores-same : (n i : ℕ) → text_before first t n i ≡ text_before first u n i
  befores-same n i =
      let from : origin t n ≡ origin u n = ap (λ (o : Option ℕ). unwrap_or o 0) (parent_same t u same n) in
      let base : kept_text first t (origin t n) ≡ kept_text first u (origin u n) = texts-same (origin t n) ∙ ap (kept_text first u) from in
      λ j. fold text_after (base j) (take i (splices-same n j))

module _ (m : ModelBuffer) (valid : IsValid m) (none : m.unsealed ≡ []) where
  text_is : text_of m ≡ kept_text m.first m.undo m.undo.current
  text_is =
      sym valid.since.makes ∙ ap (fold text_after (kept_text m.first m.undo m.undo.current)) none

  made_texts : fold text_after m.first m.splices ≡ kept_text m.first m.undo m.undo.current
  unfolding text_of
  made_texts = text_is

  abbrev after : Leg → List Splice → ModelBuffer
  after leg ss = record m { splices = m.splices ++ ss; modified = true; undo = tree_after_leg leg m.undo }

  none_open : (p : ChangePart) → p.part < length m.unsealed → ⊥
  none_open p low = empty p.part m.unsealed none low
    where
      empty : (i : ℕ) (ss : List Splice) → ss ≡ [] → i < length ss → ⊥
      empty i [] is low = absurd (omega arith)
      empty i (s ∷ ss) is low = cc

  -- ---- what is known of parts that were made before the leg, and of those of the leg
  known_still : (leg : Leg) (ss : List Splice) (n : ℕ) → (tree_after_leg leg m.undo).changes ≡ m.undo.changes
      → All (λ (s : Splice). (s.part.change ≡ n) × (s.part.part < length (splices_at m.undo n))) ss
      → All (λ (s : Splice). IsPartIn (after leg ss) s.part) (m.splices ++ ss)
  known_still leg ss n same low =
      All-append (λ (s : Splice). IsPartIn (after leg ss) s.part) m.splices ss
      (All-weaker (λ (s : Splice). IsPartIn m s.part) (λ (s : Splice). IsPartIn (after leg ss) s.part) (λ s here. still s.part here) m.splices valid.parts.known)
      (All-weaker (λ (s : Splice). (s.part.change ≡ n) × (s.part.part < length (splices_at m.undo n))) (λ (s : Splice). IsPartIn (after leg ss) s.part)
      (λ s here. of_leg s.part here.0 here.1) ss low)
    where
      count : (k : ℕ) → length (splices_at (tree_after_leg leg m.undo) k) ≡ length (splices_at m.undo k)
      count k = ap length (splices-same m.first (tree_after_leg leg m.undo) m.undo same k)

      still : (p : ChangePart) → IsPartIn m p → IsPartIn (after leg ss) p
      still p (inl here) = inl (omega (arith, here, count p.change))
      still p (inr here) = absurd (none_open p here.1)

      of_leg : (p : ChangePart) → p.change ≡ n → p.part < length (splices_at m.undo n) → IsPartIn (after leg ss) p
      of_leg p change here =
          inl (omega (arith, count p.change, ap (λ (k : ℕ). length (splices_at m.undo k)) change, here))

  -- ---- ahead
  module _ (n : ℕ) (next : parent_of m.undo n ≡ Some m.undo.current) (are : AreParts n 0 (splices_at m.undo n)) where
    abbrev ahead : Undo Kept
    ahead = tree_after_leg (Ahead n) m.undo

    below_ahead : m.undo.current < n
    below_ahead = valid.tree.below n m.undo.current next

    outside : has (ancestors m.undo m.undo.current) n ≡ false
    outside = ancestors_below m.undo m.undo.current n valid.tree below_ahead

    base_is : kept_text m.first m.undo (origin m.undo n) ≡ kept_text m.first m.undo m.undo.current
    base_is = ap (λ (o : Option ℕ). kept_text m.first m.undo (unwrap_or o 0)) next

    -- a part of the change was taken back last
    taken : (p : ChangePart) → p.change ≡ n → p.part < length (splices_at m.undo n) → is_made p m.splices ≡ true
        → text_met p [] m.first m.splices ≡ fold text_after (kept_text m.first m.undo m.undo.current) (take (suc p.part) (splices_at m.undo n))
    taken p change low made =
        let within : p.part < length (splices_at m.undo p.change) = omega (arith, low, ap (λ (k : ℕ). length (splices_at m.undo k)) change) in
        let not_in : has (ancestors m.undo m.undo.current) p.change ≡ false = ap (has (ancestors m.undo m.undo.current)) change ∙ outside in
        valid.parts.changes p within made
        ∙ ap (λ (b : Bool). text_before m.first m.undo p.change (cond b p.part (suc p.part))) not_in
        ∙ ap (λ (k : ℕ). text_before m.first m.undo k (suc p.part)) change
        ∙ ap (λ (t : List ℕ). fold text_after t (take (suc p.part) (splices_at m.undo n))) base_is

    above_ahead : ancestors ahead n ≡ n ∷ ancestors m.undo m.undo.current
    above_ahead =
        above_same ahead m.undo refl n n
        ∙ ancestors_step m.undo n m.undo.current valid.tree next

    changes_ahead : (p : ChangePart) → p.part < length (splices_at ahead p.change) → is_made p (m.splices ++ splices_at m.undo n) ≡ true
        → text_met p [] m.first (m.splices ++ splices_at m.undo n)
        ≡ text_before m.first ahead p.change (if has (ancestors ahead n) p.change then p.part else suc p.part)
    changes_ahead p low made = elim (cases_eq p.change n) [
      | inl change ↦ (
          let within : p.part < length (splices_at m.undo n) =
          omega (arith, low, ap length (splices-same m.first ahead m.undo refl p.change), ap (λ (k : ℕ). length (splices_at m.undo k)) change) in
          let in_it : has (ancestors ahead n) p.change ≡ true = ap (has (ancestors ahead n)) change ∙ has_itself ahead n in
          let first : p.part - zero ≡ p.part = omega arith in
          met-append p [] m.first m.splices (splices_at m.undo n)
          ∙ met_ahead p n 0 (text_met p [] m.first m.splices) (fold text_after m.first m.splices) (splices_at m.undo n) are change (omega arith) (omega (arith, within))
          ∙ (λ i. fold text_after (made_texts i) (take (first i) (splices_at m.undo n)))
          ∙ ap (λ (t : List ℕ). fold text_after t (take p.part (splices_at m.undo n))) (sym base_is)
          ∙ ap (λ (k : ℕ). text_before m.first m.undo k p.part) (sym change)
          ∙ sym (befores-same m.first ahead m.undo refl p.change p.part)
          ∙ ap (λ (b : Bool). text_before m.first ahead p.change (cond b p.part (suc p.part))) (sym in_it)
          )
      | inr other ↦ (
          let others : AllOther p (splices_at m.undo n) = elsewhere_others p n 0 (splices_at m.undo n) are other in
          let within : p.part < length (splices_at m.undo p.change) = omega (arith, low, ap length (splices-same m.first ahead m.undo refl p.change)) in
          let same : has (ancestors ahead n) p.change ≡ has (ancestors m.undo m.undo.current) p.change =
          ap (λ (l : List ℕ). has l p.change) above_ahead ∙ has_behind n p.change (ancestors m.undo m.undo.current) other in
          met-append p [] m.first m.splices (splices_at m.undo n)
          ∙ met-none p (text_met p [] m.first m.splices) (fold text_after m.first m.splices) (splices_at m.undo n) others
          ∙ valid.parts.changes p within (made_before p m.splices (splices_at m.undo n) others made)
          ∙ ap (λ (b : Bool). text_before m.first m.undo p.change (cond b p.part (suc p.part))) (sym same)
          ∙ sym (befores-same m.first ahead m.undo refl p.change (if has (ancestors ahead n) p.change then p.part else suc p.part))
          )
    ]

    pub leg_met_ahead : IsLegMet m (Ahead n)
    leg_met_ahead = record {
      meets =
          subst (λ (t : List ℕ). LegMeets m [] t (splices_at m.undo n)) (sym text_is)
          (ahead_meets m n 0 (splices_at m.undo n) [] (splices_at m.undo n) (kept_text m.first m.undo m.undo.current) refl refl (λ p low. tt) taken are);
      parts = record {
        known = known_still (Ahead n) (splices_at m.undo n) n refl (parts_low n 0 (length (splices_at m.undo n)) (splices_at m.undo n) are (omega arith));
        changes = changes_ahead;
        since = λ p change low. absurd (none_open p low);
      };
    }

  -- ---- back
  module _ (parent : ℕ) (left : parent_of m.undo m.undo.current ≡ Some parent) (are : AreParts m.undo.current 0 (splices_at m.undo m.undo.current))
      (leads : LeadTo (kept_text m.first m.undo parent) (splices_at m.undo m.undo.current) (kept_text m.first m.undo m.undo.current)) where
    abbrev back : Undo Kept
    back = tree_after_leg (Back m.undo.current) m.undo

    abbrev base : List ℕ
    base = kept_text m.first m.undo (origin m.undo m.undo.current)

    abbrev undone : List Splice
    undone = inverse_splices base (splices_at m.undo m.undo.current)

    from_is : origin m.undo m.undo.current ≡ parent
    from_is = ap (λ (o : Option ℕ). unwrap_or o 0) left

    arrives : back.current ≡ parent
    arrives = ap (λ (o : Option ℕ). unwrap_or o m.undo.current) left

    inside : has (ancestors m.undo m.undo.current) m.undo.current ≡ true
    inside = has_itself m.undo m.undo.current

    within_base : AreWithin base (splices_at m.undo m.undo.current)
    within_base = subst (λ (k : ℕ). AreWithin (kept_text m.first m.undo k) (splices_at m.undo m.undo.current)) (sym from_is) leads.within

    makes_base : fold text_after base (splices_at m.undo m.undo.current) ≡ kept_text m.first m.undo m.undo.current
    makes_base = ap (λ (k : ℕ). fold text_after (kept_text m.first m.undo k) (splices_at m.undo m.undo.current)) from_is ∙ leads.makes

    text_made : text_of m ≡ fold text_after base (splices_at m.undo m.undo.current)
    text_made = text_is ∙ sym makes_base

    texts_made : fold text_after m.first m.splices ≡ fold text_after base (splices_at m.undo m.undo.current)
    texts_made = made_texts ∙ sym makes_base

    -- a part of the change was made last
    made_last : (p : ChangePart) → p.change ≡ m.undo.current → p.part < length (splices_at m.undo m.undo.current) → is_made p m.splices ≡ true
        → text_met p [] m.first m.splices ≡ fold text_after base (take p.part (splices_at m.undo m.undo.current))
    made_last p change low made =
        let within : p.part < length (splices_at m.undo p.change) = omega (arith, low, ap (λ (k : ℕ). length (splices_at m.undo k)) change) in
        let in_it : has (ancestors m.undo m.undo.current) p.change ≡ true = ap (has (ancestors m.undo m.undo.current)) change ∙ inside in
        valid.parts.changes p within made
        ∙ ap (λ (b : Bool). text_before m.first m.undo p.change (cond b p.part (suc p.part))) in_it
        ∙ ap (λ (k : ℕ). text_before m.first m.undo k p.part) change

    above_back : ancestors m.undo m.undo.current ≡ m.undo.current ∷ ancestors m.undo parent
    above_back = ancestors_step m.undo m.undo.current parent valid.tree left

    below_back : ancestors back back.current ≡ ancestors m.undo parent
    below_back = ap (ancestors back) arrives ∙ above_same back m.undo refl parent parent

    changes_back : (p : ChangePart) → p.part < length (splices_at back p.change) → is_made p (m.splices ++ undone) ≡ true
        → text_met p [] m.first (m.splices ++ undone)
        ≡ text_before m.first back p.change (if has (ancestors back back.current) p.change then p.part else suc p.part)
    changes_back p low made = elim (cases_eq p.change m.undo.current) [
      | inl change ↦ (
          let within : p.part < length (splices_at m.undo m.undo.current) =
          omega (arith, low, ap length (splices-same m.first back m.undo refl p.change), ap (λ (k : ℕ). length (splices_at m.undo k)) change) in
          let under : parent < m.undo.current = valid.tree.below m.undo.current parent left in
          let out_of_it : has (ancestors back back.current) p.change ≡ false =
          ap (λ (l : List ℕ). has l p.change) below_back
          ∙ ap (has (ancestors m.undo parent)) change
          ∙ ancestors_below m.undo parent m.undo.current valid.tree under in
          let first : suc (p.part - zero) ≡ suc p.part = omega arith in
          met-append p [] m.first m.splices undone
          ∙ ap (λ (t : List ℕ). text_met p (text_met p [] m.first m.splices) t undone) texts_made
          ∙ met_back p m.undo.current 0 (text_met p [] m.first m.splices) base (splices_at m.undo m.undo.current) within_base are change (omega arith) (omega (arith, within))
          ∙ ap (λ (k : ℕ). fold text_after base (take k (splices_at m.undo m.undo.current))) first
          ∙ ap (λ (k : ℕ). text_before m.first m.undo k (suc p.part)) (sym change)
          ∙ sym (befores-same m.first back m.undo refl p.change (suc p.part))
          ∙ ap (λ (b : Bool). text_before m.first back p.change (cond b p.part (suc p.part))) (sym out_of_it)
          )
      | inr other ↦ (
          let others : AllOther p undone = elsewhere_inverses p m.undo.current 0 base (splices_at m.undo m.undo.current) are other in
          let within : p.part < length (splices_at m.undo p.change) = omega (arith, low, ap length (splices-same m.first back m.undo refl p.change)) in
          let same : has (ancestors m.undo m.undo.current) p.change ≡ has (ancestors back back.current) p.change =
          ap (λ (l : List ℕ). has l p.change) above_back
          ∙ has_behind m.undo.current p.change (ancestors m.undo parent) other
          ∙ ap (λ (l : List ℕ). has l p.change) (sym below_back) in
          met-append p [] m.first m.splices undone
          ∙ met-none p (text_met p [] m.first m.splices) (fold text_after m.first m.splices) undone others
          ∙ valid.parts.changes p within (made_before p m.splices undone others made)
          ∙ ap (λ (b : Bool). text_before m.first m.undo p.change (cond b p.part (suc p.part))) same
          ∙ sym (befores-same m.first back m.undo refl p.change (if has (ancestors back back.current) p.change then p.part else suc p.part))
          )
    ]

    pub leg_met_back : IsLegMet m (Back m.undo.current)
    leg_met_back = record {
      meets =
          subst (λ (t : List ℕ). LegMeets m [] t undone) (sym text_made)
          (back_meets m m.undo.current 0 (splices_at m.undo m.undo.current) [] (splices_at m.undo m.undo.current) base base refl refl refl within_base made_last are);
      parts = record {
        known = known_still (Back m.undo.current) undone m.undo.current refl (inverses_low m.undo.current 0 (length (splices_at m.undo m.undo.current)) base (splices_at m.undo m.undo.current) are (omega arith));
        changes = changes_back;
        since = λ p change low. absurd (none_open p low);
      };
    }
