-- The table as it is opened, and as the last pass finds it.
use Rattle.std.proofs.Common.{◌≡◌, ℕ, zero, suc, ◌<◌, ◌≤◌, true, false, ◌⊎◌, inl, inr, ⊎_elim, List, [], ◌∷◌, refl, ap, sym, subst, ◌∙◌, arith, Option, Some}
use mathlib.Core.Option as maybe
use mathlib.Core.Option.{some, none, some-injective}
use lib.ListN.{get_elem?}
use Rattle.atomic_table.specs.Table.{State, opening, Final, Seen}
use Rattle.nv_turn.specs.declared.view.Note.{Note}
use Rattle.nv_turn.specs.declared.view.View.{View}
use Rattle.nv_turn.specs.Story.{HasEachUpTo, entries_by}
use Rattle.nv_turn.specs.inside.Rule.{note, first_seen, IsAmong, numbers_carried, Carries, same_number, FitsRule, IsHome, RuleHolds, KeepsRule}
use Rattle.nv_turn.specs.inside.Steps.{opening_view}
use Rattle.nv_turn.proofs.Knowing.{in_numbers}
use Rattle.nv_turn.proofs.Views.{not_both}

only_one : {A : Type 0} (v : A) (i : ℕ) (x : A) → get_elem? (v ∷ []) i ≡ some x → (i ≡ 0) × (v ≡ x)
only_one v zero x e = (refl, some-injective v x e)
only_one v (suc i) x e = absurd (cc (e))

module _ {T E D : Type 0} (caller : E → ℕ) (stands : T → List E → Type 0) (start : T → D) where
  opening_fits : (first : D) (most : ℕ) → FitsRule caller stands start first most [] 1 (opening_view first)
  opening_fits first most = record { knows = tt; drawn = λ c h. absurd (cc (h)); holder = λ h. absurd (cc (h)); right = λ _. (refl, refl) }

  pub opens : (y : T) (most : ℕ) → stands y [] → KeepsRule caller stands start (start y) most (opening (0 ∷ 0 ∷ 1 ∷ []) (Some y ∷ []) (opening_view (start y)))
  opens y most stand =
      let first : D = start y in
      let v : View E D = opening_view first in
      let only : (i : ℕ) (x : View E D) → get_elem? (v ∷ []) i ≡ some x → (i ≡ 0) × (v ≡ x) = only_one v in record {
        story = [];
        lock = 0;
        next = 1;
        home = some (Some y);
        views = v ∷ [];
        is = refl;
        body = record {
          each = λ i x e. subst (λ z. FitsRule caller stands start first most [] 1 z) (only i x e).1 (opening_fits first most);
          apart = λ i j x z ei ej sh. (only i x ei).0 ∙ sym (only j z ej).0;
          turn = inl (refl, (λ i x e. subst (λ (z : View E D). z.holds ≡ false) (only i x e).1 refl), (y, refl, stand, refl));
          callers = λ c out. refl;
          within = (omega arith, omega arith);
          latest = inl (refl, refl);
        };
      }

module _ {T E D : Type 0} (caller : E → ℕ) (stands : T → List E → Type 0) (start : T → D) (first : D) (most : ℕ) where
  -- the view that carries each number is the only one that carries any
  sole : (story : List E) (lock next : ℕ) (home : maybe.Option (Option T)) (views : List (View E D)) (id : ℕ) (v : View E D) → HasEachUpTo most (numbers_carried v) → get_elem? views id ≡ some v
      → RuleHolds caller stands start first most story lock next home views → (i : ℕ) (x : View E D) (c : ℕ) → get_elem? views i ≡ some x → Carries x c → x ≡ v
  sole story lock next home views id v all here r i x c e has =
      let d = (r.each i x e).drawn c has in
      let le : c ≤ most = omega (arith, d.1, r.within.1) in
      let same : i ≡ id = r.apart i id x v e here (same_number c has (all c d.0 le)) in
      some-injective x v (sym e ∙ (ap (λ k. get_elem? views k) same ∙ here))

  -- the story is what the view that carries each number has seen
  closed_story : (story : List E) (lock next : ℕ) (home : maybe.Option (Option T)) (views : List (View E D)) (id : ℕ) (v : View E D) (seen : List E) (numbers : List ℕ)
      → 0 < most → HasEachUpTo most (numbers_carried v) → v.notes ≡ note seen numbers ∷ [] → get_elem? views id ≡ some v
      → RuleHolds caller stands start first most story lock next home views → story ≡ seen
  closed_story story lock next home views id v seen numbers pos all one here r =
      ⊎_elim
      (λ t. let d = (r.each id v here).drawn 1 (all 1 (omega arith) (omega arith)) in let lt = d.1 in let e = t.0 in absurd (omega arith))
      (λ t. let x : t.1 ≡ v = sole story lock next home views id v all here r t.0 t.1 t.2 t.4 (in_numbers t.2 (note story t.3) t.1.notes t.5 t.6) in
      let inside : IsAmong (note story t.3) (note seen numbers ∷ []) = subst (λ ns. IsAmong (note story t.3) ns) (ap (λ (z : View E D). z.notes) x ∙ one) t.5 in
      ⊎_elim (λ e. ap (λ (n : Note E). n.seen) e) (λ no. absurd no) inside) r.latest

  closed_body : (story : List E) (lock next : ℕ) (home : maybe.Option (Option T)) (views : List (View E D)) (id : ℕ) (v : View E D) (seen : List E) (numbers : List ℕ)
      → 0 < most → HasEachUpTo most (numbers_carried v) → v.holds ≡ false → v.notes ≡ note seen numbers ∷ [] → get_elem? views id ≡ some v
      → RuleHolds caller stands start first most story lock next home views → IsHome caller stands start first most seen home
  closed_body story lock next home views id v seen numbers pos all rests one here r =
      let alone = sole story lock next home views id v all here r in
      let story_is : story ≡ seen = closed_story story lock next home views id v seen numbers pos all one here r in
      ⊎_elim
      (λ free. subst (λ z. IsHome caller stands start first most z home) story_is free.2)
      (λ held. let f = (r.each held.1.0 held.1.1 held.1.2).holder held.1.3 in
      let x : held.1.1 ≡ v = alone held.1.0 held.1.1 f.1.0 held.1.2 f.1.1 in
      absurd (not_both v.holds (subst (λ (z : View E D). z.holds ≡ true) x held.1.3) rests)) r.turn

  -- the value in the slot at the end, where a pass at rest carries each number
  pub closed_value : (id : ℕ) (v : View E D) (ws : List ℕ) (xs : List (Option T)) (slot : Option T) (numbers : List ℕ)
      → 0 < most → HasEachUpTo most (numbers_carried v) → v.holds ≡ false → v.notes ≡ note (first_seen v.notes) numbers ∷ []
      → Final (Seen (KeepsRule caller stands start first most) id v) ws xs → get_elem? xs 0 ≡ some slot
      → (y : T) × (slot ≡ Some y) × stands y (first_seen v.notes) × (v.start ≡ Some (start y))
  closed_value id v ws xs slot numbers pos all rests one f found =
      let r = f.1.0 in
      let here : get_elem? r.views id ≡ some v = ap (λ (z : State (Option T) (View E D)). get_elem? z.views id) (sym r.is) ∙ f.1.1 in
      let home = closed_body r.story r.lock r.next r.home r.views id v (first_seen v.notes) numbers pos all rests one here r.body in
      let at : get_elem? f.0.homes 0 ≡ some (some (Some home.0)) = ap (λ (z : State (Option T) (View E D)). get_elem? z.homes 0) r.is ∙ ap some home.1 in
      let begun = ((r.body.each id v here).drawn 1 (all 1 (omega arith) (omega arith))).2 in
      (home.0, some-injective slot (Some home.0) (sym found ∙ f.4 0 (Some home.0) at), home.2, begun ∙ ap Some (sym home.3))

  -- the story that a pass has seen which carries each number has entries of these numbers alone
  pub closed_callers : (id : ℕ) (v : View E D) (ws : List ℕ) (xs : List (Option T)) (numbers : List ℕ)
      → 0 < most → HasEachUpTo most (numbers_carried v) → v.notes ≡ note (first_seen v.notes) numbers ∷ []
      → Final (Seen (KeepsRule caller stands start first most) id v) ws xs
      → (c : ℕ) → (c ≡ 0) ⊎ (most < c) → entries_by caller c (first_seen v.notes) ≡ []
  closed_callers id v ws xs numbers pos all one f c other =
      let r = f.1.0 in
      let here : get_elem? r.views id ≡ some v = ap (λ (z : State (Option T) (View E D)). get_elem? z.views id) (sym r.is) ∙ f.1.1 in
      let story_is = closed_story r.story r.lock r.next r.home r.views id v (first_seen v.notes) numbers pos all one here r.body in
      let undrawn : (c ≡ 0) ⊎ (r.next ≤ c) = ⊎_elim (λ none. inl none) (λ more. inr (omega (arith, more, r.body.within.1))) other in
      subst (λ story. entries_by caller c story ≡ []) story_is (r.body.callers c undrawn)
