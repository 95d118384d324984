-- One view changes, and the rule is kept.
use Rattle.std.proofs.Common.{◌≡◌, ◌≢◌, ℕ, zero, suc, ◌+◌, ◌<◌, ◌≤◌, Bool, true, false, ◌⊎◌, inl, inr, ⊎_elim, List, [], ◌∷◌, set, refl, ap, sym, subst, ◌∙◌, Option}
use mathlib.Core.Option as maybe
use mathlib.Core.Option.{some, some-injective}
use mathlib.Core.Logic.{dite}
use native.Mathlib.Decide.{ℕ_discrete}
use lib.ListN.{get_elem?}
use Rattle.atomic_table.proofs.Lists.{at_set, set_else}
use Rattle.nv_turn.specs.declared.view.View.{View}
use Rattle.nv_turn.specs.Story.{Has, entries_by}
use Rattle.nv_turn.specs.inside.Rule.{note, Carries, Shares, same_number, both_hold, both_draw, NobodyHolds, SomebodyHolds, SomebodyKnows, IsAmong, FitsRule, IsFreeOrHeld, RuleHolds}

module _ {A : Type 0} where
  pub at_same : (l : List A) (i : ℕ) (a b : A) → get_elem? l i ≡ some a → get_elem? (set l i b) i ≡ some b
  at_same [] i a b e = absurd (cc (e))
  at_same (x ∷ xs) zero a b e = refl
  at_same (x ∷ xs) (suc i) a b e = at_same xs i a b e

  pub at_else : (l : List A) (i j : ℕ) (a b : A) → j ≢ i → get_elem? l j ≡ some b → get_elem? (set l i a) j ≡ some b
  at_else l i j a b ne e = set_else l i j a ne ∙ e

pub not_both : (b : Bool) → b ≡ true → b ≡ false → ⊥
not_both b t f = cc (t, f)

module _ {E D : Type 0} where
  pub shares_sym : (v w : View E D) → Shares v w → Shares w v
  shares_sym v w (same_number c a b) = same_number c b a
  shares_sym v w (both_hold a b) = both_hold b a
  shares_sym v w (both_draw a b) = both_draw b a

  -- what w has is what v has
  pub shares_on : (v w x : View E D) → ((c : ℕ) → Carries w c → Carries v c) → (w.holds ≡ true → v.holds ≡ true) → (0 < w.due → 0 < v.due) → Shares w x → Shares v x
  shares_on v w x f g h (same_number c a b) = same_number c (f c a) b
  shares_on v w x f g h (both_hold a b) = both_hold (g a) b
  shares_on v w x f g h (both_draw a b) = both_draw (h a) b

  pub nobody_on : (views : List (View E D)) (id : ℕ) (w : View E D) → NobodyHolds views → w.holds ≡ false → NobodyHolds (set views id w)
  nobody_on views id w nobody rests i x e =
      ⊎_elim (λ t. subst (λ (z : View E D). z.holds ≡ false) t.1 rests) (λ t. nobody i x t.1) (at_set views id i w x e)

  pub somebody_on : (views : List (View E D)) (id : ℕ) (v w : View E D) → get_elem? views id ≡ some v → (v.holds ≡ true → w.holds ≡ true) → SomebodyHolds views → SomebodyHolds (set views id w)
  somebody_on views id v w here keeps h =
      dite (ℕ_discrete h.0 id)
      (λ e. let same : h.1 ≡ v = some-injective h.1 v (sym h.2 ∙ (ap (λ k. get_elem? views k) e ∙ here)) in
      (id, w, at_same views id v w here, keeps (subst (λ (z : View E D). z.holds ≡ true) same h.3)))
      (λ ne. (h.0, h.1, at_else views id h.0 w h.1 ne h.2, h.3))

  pub knower_on : (story : List E) (views : List (View E D)) (id : ℕ) (v w : View E D) → get_elem? views id ≡ some v → w.notes ≡ v.notes → SomebodyKnows story views → SomebodyKnows story (set views id w)
  knower_on story views id v w here same h =
      dite (ℕ_discrete h.0 id)
      (λ e. let is : h.1 ≡ v = some-injective h.1 v (sym h.4 ∙ (ap (λ k. get_elem? views k) e ∙ here)) in
      let notes : h.1.notes ≡ w.notes = ap (λ (z : View E D). z.notes) is ∙ sym same in
      (id, w, h.2, h.3, at_same views id v w here, subst (λ ns. IsAmong (note story h.3) ns) notes h.5, h.6))
      (λ ne. (h.0, h.1, h.2, h.3, at_else views id h.0 w h.1 ne h.4, h.5, h.6))

  -- a view that carries a number has now seen the whole story
  pub now_knows : (story : List E) (views : List (View E D)) (id n : ℕ) (v w : View E D) (numbers : List ℕ) → get_elem? views id ≡ some v → w.notes ≡ note story numbers ∷ [] → Has n numbers
      → SomebodyKnows story (set views id w)
  now_knows story views id n v w numbers here is has =
      (id, w, n, numbers, at_same views id v w here, subst (λ ns. IsAmong (note story numbers) ns) (sym is) (inl refl), has)

module _ {T E D : Type 0} (caller : E → ℕ) (stands : T → List E → Type 0) (start : T → D) (first : D) (most : ℕ) where
  Latest : List E → ℕ → List (View E D) → Type 0
  Latest story next views = ((next ≡ 1) × (story ≡ [])) ⊎ SomebodyKnows story views

  -- one view goes from v to w, and the story, the lock, the next number and the slot become others
  pub changed : (story later : List E) (lock lock' next next' : ℕ) (home home' : maybe.Option (Option T)) (views : List (View E D)) (id : ℕ) (v w : View E D)
      → RuleHolds caller stands start first most story lock next home views → get_elem? views id ≡ some v
      → FitsRule caller stands start first most later next' w
      → ((j : ℕ) (x : View E D) → get_elem? views j ≡ some x → FitsRule caller stands start first most story next x → (Shares v x → ⊥)
      → FitsRule caller stands start first most later next' x × (Shares w x → ⊥))
      → IsFreeOrHeld caller stands start first most later lock' home' (set views id w)
      → ((c : ℕ) → (c ≡ 0) ⊎ (next' ≤ c) → entries_by caller c later ≡ [])
      → (0 < next') × (next' ≤ most + 1)
      → ((next' ≡ 1) × (later ≡ [])) ⊎ SomebodyKnows later (set views id w)
      → RuleHolds caller stands start first most later lock' next' home' (set views id w)
  changed story later lock lock' next next' home home' views id v w r here fits others turned callers within latest =
      let others' : (j : ℕ) (x : View E D) → j ≢ id → get_elem? views j ≡ some x → FitsRule caller stands start first most later next' x × (Shares w x → ⊥) = λ j x ne e. others j x e (r.each j x e) (λ sh. ne (sym (r.apart id j v x here e sh))) in record {
        each = λ j x e. ⊎_elim (λ t. subst (λ z. FitsRule caller stands start first most later next' z) t.1 fits) (λ t. (others' j x t.0 t.1).0) (at_set views id j w x e);
        apart = λ i j x y ei ej sh. ⊎_elim
            (λ s. ⊎_elim (λ t. s.0 ∙ sym t.0) (λ t. absurd ((others' j y t.0 t.1).1 (subst (λ z. Shares z y) (sym s.1) sh))) (at_set views id j w y ej))
            (λ s. ⊎_elim (λ t. absurd ((others' i x s.0 s.1).1 (subst (λ z. Shares z x) (sym t.1) (shares_sym x y sh)))) (λ t. r.apart i j x y s.1 t.1 sh) (at_set views id j w y ej))
            (at_set views id i w x ei);
        turn = turned;
        callers = callers;
        within = within;
        latest = latest;
      }

  -- who holds is as before
  pub turned_on : (story : List E) (lock : ℕ) (home : maybe.Option (Option T)) (views : List (View E D)) (id : ℕ) (v w : View E D) → get_elem? views id ≡ some v → w.holds ≡ v.holds
      → IsFreeOrHeld caller stands start first most story lock home views → IsFreeOrHeld caller stands start first most story lock home (set views id w)
  turned_on story lock home views id v w here same t =
      ⊎_elim (λ free. inl (free.0, nobody_on views id w free.1 (same ∙ free.1 id v here), free.2))
      (λ held. inr (held.0, somebody_on views id v w here (λ h. same ∙ h) held.1)) t
