-- Numbers are drawn, and the right to draw is handed on to a new view.
use Rattle.std.proofs.Common.{◌≡◌, ℕ, zero, suc, ◌+◌, ◌%◌, ◌^◌, ◌<◌, ◌≤◌, false, ◌⊎◌, inl, inr, ⊎_elim, List, [], ◌∷◌, ◌++◌, length, set, slice_index, refl, ap, sym, subst, ◌∙◌, arith, Option, Some}
use mathlib.Core.Option as maybe
use mathlib.Core.Option.{some, none, some-injective}
use mathlib.Core.Logic.{dite}
use native.Mathlib.Decide.{ℕ_discrete}
use lib.ListN.{get_elem?}
use Rattle.atomic_table.specs.Table.{State, Me, Act, keeps, step, stepped, Valid, carried_after, Allows, Splits}
use Rattle.atomic_table.proofs.Lists.{at_set, at_longer}
use Rattle.nv_turn.specs.declared.view.View.{View}
use Rattle.nv_turn.specs.Story.{Has, entries_by}
use Rattle.nv_turn.specs.inside.Rule.{note, numbers_of, IsAmong, Carries, same_number, both_hold, both_draw, Shares, SomebodyKnows, FitsRule, RuleHolds, KeepsRule}
use Rattle.nv_turn.specs.inside.Steps.{drawing_view, undue_view, newcomer_view, DrawsNumber}
use Rattle.nv_turn.proofs.Prefixes.{prefix_none}
use Rattle.nv_turn.proofs.Entries.{has_one, is_one}
use Rattle.nv_turn.proofs.Knowing.{one_note}
use Rattle.nv_turn.proofs.Views.{at_else, not_both, shares_sym, shares_on, knower_on, now_knows, changed, turned_on}

pub at_end : {A : Type 0} (l : List A) (a : A) (j : ℕ) (b : A) → get_elem? (l ++ a ∷ []) j ≡ some b → (get_elem? l j ≡ some b) ⊎ ((j ≡ length l) × (a ≡ b))
at_end [] a zero b e = inr (refl, some-injective a b e)
at_end [] a (suc j) b e = absurd (cc (e))
at_end (x ∷ xs) a zero b e = inl e
at_end (x ∷ xs) a (suc j) b e = ⊎_elim (λ t. inl t) (λ t. inr (omega arith, t.1)) (at_end xs a j b e)

module _ {T E D : Type 0} (caller : E → ℕ) (stands : T → List E → Type 0) (start : T → D) (first : D) (most : ℕ) where
  no_number : (v : View E D) (c : ℕ) → v.notes ≡ [] → Carries v c → ⊥
  no_number v c empty h = let e : numbers_of v.notes ≡ [] = ap numbers_of empty in let k : Has c [] = subst (Has c) e h in cc (k)

  drawn_fits : (story : List E) (next : ℕ) (v : View E D) → 0 < next → v.holds ≡ false → v.start ≡ Some first → entries_by caller next story ≡ []
      → FitsRule caller stands start first most story (next + 1) (drawing_view next v)
  drawn_fits story next v pos rests begun empty = record {
    knows = (record { begins = prefix_none story; own_entries = λ c h. subst (λ k. entries_by caller k story ≡ []) (is_one c next h) empty }, tt);
    drawn = λ c h. let same : next ≡ c = is_one c next (one_note c (next ∷ []) h) in (omega arith, omega arith, begun);
    holder = λ h. absurd (not_both v.holds h rests);
    right = λ _. (refl, begun);
  }

  -- a view that had no note was not the one that knew
  others_know : (story : List E) (views : List (View E D)) (id : ℕ) (v w : View E D) → v.notes ≡ [] → get_elem? views id ≡ some v → SomebodyKnows story views → SomebodyKnows story (set views id w)
  others_know story views id v w empty here h =
      dite (ℕ_discrete h.0 id)
      (λ e. let is : h.1 ≡ v = some-injective h.1 v (sym h.4 ∙ (ap (λ k. get_elem? views k) e ∙ here)) in
      absurd (subst (λ ns. IsAmong (note story h.3) ns) (ap (λ (z : View E D). z.notes) is ∙ empty) h.5))
      (λ ne. (h.0, h.1, h.2, h.3, at_else views id h.0 w h.1 ne h.4, h.5, h.6))

  drawn_body : (story : List E) (lock next : ℕ) (home : maybe.Option (Option T)) (views : List (View E D)) (id : ℕ) (v : View E D) → v.notes ≡ [] → v.holds ≡ false → 0 < v.due → v.due ≡ next → next ≤ most → get_elem? views id ≡ some v
      → RuleHolds caller stands start first most story lock next home views → RuleHolds caller stands start first most story lock (next + 1) home (set views id (drawing_view next v))
  drawn_body story lock next home views id v empty rests due is le here r =
      let w : View E D = drawing_view next v in
      let f = r.each id v here in
      changed caller stands start first most story story lock lock next (next + 1) home home views id v w r here
      (drawn_fits story next v r.within.0 rests (f.right due).1 (r.callers next (inr (omega arith))))
      (λ j x at g apart. (
        record {
          knows = g.knows;
          drawn = λ c h. let d = g.drawn c h in (d.0, omega (arith, d.1), d.2);
          holder = g.holder;
          right = λ h. absurd (apart (both_draw due h));
        },
        λ sh. elim sh as (λ _. ⊥) [
          | same_number c a b ↦ let same : next ≡ c = is_one c next (one_note c (next ∷ []) a) in let d = (g.drawn c b).1 in omega arith
          | both_hold a b ↦ not_both v.holds a rests
          | both_draw a b ↦ apart (both_draw due b)
        ],
      ))
      (turned_on caller stands start first most story lock home views id v w here refl r.turn)
      (λ c out. r.callers c (⊎_elim (λ z. inl z) (λ z. inr (omega arith)) out))
      (omega arith, omega arith)
      (inr (⊎_elim
      (λ t. now_knows story views id next v w (next ∷ []) here (ap (λ z. note z (next ∷ []) ∷ []) (sym t.1)) (has_one next))
      (λ t. others_know story views id v w empty here t) r.latest))

  pub draw_allowed : (slots id : ℕ) (m : Me (Option T) (View E D)) → m.0.notes ≡ [] → m.0.holds ≡ false → 0 < m.0.due → m.0.due ≤ most → most < 2 ^ 32
      → Allows (KeepsRule caller stands start first most) slots id m 2 (λ k. (k + 1) % 2 ^ 64) (DrawsNumber (step slots 2 1 0 none) m)
  draw_allowed slots id m empty rests due le few s r wide at small =
      let P : State (Option T) (View E D) → Type 0 = λ z. get_elem? z.views id ≡ some m.0 → (w : View E D) × (a : Act (Option T)) × Valid z.homes m.1 a × KeepsRule caller stands start first most (stepped z 2 ((slice_index z.words 2 + 1) % 2 ^ 64) id m.1 w a) × DrawsNumber (step slots 2 1 0 none) m (slice_index z.words 2) (w, carried_after m.1 a) in
      subst P (sym r.is) (λ here.
      let is : m.0.due ≡ r.next = ((r.body.each id m.0 here).right due).0 in
      let w : View E D = drawing_view r.next m.0 in
      let more : (r.next + 1) % 2 ^ 64 ≡ r.next + 1 = omega arith in (
        w,
        keeps,
        tt,
        record {
          story = r.story;
          lock = r.lock;
          next = r.next + 1;
          home = r.home;
          views = set r.views id w;
          is = ap (λ (k : ℕ). record { words = r.lock ∷ length r.story ∷ k ∷ []; homes = r.home ∷ []; views = set r.views id w }) more;
          body = drawn_body r.story r.lock r.next r.home r.views id m.0 empty rests due is (omega arith) here r.body;
        },
        (sym is, refl),
      )) at

  -- a new view, which holds nothing and shares nothing
  added_view : (story : List E) (lock next : ℕ) (home : maybe.Option (Option T)) (views : List (View E D)) (w : View E D) → w.holds ≡ false → FitsRule caller stands start first most story next w
      → ((j : ℕ) (x : View E D) → get_elem? views j ≡ some x → Shares w x → ⊥)
      → RuleHolds caller stands start first most story lock next home views → RuleHolds caller stands start first most story lock next home (views ++ w ∷ [])
  added_view story lock next home views w rests fits apart r = record {
    each = λ i x e. ⊎_elim (λ t. r.each i x t) (λ t. subst (λ z. FitsRule caller stands start first most story next z) t.1 fits) (at_end views w i x e);
    apart = λ i j x y ei ej sh. ⊎_elim
        (λ s. ⊎_elim (λ t. r.apart i j x y s t sh) (λ t. absurd (apart i x s (subst (λ z. Shares z x) (sym t.1) (shares_sym x y sh)))) (at_end views w j y ej))
        (λ s. ⊎_elim (λ t. absurd (apart j y t (subst (λ z. Shares z y) (sym s.1) sh))) (λ t. s.0 ∙ sym t.0) (at_end views w j y ej))
        (at_end views w i x ei);
    turn = ⊎_elim
        (λ free. inl (free.0, (λ i x e. ⊎_elim (λ t. free.1 i x t) (λ t. subst (λ (z : View E D). z.holds ≡ false) t.1 rests) (at_end views w i x e)), free.2))
        (λ held. inr (held.0, (held.1.0, held.1.1, at_longer views (w ∷ []) held.1.0 held.1.1 held.1.2, held.1.3))) r.turn;
    callers = r.callers;
    within = r.within;
    latest = ⊎_elim (λ t. inl t) (λ t. inr (t.0, t.1, t.2, t.3, at_longer views (w ∷ []) t.0 t.1 t.4, t.5, t.6)) r.latest;
  }

  undue_body : (story : List E) (lock next : ℕ) (home : maybe.Option (Option T)) (views : List (View E D)) (id : ℕ) (v : View E D) → get_elem? views id ≡ some v
      → RuleHolds caller stands start first most story lock next home views → RuleHolds caller stands start first most story lock next home (set views id (undue_view v))
  undue_body story lock next home views id v here r =
      let w : View E D = undue_view v in
      let f = r.each id v here in
      changed caller stands start first most story story lock lock next next home home views id v w r here
      (record { knows = f.knows; drawn = f.drawn; holder = f.holder; right = λ h. absurd (omega arith) })
      (λ j x at g apart. (g, λ sh. apart (shares_on v w x (λ c h. h) (λ h. h) (λ h. absurd (omega arith)) sh)))
      (turned_on caller stands start first most story lock home views id v w here refl r.turn)
      r.callers r.within
      (⊎_elim (λ t. inl t) (λ t. inr (knower_on story views id v w here refl t)) r.latest)

  split_body : (story : List E) (lock next : ℕ) (home : maybe.Option (Option T)) (views : List (View E D)) (id : ℕ) (v : View E D) → get_elem? views id ≡ some v
      → RuleHolds caller stands start first most story lock next home views → RuleHolds caller stands start first most story lock next home (set views id (undue_view v) ++ newcomer_view v ∷ [])
  split_body story lock next home views id v here r =
      added_view story lock next home (set views id (undue_view v)) (newcomer_view v) refl
      (record { knows = tt; drawn = λ c h. absurd (cc (h)); holder = λ h. absurd (cc (h)); right = (r.each id v here).right })
      (λ j x at sh. elim sh as (λ _. ⊥) [
        | same_number c a b ↦ cc (a)
        | both_hold a b ↦ cc (a)
        | both_draw a b ↦ ⊎_elim
            (λ t. let d : x.due ≡ 0 = sym (ap (λ (z : View E D). z.due) t.1) in omega arith)
            (λ t. t.0 (sym (r.apart id j v x here t.1 (both_draw a b)))) (at_set views id j (undue_view v) x at)
      ])
      (undue_body story lock next home views id v here r)

  pub split_allowed : (id : ℕ) (v : View E D) → Splits (KeepsRule caller stands start first most) id v (undue_view v) (newcomer_view v)
  split_allowed id v s r at =
      let P : State (Option T) (View E D) → Type 0 = λ z. get_elem? z.views id ≡ some v → KeepsRule caller stands start first most (record { words = z.words; homes = z.homes; views = set z.views id (undue_view v) ++ newcomer_view v ∷ [] }) in
      subst P (sym r.is) (λ here. record {
        story = r.story;
        lock = r.lock;
        next = r.next;
        home = r.home;
        views = set r.views id (undue_view v) ++ newcomer_view v ∷ [];
        is = refl;
        body = split_body r.story r.lock r.next r.home r.views id v here r.body;
      }) at
