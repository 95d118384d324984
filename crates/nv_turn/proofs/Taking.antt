-- The turn is taken with the value, and given back with it.
use Rattle.std.proofs.Common.{◌≡◌, ℕ, Bool, true, false, eqb, inl, inr, ⊎_elim, List, [], ◌∷◌, length, set, slice_index, refl, ap, sym, subst, ◌∙◌, arith, Option, Some}
use mathlib.Core.Option as maybe
use mathlib.Core.Option.{some, none}
use lib.ListN.{get_elem?}
use prog.Atomic.{either}
use Rattle.atomic_table.specs.Table.{State, Me, Act, keeps, takes as take_out, gives, rest, step, stepped, Valid, carried_after, Allows}
use Rattle.atomic_table.proofs.Lists.{exchanged, set_again, at_set}
use Rattle.nv_turn.specs.declared.view.View.{View}
use Rattle.nv_turn.specs.Story.{Has}
use Rattle.nv_turn.specs.inside.Rule.{first_seen, numbers_carried, same_number, both_hold, both_draw, NobodyHolds, FitsRule, RuleHolds, KeepsRule}
use Rattle.nv_turn.specs.inside.Steps.{holding_view, resting_view, TakesTurn, GivesBack}
use Rattle.nv_turn.proofs.Knowing.{one_note, to_note, knows_all}
use Rattle.nv_turn.proofs.Views.{at_same, not_both, shares_on, knower_on, now_knows, changed}

-- the one slot that a seat has
pub in_hand : {S : Type 0} (slots : List (ℕ × S)) (x : S) → slots ≡ (0, x) ∷ [] → slots ≡ (0, x) ∷ rest slots
in_hand slots x e = subst (λ l. l ≡ (0, x) ∷ rest l) (sym e) refl

no_other : (b : Bool) → (b ≡ true → ⊥) → b ≡ false
no_other true h = absurd (h refl)
no_other false h = refl

module _ {T E D : Type 0} (caller : E → ℕ) (stands : T → List E → Type 0) (start : T → D) (first : D) (most : ℕ) where
  holding_fits : (story : List E) (next n : ℕ) (v : View E D) → Has n (numbers_carried v) → FitsRule caller stands start first most story next v → FitsRule caller stands start first most story next (holding_view story v)
  holding_fits story next n v has f = record {
    knows = knows_all caller story (numbers_carried v);
    drawn = λ c h. f.drawn c (one_note c (numbers_carried v) h);
    holder = λ h. ((numbers_carried v, refl), (n, to_note n (numbers_carried v) has));
    right = f.right;
  }

  -- the turn was free
  taken_body : (story : List E) (next : ℕ) (home : maybe.Option (Option T)) (views : List (View E D)) (id n : ℕ) (v : View E D) → Has n (numbers_carried v) → get_elem? views id ≡ some v → NobodyHolds views
      → RuleHolds caller stands start first most story 0 next home views → RuleHolds caller stands start first most story 1 next none (set views id (holding_view story v))
  taken_body story next home views id n v has here nobody r =
      let w : View E D = holding_view story v in
      changed caller stands start first most story story 0 1 next next home none views id v w r here
      (holding_fits story next n v has (r.each id v here))
      (λ j x e f apart. (
        f,
        λ sh. elim sh as (λ _. ⊥) [
          | same_number c a b ↦ apart (same_number c (one_note c (numbers_carried v) a) b)
          | both_hold a b ↦ not_both x.holds b (nobody j x e)
          | both_draw a b ↦ apart (both_draw a b)
        ],
      ))
      (inr (refl, (id, w, at_same views id v w here, refl)))
      r.callers r.within
      (inr (now_knows story views id n v w (numbers_carried v) here refl has))

  took : (slots id n : ℕ) (m : Me (Option T) (View E D)) → Has n (numbers_carried m.0)
      → (story : List E) (lock next : ℕ) (home : maybe.Option (Option T)) (views : List (View E D)) → get_elem? views id ≡ some m.0
      → RuleHolds caller stands start first most story lock next home views → lock ≡ 0
      → (w : View E D) × (a : Act (Option T)) × Valid (home ∷ []) m.1 a
      × KeepsRule caller stands start first most (stepped (record { words = lock ∷ length story ∷ next ∷ []; homes = home ∷ []; views = views }) 0 1 id m.1 w a)
      × TakesTurn caller stands start (step slots 0 0 1 none) m lock (w, carried_after m.1 a)
  took slots id n m has story lock next home views here r free =
      let body : RuleHolds caller stands start first most story 0 next home views = subst (λ l. RuleHolds caller stands start first most story l next home views) free r in
      ⊎_elim
      (λ t. let y = t.2.0 in let v = m.0 in (
        holding_view story v,
        take_out 0 (Some y),
        ap some t.2.1,
        record {
          story = story;
          lock = 1;
          next = next;
          home = none;
          views = set views id (holding_view story v);
          is = refl;
          body = taken_body story next home views id n v has here t.1 body;
        },
        (λ _. (y, story, refl, t.2.2, (body.each id v here).knows, ((body.each id v here).drawn n has).2 ∙ ap Some (sym t.2.3)), λ ne. absurd (ne free)),
      ))
      (λ t. absurd (omega (arith, t.0)))
      body.turn

  pub take_allowed : (slots id n : ℕ) (m : Me (Option T) (View E D)) → Has n (numbers_carried m.0)
      → Allows (KeepsRule caller stands start first most) slots id m 0 (λ k. either (eqb k 0) 1 k) (TakesTurn caller stands start (step slots 0 0 1 none) m)
  take_allowed slots id n m has s r wide at small =
      let F : State (Option T) (View E D) → ℕ → Type 0 = λ z k. (w : View E D) × (a : Act (Option T)) × Valid z.homes m.1 a × KeepsRule caller stands start first most (stepped z 0 k id m.1 w a) × TakesTurn caller stands start (step slots 0 0 1 none) m (slice_index z.words 0) (w, carried_after m.1 a) in
      let P : State (Option T) (View E D) → Type 0 = λ z. get_elem? z.views id ≡ some m.0 → F z (either (eqb (slice_index z.words 0) 0) 1 (slice_index z.words 0)) in
      let now : State (Option T) (View E D) = record { words = r.lock ∷ length r.story ∷ r.next ∷ []; homes = r.home ∷ []; views = r.views } in
      subst P (sym r.is) (λ here. exchanged r.lock 0 1 (F now)
      (took slots id n m has r.story r.lock r.next r.home r.views here r.body)
      (λ held. (
        m.0,
        keeps,
        tt,
        record {
          story = r.story;
          lock = r.lock;
          next = r.next;
          home = r.home;
          views = set r.views id m.0;
          is = refl;
          body = subst (λ vs. RuleHolds caller stands start first most r.story r.lock r.next r.home vs) (sym (set_again r.views id m.0 here)) r.body;
        },
        (λ free. absurd (held free), λ _. refl),
      ))) at

  -- the holder gives the turn back, and its value stands for the story
  resting_fits : (story : List E) (next : ℕ) (v : View E D) → FitsRule caller stands start first most story next v → FitsRule caller stands start first most story next (resting_view v)
  resting_fits story next v f = record {
    knows = f.knows;
    drawn = f.drawn;
    holder = λ h. absurd (cc (h));
    right = f.right;
  }

  others_rest : (story : List E) (lock next : ℕ) (home : maybe.Option (Option T)) (views : List (View E D)) (id : ℕ) (v : View E D) → v.holds ≡ true → get_elem? views id ≡ some v
      → RuleHolds caller stands start first most story lock next home views → NobodyHolds (set views id (resting_view v))
  others_rest story lock next home views id v holds here r i x e =
      ⊎_elim (λ t. subst (λ (z : View E D). z.holds ≡ false) t.1 refl)
      (λ t. no_other x.holds (λ h. t.0 (sym (r.apart id i v x here t.1 (both_hold holds h))))) (at_set views id i (resting_view v) x e)

  given_body : (story : List E) (lock next : ℕ) (home : maybe.Option (Option T)) (views : List (View E D)) (id : ℕ) (v : View E D) (y : T) → v.holds ≡ true → stands y story → start y ≡ first → get_elem? views id ≡ some v
      → RuleHolds caller stands start first most story lock next home views → RuleHolds caller stands start first most story 0 next (some (Some y)) (set views id (resting_view v))
  given_body story lock next home views id v y holds stand begun here r =
      let w : View E D = resting_view v in
      changed caller stands start first most story story lock 0 next next home (some (Some y)) views id v w r here
      (resting_fits story next v (r.each id v here))
      (λ j x e f apart. (f, λ sh. apart (shares_on v w x (λ c h. h) (λ h. absurd (cc (h))) (λ h. h) sh)))
      (inl (refl, others_rest story lock next home views id v holds here r, (y, refl, stand, begun)))
      r.callers r.within
      (⊎_elim (λ t. inl t) (λ t. inr (knower_on story views id v w here refl t)) r.latest)

  given : (slots id : ℕ) (v : View E D) (y : T) → v.holds ≡ true → stands y (first_seen v.notes) → v.start ≡ Some (start y)
      → Allows (KeepsRule caller stands start first most) slots id (v, (0, Some y) ∷ []) 0 (λ _. 0) (λ _. GivesBack (step slots 0 0 0 none) (v, (0, Some y) ∷ []) 0)
  given slots id v y holds stand begun s r wide at small =
      let c : List (ℕ × Option T) = (0, Some y) ∷ [] in
      let P : State (Option T) (View E D) → Type 0 = λ z. get_elem? z.views id ≡ some v → (w : View E D) × (a : Act (Option T)) × Valid z.homes c a × KeepsRule caller stands start first most (stepped z 0 0 id c w a) × GivesBack (step slots 0 0 0 none) (v, c) 0 (w, carried_after c a) in
      subst P (sym r.is) (λ here.
      let f = r.body.each id v here in
      let who = f.holder holds in
      let seen : first_seen v.notes ≡ r.story = ap first_seen who.0.1 in
      let same : start y ≡ first = cc (begun, (f.drawn who.1.0 who.1.1).2) in (
        resting_view v,
        gives,
        tt,
        record {
          story = r.story;
          lock = 0;
          next = r.next;
          home = some (Some y);
          views = set r.views id (resting_view v);
          is = refl;
          body = given_body r.story r.lock r.next r.home r.views id v y holds (subst (stands y) seen stand) same here r.body;
        },
        refl,
      )) at

  pub give_allowed : (slots id : ℕ) (m : Me (Option T) (View E D)) (y : T) → m.1 ≡ (0, Some y) ∷ [] → m.0.holds ≡ true → stands y (first_seen m.0.notes) → m.0.start ≡ Some (start y)
      → Allows (KeepsRule caller stands start first most) slots id m 0 (λ _. 0) (λ _. GivesBack (step slots 0 0 0 none) m 0)
  give_allowed slots id m y out holds stand begun =
      let Q : List (ℕ × Option T) → Type 0 = λ c. Allows (KeepsRule caller stands start first most) slots id (m.0, c) 0 (λ _. 0) (λ _. GivesBack (step slots 0 0 0 none) (m.0, c) 0) in
      subst Q (sym out) (given slots id m.0 y holds stand begun)
