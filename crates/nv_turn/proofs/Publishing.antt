-- The holder adds one entry of its own number to the story.
use Rattle.std.proofs.Common.{◌≡◌, ℕ, ◌+◌, ◌%◌, ◌^◌, ◌<◌, true, inr, ⊎_elim, List, [], ◌∷◌, ◌++◌, length, set, slice_index, refl, ap, sym, subst, ◌∙◌, arith, length-append, Option, Some, unwrap_or}
use mathlib.Core.Option as maybe
use mathlib.Core.Option.{some, none}
use lib.ListN.{get_elem?}
use Rattle.atomic_table.specs.Table.{State, Me, Act, keeps, step, stepped, Valid, carried_after, Allows}
use Rattle.nv_turn.specs.declared.view.View.{View}
use Rattle.nv_turn.specs.Story.{Has}
use Rattle.nv_turn.specs.inside.Rule.{first_seen, numbers_carried, Carries, same_number, both_hold, Shares, FitsRule, RuleHolds, KeepsRule}
use Rattle.nv_turn.specs.inside.Steps.{holding_view, AddsEntry}
use Rattle.nv_turn.proofs.Prefixes.{prefix_more}
use Rattle.nv_turn.proofs.Entries.{own_beside}
use Rattle.nv_turn.proofs.Knowing.{one_note, to_note, knows_all, knows_on}
use Rattle.nv_turn.proofs.Views.{at_same, not_both, shares_on, now_knows, changed}

-- the value in the one slot in hand
abbrev value_or : {T : Type 0} → T → List (ℕ × Option T) → T
value_or y [] = y
value_or y (x ∷ xs) = unwrap_or x.1 y

in_slot : {T : Type 0} (y z : T) → ◌≡◌ {A = List (ℕ × Option T)} ((0, Some y) ∷ []) ((0, Some z) ∷ []) → y ≡ z
in_slot y z e = ap (value_or y) e

module _ {T E D : Type 0} (caller : E → ℕ) (stands : T → List E → Type 0) (start : T → D) (first : D) (most : ℕ) where
  adding_fits : (story : List E) (next : ℕ) (v : View E D) (e : E) → Carries v (caller e) → FitsRule caller stands start first most story next v
      → FitsRule caller stands start first most (story ++ e ∷ []) next (holding_view (story ++ e ∷ []) v)
  adding_fits story next v e has f = record {
    knows = knows_all caller (story ++ e ∷ []) (numbers_carried v);
    drawn = λ c h. f.drawn c (one_note c (numbers_carried v) h);
    holder = λ h. ((numbers_carried v, refl), (caller e, to_note (caller e) (numbers_carried v) has));
    right = f.right;
  }

  -- another view, with none of the entry's number
  beside_fits : (story : List E) (next : ℕ) (v x : View E D) (e : E) → v.holds ≡ true → Carries v (caller e) → (Shares v x → ⊥) → FitsRule caller stands start first most story next x
      → FitsRule caller stands start first most (story ++ e ∷ []) next x
  beside_fits story next v x e holds has apart f = record {
    knows = knows_on caller story (story ++ e ∷ []) x.notes (prefix_more story (e ∷ [])) (λ c h. own_beside caller c story e (λ same. apart (same_number c (subst (λ k. Has k (numbers_carried v)) same has) h))) f.knows;
    drawn = f.drawn;
    holder = λ h. absurd (apart (both_hold holds h));
    right = f.right;
  }

  added_body : (story : List E) (lock next : ℕ) (home : maybe.Option (Option T)) (views : List (View E D)) (id : ℕ) (v : View E D) (e : E) → v.holds ≡ true → Carries v (caller e) → get_elem? views id ≡ some v
      → RuleHolds caller stands start first most story lock next home views
      → RuleHolds caller stands start first most (story ++ e ∷ []) lock next home (set views id (holding_view (story ++ e ∷ []) v))
  added_body story lock next home views id v e holds has here r =
      let later : List E = story ++ e ∷ [] in
      let w : View E D = holding_view later v in
      let fits = r.each id v here in
      let drawn = fits.drawn (caller e) has in
      changed caller stands start first most story later lock lock next next home home views id v w r here
      (adding_fits story next v e has fits)
      (λ j x at f apart. (beside_fits story next v x e holds has apart f, λ sh. apart (shares_on v w x (λ c h. one_note c (numbers_carried v) h) (λ _. holds) (λ h. h) sh)))
      (⊎_elim (λ free. absurd (not_both v.holds holds (free.1 id v here))) (λ held. inr (held.0, (id, w, at_same views id v w here, refl))) r.turn)
      (λ c out. own_beside caller c story e (λ same. ⊎_elim (λ z. let lt = drawn.0 in absurd (omega arith)) (λ z. let lt = drawn.1 in absurd (omega arith)) out) ∙ r.callers c out)
      r.within
      (inr (now_knows later views id (caller e) v w (numbers_carried v) here refl has))

  published : (slots id : ℕ) (v : View E D) (y : T) (e : E)
      → ((z : T) (story : List E) (a b : E) → stands z (story ++ a ∷ []) → stands z (story ++ b ∷ []) → a ≡ b)
      → v.holds ≡ true → Carries v (caller e) → stands y (first_seen v.notes ++ e ∷ []) → length (first_seen v.notes ++ e ∷ []) < 2 ^ 64
      → Allows (KeepsRule caller stands start first most) slots id (v, (0, Some y) ∷ []) 1 (λ k. (k + 1) % 2 ^ 64) (AddsEntry caller stands start (step slots 1 1 0 none) (v, (0, Some y) ∷ []))
  published slots id v y e law holds has stand fit s r wide at small =
      let c : List (ℕ × Option T) = (0, Some y) ∷ [] in
      let told : List E = first_seen v.notes in
      let later : List E = told ++ e ∷ [] in
      let w : View E D = holding_view later v in
      let P : State (Option T) (View E D) → Type 0 = λ z. get_elem? z.views id ≡ some v → (w : View E D) × (a : Act (Option T)) × Valid z.homes c a × KeepsRule caller stands start first most (stepped z 1 ((slice_index z.words 1 + 1) % 2 ^ 64) id c w a) × AddsEntry caller stands start (step slots 1 1 0 none) (v, c) (slice_index z.words 1) (w, carried_after c a) in
      subst P (sym r.is) (λ here.
      let seen : told ≡ r.story = ap first_seen ((r.body.each id v here).holder holds).0.1 in
      let body : RuleHolds caller stands start first most told r.lock r.next r.home r.views = subst (λ z. RuleHolds caller stands start first most z r.lock r.next r.home r.views) (sym seen) r.body in
      let long : (length r.story + 1) % 2 ^ 64 ≡ length later = omega (arith, ap length seen, length-append told (e ∷ [])) in (
        w,
        keeps,
        tt,
        record {
          story = later;
          lock = r.lock;
          next = r.next;
          home = r.home;
          views = set r.views id w;
          is = ap (λ (k : ℕ). record { words = r.lock ∷ k ∷ r.next ∷ []; homes = r.home ∷ []; views = set r.views id w }) long;
          body = added_body told r.lock r.next r.home r.views id v e holds has here body;
        },
        λ y' e' out stand'. ap (λ (z : E). (holding_view (told ++ z ∷ []) v, c)) (law y told e e' stand (subst (λ z. stands z (told ++ e' ∷ [])) (in_slot y' y (sym out)) stand')),
      )) at

  -- the value in hand has gained the entry
  pub publish_allowed : (slots id : ℕ) (m : Me (Option T) (View E D)) (y : T) (e : E)
      → ((z : T) (story : List E) (a b : E) → stands z (story ++ a ∷ []) → stands z (story ++ b ∷ []) → a ≡ b)
      → m.1 ≡ (0, Some y) ∷ [] → m.0.holds ≡ true → Carries m.0 (caller e) → stands y (first_seen m.0.notes ++ e ∷ []) → length (first_seen m.0.notes ++ e ∷ []) < 2 ^ 64
      → Allows (KeepsRule caller stands start first most) slots id m 1 (λ k. (k + 1) % 2 ^ 64) (AddsEntry caller stands start (step slots 1 1 0 none) m)
  publish_allowed slots id m y e law out holds has stand fit =
      let Q : List (ℕ × Option T) → Type 0 = λ c. Allows (KeepsRule caller stands start first most) slots id (m.0, c) 1 (λ k. (k + 1) % 2 ^ 64) (AddsEntry caller stands start (step slots 1 1 0 none) (m.0, c)) in
      subst Q (sym out) (published slots id m.0 y e law holds has stand fit)
