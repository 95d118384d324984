-- A look at the length shows the whole story.
use Rattle.std.proofs.Common.{◌≡◌, ℕ, inr, List, set, slice_index, refl, ap, sym, subst, Option}
use mathlib.Core.Option as maybe
use mathlib.Core.Option.{some, none}
use lib.ListN.{get_elem?}
use Rattle.atomic_table.specs.Table.{State, Me, Act, keeps, step, stepped, Valid, carried_after, Allows}
use Rattle.nv_turn.specs.declared.view.View.{View}
use Rattle.nv_turn.specs.Story.{Has}
use Rattle.nv_turn.specs.inside.Rule.{first_seen, numbers_carried, FitsRule, RuleHolds, KeepsRule}
use Rattle.nv_turn.specs.inside.Steps.{looking_view, LooksAtStory}
use Rattle.nv_turn.proofs.Knowing.{one_note, to_note, knows_all}
use Rattle.nv_turn.proofs.Views.{shares_on, now_knows, changed, turned_on}

module _ {T E D : Type 0} (caller : E → ℕ) (stands : T → List E → Type 0) (start : T → D) (first : D) (most : ℕ) where
  looking_fits : (story : List E) (next : ℕ) (v : View E D) → FitsRule caller stands start first most story next v → FitsRule caller stands start first most story next (looking_view story v)
  looking_fits story next v f = record {
    knows = knows_all caller story (numbers_carried v);
    drawn = λ c h. f.drawn c (one_note c (numbers_carried v) h);
    holder = λ h. ((numbers_carried v, refl), ((f.holder h).1.0, to_note _ (numbers_carried v) (f.holder h).1.1));
    right = f.right;
  }

  looked_body : (story : List E) (lock next : ℕ) (home : maybe.Option (Option T)) (views : List (View E D)) (id n : ℕ) (v : View E D) → Has n (numbers_carried v) → get_elem? views id ≡ some v
      → RuleHolds caller stands start first most story lock next home views → RuleHolds caller stands start first most story lock next home (set views id (looking_view story v))
  looked_body story lock next home views id n v has here r =
      changed caller stands start first most story story lock lock next next home home views id v (looking_view story v) r here
      (looking_fits story next v (r.each id v here))
      (λ j x e f apart. (f, λ sh. apart (shares_on v (looking_view story v) x (λ c h. one_note c (numbers_carried v) h) (λ h. h) (λ h. h) sh)))
      (turned_on caller stands start first most story lock home views id v (looking_view story v) here refl r.turn)
      r.callers r.within
      (inr (now_knows story views id n v (looking_view story v) (numbers_carried v) here refl has))

  pub look_allowed : (slots id n : ℕ) (m : Me (Option T) (View E D)) → Has n (numbers_carried m.0)
      → Allows (KeepsRule caller stands start first most) slots id m 1 (λ k. k) (LooksAtStory caller stands start (step slots 1 0 0 none) m)
  look_allowed slots id n m has s r wide at small =
      let P : State (Option T) (View E D) → Type 0 = λ z. get_elem? z.views id ≡ some m.0 → (w : View E D) × (a : Act (Option T)) × Valid z.homes m.1 a × KeepsRule caller stands start first most (stepped z 1 (slice_index z.words 1) id m.1 w a) × LooksAtStory caller stands start (step slots 1 0 0 none) m (slice_index z.words 1) (w, carried_after m.1 a) in
      let f = r.body.each id m.0 in
      subst P (sym r.is) (λ here. (
        looking_view r.story m.0,
        keeps,
        tt,
        record {
          story = r.story;
          lock = r.lock;
          next = r.next;
          home = r.home;
          views = set r.views id (looking_view r.story m.0);
          is = refl;
          body = looked_body r.story r.lock r.next r.home r.views id n m.0 has here r.body;
        },
        (r.story, refl, (f here).knows, refl, λ h. ap first_seen ((f here).holder h).0.1),
      )) at
