-- Two views become one, and its notes become one note.
use Rattle.std.proofs.Common.{◌≡◌, ◌≢◌, ℕ, zero, suc, ◌<◌, ◌≤◌, Bool, true, false, cond, ltb, ◌⊎◌, inl, inr, ⊎_elim, List, [], ◌∷◌, length, set, slice_index, refl, ap, sym, subst, ◌∙◌, arith, ltb-true, ltb-false, Option}
use mathlib.Core.Option as maybe
use mathlib.Core.Option.{some, none, some-injective}
use mathlib.Core.List.{IsPrefix}
use mathlib.Core.Logic.{dite}
use native.Mathlib.Decide.{ℕ_discrete}
use lib.ListN.{get_elem?}
use Rattle.atomic_table.specs.Table.{State, Me, Act, keeps, step, stepped, Valid, carried_after, Allows, Joins}
use Rattle.atomic_table.proofs.Lists.{at_set, set_else}
use Rattle.nv_turn.specs.declared.view.Note.{Note}
use Rattle.nv_turn.specs.declared.view.View.{View}
use Rattle.nv_turn.specs.Story.{Has, entries_by, longer_of}
use Rattle.nv_turn.specs.inside.Rule.{note, numbers_of, longest_seen, IsAmong, numbers_carried, Carries, same_number, both_hold, both_draw, Shares, SomebodyHolds, SomebodyKnows, EachKnows, FitsRule, RuleHolds, KeepsRule}
use Rattle.nv_turn.specs.inside.Steps.{looking_view, joined_view, spent_view, MergesNotes}
use Rattle.nv_turn.proofs.Prefixes.{prefix_none, prefix_shorter, prefix_whole}
use Rattle.nv_turn.proofs.Entries.{own_between, has_cases}
use Rattle.nv_turn.proofs.Knowing.{one_note, in_left, in_right, in_numbers, numbers_cases, knows_both}
use Rattle.nv_turn.proofs.Views.{at_same, at_else, not_both, shares_sym, shares_on, now_knows, changed, turned_on}

zero_or : (n : ℕ) → (n ≡ 0) ⊎ (0 < n)
zero_or zero = inl refl
zero_or (suc n) = inr (omega arith)

module _ {E : Type 0} where
  longer_by : (xs ys : List E) (P : List E → Type 0) → (length ys ≤ length xs → P xs) → (length xs < length ys → P ys) → (b : Bool) → ltb (length xs) (length ys) ≡ b → P (cond b ys xs)
  longer_by xs ys P one other true e = other (ltb-true (length xs) (length ys) e)
  longer_by xs ys P one other false e = one (ltb-false (length xs) (length ys) e)

  -- the longer list is one of the two, and no shorter than the other
  longer_is : (xs ys : List E) (P : List E → Type 0) → (length ys ≤ length xs → P xs) → (length xs < length ys → P ys) → P (longer_of xs ys)
  longer_is xs ys P one other = longer_by xs ys P one other (ltb (length xs) (length ys)) refl

  pub longer_none : (xs : List E) → longer_of xs [] ≡ xs
  longer_none xs = longer_is xs [] (λ z. z ≡ xs) (λ _. refl) (λ h. absurd (omega arith))

  longest_covers : (notes : List (Note E)) (m : Note E) → IsAmong m notes → length m.seen ≤ length (longest_seen notes)
  longest_covers [] m h = absurd h
  longest_covers (n ∷ notes) m h =
      ⊎_elim
      (λ e. let same : length m.seen ≡ length n.seen = ap (λ (z : Note E). length z.seen) e in
      longer_is n.seen (longest_seen notes) (λ z. length m.seen ≤ length z) (λ ge. omega arith) (λ lt. omega arith))
      (λ t. let le : length m.seen ≤ length (longest_seen notes) = longest_covers notes m t in
      longer_is n.seen (longest_seen notes) (λ z. length m.seen ≤ length z) (λ ge. omega arith) (λ _. le)) h

module _ {E : Type 0} (caller : E → ℕ) where
  longest_begins : (story : List E) (notes : List (Note E)) → EachKnows caller story notes → IsPrefix (longest_seen notes) story
  longest_begins story [] k = prefix_none story
  longest_begins story (n ∷ notes) k =
      let rest : IsPrefix (longest_seen notes) story = longest_begins story notes k.1 in
      longer_is n.seen (longest_seen notes) (λ z. IsPrefix z story) (λ _. k.0.begins) (λ _. rest)

  -- a beginning of the story that is no shorter than what each note has seen
  covers_knows : (story long : List E) (notes : List (Note E)) → IsPrefix long story → ((m : Note E) → IsAmong m notes → length m.seen ≤ length long)
      → EachKnows caller story notes → EachKnows caller long notes
  covers_knows story long [] p covers k = tt
  covers_knows story long (n ∷ notes) p covers k =
      let q : IsPrefix n.seen long = prefix_shorter n.seen long story k.0.begins p (covers n (inl refl)) in (
        record { begins = q; own_entries = λ c h. own_between caller c n.seen long story q p (k.0.own_entries c h) },
        covers_knows story long notes p (λ m h. covers m (inr h)) k.1,
      )

  -- two stories of which the notes know the same have the same entries of the notes' numbers
  same_own : (story long : List E) (notes : List (Note E)) (c : ℕ) → EachKnows caller story notes → EachKnows caller long notes → Has c (numbers_of notes) → entries_by caller c story ≡ entries_by caller c long
  same_own story long [] c k l h = absurd (cc (h))
  same_own story long (n ∷ notes) c k l h =
      ⊎_elim (λ here. k.0.own_entries c here ∙ sym (l.0.own_entries c here)) (λ t. same_own story long notes c k.1 l.1 t) (has_cases c n.numbers (numbers_of notes) h)

  pub longest_knows : (story : List E) (notes : List (Note E)) → EachKnows caller story notes → EachKnows caller (longest_seen notes) notes
  longest_knows story notes k = covers_knows story (longest_seen notes) notes (longest_begins story notes k) (longest_covers notes) k

module _ {T E D : Type 0} (caller : E → ℕ) (stands : T → List E → Type 0) (start : T → D) (first : D) (most : ℕ) where
  merged_fits : (story : List E) (next : ℕ) (v : View E D) → v.holds ≡ false → FitsRule caller stands start first most story next v → FitsRule caller stands start first most story next (looking_view (longest_seen v.notes) v)
  merged_fits story next v rests f = record {
    knows = (
      record {
        begins = longest_begins caller story v.notes f.knows;
        own_entries = λ c h. same_own caller story (longest_seen v.notes) v.notes c f.knows (longest_knows caller story v.notes f.knows) h;
      },
      tt,
    );
    drawn = λ c h. f.drawn c (one_note c (numbers_carried v) h);
    holder = λ h. absurd (not_both v.holds h rests);
    right = f.right;
  }

  merged_knows : (story : List E) (next : ℕ) (views : List (View E D)) (id : ℕ) (v : View E D) → get_elem? views id ≡ some v → FitsRule caller stands start first most story next v
      → SomebodyKnows story views → SomebodyKnows story (set views id (looking_view (longest_seen v.notes) v))
  merged_knows story next views id v here f h =
      let w : View E D = looking_view (longest_seen v.notes) v in
      dite (ℕ_discrete h.0 id)
      (λ e. let is : h.1 ≡ v = some-injective h.1 v (sym h.4 ∙ (ap (λ k. get_elem? views k) e ∙ here)) in
      let inside : IsAmong (note story h.3) v.notes = subst (λ (z : View E D). IsAmong (note story h.3) z.notes) is h.5 in
      let whole : longest_seen v.notes ≡ story = prefix_whole (longest_seen v.notes) story (longest_begins caller story v.notes f.knows) (longest_covers v.notes (note story h.3) inside) in
      now_knows story views id h.2 v w (numbers_carried v) here (ap (λ z. note z (numbers_carried v) ∷ []) whole) (in_numbers h.2 (note story h.3) v.notes inside h.6))
      (λ ne. (h.0, h.1, h.2, h.3, at_else views id h.0 w h.1 ne h.4, h.5, h.6))

  merged_body : (story : List E) (lock next : ℕ) (home : maybe.Option (Option T)) (views : List (View E D)) (id : ℕ) (v : View E D) → v.holds ≡ false → get_elem? views id ≡ some v
      → RuleHolds caller stands start first most story lock next home views → RuleHolds caller stands start first most story lock next home (set views id (looking_view (longest_seen v.notes) v))
  merged_body story lock next home views id v rests here r =
      let w : View E D = looking_view (longest_seen v.notes) v in
      changed caller stands start first most story story lock lock next next home home views id v w r here
      (merged_fits story next v rests (r.each id v here))
      (λ j x e f apart. (f, λ sh. apart (shares_on v w x (λ c h. one_note c (numbers_carried v) h) (λ h. h) (λ h. h) sh)))
      (turned_on caller stands start first most story lock home views id v w here refl r.turn)
      r.callers r.within
      (⊎_elim (λ t. inl t) (λ t. inr (merged_knows story next views id v here (r.each id v here) t)) r.latest)

  pub merge_allowed : (slots id : ℕ) (m : Me (Option T) (View E D)) → m.0.holds ≡ false
      → Allows (KeepsRule caller stands start first most) slots id m 0 (λ k. k) (MergesNotes caller stands start (step slots 0 0 0 none) m)
  merge_allowed slots id m rests s r wide at small =
      let P : State (Option T) (View E D) → Type 0 = λ z. get_elem? z.views id ≡ some m.0 → (w : View E D) × (a : Act (Option T)) × Valid z.homes m.1 a × KeepsRule caller stands start first most (stepped z 0 (slice_index z.words 0) id m.1 w a) × MergesNotes caller stands start (step slots 0 0 0 none) m (slice_index z.words 0) (w, carried_after m.1 a) in
      subst P (sym r.is) (λ here. (
        looking_view (longest_seen m.0.notes) m.0,
        keeps,
        tt,
        record {
          story = r.story;
          lock = r.lock;
          next = r.next;
          home = r.home;
          views = set r.views id (looking_view (longest_seen m.0.notes) m.0);
          is = refl;
          body = merged_body r.story r.lock r.next r.home r.views id m.0 rests here r.body;
        },
        (refl, longest_knows caller r.story m.0.notes (r.body.each id m.0 here).knows),
      )) at

  -- what both share with a third, one of the two shares with it
  both_share : (v w x : View E D) → Shares (joined_view v w) x → Shares v x ⊎ Shares w x
  both_share v w x (same_number c a b) = ⊎_elim (λ l. inl (same_number c l b)) (λ r. inr (same_number c r b)) (numbers_cases c v.notes w.notes a)
  both_share v w x (both_hold a b) = inl (both_hold a b)
  both_share v w x (both_draw a b) = ⊎_elim (λ z. inr (both_draw (omega arith) b)) (λ p. inl (both_draw p b)) (zero_or v.due)

  spent_shares : (x : View E D) → Shares spent_view x → ⊥
  spent_shares x (same_number c a b) = cc (a)
  spent_shares x (both_hold a b) = cc (a)
  spent_shares x (both_draw a b) = omega arith

  together_fits : (story : List E) (next n : ℕ) (v w : View E D) → Carries v n → v.holds ≡ false → (Shares v w → ⊥)
      → FitsRule caller stands start first most story next v → FitsRule caller stands start first most story next w → FitsRule caller stands start first most story next (joined_view v w)
  together_fits story next n v w has rests apart f g = record {
    knows = knows_both caller story v.notes w.notes f.knows g.knows;
    drawn = λ c h. ⊎_elim (λ l. f.drawn c l) (λ r. let d = g.drawn c r in (d.0, d.1, (f.drawn n has).2)) (numbers_cases c v.notes w.notes h);
    holder = λ h. absurd (not_both v.holds h rests);
    right = λ h. ⊎_elim
        (λ z. let p : 0 < w.due = omega arith in let e = (g.right p).0 in (omega arith, (f.drawn n has).2))
        (λ p. ⊎_elim (λ z. let e = (f.right p).0 in (omega arith, (f.right p).1)) (λ q. absurd (apart (both_draw p q))) (zero_or w.due)) (zero_or v.due);
  }

  -- who stands where after a join
  abbrev Place : List (View E D) → ℕ → ℕ → View E D → ℕ → View E D → Type 0
  Place views id other both i x = ((i ≡ other) × (spent_view ≡ x)) ⊎ (((i ≡ id) × (both ≡ x)) ⊎ ((i ≢ id) × (i ≢ other) × (get_elem? views i ≡ some x)))

  place_of : (views : List (View E D)) (id other : ℕ) (both : View E D) (i : ℕ) (x : View E D) → get_elem? (set (set views id both) other spent_view) i ≡ some x → Place views id other both i x
  place_of views id other both i x e =
      ⊎_elim (λ t. inl t) (λ t. inr (⊎_elim (λ u. inl u) (λ u. inr (u.0, t.0, u.1)) (at_set views id i both x t.1))) (at_set (set views id both) other i spent_view x e)

  joined_apart : (story : List E) (lock next : ℕ) (home : maybe.Option (Option T)) (views : List (View E D)) (id other : ℕ) (v w : View E D) → get_elem? views id ≡ some v → get_elem? views other ≡ some w
      → RuleHolds caller stands start first most story lock next home views
      → (i j : ℕ) (x y : View E D) → Place views id other (joined_view v w) i x → Place views id other (joined_view v w) j y → Shares x y → i ≡ j
  joined_apart story lock next home views id other v w here there r i j x y pi pj sh =
      let old : (k : ℕ) (z : View E D) → k ≢ id → k ≢ other → get_elem? views k ≡ some z → Shares (joined_view v w) z → ⊥ = λ k z ni no e s. ⊎_elim (λ l. ni (sym (r.apart id k v z here e l))) (λ q. no (sym (r.apart other k w z there e q))) (both_share v w z s) in
      ⊎_elim
      (λ s. absurd (spent_shares y (subst (λ z. Shares z y) (sym s.1) sh)))
      (λ s. ⊎_elim
      (λ t. absurd (spent_shares x (subst (λ z. Shares z x) (sym t.1) (shares_sym x y sh))))
      (λ t. ⊎_elim
      (λ a. ⊎_elim (λ b. a.0 ∙ sym b.0) (λ b. absurd (old j y b.0 b.1 b.2 (subst (λ z. Shares z y) (sym a.1) sh))) t)
      (λ a. ⊎_elim (λ b. absurd (old i x a.0 a.1 a.2 (subst (λ z. Shares z x) (sym b.1) (shares_sym x y sh)))) (λ b. r.apart i j x y a.2 b.2 sh) t) s)
      pj)
      pi

  -- a view that doesn't hold is not the one that does
  away : (views : List (View E D)) (k : ℕ) (z : View E D) → get_elem? views k ≡ some z → z.holds ≡ false → (h : SomebodyHolds views) → h.0 ≢ k
  away views k z e rests h same =
      let is : h.1 ≡ z = some-injective h.1 z (sym h.2 ∙ (ap (λ i. get_elem? views i) same ∙ e)) in
      not_both z.holds (subst (λ (x : View E D). x.holds ≡ true) is h.3) rests

  joined_knows : (story : List E) (views : List (View E D)) (id other : ℕ) (v w : View E D) → id ≢ other → get_elem? views id ≡ some v → get_elem? views other ≡ some w
      → SomebodyKnows story views → SomebodyKnows story (set (set views id (joined_view v w)) other spent_view)
  joined_knows story views id other v w ne here there h =
      let both : View E D = joined_view v w in
      let at_both : get_elem? (set (set views id both) other spent_view) id ≡ some both = at_else (set views id both) other id spent_view both ne (at_same views id v both here) in
      let is : (k : ℕ) (z : View E D) → get_elem? views k ≡ some z → h.0 ≡ k → IsAmong (note story h.3) z.notes = λ k z e same. subst (λ (x : View E D). IsAmong (note story h.3) x.notes) (some-injective h.1 z (sym h.4 ∙ (ap (λ i. get_elem? views i) same ∙ e))) h.5 in
      dite (ℕ_discrete h.0 id)
      (λ e. (id, both, h.2, h.3, at_both, in_left (note story h.3) v.notes w.notes (is id v here e), h.6))
      (λ ni. dite (ℕ_discrete h.0 other)
      (λ e. (id, both, h.2, h.3, at_both, in_right (note story h.3) v.notes w.notes (is other w there e), h.6))
      (λ no. (h.0, h.1, h.2, h.3, at_else (set views id both) other h.0 spent_view h.1 no (at_else views id h.0 both h.1 ni h.4), h.5, h.6)))

  joined_body : (story : List E) (lock next n : ℕ) (home : maybe.Option (Option T)) (views : List (View E D)) (id other : ℕ) (v w : View E D) → Carries v n → v.holds ≡ false → w.holds ≡ false → id ≢ other
      → get_elem? views id ≡ some v → get_elem? views other ≡ some w
      → RuleHolds caller stands start first most story lock next home views → RuleHolds caller stands start first most story lock next home (set (set views id (joined_view v w)) other spent_view)
  joined_body story lock next n home views id other v w has rests quiet ne here there r =
      let both : View E D = joined_view v w in
      let place = place_of views id other both in
      let stays : (k : ℕ) (z : View E D) → k ≢ id → k ≢ other → get_elem? views k ≡ some z → get_elem? (set (set views id both) other spent_view) k ≡ some z = λ k z ni no e. at_else (set views id both) other k spent_view z no (at_else views id k both z ni e) in
      let apart : Shares v w → ⊥ = λ s. ne (r.apart id other v w here there s) in record {
        each = λ i x e. ⊎_elim
            (λ t. subst (λ z. FitsRule caller stands start first most story next z) t.1 (record { knows = tt; drawn = λ c h. absurd (cc (h)); holder = λ h. absurd (cc (h)); right = λ h. absurd (omega arith) }))
            (λ t. ⊎_elim (λ b. subst (λ z. FitsRule caller stands start first most story next z) b.1 (together_fits story next n v w has rests apart (r.each id v here) (r.each other w there))) (λ b. r.each i x b.2) t)
            (place i x e);
        apart = λ i j x y ei ej sh. joined_apart story lock next home views id other v w here there r i j x y (place i x ei) (place j y ej) sh;
        turn = ⊎_elim
            (λ free. inl (free.0, (λ i x e. ⊎_elim (λ t. subst (λ (z : View E D). z.holds ≡ false) t.1 refl) (λ t. ⊎_elim (λ b. subst (λ (z : View E D). z.holds ≡ false) b.1 rests) (λ b. free.1 i x b.2) t) (place i x e)), free.2))
            (λ held. inr (held.0, (held.1.0, held.1.1, stays held.1.0 held.1.1 (away views id v here rests held.1) (away views other w there quiet held.1) held.1.2, held.1.3))) r.turn;
        callers = r.callers;
        within = r.within;
        latest = ⊎_elim (λ t. inl t) (λ t. inr (joined_knows story views id other v w ne here there t)) r.latest;
      }

  pub join_allowed : (id other n : ℕ) (v w : View E D) → Carries v n → v.holds ≡ false → w.holds ≡ false → Joins (KeepsRule caller stands start first most) id v other w (joined_view v w) spent_view
  join_allowed id other n v w has rests quiet s r at ne there =
      let both : View E D = joined_view v w in
      let P : State (Option T) (View E D) → Type 0 = λ z. get_elem? z.views id ≡ some v → get_elem? (set z.views id both) other ≡ some w → KeepsRule caller stands start first most (record { words = z.words; homes = z.homes; views = set (set z.views id both) other spent_view }) in
      subst P (sym r.is) (λ here beside. record {
        story = r.story;
        lock = r.lock;
        next = r.next;
        home = r.home;
        views = set (set r.views id both) other spent_view;
        is = refl;
        body = joined_body r.story r.lock r.next n r.home r.views id other v w has rests quiet (λ e. ne (sym e)) here (sym (set_else r.views id other both ne) ∙ beside) r.body;
      }) at there
