-- Lanes and their passes: dealing them, joining them, and what the one history shows then.
use Rattle.std.proofs.Common.{◌≡◌, ◌≢◌, inl, inr, ⊎_elim, ℕ, zero, suc, ◌+◌, ◌<◌, ◌≤◌, Bool, false, List, [], ◌∷◌, ◌++◌, length, slice_index_or, slice_set, Option, Some, refl, ap, sym, ◌∙◌, subst, arith}
use mathlib.Core.Logic.{dite}
use native.Mathlib.Decide.{ℕ_discrete}
use Rattle.nv_turn.specs.Story.{Has}
use Rattle.nv_turn.specs.Passes.{PassState, SeesMore, TurnId, first_pass}
use Rattle.nv_turn.proofs.Entries.{has_left, has_right}
use Rattle.nv_turn.proofs.Prefixes.{prefix_trans}
use Rattle.nv_core.specs.declared.entry.Entry.{Entry as WorldEntry}
use Rattle.nv_core.specs.declared.start.Start.{Start}
use Rattle.nv_serve.specs.declared.job.Job.{Job}
use Rattle.nv_serve.specs.declared.job.LaneEnd.{LaneEnd}
use Rattle.nv_serve.specs.inside.Sharing.{first_number, second_number}
use Rattle.nv_serve.specs.inside.Jobs.{IsDealt, Covers, StartsAsLane, IsJoined}

-- ---- places of a list

index_same : {A : Type 0} (xs : List A) (i : ℕ) (d e : A) → i < length xs → slice_index_or xs i d ≡ slice_index_or xs i e
index_same [] i d e lt = absurd (omega arith)
index_same (x ∷ xs) zero d e lt = refl
index_same (x ∷ xs) (suc i) d e lt = index_same xs i d e (omega arith)

pub set_length : {A : Type 0} (xs : List A) (k : ℕ) (v : A) → length (slice_set xs k v) ≡ length xs
set_length [] k v = refl
set_length (x ∷ xs) zero v = refl
set_length (x ∷ xs) (suc k) v = ap suc (set_length xs k v)

set_here : {A : Type 0} (xs : List A) (k : ℕ) (v d : A) → k < length xs → slice_index_or (slice_set xs k v) k d ≡ v
set_here [] k v d lt = absurd (omega arith)
set_here (x ∷ xs) zero v d lt = refl
set_here (x ∷ xs) (suc k) v d lt = set_here xs k v d (omega arith)

pub set_beside : {A : Type 0} (xs : List A) (k i : ℕ) (v d : A) → i ≢ k → slice_index_or (slice_set xs k v) i d ≡ slice_index_or xs i d
set_beside [] k i v d ne = refl
set_beside (x ∷ xs) zero zero v d ne = absurd (ne refl)
set_beside (x ∷ xs) zero (suc i) v d ne = refl
set_beside (x ∷ xs) (suc k) zero v d ne = refl
set_beside (x ∷ xs) (suc k) (suc i) v d ne = set_beside xs k i v d (λ e. ne (ap suc e))

-- ---- how lanes ended

-- none of the lanes up to this one ended so
pub none_next : {C L : Type 0} (so : Option LaneEnd → Bool) (jobs : List (Job C L)) (k : ℕ) (item : Job C L) → k < length jobs → item ≡ slice_index_or jobs k item → so item.end ≡ false
    → ((i : ℕ) (d : Job C L) → i < k → so (slice_index_or jobs i d).end ≡ false) → (i : ℕ) (d : Job C L) → i < k + 1 → so (slice_index_or jobs i d).end ≡ false
none_next {C} {L} so jobs k item below here not_so before i d lt = dite (ℕ_discrete i k) at beside
  where
    at : i ≡ k → so (slice_index_or jobs i d).end ≡ false
    at e = subst (λ (n : ℕ). so (slice_index_or jobs n d).end ≡ false) (sym e) (ap (λ (j : Job C L). so j.end) (index_same jobs k d item below ∙ sym here) ∙ not_so)

    beside : (i ≡ k → ⊥) → so (slice_index_or jobs i d).end ≡ false
    beside ne = before i d (fewer i k lt ne)
      where
        fewer : (i k : ℕ) → i < k + 1 → (i ≡ k → ⊥) → i < k
        fewer i k lt ne = dite (ℕ_discrete i k) (λ e. absurd (ne e)) (λ other. omega (arith, lt, other))

-- ---- dealing

module _ {C L : Type 0} where
  -- one more lane has its passes
  pub dealt_next : (turn : TurnId) (start : Option Start) (olds jobs : List (Job C L)) (k : ℕ) (now new : Job C L) (first second : PassState WorldEntry Start)
      → k < length olds → length jobs ≡ length olds → now ≡ slice_index_or jobs k now → ((i : ℕ) (d : Job C L) → i < k + 1 → slice_index_or jobs i d ≡ slice_index_or olds i d)
      → ((i : ℕ) (d : Job C L) → k + 1 ≤ i → i < length olds → IsDealt turn start i (slice_index_or olds i d) (slice_index_or jobs i d)) → new ≡ record now { passes = Some (first, second) }
      → first ≡ first_pass turn start (first_number k) → second ≡ first_pass turn start (second_number k)
      → (i : ℕ) (d : Job C L) → k ≤ i → i < length olds → IsDealt turn start i (slice_index_or olds i d) (slice_index_or (slice_set jobs k new) i d)
  dealt_next turn start olds jobs k now new first second below len here same dealt made one two i d le lt =
      dite (ℕ_discrete i k) at beside
    where
      passes_are : new.passes ≡ Some (first_pass turn start (first_number k), first_pass turn start (second_number k))
      passes_are = ap (λ (j : Job C L). j.passes) made ∙ ap (λ (p : PassState WorldEntry Start). Some (p, second)) one ∙ ap (λ (q : PassState WorldEntry Start). Some (first_pass turn start (first_number k), q)) two

      old_is : slice_index_or olds k d ≡ now
      old_is = sym (same k d (omega arith)) ∙ index_same jobs k d now (omega (arith, below, len)) ∙ sym here

      lane_is : new.lane ≡ (slice_index_or olds k d).lane
      lane_is = ap (λ (j : Job C L). j.lane) made ∙ ap (λ (j : Job C L). j.lane) (sym old_is)

      new_is : slice_index_or (slice_set jobs k new) k d ≡ new
      new_is = set_here jobs k new d (omega (arith, below, len))

      dealt_here : IsDealt turn start k (slice_index_or olds k d) new
      dealt_here = record { lane_is = lane_is; passes_are = passes_are }

      at : i ≡ k → IsDealt turn start i (slice_index_or olds i d) (slice_index_or (slice_set jobs k new) i d)
      at e = subst (λ (n : ℕ). IsDealt turn start n (slice_index_or olds n d) (slice_index_or (slice_set jobs k new) n d)) (sym e)
          (subst (λ (j : Job C L). IsDealt turn start k (slice_index_or olds k d) j) (sym new_is) dealt_here)

      beside : (i ≡ k → ⊥) → IsDealt turn start i (slice_index_or olds i d) (slice_index_or (slice_set jobs k new) i d)
      beside ne = subst (λ (j : Job C L). IsDealt turn start i (slice_index_or olds i d) j) (sym (set_beside jobs k i new d ne)) (dealt i d (above k i le ne) lt)
        where
          above : (k i : ℕ) → k ≤ i → (i ≡ k → ⊥) → k + 1 ≤ i
          above k i le ne = dite (ℕ_discrete i k) (λ e. absurd (ne e)) (λ other. omega (arith, le, other))

  -- the lanes before it are as they were
  pub same_before : (olds jobs : List (Job C L)) (k : ℕ) (new : Job C L) → ((i : ℕ) (d : Job C L) → i < k + 1 → slice_index_or jobs i d ≡ slice_index_or olds i d)
      → (i : ℕ) (d : Job C L) → i < k → slice_index_or (slice_set jobs k new) i d ≡ slice_index_or olds i d
  same_before olds jobs k new same i d lt = set_beside jobs k i new d (λ e. omega (arith, e, lt)) ∙ same i d (omega arith)

  -- the lanes behind it are as they were
  pub same_after : (olds jobs : List (Job C L)) (k : ℕ) (new : Job C L) → ((i : ℕ) (d : Job C L) → k ≤ i → slice_index_or jobs i d ≡ slice_index_or olds i d)
      → (i : ℕ) (d : Job C L) → k + 1 ≤ i → slice_index_or (slice_set jobs k new) i d ≡ slice_index_or olds i d
  same_after olds jobs k new same i d le = set_beside jobs k i new d (λ e. omega (arith, e, le)) ∙ same i d (omega arith)

-- ---- joining

sees_on : (caller : WorldEntry → ℕ) (p r s : PassState WorldEntry Start) → SeesMore caller p r → SeesMore caller r s → ((c : ℕ) → Has c p.numbers → Has c r.numbers) → SeesMore caller p s
sees_on caller p r s a b has = record { begins = prefix_trans p.seen r.seen s.seen a.begins b.begins; own_entries = λ c h. b.own_entries c (has c h) ∙ a.own_entries c h }

covers_on : (caller : WorldEntry → ℕ) (p q r s : PassState WorldEntry Start) → Covers caller p q r → SeesMore caller r s → ((c : ℕ) → Has c r.numbers → Has c s.numbers) → Covers caller p q s
covers_on caller p q r s h more has = record {
  one = sees_on caller p r s h.one more (λ c k. h.has c (inl k));
  other = sees_on caller q r s h.other more (λ c k. h.has c (inr k));
  has = λ c k. has c (h.has c k);
}

pub covers_both : (caller : WorldEntry → ℕ) (p q r : PassState WorldEntry Start) → SeesMore caller p r → SeesMore caller q r → r.numbers ≡ p.numbers ++ q.numbers → Covers caller p q r
covers_both caller p q r one other numbers = record {
  one = one;
  other = other;
  has = λ c k. subst (λ (l : List ℕ). Has c l) (sym numbers) (⊎_elim (λ l. has_left c p.numbers q.numbers l) (λ m. has_right c p.numbers q.numbers m) k);
}

-- how the first lane begins
pub begins_first : {C L : Type 0} (olds : List (Job C L)) (now : Job C L) (r : PassState WorldEntry Start) → 0 < length olds → now ≡ slice_index_or olds 0 now → StartsAsLane now r → (d : Job C L) → StartsAsLane (slice_index_or olds 0 d) r
begins_first {C} {L} olds now r some here h d passes is = h passes (ap (λ (j : Job C L). j.passes) (here ∙ index_same olds 0 now d some) ∙ is)

module _ {C L : Type 0} (caller : WorldEntry → ℕ) where
  joined_on : (old new : Job C L) (r s : PassState WorldEntry Start) → IsJoined caller old new r → SeesMore caller r s → ((c : ℕ) → Has c r.numbers → Has c s.numbers) → IsJoined caller old new s
  joined_on old new r s h more has = record { lane_is = h.lane_is; covers = λ passes is. covers_on caller passes.0 passes.1 r s (h.covers passes is) more has }

  joined_as : (olds jobs : List (Job C L)) (k : ℕ) (now new d : Job C L) (r : PassState WorldEntry Start) → k < length olds → length jobs ≡ length olds → now ≡ slice_index_or jobs k now
      → slice_index_or jobs k d ≡ slice_index_or olds k d → IsJoined caller now new r → IsJoined caller (slice_index_or olds k d) (slice_index_or (slice_set jobs k new) k d) r
  joined_as olds jobs k now new d r below len here same h =
      let inside : k < length jobs = omega (arith, below, len) in
      let old_is : slice_index_or olds k d ≡ now = sym same ∙ index_same jobs k d now inside ∙ sym here in
      subst (λ (j : Job C L). IsJoined caller j (slice_index_or (slice_set jobs k new) k d) r) (sym old_is) (subst (λ (j : Job C L). IsJoined caller now j r) (sym (set_here jobs k new d inside)) h)

  -- the first lane
  pub joined_first : (olds : List (Job C L)) (now new : Job C L) (r : PassState WorldEntry Start) → 0 < length olds → now ≡ slice_index_or olds 0 now → IsJoined caller now new r
      → (i : ℕ) (d : Job C L) → i < 1 → IsJoined caller (slice_index_or olds i d) (slice_index_or (slice_set olds 0 new) i d) r
  joined_first olds now new r some here h zero d lt = joined_as olds olds 0 now new d r some refl here refl h
  joined_first olds now new r some here h (suc i) d lt = absurd (omega arith)

  -- one more lane
  pub joined_next : (olds jobs : List (Job C L)) (k : ℕ) (now new : Job C L) (all next last : PassState WorldEntry Start) → k < length olds → length jobs ≡ length olds → now ≡ slice_index_or jobs k now
      → ((i : ℕ) (d : Job C L) → k ≤ i → slice_index_or jobs i d ≡ slice_index_or olds i d) → ((i : ℕ) (d : Job C L) → i < k → IsJoined caller (slice_index_or olds i d) (slice_index_or jobs i d) all)
      → IsJoined caller now new next → SeesMore caller all last → SeesMore caller next last → last.numbers ≡ all.numbers ++ next.numbers
      → (i : ℕ) (d : Job C L) → i < k + 1 → IsJoined caller (slice_index_or olds i d) (slice_index_or (slice_set jobs k new) i d) last
  joined_next olds jobs k now new all next last below len here same joined h one other numbers i d lt = dite (ℕ_discrete i k) at beside
    where
      from_all : (c : ℕ) → Has c all.numbers → Has c last.numbers
      from_all c k = subst (λ (l : List ℕ). Has c l) (sym numbers) (has_left c all.numbers next.numbers k)

      from_next : (c : ℕ) → Has c next.numbers → Has c last.numbers
      from_next c k = subst (λ (l : List ℕ). Has c l) (sym numbers) (has_right c all.numbers next.numbers k)

      at : i ≡ k → IsJoined caller (slice_index_or olds i d) (slice_index_or (slice_set jobs k new) i d) last
      at e = subst (λ (n : ℕ). IsJoined caller (slice_index_or olds n d) (slice_index_or (slice_set jobs k new) n d) last) (sym e)
          (joined_as olds jobs k now new d last below len here (same k d (omega arith)) (joined_on now new next last h other from_next))

      beside : (i ≡ k → ⊥) → IsJoined caller (slice_index_or olds i d) (slice_index_or (slice_set jobs k new) i d) last
      beside ne = subst (λ (j : Job C L). IsJoined caller (slice_index_or olds i d) j last) (sym (set_beside jobs k i new d ne))
          (joined_on (slice_index_or olds i d) (slice_index_or jobs i d) all last (joined i d (before k i lt ne)) one from_all)
        where
          before : (k i : ℕ) → i < k + 1 → (i ≡ k → ⊥) → i < k
          before k i lt ne = dite (ℕ_discrete i k) (λ e. absurd (ne e)) (λ other. omega (arith, lt, other))
