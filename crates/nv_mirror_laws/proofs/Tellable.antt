-- Texts that messages can tell, and buffers of which each text is one, also those that undo leads to.
use Rattle.std.proofs.Common.{◌≡◌, ℕ, zero, suc, ◌+◌, ◌<◌, ◌≤◌, ◌^◌, List, [], ◌∷◌, ◌++◌, length, take, fold, refl, sym, ap, subst, ◌∙◌, lit<, arith, inl, inr, Bool, Option, Some, None}
use Rattle.std.specs.Prelude.{option_map, unwrap_or}
use Rattle.std.specs.List.{AllByRecursion, splice}
use Rattle.std.specs.Option.{option_map_or}
use Rattle.std.proofs.lemmas.Bool.{cases_eq}
use Rattle.std.proofs.lemmas.Option.{none-some, same_Some}
use Rattle.nv_places.specs.Flat.{lines_of}
use Rattle.nv_undo.specs.Tree.{Undo, IsTree, last, numbered, parent_of, pushed, tree_after_leg}
use Rattle.nv_undo.specs.Ways.{Leads, origin}
use Rattle.nv_undo.specs.declared.legs.Leg.{Leg}
use Rattle.nv_undo.specs.declared.legs.Leg.TheVariants.{Back, Ahead}
use Rattle.nv_undo.proofs.NumberLemmas.{numbered-old, numbered-new, within_numbered, last-pushed, numbered_same}
use Rattle.nv_model.specs.Buffers.{Splice, Kept, ModelBuffer, text_after, text_of, inverse_splice, inverse_splices, kept_text, fresh_buffer, closed_with, with_seal, with_splice}
use Rattle.nv_model.specs.Standing.{AreWithin, LeadTo}
use Rattle.nv_model.specs.Undoing.{splices_at, leg_splices, legs_splices}
use Rattle.nv_model.proofs.Legs.{gone_changes}
use Rattle.nv_model.proofs.PartsSealed.{numbers_stay}
use Rattle.nv_model.proofs.Telling.{inverses_take_back, taken_back}
use Rattle.nv_dispatch.specs.Telling.{IsSoundBuffer}

-- ---- texts
abbrev pub IsShort : List ℕ → Type 0
IsShort line = length line < 2 ^ 32

pub record IsTellable (text : List ℕ) : Type 0 where
  pub few : length (lines_of text) < 2 ^ 32
  pub short : AllByRecursion IsShort (lines_of text)

-- each text that splices made one after another lead to is one
abbrev pub Steps : List ℕ → List Splice → Type 0
Steps text [] = Unit {0}
Steps text (s ∷ ss) = IsTellable (text_after text s) × Steps (text_after text s) ss

pub first_tellable : IsTellable (10 ∷ [])
first_tellable = record { few = lit< tt; short = (lit< tt, tt) }

pub steps_both : (text : List ℕ) (ss ts : List Splice) → Steps text ss → Steps (fold text_after text ss) ts → Steps text (ss ++ ts)
steps_both text [] ts are more = more
steps_both text (s ∷ ss) ts are more = (are.0, steps_both (text_after text s) ss ts are.1 more)

pub steps_first : (text : List ℕ) (ss ts : List Splice) → Steps text (ss ++ ts) → Steps text ss
steps_first text [] ts are = tt
steps_first text (s ∷ ss) ts are = (are.0, steps_first (text_after text s) ss ts are.1)

pub steps_end : (text : List ℕ) (ss : List Splice) → IsTellable text → Steps text ss → IsTellable (fold text_after text ss)
steps_end text [] is are = is
steps_end text (s ∷ ss) is are = steps_end (text_after text s) ss are.0 are.1

-- and those that take them back
pub steps_back : (text : List ℕ) (ss : List Splice) → AreWithin text ss → IsTellable text → Steps text ss → Steps (fold text_after text ss) (inverse_splices text ss)
steps_back text [] within is are = tt
steps_back text (s ∷ ss) within is are =
    steps_both (fold text_after (text_after text s) ss) (inverse_splices (text_after text s) ss) (inverse_splice text s ∷ [])
    (steps_back (text_after text s) ss within.1 are.0 are.1) (
      subst (λ (t : List ℕ). IsTellable (text_after t (inverse_splice text s))) (sym (inverses_take_back (text_after text s) ss within.1))
          (subst (λ (t : List ℕ). IsTellable t) (sym (taken_back text s within.0)) is),
      tt,
    )

-- ---- a buffer
pub record IsModest (b : ModelBuffer) : Type 0 where
  pub first : IsTellable b.first
  pub changes : (n : ℕ) (c : ℕ × Kept) → numbered b.undo n ≡ Some c → Steps (kept_text b.first b.undo c.0) c.1.splices × IsTellable c.1.text
  pub since : Steps (kept_text b.first b.undo b.undo.current) b.unsealed

abbrev ModestChanges : List ℕ → Undo Kept → Type 0
ModestChanges first undo = (n : ℕ) (c : ℕ × Kept) → numbered undo n ≡ Some c → Steps (kept_text first undo c.0) c.1.splices × IsTellable c.1.text

none_numbered : (listed : Bool) (n : ℕ) (c : ℕ × Kept) → numbered (fresh_buffer listed).undo n ≡ Some c → ⊥
none_numbered listed zero c e = none-some c e
none_numbered listed (suc p) c e = none-some c e

pub fresh_modest : (listed : Bool) → IsModest (fresh_buffer listed)
fresh_modest listed = record { first = first_tellable; changes = λ n c e. absurd (none_numbered listed n c e); since = tt }

-- what is kept of a number
by_number : (first : List ℕ) (o : Option (ℕ × Kept)) → IsTellable first → ((c : ℕ × Kept) → o ≡ Some c → IsTellable c.1.text)
    → IsTellable (option_map_or (λ (k : Kept). k.text) (option_map (λ (c : ℕ × Kept). c.1) o) first)
by_number first None is are = is
by_number first (Some c) is are = are c refl

kept_tellable : (first : List ℕ) (undo : Undo Kept) (n : ℕ) → IsTellable first → ModestChanges first undo → IsTellable (kept_text first undo n)
kept_tellable first undo n is are = by_number first (numbered undo n) is (λ c e. (are n c e).1)

-- a change more
pushed_modest : (k : Kept) (first : List ℕ) (undo : Undo Kept) → IsTree undo → ModestChanges first undo → Steps (kept_text first undo undo.current) k.splices → IsTellable k.text
    → ModestChanges first (pushed k undo)
pushed_modest k first undo tree are since text n c here = elim (cases_eq n (suc (last undo))) [
  | inl same ↦ (
      let there : (undo.current, k) ≡ c = same_Some (undo.current, k) c (sym (numbered-new k undo) ∙ ap (numbered (pushed k undo)) (sym same) ∙ here) in
      subst (λ (d : ℕ × Kept). Steps (kept_text first (pushed k undo) d.0) d.1.splices × IsTellable d.1.text) there
      (subst (λ (t : List ℕ). Steps t k.splices) (sym (numbers_stay k first undo undo.current tree.within)) since, text)
      )
  | inr other ↦ (
      let low : n ≤ last undo = omega (arith, (within_numbered (pushed k undo) n c here).1, last-pushed k undo) in
      let there : numbered undo n ≡ Some c = sym (numbered-old k undo n low) ∙ here in
      let below : c.0 < n = tree.below n c.0 (ap (option_map (λ (d : ℕ × Kept). d.0)) there) in
      let was = are n c there in
      (subst (λ (t : List ℕ). Steps t c.1.splices) (sym (numbers_stay k first undo c.0 (omega arith))) was.0, was.1)
      )
]

seal_modest : (b : ModelBuffer) (ss : List Splice) → IsTree b.undo → IsTellable (text_of b) → IsModest b → Steps (kept_text b.first b.undo b.undo.current) ss
    → IsModest (record b { undo = closed_with ss (text_of b) b.undo; unsealed = [] })
seal_modest b [] tree text h since = record { first = h.first; changes = h.changes; since = tt }
seal_modest b (s ∷ ss) tree text h since = record {
  first = h.first;
  changes = pushed_modest (record { splices = s ∷ ss; text = text_of b }) b.first b.undo tree h.changes since text;
  since = tt;
}

pub sealed_modest : (b : ModelBuffer) → IsSoundBuffer b → IsTellable (text_of b) → IsModest b → IsModest (with_seal b)
sealed_modest b is text h = seal_modest b b.unsealed is.1.valid.tree text h h.since

-- a splice more
makes_now : (b : ModelBuffer) (is : IsSoundBuffer b) → fold text_after (kept_text b.first b.undo b.undo.current) b.unsealed ≡ text_of b
unfolding text_of
makes_now b is = is.1.valid.since.makes

pub spliced_modest : (b : ModelBuffer) (s : Splice) → IsSoundBuffer b → IsTellable (text_after (text_of b) s) → IsModest b → IsModest (with_splice s b)
spliced_modest b s is text h = record {
  first = h.first;
  changes = h.changes;
  since = steps_both (kept_text b.first b.undo b.undo.current) b.unsealed (s ∷ []) h.since
      (subst (λ (t : List ℕ). IsTellable (text_after t s)) (sym (makes_now b is)) text, tt);
}

-- a step in the tree, where no change is open
pub stepped_modest : (b : ModelBuffer) (leg : Leg) → b.unsealed ≡ [] → IsModest b → IsModest (record b { undo = tree_after_leg leg b.undo })
stepped_modest b leg closed h =
    let same : (n : ℕ) → numbered (tree_after_leg leg b.undo) n ≡ numbered b.undo n = numbered_same (tree_after_leg leg b.undo) b.undo (gone_changes leg b.undo) in
    record {
      first = h.first;
      changes = λ n c e.
          let was = h.changes n c (sym (same n) ∙ e) in
          (subst (λ (t : List ℕ). Steps t c.1.splices) (sym (kept_same b.first b.undo (tree_after_leg leg b.undo) c.0 (same c.0))) was.0, was.1);
      since = subst (λ (ss : List Splice). Steps (kept_text b.first (tree_after_leg leg b.undo) (tree_after_leg leg b.undo).current) ss) (sym closed) tt;
    }
  where
    kept_same : (first : List ℕ) (undo other : Undo Kept) (n : ℕ) → numbered other n ≡ numbered undo n → kept_text first other n ≡ kept_text first undo n
    kept_same first undo other n e = ap (λ (o : Option (ℕ × Kept)). option_map_or (λ (k : Kept). k.text) (option_map (λ (c : ℕ × Kept). c.1) o) first) e

-- ---- the splices of undo commands
record Change (first : List ℕ) (t : Undo Kept) (k p : ℕ) : Type 0 where
  change : Kept
  there : numbered t k ≡ Some (p, change)
  splices : splices_at t k ≡ change.splices
  text : kept_text first t k ≡ change.text
  from : origin t k ≡ p

change_by : (first : List ℕ) (t : Undo Kept) (k p : ℕ) (o : Option (ℕ × Kept)) → numbered t k ≡ o → option_map (λ (c : ℕ × Kept). c.0) o ≡ Some p → Change first t k p
change_by first t k p None e is = absurd (none-some p is)
change_by first t k p (Some c) e is =
    let same : c.0 ≡ p = same_Some c.0 p is in
    let there : numbered t k ≡ Some (p, c.1) = e ∙ ap (λ (q : ℕ). Some (q, c.1)) same in
    record {
      change = c.1;
      there = there;
      splices = ap (λ (x : Option (ℕ × Kept)). option_map_or (λ (j : Kept). j.splices) (option_map (λ (d : ℕ × Kept). d.1) x) []) there;
      text = ap (λ (x : Option (ℕ × Kept)). option_map_or (λ (j : Kept). j.text) (option_map (λ (d : ℕ × Kept). d.1) x) first) there;
      from = ap (λ (x : Option (ℕ × Kept)). unwrap_or (option_map (λ (d : ℕ × Kept). d.0) x) 0) there;
    }

change_at : (first : List ℕ) (t : Undo Kept) (k p : ℕ) → parent_of t k ≡ Some p → Change first t k p
change_at first t k p is = change_by first t k p (numbered t k) refl is

abbrev LeadChanges : List ℕ → Undo Kept → Type 0
LeadChanges first t = (n : ℕ) (c : ℕ × Kept) → numbered t n ≡ Some c → LeadTo (kept_text first t c.0) c.1.splices c.1.text

pub legs_step : (first : List ℕ) (t : Undo Kept) → IsTellable first → LeadChanges first t → ModestChanges first t
    → (legs : List Leg) (at to : ℕ) (text : List ℕ) → text ≡ kept_text first t at → Leads t at legs to → Steps text (legs_splices first t legs)
legs_step first t is lead are [] at to text e way = tt
legs_step first t is lead are (Back k ∷ legs) at to text e way =
    let c = change_at first t k way.0 way.2 in
    let leads = lead k (way.0, c.change) c.there in
    let steps = (are k (way.0, c.change) c.there).0 in
    let now : text ≡ fold text_after (kept_text first t way.0) c.change.splices = e ∙ ap (kept_text first t) (sym way.1) ∙ c.text ∙ sym leads.makes in
    let same : leg_splices first t (Back k) ≡ inverse_splices (kept_text first t way.0) c.change.splices =
    (λ i. inverse_splices (kept_text first t (c.from i)) (c.splices i)) in
    let back : Steps text (leg_splices first t (Back k)) =
    subst (λ (ss : List Splice). Steps text ss) (sym same)
    (subst (λ (x : List ℕ). Steps x (inverse_splices (kept_text first t way.0) c.change.splices)) (sym now)
    (steps_back (kept_text first t way.0) c.change.splices leads.within (kept_tellable first t way.0 is are) steps)) in
    let end : fold text_after text (leg_splices first t (Back k)) ≡ kept_text first t way.0 =
    (λ i. fold text_after (now i) (same i)) ∙ inverses_take_back (kept_text first t way.0) c.change.splices leads.within in
    steps_both text (leg_splices first t (Back k)) (legs_splices first t legs) back
    (legs_step first t is lead are legs way.0 to (fold text_after text (leg_splices first t (Back k))) end way.3)
legs_step first t is lead are (Ahead k ∷ legs) at to text e way =
    let c = change_at first t k at way.0 in
    let leads = lead k (at, c.change) c.there in
    let ahead : Steps text (leg_splices first t (Ahead k)) =
    subst (λ (ss : List Splice). Steps text ss) (sym c.splices)
    (subst (λ (x : List ℕ). Steps x c.change.splices) (sym e) (are k (at, c.change) c.there).0) in
    let end : fold text_after text (leg_splices first t (Ahead k)) ≡ kept_text first t k =
    (λ i. fold text_after (e i) (c.splices i)) ∙ leads.makes ∙ sym c.text in
    steps_both text (leg_splices first t (Ahead k)) (legs_splices first t legs) ahead
    (legs_step first t is lead are legs k to (fold text_after text (leg_splices first t (Ahead k))) end way.1)
