-- The parts of a leg: each is one of its change, and goes the other way than the one before of it.
use Rattle.std.proofs.Common.{◌≡◌, ℕ, zero, suc, ◌+◌, ◌-◌, ◌<◌, ◌≤◌, List, [], ◌∷◌, ◌++◌, length, take, drop, fold, refl, ap, sym, ◌∙◌, append_assoc, append-nil, length-append, arith, Bool, true, false, cond, eqb, ◌&&◌, ◌||◌, subst, Some, None, inl, inr}
use Rattle.std.proofs.lemmas.Bool.{cases_eq}
use Rattle.std.proofs.lemmas.Bool.Decides.{nat_tests}
use Rattle.std.proofs.lemmas.List.{take_at}
use Rattle.nv_buffer.specs.Changes.{turned_part}
use Rattle.nv_buffer.specs.declared.edit.ChangePart.{ChangePart}
use Rattle.nv_model.specs.Buffers.{Splice, SetMark, KeptState, ModelBuffer, text_after, inverse_splice, inverse_splices, is_same_part, last_kept, state_behind}
use Rattle.nv_model.specs.Standing.{AreWithin, is_made, text_met}
use Rattle.nv_model.proofs.KeptPlaces.{AllOther, met-more, none_made}
use Rattle.nv_model.proofs.Telling.{fold-append, inverses_take_back, taken_back}

-- ---- parts that aren't there
pub others-append : (p : ChangePart) (ss ts : List Splice) → AllOther p ss → AllOther p ts → AllOther p (ss ++ ts)
others-append p [] ts a b = b
others-append p (s ∷ ss) ts a b = (a.0, others-append p ss ts a.1 b)

-- the splices before are those in which a part was made or wasn't
made_or_not : (p : ChangePart) (ss : List Splice) → is_made p ss ≡ false → AllOther p ss
made_or_not p [] none = tt
made_or_not p (s ∷ ss) none = by_case (is_same_part p s.part) refl (made_or_not p ss) none
  where
    by_case : (b : Bool) → is_same_part p s.part ≡ b → (is_made p ss ≡ false → AllOther p ss) → (b || is_made p ss) ≡ false
        → AllOther p (s ∷ ss)
    by_case true is rest here = cc
    by_case false is rest here = (is, rest here)

-- a part that isn't there meets what was met
pub met-none : (p : ChangePart) (met text : List ℕ) (ss : List Splice) → AllOther p ss → text_met p met text ss ≡ met
met-none p met text [] others = refl
met-none p met text (s ∷ ss) others =
    ap (λ (b : Bool). text_met p (cond b text met) (text_after text s) ss) others.0 ∙ met-none p met (text_after text s) ss others.1

pub met-append : (p : ChangePart) (met text : List ℕ) (ss ts : List Splice)
    → text_met p met text (ss ++ ts) ≡ text_met p (text_met p met text ss) (fold text_after text ss) ts
met-append p met text [] ts = refl
met-append p met text (s ∷ ss) ts = met-append p (cond (is_same_part p s.part) text met) (text_after text s) ss ts

-- ---- splices that are numbered
-- the parts of a change, from one on
abbrev pub AreParts : ℕ → ℕ → List Splice → Type 0
AreParts n i [] = Unit {0}
AreParts n i (s ∷ ss) = (s.part ≡ record { change = n; part = i; back = false }) × AreParts n (suc i) ss

abbrev whole : ℕ → ℕ → ChangePart
whole n i = record { change = n; part = i; back = false }

other_part : (p : ChangePart) (n i : ℕ) (q : ChangePart) → q ≡ whole n i → (p.part ≡ i → ⊥) → is_same_part p q ≡ false
other_part p n i q is other = ap (is_same_part p) is ∙ numbers p.change p.part n i other
  where
    numbers : (a i b j : ℕ) → (i ≡ j → ⊥) → (eqb a b && eqb i j) ≡ false
    numbers a i b j other = grind (arith, nat_tests)

other_change : (p : ChangePart) (n i : ℕ) (q : ChangePart) → q ≡ whole n i → (p.change ≡ n → ⊥) → is_same_part p q ≡ false
other_change p n i q is other = ap (is_same_part p) is ∙ numbers p.change p.part n i other
  where
    numbers : (a i b j : ℕ) → (a ≡ b → ⊥) → (eqb a b && eqb i j) ≡ false
    numbers a i b j other = grind (arith, nat_tests)

same_part : (p : ChangePart) (n i : ℕ) (q : ChangePart) → q ≡ whole n i → p.change ≡ n → p.part ≡ i → is_same_part p q ≡ true
same_part p n i q is change part = ap (is_same_part p) is ∙ numbers p.change p.part n i change part
  where
    numbers : (a i b j : ℕ) → a ≡ b → i ≡ j → (eqb a b && eqb i j) ≡ true
    numbers a i b j first second = grind (arith, nat_tests)

pub above_others : (p : ChangePart) (n i : ℕ) (ss : List Splice) → AreParts n i ss → p.part < i → AllOther p ss
above_others p n i [] are low = tt
above_others p n i (s ∷ ss) are low =
    (other_part p n i s.part are.0 (λ same. omega (arith, same, low)), above_others p n (suc i) ss are.1 (omega arith))

pub elsewhere_others : (p : ChangePart) (n i : ℕ) (ss : List Splice) → AreParts n i ss → (p.change ≡ n → ⊥) → AllOther p ss
elsewhere_others p n i [] are other = tt
elsewhere_others p n i (s ∷ ss) are other = (other_change p n i s.part are.0 other, elsewhere_others p n (suc i) ss are.1 other)

pub above_inverses : (p : ChangePart) (n i : ℕ) (base : List ℕ) (ss : List Splice) → AreParts n i ss → p.part < i → AllOther p (inverse_splices base ss)
above_inverses p n i base [] are low = tt
above_inverses p n i base (s ∷ ss) are low =
    others-append p (inverse_splices (text_after base s) ss) (inverse_splice base s ∷ [])
    (above_inverses p n (suc i) (text_after base s) ss are.1 (omega arith))
    (other_part p n i s.part are.0 (λ same. omega (arith, same, low)), tt)

pub elsewhere_inverses : (p : ChangePart) (n i : ℕ) (base : List ℕ) (ss : List Splice) → AreParts n i ss → (p.change ≡ n → ⊥)
    → AllOther p (inverse_splices base ss)
elsewhere_inverses p n i base [] are other = tt
elsewhere_inverses p n i base (s ∷ ss) are other =
    others-append p (inverse_splices (text_after base s) ss) (inverse_splice base s ∷ [])
    (elsewhere_inverses p n (suc i) (text_after base s) ss are.1 other) (other_change p n i s.part are.0 other, tt)

-- the text before a part of splices that are made one after another
pub met_ahead : (p : ChangePart) (n i : ℕ) (met text : List ℕ) (ss : List Splice) → AreParts n i ss → p.change ≡ n → i ≤ p.part → p.part < i + length ss
    → text_met p met text ss ≡ fold text_after text (take (p.part - i) ss)
met_ahead p n i met text [] are change from low = absurd (omega arith)
met_ahead p n i met text (s ∷ ss) are change from low = elim (cases_eq p.part i) [
  | inl same ↦ (
      let first : zero ≡ p.part - i = omega arith in
      ap (λ (b : Bool). text_met p (cond b text met) (text_after text s) ss) (same_part p n i s.part are.0 change same)
      ∙ met-none p text (text_after text s) ss (above_others p n (suc i) ss are.1 (omega arith))
      ∙ ap (λ (k : ℕ). fold text_after text (take k (s ∷ ss))) first
      )
  | inr other ↦ (
      let next : suc (p.part - suc i) ≡ p.part - i = omega (arith, from, other) in
      ap (λ (b : Bool). text_met p (cond b text met) (text_after text s) ss) (other_part p n i s.part are.0 other)
      ∙ met_ahead p n (suc i) met (text_after text s) ss are.1 change (omega (arith, from, other)) (omega arith)
      ∙ ap (λ (k : ℕ). fold text_after text (take k (s ∷ ss))) next
      )
]

-- and of those that take them back
pub met_back : (p : ChangePart) (n i : ℕ) (met base : List ℕ) (ss : List Splice) → AreWithin base ss → AreParts n i ss → p.change ≡ n → i ≤ p.part
    → p.part < i + length ss
    → text_met p met (fold text_after base ss) (inverse_splices base ss) ≡ fold text_after base (take (suc (p.part - i)) ss)
met_back p n i met base [] within are change from low = absurd (omega arith)
met_back p n i met base (s ∷ ss) within are change from low =
    met-more p met (fold text_after (text_after base s) ss) (inverse_splices (text_after base s) ss) (inverse_splice base s)
    ∙ elim (cases_eq p.part i) [
      | inl same ↦ (
          let first : suc zero ≡ suc (p.part - i) = omega arith in
          ap (λ (b : Bool). cond b
          (fold text_after (fold text_after (text_after base s) ss) (inverse_splices (text_after base s) ss))
          (text_met p met (fold text_after (text_after base s) ss) (inverse_splices (text_after base s) ss))) (same_part p n i s.part are.0 change same)
          ∙ inverses_take_back (text_after base s) ss within.1
          ∙ ap (λ (k : ℕ). fold text_after base (take k (s ∷ ss))) first
          )
      | inr other ↦ (
          let next : suc (suc (p.part - suc i)) ≡ suc (p.part - i) = omega (arith, from, other) in
          ap (λ (b : Bool). cond b
          (fold text_after (fold text_after (text_after base s) ss) (inverse_splices (text_after base s) ss))
          (text_met p met (fold text_after (text_after base s) ss) (inverse_splices (text_after base s) ss))) (other_part p n i s.part are.0 other)
          ∙ met_back p n (suc i) met (text_after base s) ss within.1 are.1 change (omega (arith, from, other)) (omega arith)
          ∙ ap (λ (k : ℕ). fold text_after base (take k (s ∷ ss))) next
          )
    ]

-- ---- each splice of a leg meets the text to which it leads
-- each of some splices that are made behind those that are made: of marks of which the last splice
-- of its part kept something
abbrev pub AllMeet : List ℕ → List Splice → List Splice → Type 0
AllMeet first made [] = Unit {0}
AllMeet first made (s ∷ ss) =
    ((k : SetMark) (x : KeptState) → last_kept s.part (state_behind k (drop k.since made)).kept ≡ Some x
    → text_met s.part [] first made ≡ text_after (fold text_after first made) s)
    × AllMeet first (made ++ s ∷ []) ss

-- no part is there twice, and each leads to the text before the last splice of it that was made
-- before all of them
abbrev pub LegMeets : ModelBuffer → List Splice → List ℕ → List Splice → Type 0
LegMeets m done text [] = Unit {0}
LegMeets m done text (s ∷ ss) =
    AllOther s.part done
    × ((is_made s.part m.splices ≡ true → text_met s.part [] m.first m.splices ≡ text_after text s)
    × LegMeets m (done ++ s ∷ []) (text_after text s) ss)

pub all_meet : (m : ModelBuffer) (done ss : List Splice) → LegMeets m done (fold text_after (fold text_after m.first m.splices) done) ss
    → AllMeet m.first (m.splices ++ done) ss
all_meet m done [] meets = tt
all_meet m done (s ∷ ss) meets = (
  first,
  subst (λ (l : List Splice). AllMeet m.first l ss) (sym (append_assoc m.splices done (s ∷ [])))
      (all_meet m (done ++ s ∷ []) ss
      (subst (λ (t : List ℕ). LegMeets m (done ++ s ∷ []) t ss) (sym (fold-append text_after (fold text_after m.first m.splices) done (s ∷ []))) meets.1.1)),
)
  where
    was_made : (k : SetMark) (x : KeptState) → last_kept s.part (state_behind k (drop k.since (m.splices ++ done))).kept ≡ Some x
        → is_made s.part m.splices ≡ true
    was_made k x kept = by_case (is_made s.part m.splices) refl
      where
        by_case : (b : Bool) → is_made s.part m.splices ≡ b → is_made s.part m.splices ≡ true
        by_case true made = made
        by_case false none =
            let nothing = none_made (m.splices ++ done) k s.part (others-append s.part m.splices done (made_or_not s.part m.splices none) meets.0) in
            absurd (let no : None ≡ Some x = sym nothing ∙ kept in cc)

    first : (k : SetMark) (x : KeptState) → last_kept s.part (state_behind k (drop k.since (m.splices ++ done))).kept ≡ Some x
        → text_met s.part [] m.first (m.splices ++ done) ≡ text_after (fold text_after m.first (m.splices ++ done)) s
    first k x kept =
        met-append s.part [] m.first m.splices done
        ∙ met-none s.part (text_met s.part [] m.first m.splices) (fold text_after m.first m.splices) done meets.0
        ∙ meets.1.0 (was_made k x kept)
        ∙ ap (λ (t : List ℕ). text_after t s) (sym (fold-append text_after m.first m.splices done))

meets-append : (m : ModelBuffer) (done : List Splice) (text : List ℕ) (ss ts : List Splice) → LegMeets m done text ss
    → LegMeets m (done ++ ss) (fold text_after text ss) ts → LegMeets m done text (ss ++ ts)
meets-append m done text [] ts meets more = subst (λ (l : List Splice). LegMeets m l text ts) (append-nil done) more
meets-append m done text (s ∷ ss) ts meets more = (
  meets.0,
  (
    meets.1.0,
    meets-append m (done ++ s ∷ []) (text_after text s) ss ts meets.1.1
        (subst (λ (l : List Splice). LegMeets m l (fold text_after (text_after text s) ss) ts) (sym (append_assoc done (s ∷ []) ss)) more),
  ),
)

part_of : (s : Splice) (n i : ℕ) → s.part ≡ whole n i → s.part.part ≡ i
part_of s n i is = ap (λ (p : ChangePart). p.part) is

change_is : (s : Splice) (n i : ℕ) → s.part ≡ whole n i → s.part.change ≡ n
change_is s n i is = ap (λ (p : ChangePart). p.change) is

-- ahead: the last splice of each part took it back, from the text behind it
pub ahead_meets : (m : ModelBuffer) (n i : ℕ) (all pre ss : List Splice) (base : List ℕ) → all ≡ pre ++ ss → length pre ≡ i
    → ((p : ChangePart) → i ≤ p.part → AllOther p pre)
    → ((p : ChangePart) → p.change ≡ n → p.part < length all → is_made p m.splices ≡ true
    → text_met p [] m.first m.splices ≡ fold text_after base (take (suc p.part) all))
    → AreParts n i ss → LegMeets m pre (fold text_after base pre) ss
ahead_meets m n i all pre [] base is count below met are = tt
ahead_meets m n i all pre (s ∷ ss) base is count below met are = (
  below s.part (omega (arith, part_of s n i are.0)),
  (
    λ made. met s.part (change_is s n i are.0) low made ∙ leads,
    subst (λ (t : List ℕ). LegMeets m (pre ++ s ∷ []) t ss) (fold-append text_after base pre (s ∷ []))
        (ahead_meets m n (suc i) all (pre ++ s ∷ []) ss base (is ∙ sym (append_assoc pre (s ∷ []) ss))
        (omega (arith, count, length-append pre (s ∷ []))) below_more met are.1),
  ),
)
  where
    low : s.part.part < length all
    low = omega (arith, part_of s n i are.0, count, ap length is, length-append pre (s ∷ ss))

    leads : fold text_after base (take (suc s.part.part) all) ≡ text_after (fold text_after base pre) s
    leads =
        ap (λ (k : ℕ). fold text_after base (take (suc k) all)) (part_of s n i are.0)
        ∙ ap (λ (l : List Splice). fold text_after base (take (suc i) l)) (is ∙ sym (append_assoc pre (s ∷ []) ss))
        ∙ ap (fold text_after base) (take_at (pre ++ s ∷ []) ss (suc i) (omega (arith, count, length-append pre (s ∷ []))))
        ∙ fold-append text_after base pre (s ∷ [])

    below_more : (p : ChangePart) → suc i ≤ p.part → AllOther p (pre ++ s ∷ [])
    below_more p high =
        others-append p pre (s ∷ []) (below p (omega arith)) (other_part p n i s.part are.0 (λ same. omega (arith, same, high)), tt)

-- back: the last splice of each part made it, from the text before it
pub back_meets : (m : ModelBuffer) (n i : ℕ) (all pre ss : List Splice) (first base : List ℕ) → all ≡ pre ++ ss → length pre ≡ i
    → base ≡ fold text_after first pre → AreWithin base ss
    → ((p : ChangePart) → p.change ≡ n → p.part < length all → is_made p m.splices ≡ true
    → text_met p [] m.first m.splices ≡ fold text_after first (take p.part all))
    → AreParts n i ss → LegMeets m [] (fold text_after base ss) (inverse_splices base ss)
back_meets m n i all pre [] first base is count from within met are = tt
back_meets m n i all pre (s ∷ ss) first base is count from within met are =
    meets-append m [] (fold text_after (text_after base s) ss) (inverse_splices (text_after base s) ss) (inverse_splice base s ∷ [])
    (back_meets m n (suc i) all (pre ++ s ∷ []) ss first (text_after base s) (is ∙ sym (append_assoc pre (s ∷ []) ss))
    (omega (arith, count, length-append pre (s ∷ [])))
    (ap (λ (t : List ℕ). text_after t s) from ∙ sym (fold-append text_after first pre (s ∷ []))) within.1 met are.1)
    (above_inverses (turned_part s.part) n (suc i) (text_after base s) ss are.1 (omega (arith, part_of s n i are.0)), (leads, tt))
  where
    low : s.part.part < length all
    low = omega (arith, part_of s n i are.0, count, ap length is, length-append pre (s ∷ ss))

    leads : is_made (turned_part s.part) m.splices ≡ true
        → text_met (turned_part s.part) [] m.first m.splices
        ≡ text_after (fold text_after (fold text_after (text_after base s) ss) (inverse_splices (text_after base s) ss)) (inverse_splice base s)
    leads made =
        met (turned_part s.part) (change_is s n i are.0) low made
        ∙ ap (λ (k : ℕ). fold text_after first (take k all)) (part_of s n i are.0)
        ∙ ap (λ (l : List Splice). fold text_after first (take i l)) is
        ∙ ap (fold text_after first) (take_at pre (s ∷ ss) i count)
        ∙ sym from
        ∙ sym (taken_back base s within.0)
        ∙ ap (λ (t : List ℕ). text_after t (inverse_splice base s)) (sym (inverses_take_back (text_after base s) ss within.1))
