-- What facts tell of the past of a buffer, one fact after another.
use Rattle.std.proofs.Common.{◌≡◌, ◌∙◌, refl, sym, ap, subst, ℕ, ℤ, ◌+◌, Bool, false, List, [], ◌∷◌, ◌++◌, map, fold, append-nil, append_assoc, length-append, arith}
use Rattle.std.specs.Ordering.{int_eq}
use Rattle.nv_buffer.specs.declared.buffer.Spliced.{Spliced}
use Rattle.nv_model.specs.Buffers.{Splice, text_after, splice_event, splice_events}
use Rattle.nv_model.specs.Answers.{Fact, edited}
use Rattle.nv_model.proofs.Lookups.{int_eq-itself}
use Rattle.nv_model.proofs.Telling.{fold-append}
use Rattle.nv_dispatch.specs.Telling.{Past, text_then, tick_then, FitsLines, IsSpliceTold, ToldOfLive, FactsTell}

-- facts behind others
pub tell-append : (n : ℤ) (fs gs : List Fact) (a b c : Past) → FactsTell n fs a b → FactsTell n gs b c → FactsTell n (fs ++ gs) a c
tell-append n [] gs a b c first then = subst (λ (p : Past). FactsTell n gs p c) first then
tell-append n (f ∷ fs) gs a b c first then = (first.0, first.1, tell-append n fs gs first.0 b c first.2 then)

-- what is told of a buffer that isn't deleted
pub told_own : (n : ℤ) (p q : Past) (R : Type 0) → p.is_deleted ≡ false → R → ToldOfLive (int_eq n n) p q R
told_own n p q R live r = subst (λ (b : Bool). ToldOfLive b p q R) (sym (int_eq-itself n)) (live, r)

-- and of another one
pub told_other : (n k : ℤ) (p q : Past) (R : Type 0) → int_eq k n ≡ false → q ≡ p → ToldOfLive (int_eq k n) p q R
told_other n k p q R apart same = subst (λ (b : Bool). ToldOfLive b p q R) (sym apart) same

-- splices made one after another from a text on, each of which fits its lines
abbrev pub AllFitLines : List ℕ → List Splice → Type 0
AllFitLines text [] = Unit {0}
AllFitLines text (s ∷ ss) = FitsLines text s × AllFitLines (text_after text s) ss

pub fit-append : (text : List ℕ) (ss ts : List Splice) → AllFitLines text ss → AllFitLines (fold text_after text ss) ts → AllFitLines text (ss ++ ts)
fit-append text [] ts are then = then
fit-append text (s ∷ ss) ts are then = (are.0, fit-append (text_after text s) ss ts are.1 then)

-- a past with more splices
abbrev pub more_past : Past → List Splice → Past
more_past p ss = record { splices = p.splices ++ ss; is_deleted = p.is_deleted }

-- splices made one after another are told
pub run_told :
    (n : ℤ) (ss : List Splice) (p : Past) (text : List ℕ) (tick : ℕ) → p.is_deleted ≡ false → text ≡ text_then p.splices → tick ≡ tick_then p.splices
    → AllFitLines text ss → FactsTell n (map (edited n) (splice_events text tick ss)) p (more_past p ss)
run_told n [] p text tick live same count fit = λ i. record { splices = append-nil p.splices i; is_deleted = p.is_deleted }
run_told n (s ∷ ss) p text tick live same count fit =
    let next : Past = more_past p (s ∷ []) in
    let told : IsSpliceTold p (splice_event text (tick + 1) s) next = record {
      made = s;
      told = λ i. splice_event (same i) (count i + 1) s;
      fits = subst (λ (t : List ℕ). FitsLines t s) same fit.0;
      becomes = refl;
    } in
    let then : text_after text s ≡ text_then next.splices = ap (λ (t : List ℕ). text_after t s) same ∙ sym (fold-append text_after (10 ∷ []) p.splices (s ∷ [])) in
    let one_more : tick + 1 ≡ tick_then next.splices = omega (arith, count, length-append p.splices (s ∷ [])) in (
      next,
      told_own n p next (IsSpliceTold p (splice_event text (tick + 1) s) next) live told,
      subst (λ (l : List Splice). FactsTell n (map (edited n) (splice_events (text_after text s) (tick + 1) ss)) next (record { splices = l; is_deleted = p.is_deleted }))
          (append_assoc p.splices (s ∷ []) ss)
          (run_told n ss next (text_after text s) (tick + 1) live then one_more fit.1),
    )

-- splices of another buffer tell nothing
pub others_told : (n k : ℤ) (es : List Spliced) (p : Past) → int_eq n k ≡ false → FactsTell k (map (edited n) es) p p
others_told n k [] p apart = refl
others_told n k (e ∷ es) p apart = (p, told_other k n p p (IsSpliceTold p e p) apart refl, others_told n k es p apart)
