-- What splices keep of a mark lies in the text before the last splice of its part.
use Rattle.std.proofs.Common.{◌≡◌, ℕ, zero, suc, ◌≤◌, List, [], ◌∷◌, ◌++◌, length, take, drop, map, fold, refl, sym, ◌∙◌, arith, Bool, true, false, cond, nat_le, ◌&&◌, ◌||◌, is_some, subst, Option, Some, None}
use Rattle.std.specs.Prelude.{IfSome, option_and_then}
use Rattle.std.proofs.lemmas.Bool.Decides.{nat_tests}
use Rattle.std.proofs.lemmas.Option.{same_Some}
use Rattle.nv_buffer.specs.declared.edit.ChangePart.{ChangePart}
use Rattle.nv_model.specs.Buffers.{Splice, SetMark, KeptState, MarkKeys, MarkState, text_after, is_same_part, keys_of, kept_state, last_kept, offset_within, reach_of, state_after, state_behind, state_set}
use Rattle.nv_model.specs.Standing.{IsWithin, AreWithin, text_met}
use Rattle.nv_model.proofs.OfMark.{LiesIn}
use Rattle.nv_model.proofs.PartsKept.{state_kept_here, state_kept_elsewhere}

-- ---- the text that was met
pub met-more : (part : ChangePart) (met text : List ℕ) (ss : List Splice) (s : Splice)
    → text_met part met text (ss ++ s ∷ []) ≡ cond (is_same_part part s.part) (fold text_after text ss) (text_met part met text ss)
met-more part met text [] s = refl
met-more part met text (t ∷ ss) s = met-more part (cond (is_same_part part t.part) text met) (text_after text t) ss s

met-split : (n : ℕ) (ss : List Splice) (part : ChangePart) (met text : List ℕ)
    → text_met part met text ss ≡ text_met part (text_met part met text (take n ss)) (fold text_after text (take n ss)) (drop n ss)
met-split zero ss part met text = refl
met-split (suc n) [] part met text = refl
met-split (suc n) (s ∷ ss) part met text = met-split n ss part (cond (is_same_part part s.part) text met) (text_after text s)

within-rest : (n : ℕ) (ss : List Splice) (text : List ℕ) → AreWithin text ss → AreWithin (fold text_after text (take n ss)) (drop n ss)
within-rest zero ss text are = are
within-rest (suc n) [] text are = tt
within-rest (suc n) (s ∷ ss) text are = within-rest n ss (text_after text s) are.1

-- ---- what a splice keeps
offset_lies : (from until p q most : ℕ) → cond (nat_le from p && nat_le p until) (Some p) None ≡ Some q → until ≤ most → q ≤ most
offset_lies from until p q most is low = by_case (nat_le from p && nat_le p until) refl is
  where
    upper : (nat_le from p && nat_le p until) ≡ true → p ≤ until
    upper both = grind (arith, nat_tests)

    by_case : (b : Bool) → (nat_le from p && nat_le p until) ≡ b → cond b (Some p) None ≡ Some q → q ≤ most
    by_case true both here = let same : p ≡ q = same_Some p q here in let high : p ≤ until = upper both in omega arith
    by_case false both here = cc

start_lies : (text : List ℕ) (s : Splice) (p : ℕ) → IsWithin text s → IfSome (offset_within (reach_of s) p) (λ q. q ≤ length text)
start_lies text s p is = by_case (offset_within (reach_of s) p) refl
  where
    by_case : (o : Option ℕ) → offset_within (reach_of s) p ≡ o → IfSome o (λ q. q ≤ length text)
    by_case None here = tt
    by_case (Some q) here = offset_lies s.from s.until p q (length text) here is.within

stop_lies : (text : List ℕ) (s : Splice) (o : Option ℕ) → IsWithin text s → IfSome (option_and_then (offset_within (reach_of s)) o) (λ q. q ≤ length text)
stop_lies text s None is = tt
stop_lies text s (Some p) is = start_lies text s p is

kept_lies : (text : List ℕ) (s : Splice) (keys : MarkKeys) (x : MarkState) (y : KeptState) → IsWithin text s
    → kept_state keys x (reach_of s) ≡ Some y → LiesIn text y
kept_lies text s keys x y is kept =
    by_case (keys.restore && (is_some (offset_within (reach_of s) x.start) || is_some (option_and_then (offset_within (reach_of s)) x.stop)))
    (record {
      start = offset_within (reach_of s) x.start;
      stop = option_and_then (offset_within (reach_of s)) x.stop;
      hidden = x.hidden;
    })
    (record { start = start_lies text s x.start is; stop = stop_lies text s x.stop is }) kept
  where
    by_case : (b : Bool) (now : KeptState) → LiesIn text now → cond b (Some now) None ≡ Some y → LiesIn text y
    by_case true now lies here = subst (λ (z : KeptState). LiesIn text z) (same_Some now y here) lies
    by_case false now lies here = cc

-- ---- after splices one after another
abbrev AllLie : (ChangePart → List ℕ) → MarkState → Type 0
AllLie met x = (part : ChangePart) (y : KeptState) → last_kept part x.kept ≡ Some y → LiesIn (met part) y

lies_more : (met : ChangePart → List ℕ) (text : List ℕ) (s : Splice) (keys : MarkKeys) (x : MarkState) → IsWithin text s → AllLie met x
    → AllLie (λ part. cond (is_same_part part s.part) text (met part)) (state_after keys x (reach_of s))
lies_more met text s keys x is lie part y kept = by_case (is_same_part part s.part) refl
  where
    by_case : (b : Bool) → is_same_part part s.part ≡ b → LiesIn (cond b text (met part)) y
    by_case true same =
        kept_lies text s keys x y is (sym (state_kept_here part s.part (kept_state keys x (reach_of s)) x.kept same) ∙ kept)
    by_case false other =
        lie part y (sym (state_kept_elsewhere part s.part (kept_state keys x (reach_of s)) x.kept other) ∙ kept)

lies_run : (met : ChangePart → List ℕ) (text : List ℕ) (ss : List Splice) (keys : MarkKeys) (x : MarkState) → AreWithin text ss → AllLie met x
    → AllLie (λ part. text_met part (met part) text ss) (fold (state_after keys) x (map reach_of ss))
lies_run met text [] keys x are lie = lie
lies_run met text (s ∷ ss) keys x are lie =
    lies_run (λ part. cond (is_same_part part s.part) text (met part)) (text_after text s) ss keys (state_after keys x (reach_of s)) are.1
    (lies_more met text s keys x are.0 lie)

pub lies_met : (first : List ℕ) (ss : List Splice) (k : SetMark) → AreWithin first ss → (part : ChangePart) (y : KeptState)
    → last_kept part (state_behind k (drop k.since ss)).kept ≡ Some y → LiesIn (text_met part [] first ss) y
unfolding state_behind
lies_met first ss k are part y kept =
    subst (λ (t : List ℕ). LiesIn t y) (sym (met-split k.since ss part [] first))
    (lies_run (λ p. text_met p [] first (take k.since ss)) (fold text_after first (take k.since ss)) (drop k.since ss) (keys_of k) (state_set k)
    (within-rest k.since ss first are) (λ p z none. cc) part y kept)

-- ---- a part of which no splice was made
abbrev pub AllOther : ChangePart → List Splice → Type 0
AllOther part [] = Unit {0}
AllOther part (s ∷ ss) = (is_same_part part s.part ≡ false) × AllOther part ss

others-rest : (n : ℕ) (part : ChangePart) (ss : List Splice) → AllOther part ss → AllOther part (drop n ss)
others-rest zero part ss others = others
others-rest (suc n) part [] others = tt
others-rest (suc n) part (s ∷ ss) others = others-rest n part ss others.1

none_run : (ss : List Splice) (part : ChangePart) (keys : MarkKeys) (x : MarkState) → last_kept part x.kept ≡ None
    → AllOther part ss → last_kept part (fold (state_after keys) x (map reach_of ss)).kept ≡ None
none_run [] part keys x none others = none
none_run (s ∷ ss) part keys x none others =
    none_run ss part keys (state_after keys x (reach_of s))
    (state_kept_elsewhere part s.part (kept_state keys x (reach_of s)) x.kept others.0 ∙ none) others.1

pub none_made : (ss : List Splice) (k : SetMark) (part : ChangePart) → AllOther part ss
    → last_kept part (state_behind k (drop k.since ss)).kept ≡ None
unfolding state_behind
none_made ss k part others = none_run (drop k.since ss) part (keys_of k) (state_set k) refl (others-rest k.since part ss others)
