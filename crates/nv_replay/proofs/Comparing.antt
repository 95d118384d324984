-- Outputs beside outputs.
use Rattle.std.proofs.Common.{◌≡◌, ◌∙◌, ℕ, suc, ◌+◌, ◌-◌, ◌^◌, min, Bool, true, false, cond, List, [], ◌∷◌, ◌++◌, length, map, Option, Some, None, ap, refl, sym, subst, arith}
use Rattle.std.specs.Prelude.{bytes_eq}
use Rattle.std.proofs.lemmas.Option.{none-some}
use Rattle.std.proofs.lemmas.Slice.Eq.{bytes_eq-Decides}
use Rattle.nv_history.specs.Events.{Entry}
use Rattle.nv_book.specs.Books.{Recorded, entries_of_records}
use Rattle.nv_replay.specs.Comparing.{first_difference}
use Rattle.nv_replay.specs.Summary.{bytes_of_outputs, most_counted}
use Rattle.nv_replay.specs.inside.Tallies.{IsTallyOf, difference_with, tally_with}
use Rattle.nv_replay.specs.declared.tallying.Tally.{Tally}

-- entries are as many as their records
pub count_of_entries : (rs : List Recorded) → length (entries_of_records rs) ≡ length rs
count_of_entries [] = refl
count_of_entries (r ∷ rs) = ap (λ (n : ℕ). suc n) (count_of_entries rs)

pub as_many : (rs ps : List Recorded) → entries_of_records ps ≡ entries_of_records rs → length rs ≡ length ps
as_many rs ps same = sym (count_of_entries rs) ∙ ap (length {A = Entry}) (sym same) ∙ count_of_entries ps

pub entries_more : (rs more : List Recorded) → entries_of_records (rs ++ more) ≡ entries_of_records rs ++ entries_of_records more
entries_more [] more = refl
entries_more (r ∷ rs) more = ap (λ (es : List Entry). r.entry ∷ es) (entries_more rs more)

here : (r p : Recorded) (m n : ℕ) → m ≡ n → cond (bytes_eq r.output p.output) None (Some m) ≡ difference_with None n r.output p.output
here r p m n e = ap (λ (k : ℕ). cond (bytes_eq r.output p.output) None (Some k)) e

behind : (t : Bool) (k : ℕ) (o q : Option ℕ) (n : ℕ) (a b : List ℕ) → o ≡ difference_with q n a b → cond t o (Some k) ≡ difference_with (cond t q (Some k)) n a b
behind true k o q n a b e = e
behind false k o q n a b e = refl

-- the first difference, with one more record behind
pub difference_more : (k : ℕ) (rs ps : List Recorded) (r p : Recorded) → length rs ≡ length ps
    → first_difference k (rs ++ r ∷ []) (ps ++ p ∷ []) ≡ difference_with (first_difference k rs ps) (k + length rs) r.output p.output
difference_more k [] [] r p e = here r p k (k + 0) (omega arith)
difference_more k [] (q ∷ ps) r p e = absurd (omega (arith, e))
difference_more k (s ∷ rs) [] r p e = absurd (omega (arith, e))
difference_more k (s ∷ rs) (q ∷ ps) r p e =
    let same : suc k + length rs ≡ k + suc (length rs) = omega arith in
    behind (bytes_eq s.output q.output) k _ _ (k + length (s ∷ rs)) r.output p.output
    (difference_more (suc k) rs ps r p (omega (arith, e)) ∙ ap (λ (n : ℕ). difference_with (first_difference (suc k) rs ps) n r.output p.output) same)

same_record : (p r : Recorded) → p.entry ≡ r.entry → p.output ≡ r.output → p ≡ r
same_record p r e o = λ i. record { entry = e i; output = o i }

first_same : (e f : Entry) (es fs : List Entry) → e ∷ es ≡ f ∷ fs → e ≡ f
first_same e f es fs h = cc

rest_same : (e f : Entry) (es fs : List Entry) → e ∷ es ≡ f ∷ fs → es ≡ fs
rest_same e f es fs h = cc

-- records of the same entries without a difference are the same
pub no_difference : (k : ℕ) (rs ps : List Recorded) → entries_of_records ps ≡ entries_of_records rs → first_difference k rs ps ≡ None → ps ≡ rs
no_difference k [] [] same none = refl
no_difference k [] (p ∷ ps) same none = absurd (omega (arith, ap (length {A = Entry}) same))
no_difference k (r ∷ rs) [] same none = absurd (omega (arith, ap (length {A = Entry}) same))
no_difference k (r ∷ rs) (p ∷ ps) same none =
    by_test (bytes_eq r.output p.output) (bytes_eq-Decides r.output p.output).0 none (λ e. no_difference (suc k) rs ps (rest_same _ _ _ _ same) e)
  where
    by_test : (t : Bool) → (t ≡ true → r.output ≡ p.output) → cond t (first_difference (suc k) rs ps) (Some k) ≡ None
        → (first_difference (suc k) rs ps ≡ None → ps ≡ rs) → p ∷ ps ≡ r ∷ rs
    by_test true is e rest =
        ap (λ (q : Recorded). q ∷ ps) (same_record p r (first_same _ _ _ _ same) (sym (is refl))) ∙ ap (λ (qs : List Recorded). r ∷ qs) (rest e)
    by_test false is e rest = absurd (none-some k (sym e))

-- ---- counting

pub bytes_more : (ps : List Recorded) (p : Recorded) → bytes_of_outputs (ps ++ p ∷ []) ≡ bytes_of_outputs ps + length p.output
bytes_more [] p = omega arith
bytes_more (q ∷ ps) p = let e = bytes_more ps p in omega (arith, e)

counted_more : (a b : ℕ) → min (min a (2 ^ 64 - 1) + b) (2 ^ 64 - 1) ≡ min (a + b) (2 ^ 64 - 1)
counted_more a b = omega arith

zero_more : (n : ℕ) → n ≡ 0 + n
zero_more n = omega arith

-- the counts with one more record
pub tally_more : (rs ps : List Recorded) (r p : Recorded) (t u : Tally) → length rs ≡ length ps → IsTallyOf rs ps t → u ≡ tally_with t (length rs) r.output p.output
    → IsTallyOf (rs ++ r ∷ []) (ps ++ p ∷ []) u
tally_more rs ps r p t u many tally is = record {
  bytes_are = ap (λ (v : Tally). v.bytes) is
      ∙ ap (λ (n : ℕ). most_counted (n + length p.output)) tally.bytes_are
      ∙ counted_more (bytes_of_outputs ps) (length p.output)
      ∙ ap most_counted (sym (bytes_more ps p));
  differs_is = ap (λ (v : Tally). v.differs) is
      ∙ ap (λ (o : Option ℕ). difference_with o (length rs) r.output p.output) tally.differs_is
      ∙ ap (λ (n : ℕ). difference_with (first_difference 0 rs ps) n r.output p.output) (zero_more (length rs))
      ∙ sym (difference_more 0 rs ps r p many);
}
