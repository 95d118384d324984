-- A buffer put under its handle.
use Rattle.std.proofs.Common.{◌≡◌, ◌≢◌, ℤ, Bool, true, false, cond, List, [], ◌∷◌, Some, None, refl, sym, ap, subst, ◌∙◌, is_some, true≢false, to_z, of_z, w64}
use Rattle.std.specs.Prelude.{MatchOption, Option, Result, Ok, Err, OnOk, OnErr}
use denote.Ref.{Bor}
use Rattle.std.specs.Map.{lookup, set_value}
use Rattle.std.specs.Option.{option_copied}
use Rattle.std.specs.Ordering.{int_eq}
use Rattle.nv_buffer.specs.Content.{Content}
use Rattle.nv_model.specs.Editors.{at_handle, handles_of}
use Rattle.nv_model.proofs.Lookups.{same_int, int_eq-flip}
use Rattle.nv_editor.specs.Sound.{content_of}
use Rattle.nv_editor.specs.inside.Table.{content_in, IsUpdatedAt}

-- the entries with another buffer under a handle
abbrev pub put_at : ℤ → Content → List (ℤ × Content) → List (ℤ × Content)
put_at n c es = set_value (λ (k : ℤ). int_eq k n) es c

put_handles : (n : ℤ) (c : Content) (es : List (ℤ × Content)) → handles_of (put_at n c es) ≡ handles_of es
put_handles n c [] = refl
put_handles n c (e ∷ es) = by_case (int_eq e.0 n) (put_handles n c es)
  where
    by_case : (t : Bool) → handles_of (put_at n c es) ≡ handles_of es
        → handles_of (cond t ((e.0, c) ∷ es) (e ∷ put_at n c es)) ≡ e.0 ∷ handles_of es
    by_case true rest = refl
    by_case false rest = ap (λ (l : List ℤ). e.0 ∷ l) rest

pub other_handle : (a n k : ℤ) → int_eq a n ≡ true → k ≢ n → int_eq a k ≡ false
other_handle a n k same other = by_case (int_eq a k) refl
  where
    by_case : (t : Bool) → int_eq a k ≡ t → t ≡ false
    by_case true is = absurd (other (sym (same_int a k is) ∙ same_int a n same))
    by_case false is = refl

put_others : (n : ℤ) (c : Content) (es : List (ℤ × Content)) (k : ℤ) → k ≢ n → at_handle (put_at n c es) k ≡ at_handle es k
put_others n c [] k other = refl
put_others n c (e ∷ es) k other = by_case (int_eq e.0 n) refl (put_others n c es k other)
  where
    by_case : (t : Bool) → int_eq e.0 n ≡ t → at_handle (put_at n c es) k ≡ at_handle es k
        → at_handle (cond t ((e.0, c) ∷ es) (e ∷ put_at n c es)) k ≡ cond (int_eq e.0 k) (Some e.1) (at_handle es k)
    by_case true is rest =
        ap (λ (u : Bool). cond u (Some c) (at_handle es k)) (other_handle e.0 n k is other)
        ∙ sym (ap (λ (u : Bool). cond u (Some e.1) (at_handle es k)) (other_handle e.0 n k is other))
    by_case false is rest = ap (λ (o : Option Content). cond (int_eq e.0 k) (Some e.1) o) rest

put_becomes : (n : ℤ) (c b : Content) (es : List (ℤ × Content)) → at_handle es n ≡ Some b → at_handle (put_at n c es) n ≡ Some c
put_becomes n c b [] is = absurd (true≢false (sym (ap (λ (o : Option Content). is_some o) is)))
put_becomes n c b (e ∷ es) is = by_case (int_eq e.0 n) refl is (put_becomes n c b es)
  where
    by_case : (t : Bool) → int_eq e.0 n ≡ t → cond t (Some e.1) (at_handle es n) ≡ Some b
        → (at_handle es n ≡ Some b → at_handle (put_at n c es) n ≡ Some c)
        → at_handle (cond t ((e.0, c) ∷ es) (e ∷ put_at n c es)) n ≡ Some c
    by_case true at found rest = ap (λ (u : Bool). cond u (Some c) (at_handle es n)) at
    by_case false at found rest = ap (λ (u : Bool). cond u (Some e.1) (at_handle (put_at n c es) n)) at ∙ rest found

there : (n : ℤ) (o : Option Content) (b : Content) → o ≡ Some b → o ≡ Some (content_of n o)
there n o b e = e ∙ ap (λ (p : Option Content). Some (content_of n p)) (sym e)

-- what a look-up by a handle finds, in a map that has these entries
pub looked_up_by : (map es : List (ℤ × Content)) (n : ℤ) (o : Option Content) → map ≡ es → to_z w64 (of_z w64 n) ≡ n
    → o ≡ lookup (int_eq (to_z w64 (of_z w64 n))) map → at_handle es n ≡ o
looked_up_by map es n o view same found =
    ap (λ (l : List (ℤ × Content)). at_handle l n) (sym view)
    ∙ ap (at_handle map) (sym same)
    ∙ (λ i. lookup (λ (j : ℤ). int_eq-flip j (to_z w64 (of_z w64 n)) i) map)
    ∙ sym found

pub found_is : (es : List (ℤ × Content)) (n : ℤ) (r : Option (Bor Content)) → to_z w64 (of_z w64 n) ≡ n
    → option_copied r ≡ lookup (int_eq (to_z w64 (of_z w64 n))) es
    → MatchOption r (at_handle es n ≡ None) (λ b. at_handle es n ≡ Some b.now)
found_is es n None same found = looked_up_by es es n None refl same found
found_is es n (Some b) same found = looked_up_by es es n (Some b.now) refl same found

pub not_there : (map es : List (ℤ × Content)) (n : ℤ) → map ≡ es → to_z w64 (of_z w64 n) ≡ n
    → None ≡ lookup (int_eq (to_z w64 (of_z w64 n))) map → is_some (at_handle es n) ≡ true → ⊥
not_there map es n view same found there =
    true≢false (sym there ∙ ap (λ (o : Option Content). is_some o) (looked_up_by map es n None view same found))

-- one buffer was put in place of that under a handle
pub record IsPut (es later : List (ℤ × Content)) (n : ℤ) (b c : Content) : Type 0 where
  pub was : at_handle es n ≡ Some b
  pub put : later ≡ put_at n c es

pub put_here : (map es later : List (ℤ × Content)) (n : ℤ) (b c : Content) → map ≡ es → to_z w64 (of_z w64 n) ≡ n
    → Some b ≡ lookup (int_eq (to_z w64 (of_z w64 n))) map
    → later ≡ set_value (int_eq (to_z w64 (of_z w64 n))) map c → IsPut es later n b c
put_here map es later n b c view same found is = record {
  was = looked_up_by map es n (Some b) view same found;
  put =
      is
      ∙ (λ i. set_value (λ (j : ℤ). int_eq-flip (to_z w64 (of_z w64 n)) j i) map c)
      ∙ ap (λ (m : ℤ). put_at m c map) same
      ∙ ap (put_at n c) view;
}

pub put_updated : (es later : List (ℤ × Content)) (n : ℤ) (b c : Content) → IsPut es later n b c → IsUpdatedAt n es later
put_updated es later n b c is =
    subst (λ (l : List (ℤ × Content)). IsUpdatedAt n es l) (sym is.put) (record {
      was = there n (at_handle es n) b is.was;
      becomes = there n (at_handle (put_at n c es) n) c (put_becomes n c b es is.was);
      others = put_others n c es;
      handles = put_handles n c es;
    })

-- what was done to the buffer was done to that under the handle
pub done_in : (es later : List (ℤ × Content)) (n : ℤ) (b c : Content) → IsPut es later n b c → (P : Content → Content → Type 0)
    → P b c → P (content_in es n) (content_in later n)
done_in es later n b c is P done =
    subst (λ (x : Content). P x (content_in later n)) (sym (ap (content_of n) is.was))
    (subst (λ (y : Content). P b y)
    (sym (ap (λ (l : List (ℤ × Content)). content_in l n) is.put ∙ ap (content_of n) (put_becomes n c b es is.was))) done)

-- a condition on the buffer under the handle is one on that which was found
pub needed : (es : List (ℤ × Content)) (n : ℤ) (b : Content) → at_handle es n ≡ Some b → (P : Content → Type 0) → P (content_in es n) → P b
needed es n b was P h = subst P (ap (content_of n) was) h

-- a fact after a call that may want memory
pub on_ok : {A E : Type 0} (r : Result A E) (P Q : Type 0) → (P → Q) → OnOk r P → OnOk r Q
on_ok (Ok a) P Q f h = f h
on_ok (Err e) P Q f h = tt

pub either : {A E : Type 0} (r : Result A E) (P : Type 0) → OnOk r P → OnErr r P → P
either (Ok a) P ok err = ok
either (Err e) P ok err = err

pub on_err : {A E : Type 0} (r : Result A E) (P Q : Type 0) → (P → Q) → OnErr r P → OnErr r Q
on_err (Ok a) P Q f h = tt
on_err (Err e) P Q f h = f h
