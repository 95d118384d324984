-- A step is shown to one after another.
use Rattle.std.proofs.Common.{◌≡◌, ◌≢◌, refl, ap, sym, ◌∙◌, ℕ, ◌+◌, ◌≤◌, ◌<◌, List, [], ◌∷◌, ◌++◌, length, slice_get, slice_set, Some, subst, arith, Bool, true, false}
use Rattle.std.specs.Prelude.{◌==◌}
use Rattle.std.proofs.lemmas.Bool.Decides.{nat_tests}
use Rattle.std.proofs.lemmas.List.{length-set}
use Rattle.std.proofs.lemmas.Option.{slice_get_within}
use Rattle.nv_history.proofs.Places.{set_here, set_there}
use Rattle.nv_watch.specs.inside.Became.{HaveBecome}

module _ {B : Type 0} (Became : B → B → Type 0) where
  pub none_shown : (old : List B) → HaveBecome old old 0 Became
  none_shown old = record {
    count = refl;
    shown = λ i a b below there here. absurd (omega (arith, below));
    others = λ i at. refl;
  }

  -- the one at the place too
  pub one_shown : (old cur : List B) (place : ℕ) (w v : B) → HaveBecome old cur place Became
      → slice_get cur place ≡ Some w → Became w v → HaveBecome old (slice_set cur place v) (place + 1) Became
  one_shown old cur place w v before there shows = record {
    count = length-set cur place v ∙ before.count;
    shown = λ i a b below was is. by_place i a b below was is (i == place) refl;
    others = λ i at. set_there cur place i v (λ (e : place ≡ i). omega (arith, e, at)) ∙ before.others i (omega (arith, at));
  }
    where
      some_same : (a b : B) → Some a ≡ Some b → a ≡ b
      some_same a b e = cc

      by_place : (i : ℕ) (a b : B) → i < place + 1 → slice_get old i ≡ Some a
          → slice_get (slice_set cur place v) i ≡ Some b → (t : Bool) → (i == place) ≡ t → Became a b
      by_place i a b below was is true t =
          let e : i ≡ place = grind (arith, nat_tests) in
          let a_is : w ≡ a = some_same w a (sym there ∙ ap (λ (j : ℕ). slice_get cur j) (sym e) ∙ before.others i (omega (arith, e)) ∙ was) in
          let b_is : v ≡ b = some_same v b (sym (set_here cur place w v there) ∙ ap (λ (j : ℕ). slice_get (slice_set cur place v) j) (sym e) ∙ is) in
          subst (λ (y : B). Became a y) b_is (subst (λ (y : B). Became y v) a_is shows)
      by_place i a b below was is false t =
          let apart : place ≢ i = λ (e : place ≡ i). grind (arith, nat_tests) in
          let less : i < place = grind (arith, nat_tests) in
          before.shown i a b less was (sym (set_there cur place i v apart) ∙ is)

  -- once all are shown it, each is
  pub all_shown : (old new : List B) (place : ℕ) → length old ≤ place → HaveBecome old new place Became
      → (i : ℕ) (a b : B) → slice_get old i ≡ Some a → slice_get new i ≡ Some b → Became a b
  all_shown old new place all shown i a b was is =
      shown.shown i a b (omega (arith, all, slice_get_within old i a was)) was is
