-- Lemmas on what is given in order.
use Rattle.std.proofs.Common.{◌≡◌, List, ◌++◌, Some, None, option_to_list, IfSome, subst, sym}
use Rattle.std.specs.declared.option.Option.{Option}
use Rattle.nv_io.specs.Known.{ForEachItem}

module _ {A : Type 0} where
  -- what holds of all that is to come holds of the rest
  pub rest_holds : (P : A → Type 0) (o : Option A) (xs ys : List A) → ys ≡ option_to_list o ++ xs → ForEachItem P ys → ForEachItem P xs
  rest_holds P None xs ys e each = subst (λ (l : List A). ForEachItem P l) e each
  rest_holds P (Some x) xs ys e each = (subst (λ (l : List A). ForEachItem P l) e each).1

  -- and of what was given
  pub given_holds : (P : A → Type 0) (o : Option A) (xs ys : List A) → ys ≡ option_to_list o ++ xs → ForEachItem P ys → IfSome o P
  given_holds P None xs ys e each = tt
  given_holds P (Some x) xs ys e each = (subst (λ (l : List A). ForEachItem P l) e each).0

  -- what holds of all of a list holds of all of its equal
  pub same_holds : (P : A → Type 0) (xs ys : List A) → ys ≡ xs → ForEachItem P xs → ForEachItem P ys
  same_holds P xs ys e each = subst (λ (l : List A). ForEachItem P l) (sym e) each
