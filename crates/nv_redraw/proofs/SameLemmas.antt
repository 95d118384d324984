-- Trees that are the same are equal.
use Rattle.std.proofs.Common.{ℕ, ℤ, ◌≡◌, Bool, true, false, ◌&&◌, List, refl, sym, ap, ◌∙◌}
use Rattle.std.specs.Str.{bytes_eq}
use Rattle.std.specs.Ordering.{int_eq}
use Rattle.std.proofs.lemmas.Bool.{and_parts, eqb-true, eq-eqb, false≢true}
use Rattle.std.proofs.lemmas.Bool.Decides.{Decides-int_eq}
use Rattle.std.proofs.lemmas.Slice.Eq.{bytes_eq-Decides}
use Rattle.nv_hl.specs.Attributes.{same_flag}
use Rattle.nv_value.specs.Content.{Tree, Trees, no_more, one, nil, truth, integer, big, text, bin, list, pairs, ext, opaque}
use Rattle.nv_linegrid.specs.declared.event.Redraw.{Redraw}
use Rattle.nv_redraw.specs.Values.{batch_tree}
use Rattle.nv_redraw.specs.Reading.{AreTypedEvents}
use Rattle.nv_redraw.specs.inside.Candidates.{candidates}
use Rattle.nv_redraw.specs.inside.SameTrees.{same_tree, same_trees}
use Rattle.nv_redraw.proofs.CandidateLemmas.{candidates_are}

same_flag_is : (a b : Bool) → same_flag a b ≡ true → a ≡ b
same_flag_is true true e = refl
same_flag_is true false e = absurd (false≢true e)
same_flag_is false true e = absurd (false≢true e)
same_flag_is false false e = refl

same_flag_of : (a : Bool) → same_flag a a ≡ true
same_flag_of true = refl
same_flag_of false = refl

int_is : (a b : ℤ) → int_eq a b ≡ true → a ≡ b
int_is a b e = (Decides-int_eq a b).0 e

int_of : (a : ℤ) → int_eq a a ≡ true
int_of a = (Decides-int_eq a a).1 refl

bytes_of : (a : List ℕ) → bytes_eq a a ≡ true
bytes_of a = (bytes_eq-Decides a a).1 refl

both : (a b : Bool) → a ≡ true → b ≡ true → (a && b) ≡ true
both a b e f = ap (λ x. x && b) e ∙ f

mutual
  same_tree_is : (t u : Tree) → same_tree t u ≡ true → t ≡ u
  same_tree_is nil nil e = refl
  same_tree_is (truth a) (truth b) e = ap truth (same_flag_is a b e)
  same_tree_is (integer a) (integer b) e = ap integer (int_is a b e)
  same_tree_is (big a) (big b) e = ap big (eqb-true a b e)
  same_tree_is (text a) (text b) e = ap text ((bytes_eq-Decides a b).0 e)
  same_tree_is (bin a) (bin b) e = ap bin ((bytes_eq-Decides a b).0 e)
  same_tree_is (list a) (list b) e = ap list (same_trees_are a b e)
  same_tree_is (pairs a) (pairs b) e = ap pairs (same_trees_are a b e)
  same_tree_is (ext k a) (ext l b) e =
      let p = and_parts (int_eq k l) (bytes_eq a b) e in
      let kind = int_is k l p.0 in let bytes = (bytes_eq-Decides a b).0 p.1 in
      λ i. ext (kind i) (bytes i)
  same_tree_is (opaque a) (opaque b) e = ap opaque ((bytes_eq-Decides a b).0 e)
  same_tree_is _ _ e = absurd (false≢true e)

  same_trees_are : (ts us : Trees) → same_trees ts us ≡ true → ts ≡ us
  same_trees_are no_more no_more e = refl
  same_trees_are (one t ts) (one u us) e =
      let p = and_parts (same_tree t u) (same_trees ts us) e in
      let first = same_tree_is t u p.0 in let rest = same_trees_are ts us p.1 in
      λ i. one (first i) (rest i)
  same_trees_are _ _ e = absurd (false≢true e)

mutual
  same_as_itself : (t : Tree) → same_tree t t ≡ true
  same_as_itself nil = refl
  same_as_itself (truth a) = same_flag_of a
  same_as_itself (integer a) = int_of a
  same_as_itself (big a) = eq-eqb a a refl
  same_as_itself (text a) = bytes_of a
  same_as_itself (bin a) = bytes_of a
  same_as_itself (list a) = same_as_themselves a
  same_as_itself (pairs a) = same_as_themselves a
  same_as_itself (ext k a) = both (int_eq k k) (bytes_eq a a) (int_of k) (bytes_of a)
  same_as_itself (opaque a) = bytes_of a

  same_as_themselves : (ts : Trees) → same_trees ts ts ≡ true
  same_as_themselves no_more = refl
  same_as_themselves (one t ts) = both (same_tree t t) (same_trees ts ts) (same_as_itself t) (same_as_themselves ts)

-- the candidates tell the value
pub candidates_tell : (es : List Redraw) (t : Tree) (b : Bool) → b ≡ same_tree (batch_tree es) t → b ≡ true → batch_tree es ≡ t
candidates_tell es t b is e = same_tree_is (batch_tree es) t (sym is ∙ e)

-- no events do where the candidates don't
pub none_tell : (es : List Redraw) (t : Tree) (b : Bool) → es ≡ candidates t → b ≡ same_tree (batch_tree es) t → b ≡ false
    → (fs : List Redraw) → AreTypedEvents fs → batch_tree fs ≡ t → ⊥
none_tell es t b found is e fs typed told =
    let same : fs ≡ es = sym (candidates_are fs typed) ∙ ap candidates told ∙ sym found in
    let right : batch_tree es ≡ t = ap batch_tree (sym same) ∙ told in
    let tells : same_tree (batch_tree es) t ≡ true = ap (λ (u : Tree). same_tree u t) right ∙ same_as_itself t in
    false≢true (sym e ∙ is ∙ tells)
