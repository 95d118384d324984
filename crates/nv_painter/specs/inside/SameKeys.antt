-- inside: keys that are the same are equal.
use Rattle.std.proofs.Common.{◌≡◌, ◌<◌, ℕ, eqb, Bool, true, false, ◌&&◌, List, [], ◌∷◌, length, refl, sym, ap, ◌∙◌, arith}
use Rattle.std.proofs.lemmas.Bool.{and_parts, eqb-true, false≢true}
use Rattle.std.proofs.lemmas.Bool.Decides.{nat_tests}
use Rattle.std.proofs.lemmas.Slice.Eq.{bytes_eq-Decides}
use Rattle.std.specs.Bool.{Decides}
use Rattle.std.specs.Cmp.{IsEquivalence, decided}
use Rattle.std.specs.Cmp.Derive.{both_true}
use Rattle.std.specs.Prelude.{bytes_eq}
use Rattle.nv_hl.specs.Attributes.{same_attr, same_flag}
use Rattle.nv_hl.proofs.LawLemmas.{same_attrs_are_equal}
use Rattle.nv_linedraw.specs.declared.looks.Looks.{Looks}
use Rattle.nv_linedraw.specs.declared.looks.Span.{Span}
use Rattle.nv_painter.specs.Keys.{LineKey, same_line_key, same_looks, same_span, same_spans}

-- ---- sameness

flag_decides : (a b : Bool) → Decides (same_flag a b) (a ≡ b)
flag_decides true true = (λ e. refl, λ e. refl)
flag_decides true false = (λ e. absurd (false≢true e), λ e. sym e)
flag_decides false true = (λ e. absurd (false≢true e), λ e. e)
flag_decides false false = (λ e. refl, λ e. refl)

same_number : (n : ℕ) → eqb n n ≡ true
same_number n = grind (arith, nat_tests)

span_is : (a b : Span) → same_span a b ≡ true → a ≡ b
span_is a b e =
    let p2 = and_parts _ (same_attr a.attr b.attr) e in
    let p1 = and_parts _ (same_flag a.eol b.eol) p2.0 in
    let p0 = and_parts (eqb a.from b.from) (eqb a.to b.to) p1.0 in
    let from = eqb-true a.from b.from p0.0 in
    let to = eqb-true a.to b.to p0.1 in
    let eol = (flag_decides a.eol b.eol).0 p1.1 in
    let attr = (same_attrs_are_equal a.attr b.attr).0 p2.1 in
    λ i. record { from = from i; to = to i; attr = attr i; eol = eol i }

span_same : (a : Span) → same_span a a ≡ true
span_same a =
    both_true
    (both_true (both_true (same_number a.from) (same_number a.to))
    ((flag_decides a.eol a.eol).1 refl))
    ((same_attrs_are_equal a.attr a.attr).1 refl)

spans_are : (xs ys : List Span) → same_spans xs ys ≡ true → xs ≡ ys
spans_are [] [] e = refl
spans_are [] (y ∷ ys) e = absurd (false≢true e)
spans_are (x ∷ xs) [] e = absurd (false≢true e)
spans_are (x ∷ xs) (y ∷ ys) e =
    let p = and_parts (same_span x y) (same_spans xs ys) e in
    let one = span_is x y p.0 in
    let rest = spans_are xs ys p.1 in
    λ i. one i ∷ rest i

spans_same : (xs : List Span) → same_spans xs xs ≡ true
spans_same [] = refl
spans_same (x ∷ xs) = both_true (span_same x) (spans_same xs)

looks_are : (a b : Looks) → same_looks a b ≡ true → a ≡ b
looks_are a b e =
    let p1 = and_parts _ (same_attr a.beyond b.beyond) e in
    let p0 = and_parts (same_attr a.nontext b.nontext) (same_attr a.special b.special) p1.0 in
    let nontext = (same_attrs_are_equal a.nontext b.nontext).0 p0.0 in
    let special = (same_attrs_are_equal a.special b.special).0 p0.1 in
    let beyond = (same_attrs_are_equal a.beyond b.beyond).0 p1.1 in
    λ i. record { nontext = nontext i; special = special i; beyond = beyond i }

looks_same : (a : Looks) → same_looks a a ≡ true
looks_same a =
    both_true
    (both_true ((same_attrs_are_equal a.nontext a.nontext).1 refl)
    ((same_attrs_are_equal a.special a.special).1 refl))
    ((same_attrs_are_equal a.beyond a.beyond).1 refl)

pub key_is : (a b : LineKey) → same_line_key a b ≡ true → a ≡ b
unfolding same_line_key
key_is a b e =
    let p3 = and_parts _ (same_looks a.looks b.looks) e in
    let p2 = and_parts _ (same_spans a.spans b.spans) p3.0 in
    let p1 = and_parts _ (bytes_eq a.bytes b.bytes) p2.0 in
    let p0 = and_parts (eqb a.width b.width) (eqb a.tabstop b.tabstop) p1.0 in
    let width = eqb-true a.width b.width p0.0 in
    let tabstop = eqb-true a.tabstop b.tabstop p0.1 in
    let bytes = (bytes_eq-Decides a.bytes b.bytes).0 p1.1 in
    let spans = spans_are a.spans b.spans p2.1 in
    let looks = looks_are a.looks b.looks p3.1 in
    λ i. record {
      bytes = bytes i;
      spans = spans i;
      width = width i;
      tabstop = tabstop i;
      looks = looks i;
    }

pub key_same : (a : LineKey) → same_line_key a a ≡ true
unfolding same_line_key
key_same a =
    both_true
    (both_true
    (both_true (both_true (same_number a.width) (same_number a.tabstop))
    ((bytes_eq-Decides a.bytes a.bytes).1 refl))
    (spans_same a.spans))
    (looks_same a.looks)

pub key_decides : (a b : LineKey) → Decides (same_line_key a b) (a ≡ b)
key_decides a b = (key_is a b, λ e. ap (λ k. same_line_key a k) (sym e) ∙ key_same a)

pub keys_equivalent : IsEquivalence same_line_key
keys_equivalent = decided same_line_key key_decides

-- ---- lists of other lengths

and_false : (b : Bool) → (b && false) ≡ false
and_false true = refl
and_false false = refl

pub fewer_spans : (xs ys : List Span) → length xs < length ys → same_spans xs ys ≡ false
fewer_spans [] [] lt = absurd (omega (arith, lt))
fewer_spans [] (y ∷ ys) lt = refl
fewer_spans (x ∷ xs) [] lt = absurd (omega (arith, lt))
fewer_spans (x ∷ xs) (y ∷ ys) lt =
    ap (λ b. same_span x y && b) (fewer_spans xs ys (omega (arith, lt)))
    ∙ and_false (same_span x y)

pub more_spans : (xs ys : List Span) → length ys < length xs → same_spans xs ys ≡ false
more_spans [] [] lt = absurd (omega (arith, lt))
more_spans [] (y ∷ ys) lt = absurd (omega (arith, lt))
more_spans (x ∷ xs) [] lt = refl
more_spans (x ∷ xs) (y ∷ ys) lt =
    ap (λ b. same_span x y && b) (more_spans xs ys (omega (arith, lt)))
    ∙ and_false (same_span x y)
