-- Bytes on their way to a sink.
use Rattle.std.proofs.Common.{◌≡◌, ℕ, suc, ◌+◌, ◌≤◌, Bool, true, false, List, [], ◌∷◌, ◌++◌, length, take, drop, get_or, Option, Some, None, refl, sym, ap, subst, ◌∙◌, arith, length-append, append_assoc, add-one, drop-cons}
use Rattle.std.proofs.lemmas.List.{append-nil, take-append-le, take_all}
use Rattle.std.specs.Prelude.{◌<◌}
use Rattle.std.specs.Bool.{OnTrue, OnFalse}
use Rattle.std.specs.Io.KnownBytes.{append_known, prepend_known}
use Rattle.nv_io.specs.Streams.{Gave}
use Rattle.nv_places.specs.Flat.{flat}
use Rattle.nv_mirror.specs.inside.Pages.{IsBuffered, GoesPartly}

-- nothing more went out
pub known_none : (known : Option (List ℕ)) → known ≡ append_known known []
known_none None = refl
known_none (Some xs) = ap (λ (l : List ℕ). Some l) (sym (append-nil xs))

-- what went out in two parts
pub known_then : (known : Option (List ℕ)) (a b : List ℕ) → append_known (append_known known a) b ≡ append_known known (a ++ b)
known_then None a b = refl
known_then (Some xs) a b = ap (λ (l : List ℕ). Some l) (append_assoc xs a b)

pub known_both : (x y z : Option (List ℕ)) (a b : List ℕ) → y ≡ append_known x a → z ≡ append_known y b → z ≡ append_known x (a ++ b)
known_both x y z a b p q = q ∙ ap (λ (o : Option (List ℕ)). append_known o b) p ∙ known_then x a b

-- what came in two parts
left_then : (a b : List ℕ) (left : Option (List ℕ)) → prepend_known a (prepend_known b left) ≡ prepend_known (a ++ b) left
left_then a b None = refl
left_then a b (Some xs) = ap (λ (l : List ℕ). Some l) (sym (append_assoc a b xs))

left_none : (left : Option (List ℕ)) → left ≡ prepend_known [] left
left_none None = refl
left_none (Some xs) = refl

pub gave_none : (taken left : Option (List ℕ)) → Gave taken taken left left []
gave_none taken left = record { taken = known_none taken; left = left_none left }

pub gave_then : (t u v l m n : Option (List ℕ)) (a b : List ℕ) → Gave t u l m a → Gave u v m n b → Gave t v l n (a ++ b)
gave_then t u v l m n a b p q = record {
  taken = known_both t u v a b p.taken q.taken;
  left = p.left ∙ ap (λ (o : Option (List ℕ)). prepend_known a o) q.left ∙ left_then a b n;
}

-- the first bytes, up to some in the second part
pub take_past : (a b : List ℕ) (n : ℕ) → take (length a + n) (a ++ b) ≡ a ++ take n b
take_past [] b n = ap (λ (k : ℕ). take k b) (let e : 0 + n ≡ n = omega arith in e)
take_past (x ∷ a) b n =
    let e : length (x ∷ a) + n ≡ suc (length a + n) = omega arith in
    ap (λ (k : ℕ). take k (x ∷ (a ++ b))) e ∙ ap (λ (l : List ℕ). x ∷ l) (take_past a b n)

-- ---- bytes that go out, or wait

-- nothing went out
pub goes_none : (bytes : List ℕ) (x : Option (List ℕ)) → IsBuffered bytes x x bytes
goes_none bytes x = ([], known_none x, refl)

-- all went out
pub goes_whole : (bytes : List ℕ) (x y : Option (List ℕ)) → y ≡ append_known x bytes → IsBuffered bytes x y []
goes_whole bytes x y e = (bytes, e, sym (append-nil bytes))

-- some went out, and then more
pub goes_then : (a b : List ℕ) (x y z : Option (List ℕ)) (w v : List ℕ) → IsBuffered a x y w → IsBuffered (w ++ b) y z v → IsBuffered (a ++ b) x z v
goes_then a b x y z w v p q = (
  p.0 ++ q.0,
  known_both x y z p.0 q.0 p.1 q.1,
  ap (λ (l : List ℕ). l ++ b) p.2 ∙ append_assoc p.0 w b ∙ ap (λ (l : List ℕ). p.0 ++ l) q.2 ∙ sym (append_assoc p.0 q.0 v),
)

-- a part of the first bytes
pub partly_first : (a b : List ℕ) (x y : Option (List ℕ)) → GoesPartly a x y → GoesPartly (a ++ b) x y
partly_first a b x y p = (
  p.0,
  omega (arith, p.1, length-append a b),
  p.2 ∙ ap (λ (l : List ℕ). append_known x l) (sym (take-append-le p.0 a b p.1)),
)

-- some went out, and then a part of what is left
partly_past : (front back bytes : List ℕ) (x y z : Option (List ℕ)) → bytes ≡ front ++ back → y ≡ append_known x front → GoesPartly back y z → GoesPartly bytes x z
partly_past front back bytes x y z e p q = (
  length front + q.0,
  omega (arith, q.1, length-append front back, ap (length {A = ℕ}) e),
  known_both x y z front (take q.0 back) p q.2
      ∙ ap (λ (l : List ℕ). append_known x l) (sym (take_past front back q.0))
      ∙ ap (λ (l : List ℕ). append_known x (take (length front + q.0) l)) (sym e),
)

pub partly_then : (a b : List ℕ) (x y z : Option (List ℕ)) (w : List ℕ) → IsBuffered a x y w → GoesPartly (w ++ b) y z → GoesPartly (a ++ b) x z
partly_then a b x y z w p q = partly_past p.0 (w ++ b) (a ++ b) x y z (ap (λ (l : List ℕ). l ++ b) p.2 ∙ append_assoc p.0 w b) p.1 q

pub partly_last : (a : List ℕ) (x y z : Option (List ℕ)) (w : List ℕ) → IsBuffered a x y w → GoesPartly w y z → GoesPartly a x z
partly_last a x y z w p q = partly_past p.0 w a x y z p.2 p.1 q

-- what waited went out too
pub goes_all : (a : List ℕ) (x y z : Option (List ℕ)) (w : List ℕ) → IsBuffered a x y w → z ≡ append_known y w → z ≡ append_known x a
goes_all a x y z w p q = known_both x y z p.0 w p.1 q ∙ ap (λ (l : List ℕ). append_known x l) (sym p.2)

-- the whole of some bytes, as a part
pub partly_whole : (a : List ℕ) (x y : Option (List ℕ)) → y ≡ append_known x a → GoesPartly a x y
partly_whole a x y e = (length a, omega arith, e ∙ ap (λ (l : List ℕ). append_known x l) (sym (take_all (length a) a (omega arith))))

-- ---- by the answer of the last call

-- what waited went out, and then more, or a part of it
pub long_all : (b : Bool) (a more : List ℕ) (x y z : Option (List ℕ)) (w : List ℕ) → w ≡ [] → y ≡ append_known x a → OnTrue b (z ≡ append_known y more) → OnTrue b (IsBuffered (a ++ more) x z w)
long_all true a more x y z w n e h = subst (λ (l : List ℕ). IsBuffered (a ++ more) x z l) (sym n) (goes_whole (a ++ more) x z (known_both x y z a more e h))
long_all false a more x y z w n e h = tt

pub long_part : (b : Bool) (a more : List ℕ) (x y z : Option (List ℕ)) → y ≡ append_known x a → GoesPartly more y z → OnFalse b (GoesPartly (a ++ more) x z)
long_part true a more x y z e h = tt
long_part false a more x y z e h = partly_then a more x y z [] (goes_whole a x y e) h

-- some went out or waits, and then more did, or a part of it
pub more_all : (b : Bool) (a more : List ℕ) (x y z : Option (List ℕ)) (w v : List ℕ) → IsBuffered a x y w → OnTrue b (IsBuffered (w ++ more) y z v) → OnTrue b (IsBuffered (a ++ more) x z v)
more_all true a more x y z w v p h = goes_then a more x y z w v p h
more_all false a more x y z w v p h = tt

pub more_part : (b : Bool) (a more : List ℕ) (x y z : Option (List ℕ)) (w : List ℕ) → IsBuffered a x y w → OnFalse b (GoesPartly (w ++ more) y z) → OnFalse b (GoesPartly (a ++ more) x z)
more_part true a more x y z w p h = tt
more_part false a more x y z w p h = partly_then a more x y z w p h

-- a line, and its end behind it
pub line_all : (b : Bool) (a line : List ℕ) (x y z : Option (List ℕ)) (w v : List ℕ) → IsBuffered (a ++ line) x y w → OnTrue b (IsBuffered (w ++ 10 ∷ []) y z v) → OnTrue b (IsBuffered (a ++ (line ++ 10 ∷ [])) x z v)
line_all b a line x y z w v p h = subst (λ (l : List ℕ). OnTrue b (IsBuffered l x z v)) (append_assoc a line (10 ∷ [])) (more_all b (a ++ line) (10 ∷ []) x y z w v p h)

pub line_part : (b : Bool) (a line : List ℕ) (x y z : Option (List ℕ)) (w : List ℕ) → IsBuffered (a ++ line) x y w → OnFalse b (GoesPartly (w ++ 10 ∷ []) y z) → OnFalse b (GoesPartly (a ++ (line ++ 10 ∷ [])) x z)
line_part b a line x y z w p h = subst (λ (l : List ℕ). OnFalse b (GoesPartly l x z)) (append_assoc a line (10 ∷ [])) (more_part b (a ++ line) (10 ∷ []) x y z w p h)

pub line_cut : (a line : List ℕ) (x y : Option (List ℕ)) → GoesPartly (a ++ line) x y → GoesPartly (a ++ (line ++ 10 ∷ [])) x y
line_cut a line x y p = subst (λ (l : List ℕ). GoesPartly l x y) (append_assoc a line (10 ∷ [])) (partly_first (a ++ line) (10 ∷ []) x y p)

-- some waits, and then it went out, or a part of it
pub last_all : (b : Bool) (a : List ℕ) (x y z : Option (List ℕ)) (w : List ℕ) → IsBuffered a x y w → OnTrue b (z ≡ append_known y w) → OnTrue b (z ≡ append_known x a)
last_all true a x y z w p h = goes_all a x y z w p h
last_all false a x y z w p h = tt

pub last_part : (b : Bool) (a : List ℕ) (x y z : Option (List ℕ)) (w : List ℕ) → IsBuffered a x y w → GoesPartly w y z → OnFalse b (GoesPartly a x z)
last_part true a x y z w p h = tt
last_part false a x y z w p h = partly_last a x y z w p h

-- ---- lines that go out one after another

-- of bytes a front went out, others wait, and these are to come
abbrev pub IsGoing : List ℕ → List ℕ → Option (List ℕ) → Option (List ℕ) → List ℕ → Type 0
IsGoing whole left before after waiting =
    (out : List ℕ) × (after ≡ append_known before out) × (whole ≡ out ++ (waiting ++ left))

pub going_begins : (waiting left : List ℕ) (x : Option (List ℕ)) → IsGoing (waiting ++ left) left x x waiting
going_begins waiting left x = ([], known_none x, refl)

past_first : (p w first left q v : List ℕ) → w ++ first ≡ q ++ v → p ++ (w ++ (first ++ left)) ≡ (p ++ q) ++ (v ++ left)
past_first p w first left q v e =
    ap (λ (l : List ℕ). p ++ l) (sym (append_assoc w first left))
    ∙ ap (λ (l : List ℕ). p ++ (l ++ left)) e
    ∙ ap (λ (l : List ℕ). p ++ l) (append_assoc q v left)
    ∙ sym (append_assoc p q (v ++ left))

pub going_on : (whole next first left : List ℕ) (x y z : Option (List ℕ)) (w v : List ℕ) → IsGoing whole next x y w → next ≡ first ++ left → IsBuffered (w ++ first) y z v → IsGoing whole left x z v
going_on whole next first left x y z w v p e q = (
  p.0 ++ q.0,
  known_both x y z p.0 q.0 p.1 q.1,
  p.2 ∙ ap (λ (l : List ℕ). p.0 ++ (w ++ l)) e ∙ past_first p.0 w first left q.0 v q.2,
)

pub going_cut : (whole next first left : List ℕ) (x y z : Option (List ℕ)) (w : List ℕ) → IsGoing whole next x y w → next ≡ first ++ left → GoesPartly (w ++ first) y z → GoesPartly whole x z
going_cut whole next first left x y z w p e q =
    partly_past p.0 ((w ++ first) ++ left) whole x y z
    (p.2 ∙ ap (λ (l : List ℕ). p.0 ++ (w ++ l)) e ∙ ap (λ (l : List ℕ). p.0 ++ l) (sym (append_assoc w first left))) p.1
    (partly_first (w ++ first) left y z q)

pub going_ends : (whole left : List ℕ) (x y : Option (List ℕ)) (w : List ℕ) → IsGoing whole left x y w → left ≡ [] → IsBuffered whole x y w
going_ends whole left x y w p e = (p.0, p.1, p.2 ∙ ap (λ (l : List ℕ). p.0 ++ (w ++ l)) e ∙ ap (λ (l : List ℕ). p.0 ++ l) (append-nil w))

-- a line, and those behind it
pub first_line : (lines : List (List ℕ)) (i : ℕ) (line : List ℕ) → i < length lines → line ≡ get_or lines i line → flat (drop i lines) ≡ (line ++ 10 ∷ []) ++ flat (drop (i + 1) lines)
first_line lines i line h looked =
    ap (λ (l : List (List ℕ)). flat l) (drop-cons lines i line h)
    ∙ ap (λ (n : ℕ). get_or lines i line ++ 10 ∷ flat (drop n lines)) (sym (add-one i))
    ∙ ap (λ (x : List ℕ). x ++ 10 ∷ flat (drop (i + 1) lines)) (sym looked)
    ∙ sym (append_assoc line (10 ∷ []) (flat (drop (i + 1) lines)))
