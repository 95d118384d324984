-- More depth allows more, and no spelling begins another.
use Rattle.std.proofs.Common.{◌≡◌, ℕ, ◌+◌, zero, suc, List, [], ◌∷◌, ◌++◌, length, take, refl, sym, ap, ◌∙◌, subst, arith}
use Rattle.std.proofs.lemmas.List.{take_at}
use Rattle.nv_value.specs.Content.{Tree, Trees, no_more, one}
use Rattle.nv_msgpack.specs.Spelling.{Form, unused, alone, raw, many, form, SpelledBy, SpelledWith, Each, SpellsIn}
use Rattle.nv_msgpack.specs.Reading.{whole, value_at}
use Rattle.nv_msgpack.specs.Within.{SpellingsAreApart}
use Rattle.nv_msgpack.proofs.Complete.{complete}

-- each thing that S spells T spells too
abbrev Implies : {A : Type 0} → (A → List ℕ → Type 0) → (A → List ℕ → Type 0) → Type 0
Implies {A} S T = (a : A) (bytes : List ℕ) → S a bytes → T a bytes

by_implies : (I J : Trees → List ℕ → Type 0) → Implies I J → (f : Form) → Implies (SpelledBy I f) (SpelledBy J f)
by_implies I J law unused t rest h = h
by_implies I J law (alone u) t rest h = h
by_implies I J law (raw r s) t rest h = h
by_implies I J law (many m s) t rest h = (h.0, h.1, h.2, h.3, h.4, h.5, h.6, law h.2 h.1 h.7)

with_implies : (I J : Trees → List ℕ → Type 0) → Implies I J → Implies (SpelledWith I) (SpelledWith J)
with_implies I J law t [] h = h
with_implies I J law t (b ∷ rest) h = by_implies I J law (form b) t rest h

pub each_implies : (S T : Tree → List ℕ → Type 0) → Implies S T → Implies (Each S) (Each T)
each_implies S T law no_more bytes h = h
each_implies S T law (one t ts) bytes h = (h.0, h.1, law t h.0 h.2, h.3, each_implies S T law ts h.1 h.4)

one_deeper : (d : ℕ) → Implies (SpellsIn d) (SpellsIn (suc d))
one_deeper zero = with_implies (λ ts body. ⊥) (Each (SpellsIn zero)) (λ ts body h. absurd h)
one_deeper (suc d) = with_implies (Each (SpellsIn d)) (Each (SpellsIn (suc d))) (each_implies (SpellsIn d) (SpellsIn (suc d)) (one_deeper d))

-- what is spelled within a depth is spelled within a greater one
pub deeper : (more d : ℕ) (t : Tree) (bytes : List ℕ) → SpellsIn d t bytes → SpellsIn (more + d) t bytes
deeper zero d t bytes h = let e : zero + d ≡ d = omega arith in subst (λ (n : ℕ). SpellsIn n t bytes) (sym e) h
deeper (suc more) d t bytes h =
    let e : suc more + d ≡ suc (more + d) = omega arith in
    subst (λ (n : ℕ). SpellsIn n t bytes) (sym e) (one_deeper (more + d) t bytes (deeper more d t bytes h))

apart_in : (d : ℕ) (t u : Tree) (a b x y : List ℕ) → SpellsIn d t a → SpellsIn d u b → a ++ x ≡ b ++ y → (a ≡ b) × (t ≡ u)
apart_in d t u a b x y p q e =
    let room = length a + length b in
    let first : value_at d room (a ++ x) ≡ whole t (length a) = complete d t a x room p (omega arith) in
    let second : value_at d room (b ++ y) ≡ whole u (length b) = complete d u b y room q (omega arith) in
    let same : whole t (length a) ≡ whole u (length b) = sym first ∙ ap (λ (l : List ℕ). value_at d room l) e ∙ second in
    let long : length a ≡ length b = cc in
    (sym (take_at a x (length a) refl) ∙ ap (λ (l : List ℕ). take (length a) l) e ∙ take_at b y (length a) (sym long), cc)

-- no spelling begins another
pub apart : SpellingsAreApart
apart t u a b x y p q e =
    apart_in (p.0 + q.0) t u a b x y
    (let c : q.0 + p.0 ≡ p.0 + q.0 = omega arith in subst (λ (n : ℕ). SpellsIn n t a) c (deeper q.0 p.0 t a p.1))
    (deeper p.0 q.0 u b q.1) e
