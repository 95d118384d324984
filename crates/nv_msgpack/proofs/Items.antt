-- What holds of values in a row, as more of them come: of their spellings, and of whether they have one.
use Rattle.std.proofs.Common.{◌≡◌, ℕ, zero, suc, ◌<◌, List, [], ◌∷◌, ◌++◌, length, get_or, sym, ap, ◌∙◌, subst, arith}
use Rattle.std.proofs.lemmas.List.{append_assoc, append-nil}
use Rattle.nv_value.specs.View.{content, contents, pair_contents}
use Rattle.nv_value.specs.declared.value.Value.{Value}
use Rattle.nv_value.specs.declared.value.Pair.{Pair}
use Rattle.nv_value.proofs.Contents.{pair_contents_is}
use Rattle.nv_msgpack.specs.Shortest.{shortest, all_shortest, HasSpelling, HaveSpellings, IsInRange, AreInRange}

pub all_shortest-push : (vs : List Value) (v : Value) → all_shortest (contents (vs ++ v ∷ [])) ≡ all_shortest (contents vs) ++ shortest (content v)
all_shortest-push [] v = append-nil (shortest (content v))
all_shortest-push (w ∷ vs) v =
    ap (λ (l : List ℕ). shortest (content w) ++ l) (all_shortest-push vs v) ∙ sym (append_assoc (shortest (content w)) (all_shortest (contents vs)) (shortest (content v)))

pub HaveSpellings-push : (vs : List Value) (v : Value) → HaveSpellings (contents vs) → HasSpelling (content v) → HaveSpellings (contents (vs ++ v ∷ []))
HaveSpellings-push [] v h g = (g, tt)
HaveSpellings-push (w ∷ vs) v h g = (h.0, HaveSpellings-push vs v h.1 g)

pub AreInRange-push : (vs : List Value) (v : Value) → AreInRange (contents vs) → IsInRange (content v) → AreInRange (contents (vs ++ v ∷ []))
AreInRange-push [] v h g = (g, tt)
AreInRange-push (w ∷ vs) v h g = (h.0, AreInRange-push vs v h.1 g)

pub HasSpelling-at : (vs : List Value) (i : ℕ) (d : Value) → i < length vs → HaveSpellings (contents vs) → HasSpelling (content (get_or vs i d))
HasSpelling-at [] i d lt h = absurd (omega arith)
HasSpelling-at (w ∷ vs) zero d lt h = h.0
HasSpelling-at (w ∷ vs) (suc i) d lt h = HasSpelling-at vs i d (omega arith) h.1

-- The same of pairs, whose content is their keys and values in turn.
abbrev PairSpelling : Pair → List ℕ
PairSpelling p = shortest (content p.key) ++ shortest (content p.value)

first_pair : (p : Pair) (ps : List Pair) → all_shortest (pair_contents (p ∷ ps)) ≡ PairSpelling p ++ all_shortest (pair_contents ps)
first_pair p ps = ap all_shortest (pair_contents_is p ps) ∙ sym (append_assoc (shortest (content p.key)) (shortest (content p.value)) (all_shortest (pair_contents ps)))

pub all_shortest-push_pair : (ps : List Pair) (p : Pair) → all_shortest (pair_contents (ps ++ p ∷ [])) ≡ all_shortest (pair_contents ps) ++ PairSpelling p
all_shortest-push_pair [] p = first_pair p [] ∙ append-nil (PairSpelling p)
all_shortest-push_pair (q ∷ ps) p =
    first_pair q (ps ++ p ∷ []) ∙ ap (λ (l : List ℕ). PairSpelling q ++ l) (all_shortest-push_pair ps p)
    ∙ sym (append_assoc (PairSpelling q) (all_shortest (pair_contents ps)) (PairSpelling p)) ∙ ap (λ (l : List ℕ). l ++ PairSpelling p) (sym (first_pair q ps))

pub HaveSpellings-push_pair : (ps : List Pair) (p : Pair) → HaveSpellings (pair_contents ps) → HasSpelling (content p.key) → HasSpelling (content p.value) → HaveSpellings (pair_contents (ps ++ p ∷ []))
HaveSpellings-push_pair [] p h k v = subst HaveSpellings (sym (pair_contents_is p [])) (k, (v, tt))
HaveSpellings-push_pair (q ∷ ps) p h k v =
    let g = subst HaveSpellings (pair_contents_is q ps) h in
    subst HaveSpellings (sym (pair_contents_is q (ps ++ p ∷ []))) (g.0, (g.1.0, HaveSpellings-push_pair ps p g.1.1 k v))

pub AreInRange-push_pair : (ps : List Pair) (p : Pair) → AreInRange (pair_contents ps) → IsInRange (content p.key) → IsInRange (content p.value) → AreInRange (pair_contents (ps ++ p ∷ []))
AreInRange-push_pair [] p h k v = subst AreInRange (sym (pair_contents_is p [])) (k, (v, tt))
AreInRange-push_pair (q ∷ ps) p h k v =
    let g = subst AreInRange (pair_contents_is q ps) h in
    subst AreInRange (sym (pair_contents_is q (ps ++ p ∷ []))) (g.0, (g.1.0, AreInRange-push_pair ps p g.1.1 k v))

pub HasSpelling-at_pair : (ps : List Pair) (i : ℕ) (d : Pair) → i < length ps → HaveSpellings (pair_contents ps) → HasSpelling (content (get_or ps i d).key) × HasSpelling (content (get_or ps i d).value)
HasSpelling-at_pair [] i d lt h = absurd (omega arith)
HasSpelling-at_pair (q ∷ ps) zero d lt h = let g = subst HaveSpellings (pair_contents_is q ps) h in (g.0, g.1.0)
HasSpelling-at_pair (q ∷ ps) (suc i) d lt h = let g = subst HaveSpellings (pair_contents_is q ps) h in HasSpelling-at_pair ps i d (omega arith) g.1.1
