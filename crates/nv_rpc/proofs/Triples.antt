-- Lists of three integers are spelled one after another.
use Rattle.std.proofs.Common.{◌≡◌, ℕ, suc, ◌+◌, ◌<◌, ◌≤◌, List, [], ◌∷◌, ◌++◌, length, map, drop, get_or, refl, ap, sym, ◌∙◌, append_assoc, add-one, drop-cons}
use Rattle.std.proofs.lemmas.List.{append-nil, drop_all}
use Rattle.nv_value.specs.Content.{count, trees_of}
use Rattle.nv_msgpack.specs.Shortest.{shortest, all_shortest, list_head, unsigned_spelling}
use Rattle.nv_rpc.specs.Messages.{items}
use Rattle.nv_rpc.specs.Outcomes.{triple_content}
use Rattle.nv_rpc.specs.declared.outcome.Triple.{Triple}

-- the spellings of some, one after another
abbrev pub all_put : List Triple → List ℕ
all_put ts = all_shortest (trees_of (map triple_content ts))

-- as many lists as threes
pub count-triples : (ts : List Triple) → count (trees_of (map triple_content ts)) ≡ length ts
count-triples [] = refl
count-triples (t ∷ ts) = ap suc (count-triples ts)

-- what a list of three begins with
triple_is : (t : Triple) → shortest (triple_content t)
    ≡ (0x93 ∷ []) ++ (unsigned_spelling t.first ++ (unsigned_spelling t.second ++ (unsigned_spelling t.third ++ [])))
unfolding list_head
triple_is t = refl

pub triple_put : (t : Triple) (x y z : ℕ) (old head one two new : List ℕ) → x ≡ t.first → y ≡ t.second → z ≡ t.third → head ≡ old ++ 0x93 ∷ []
    → one ≡ head ++ unsigned_spelling x → two ≡ one ++ unsigned_spelling y → new ≡ two ++ unsigned_spelling z → new ≡ old ++ shortest (triple_content t)
triple_put t x y z old head one two new e f g h a b c =
    let i = unsigned_spelling t.first in
    let j = unsigned_spelling t.second in
    let k = unsigned_spelling t.third in
    let first : one ≡ (old ++ 0x93 ∷ []) ++ i = a ∙ ap (λ (n : ℕ). head ++ unsigned_spelling n) e ∙ ap (λ (l : List ℕ). l ++ i) h in
    let second : two ≡ ((old ++ 0x93 ∷ []) ++ i) ++ j = b ∙ ap (λ (n : ℕ). one ++ unsigned_spelling n) f ∙ ap (λ (l : List ℕ). l ++ j) first in
    let third : new ≡ (((old ++ 0x93 ∷ []) ++ i) ++ j) ++ k = c ∙ ap (λ (n : ℕ). two ++ unsigned_spelling n) g ∙ ap (λ (l : List ℕ). l ++ k) second in
    third
    ∙ append_assoc ((old ++ 0x93 ∷ []) ++ i) j k
    ∙ append_assoc (old ++ 0x93 ∷ []) i (j ++ k)
    ∙ append_assoc old (0x93 ∷ []) (i ++ (j ++ k))
    ∙ ap (λ (l : List ℕ). old ++ ((0x93 ∷ []) ++ (i ++ (j ++ l)))) (sym (append-nil k))
    ∙ ap (λ (l : List ℕ). old ++ l) (sym (triple_is t))

-- one more was put
pub one_more_put : (ts : List Triple) (i : ℕ) (d : Triple) (old new all : List ℕ) → i < length ts → old ++ all_put (drop i ts) ≡ all
    → new ≡ old ++ shortest (triple_content (get_or ts i d)) → new ++ all_put (drop (i + 1) ts) ≡ all
one_more_put ts i d old new all h e more =
    let s = shortest (triple_content (get_or ts i d)) in
    ap (λ (l : List ℕ). l ++ all_put (drop (i + 1) ts)) more
    ∙ append_assoc old s (all_put (drop (i + 1) ts))
    ∙ ap (λ (n : ℕ). old ++ (s ++ all_put (drop n ts))) (add-one i)
    ∙ ap (λ (l : List Triple). old ++ all_put l) (sym (drop-cons ts i d h))
    ∙ e

-- all of them were put
pub all_were_put : (ts : List Triple) (i : ℕ) (old first new : List ℕ) → length ts ≤ i → first ≡ old ++ list_head (length ts)
    → new ++ all_put (drop i ts) ≡ first ++ all_put ts → new ≡ old ++ shortest (items (map triple_content ts))
all_were_put ts i old first new h head e =
    sym (append-nil new) ∙ ap (λ (l : List Triple). new ++ all_put l) (sym (drop_all i ts h)) ∙ e
    ∙ ap (λ (l : List ℕ). l ++ all_put ts) head
    ∙ append_assoc old (list_head (length ts)) (all_put ts)
    ∙ ap (λ (n : ℕ). old ++ (list_head n ++ all_put ts)) (sym (count-triples ts))
