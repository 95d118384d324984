-- The steps of the writer's loops, and what an error leaves.
use Rattle.std.proofs.Common.{Vec, Global, Result, Ok, Err, OnErr, ◌^◌, ◌≡◌, ℕ, ◌+◌, ◌/◌, ◌<◌, ◌≤◌, List, [], ◌∷◌, ◌++◌, length, take, get_or, sym, ap, ◌∙◌, subst, arith, length-append}
use Rattle.std.proofs.lemmas.List.{append_assoc, take_more, take-take}
use Rattle.std.proofs.Math.Seq.{take-append_seam}
use denote.Param.Weighed.{most, at_most}
use Rattle.nv_value.specs.View.{content, contents, pair_contents}
use Rattle.nv_value.specs.Content.{Tree, list, pairs, count}
use Rattle.nv_value.specs.declared.value.Value.{Value, List as ListOf, Pairs}
use Rattle.nv_value.proofs.Contents.{content-List, content-Pairs, count-contents, count-pair_contents}
use Rattle.nv_value.specs.declared.value.Pair.{Pair}
use Rattle.nv_msgpack.specs.Shortest.{shortest, all_shortest, list_head, map_head, HasSpelling, HaveSpellings, IsInRange, AreInRange, BeginsAs}
use Rattle.nv_msgpack.proofs.Items.{all_shortest-push, AreInRange-push, HasSpelling-at, all_shortest-push_pair, AreInRange-push_pair, HasSpelling-at_pair}

-- What begins as a list that went on from the old one begins as the old one.
pub begins_as : (old first new more : List ℕ) → first ≡ old ++ more → BeginsAs first new → BeginsAs old new
begins_as old first new more e h =
    let long : length first ≡ length old + length more = ap (length {A = ℕ}) e ∙ length-append old more in
    let front : take (length old) first ≡ old = ap (λ (l : List ℕ). take (length old) l) e ∙ take-append_seam old more in
    let nested : take (length old) (take (length first) new) ≡ take (length old) new = take-take (length old) (length first) new (omega arith) in
    sym nested ∙ ap (λ (l : List ℕ). take (length old) l) h ∙ front

-- The values up to the next place are those so far and the one there.
upto : {X : Type 0} (xs : List X) (i : ℕ) (x : X) → i < length xs → x ≡ get_or xs i x → take (i + 1) xs ≡ take i xs ++ x ∷ []
upto xs i x lt is = take_more xs i x lt ∙ ap (λ y. take i xs ++ y ∷ []) (sym is)

pub item_written : (old before after : List ℕ) (vs : List Value) (i : ℕ) (v : Value) → i < length vs → v ≡ get_or vs i v
    → before ≡ old ++ all_shortest (contents (take i vs)) → after ≡ before ++ shortest (content v) → after ≡ old ++ all_shortest (contents (take (i + 1) vs))
item_written old before after vs i v lt is b a =
    a ∙ ap (λ (l : List ℕ). l ++ shortest (content v)) b ∙ append_assoc old (all_shortest (contents (take i vs))) (shortest (content v))
    ∙ ap (λ (l : List ℕ). old ++ l) (sym (all_shortest-push (take i vs) v)) ∙ ap (λ (l : List Value). old ++ all_shortest (contents l)) (sym (upto vs i v lt is))

pub item_in_range : (vs : List Value) (i : ℕ) (v : Value) → i < length vs → v ≡ get_or vs i v → AreInRange (contents (take i vs)) → IsInRange (content v) → AreInRange (contents (take (i + 1) vs))
item_in_range vs i v lt is h g = subst (λ (l : List Value). AreInRange (contents l)) (sym (upto vs i v lt is)) (AreInRange-push (take i vs) v h g)

pub item_spelling : (vs : List Value) (i : ℕ) (v : Value) → i < length vs → v ≡ get_or vs i v → HaveSpellings (contents vs) → HasSpelling (content v)
item_spelling vs i v lt is h = subst (λ x. HasSpelling (content x)) (sym is) (HasSpelling-at vs i v lt h)

pub pair_written : (old before after : List ℕ) (ps : List Pair) (i : ℕ) (p : Pair) → i < length ps → p ≡ get_or ps i p
    → before ≡ old ++ all_shortest (pair_contents (take i ps)) → after ≡ before ++ (shortest (content p.key) ++ shortest (content p.value)) → after ≡ old ++ all_shortest (pair_contents (take (i + 1) ps))
pair_written old before after ps i p lt is b a =
    let two = shortest (content p.key) ++ shortest (content p.value) in
    a ∙ ap (λ (l : List ℕ). l ++ two) b ∙ append_assoc old (all_shortest (pair_contents (take i ps))) two
    ∙ ap (λ (l : List ℕ). old ++ l) (sym (all_shortest-push_pair (take i ps) p)) ∙ ap (λ (l : List Pair). old ++ all_shortest (pair_contents l)) (sym (upto ps i p lt is))

pub pair_in_range : (ps : List Pair) (i : ℕ) (p : Pair) → i < length ps → p ≡ get_or ps i p → AreInRange (pair_contents (take i ps)) → IsInRange (content p.key) → IsInRange (content p.value) → AreInRange (pair_contents (take (i + 1) ps))
pair_in_range ps i p lt is h k v = subst (λ (l : List Pair). AreInRange (pair_contents l)) (sym (upto ps i p lt is)) (AreInRange-push_pair (take i ps) p h k v)

pub pair_spelling : (ps : List Pair) (i : ℕ) (p : Pair) → i < length ps → p ≡ get_or ps i p → HaveSpellings (pair_contents ps) → HasSpelling (content p.key) × HasSpelling (content p.value)
pair_spelling ps i p lt is h = subst (λ (x : Pair). HasSpelling (content x.key) × HasSpelling (content x.value)) (sym is) (HasSpelling-at_pair ps i p lt h)

-- A list, or a map, that has a spelling.
pub list_spelling : (v : Value) (items : Vec Value Global) → v ≡ ListOf items → HasSpelling (content v) → (length items.items < 2 ^ 32) × HaveSpellings (contents items.items)
list_spelling v items is h =
    let e : content v ≡ list (contents items.items) = ap content is ∙ content-List items in
    let g = subst HasSpelling e h in
    (omega (arith, g.0, count-contents items.items), g.1)

pub list_written : (old middle new : List ℕ) (v : Value) (items : Vec Value Global) (n : ℕ) → v ≡ ListOf items → n ≡ length items.items
    → middle ≡ old ++ list_head n → new ≡ middle ++ all_shortest (contents items.items) → new ≡ old ++ shortest (content v)
list_written old middle new v items n is e m w =
    let seen : content v ≡ list (contents items.items) = ap content is ∙ content-List items in
    let counted : n ≡ count (contents items.items) = e ∙ sym (count-contents items.items) in
    w ∙ ap (λ (l : List ℕ). l ++ all_shortest (contents items.items)) m ∙ append_assoc old (list_head n) (all_shortest (contents items.items))
    ∙ ap (λ (k : ℕ). old ++ (list_head k ++ all_shortest (contents items.items))) counted ∙ ap (λ (t : Tree). old ++ shortest t) (sym seen)

pub list_in_range : (v : Value) (items : Vec Value Global) → v ≡ ListOf items → AreInRange (contents items.items) → IsInRange (content v)
list_in_range v items is h = subst IsInRange (sym (ap content is ∙ content-List items)) h

pub map_spelling : (v : Value) (fields : Vec Pair Global) → v ≡ Pairs fields → HasSpelling (content v) → (length fields.items < 2 ^ 32) × HaveSpellings (pair_contents fields.items)
map_spelling v fields is h =
    let e : content v ≡ pairs (pair_contents fields.items) = ap content is ∙ content-Pairs fields in
    let g = subst HasSpelling e h in
    (omega (arith, g.0, count-pair_contents fields.items), g.1)

pub map_written : (old middle new : List ℕ) (v : Value) (fields : Vec Pair Global) (n : ℕ) → v ≡ Pairs fields → n ≡ length fields.items
    → middle ≡ old ++ map_head n → new ≡ middle ++ all_shortest (pair_contents fields.items) → new ≡ old ++ shortest (content v)
map_written old middle new v fields n is e m w =
    let seen : content v ≡ pairs (pair_contents fields.items) = ap content is ∙ content-Pairs fields in
    let counted : n ≡ count (pair_contents fields.items) / 2 = omega (arith, e, count-pair_contents fields.items) in
    w ∙ ap (λ (l : List ℕ). l ++ all_shortest (pair_contents fields.items)) m ∙ append_assoc old (map_head n) (all_shortest (pair_contents fields.items))
    ∙ ap (λ (k : ℕ). old ++ (map_head k ++ all_shortest (pair_contents fields.items))) counted ∙ ap (λ (t : Tree). old ++ shortest t) (sym seen)

pub map_in_range : (v : Value) (fields : Vec Pair Global) → v ≡ Pairs fields → AreInRange (pair_contents fields.items) → IsInRange (content v)
map_in_range v fields is h =
    subst IsInRange (sym (ap content is ∙ content-Pairs fields)) (omega (arith, count-pair_contents fields.items), h)

-- What holds anyway holds after an error.
pub on_err : {T E P : Type 0} (r : Result T E) → P → OnErr r P
on_err (Ok x) p = tt
on_err (Err e) p = p

-- An element is no larger than the largest.
pub no_larger : {X : Type 0} (size : X → ℕ) (xs ys : List X) (i : ℕ) (x : X) → ys ≡ xs → i < length ys → x ≡ get_or ys i x → size x ≤ most size xs
no_larger size xs ys i x same lt is =
    let h : size (get_or ys i x) ≤ most size ys = at_most size ys i x lt in
    let here : size x ≡ size (get_or ys i x) = ap size is in
    let all : most size ys ≡ most size xs = ap (most size) same in
    omega arith
