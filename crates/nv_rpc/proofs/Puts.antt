-- Values are spelled one after another.
use Rattle.std.proofs.Common.{◌≡◌, ℕ, zero, suc, ◌+◌, ◌<◌, ◌≤◌, List, [], ◌∷◌, ◌++◌, length, map, take, drop, get_or, refl, ap, sym, subst, ◌∙◌, append_assoc, add-one, drop-cons, arith}
use Rattle.std.proofs.lemmas.List.{append-nil, drop_all, map-append, take_more}
use Rattle.nv_value.specs.Content.{Tree, count, text, trees_of}
use Rattle.nv_lines.specs.Excerpts.{list_lines}
use Rattle.nv_lines.proofs.ListLines.{list_lines-drop, list_lines-end}
use Rattle.nv_msgpack.specs.Shortest.{shortest, all_shortest, list_head, HasSpelling, HaveSpellings}
use Rattle.nv_rpc.specs.Messages.{items}

-- the spellings of some, one after another
abbrev pub all_spelled : {X : Type 0} → (X → Tree) → List X → List ℕ
all_spelled f xs = all_shortest (trees_of (map f xs))

pub count-map : {X : Type 0} (f : X → Tree) (xs : List X) → count (trees_of (map f xs)) ≡ length xs
count-map f [] = refl
count-map f (x ∷ xs) = ap suc (count-map f xs)

all_shortest-append : (a b : List Tree) → all_shortest (trees_of (a ++ b)) ≡ all_shortest (trees_of a) ++ all_shortest (trees_of b)
all_shortest-append [] b = refl
all_shortest-append (t ∷ a) b =
    ap (λ (l : List ℕ). shortest t ++ l) (all_shortest-append a b) ∙ sym (append_assoc (shortest t) (all_shortest (trees_of a)) (all_shortest (trees_of b)))

-- those of some, and of others
pub spelled-append : {X : Type 0} (f : X → Tree) (xs ys : List X) → all_spelled f (xs ++ ys) ≡ all_spelled f xs ++ all_spelled f ys
spelled-append f xs ys = ap (λ (l : List Tree). all_shortest (trees_of l)) (map-append f xs ys) ∙ all_shortest-append (map f xs) (map f ys)

-- one more was put
pub one_more_put : {X : Type 0} (f : X → Tree) (xs : List X) (i : ℕ) (x : X) (old new all : List ℕ) → i < length xs → x ≡ get_or xs i x
    → old ++ all_spelled f (drop i xs) ≡ all → new ≡ old ++ shortest (f x) → new ++ all_spelled f (drop (i + 1) xs) ≡ all
one_more_put {X} f xs i x old new all h looked e more =
    let s = shortest (f (get_or xs i x)) in
    ap (λ (l : List ℕ). l ++ all_spelled f (drop (i + 1) xs)) (more ∙ ap (λ (y : X). old ++ shortest (f y)) looked)
    ∙ append_assoc old s (all_spelled f (drop (i + 1) xs))
    ∙ ap (λ (n : ℕ). old ++ (s ++ all_spelled f (drop n xs))) (add-one i)
    ∙ ap (λ (l : List X). old ++ all_spelled f l) (sym (drop-cons xs i x h))
    ∙ e

-- all of them were put
pub all_were_put : {X : Type 0} (f : X → Tree) (xs : List X) (i : ℕ) (first new : List ℕ) → length xs ≤ i
    → new ++ all_spelled f (drop i xs) ≡ first ++ all_spelled f xs → new ≡ first ++ all_spelled f xs
all_were_put {X} f xs i first new h e = sym (append-nil new) ∙ ap (λ (l : List X). new ++ all_spelled f l) (sym (drop_all i xs h)) ∙ e

-- a list of them, behind its head
pub list_was_put : {X : Type 0} (f : X → Tree) (xs : List X) (n : ℕ) (old head new : List ℕ) → n ≡ length xs → head ≡ old ++ list_head n
    → new ≡ head ++ all_spelled f xs → new ≡ old ++ shortest (items (map f xs))
list_was_put f xs n old head new many h e =
    e ∙ ap (λ (l : List ℕ). l ++ all_spelled f xs) h
    ∙ append_assoc old (list_head n) (all_spelled f xs)
    ∙ ap (λ (k : ℕ). old ++ (list_head k ++ all_spelled f xs)) (many ∙ sym (count-map f xs))

-- each of them can be spelled
spelled_there : {X : Type 0} (f : X → Tree) (xs : List X) (i : ℕ) (d : X) → i < length xs → HaveSpellings (trees_of (map f xs)) → HasSpelling (f (get_or xs i d))
spelled_there f [] i d h all = absurd (omega arith)
spelled_there f (x ∷ xs) zero d h all = all.0
spelled_there f (x ∷ xs) (suc i) d h all = spelled_there f xs i d (omega arith) all.1

pub spelled_at : {X : Type 0} (f : X → Tree) (xs : List X) (i : ℕ) (x : X) → i < length xs → x ≡ get_or xs i x → HaveSpellings (trees_of (map f xs)) → HasSpelling (f x)
spelled_at {X} f xs i x h looked all = subst (λ (y : X). HasSpelling (f y)) (sym looked) (spelled_there f xs i x h all)

spelled_front : (a b : List Tree) → HaveSpellings (trees_of (a ++ b)) → HaveSpellings (trees_of a) × HaveSpellings (trees_of b)
spelled_front [] b all = (tt, all)
spelled_front (t ∷ a) b all = let rest = spelled_front a b all.1 in ((all.0, rest.0), rest.1)

spelled_parts : (xs ys : List (List ℕ)) → HaveSpellings (trees_of (map text (xs ++ ys))) → HaveSpellings (trees_of (map text xs)) × HaveSpellings (trees_of (map text ys))
spelled_parts xs ys all = spelled_front (map text xs) (map text ys) (subst (λ (l : List Tree). HaveSpellings (trees_of l)) (map-append text xs ys) all)

-- ---- strings in several lists

-- each of the lists can be spelled
list_spelled_there : (ls : List (List (List ℕ))) (i : ℕ) (d : List (List ℕ)) → i < length ls → HaveSpellings (trees_of (map text (list_lines ls)))
    → HaveSpellings (trees_of (map text (get_or ls i d)))
list_spelled_there [] i d h all = absurd (omega arith)
list_spelled_there (l ∷ ls) zero d h all = (spelled_parts l (list_lines ls) all).0
list_spelled_there (l ∷ ls) (suc i) d h all = list_spelled_there ls i d (omega arith) (spelled_parts l (list_lines ls) all).1

pub list_spelled_at : (ls : List (List (List ℕ))) (i : ℕ) (list : List (List ℕ)) → i < length ls → list ≡ get_or ls i list
    → HaveSpellings (trees_of (map text (list_lines ls))) → HaveSpellings (trees_of (map text list))
list_spelled_at ls i list h looked all =
    subst (λ (l : List (List ℕ)). HaveSpellings (trees_of (map text l))) (sym looked) (list_spelled_there ls i list h all)

-- one more list was put
pub one_list_put : (ls : List (List (List ℕ))) (i : ℕ) (list : List (List ℕ)) (old new all : List ℕ) → i < length ls → list ≡ get_or ls i list
    → old ++ all_spelled text (list_lines (drop i ls)) ≡ all → new ≡ old ++ all_spelled text list
    → new ++ all_spelled text (list_lines (drop (i + 1) ls)) ≡ all
one_list_put ls i list old new all h looked e more =
    let here = all_spelled text list in
    let rest = all_spelled text (list_lines (drop (i + 1) ls)) in
    ap (λ (l : List ℕ). l ++ rest) more
    ∙ append_assoc old here rest
    ∙ ap (λ (l : List ℕ). old ++ l) (sym (spelled-append text list (list_lines (drop (i + 1) ls))))
    ∙ ap (λ (l : List (List ℕ)). old ++ all_spelled text (l ++ list_lines (drop (i + 1) ls))) looked
    ∙ ap (λ (l : List (List ℕ)). old ++ all_spelled text l) (sym (list_lines-drop ls i list h))
    ∙ e

pub all_lists_put : (ls : List (List (List ℕ))) (i : ℕ) (first new : List ℕ) → length ls ≤ i
    → new ++ all_spelled text (list_lines (drop i ls)) ≡ first ++ all_spelled text (list_lines ls) → new ≡ first ++ all_spelled text (list_lines ls)
all_lists_put ls i first new h e =
    sym (append-nil new) ∙ ap (λ (l : List (List ℕ)). new ++ all_spelled text l) (sym (list_lines-end ls i h)) ∙ e

-- ---- strings as values

-- one more line was added
pub one_string_added : (lines : List (List ℕ)) (i : ℕ) (line : List ℕ) (first old new : List Tree) (value : Tree) → i < length lines
    → line ≡ get_or lines i line → old ≡ first ++ map text (take i lines) → value ≡ text line → new ≡ old ++ value ∷ []
    → new ≡ first ++ map text (take (i + 1) lines)
one_string_added lines i line first old new value h looked e is more =
    more
    ∙ ap (λ (l : List Tree). l ++ value ∷ []) e
    ∙ append_assoc first (map text (take i lines)) (value ∷ [])
    ∙ ap (λ (t : Tree). first ++ (map text (take i lines) ++ t ∷ [])) (is ∙ ap text looked)
    ∙ ap (λ (l : List Tree). first ++ l) (sym (map-append text (take i lines) (get_or lines i line ∷ [])))
    ∙ ap (λ (l : List (List ℕ)). first ++ map text l) (sym (take_more lines i line h))

-- the lines of one more list were added
pub one_list_added : (ls : List (List (List ℕ))) (i : ℕ) (list : List (List ℕ)) (old new all : List Tree) → i < length ls → list ≡ get_or ls i list
    → old ++ map text (list_lines (drop i ls)) ≡ all → new ≡ old ++ map text list → new ++ map text (list_lines (drop (i + 1) ls)) ≡ all
one_list_added ls i list old new all h looked e more =
    let rest = list_lines (drop (i + 1) ls) in
    ap (λ (l : List Tree). l ++ map text rest) more
    ∙ append_assoc old (map text list) (map text rest)
    ∙ ap (λ (l : List Tree). old ++ l) (sym (map-append text list rest))
    ∙ ap (λ (l : List (List ℕ)). old ++ map text (l ++ rest)) looked
    ∙ ap (λ (l : List (List ℕ)). old ++ map text l) (sym (list_lines-drop ls i list h))
    ∙ e

pub all_lists_added : (ls : List (List (List ℕ))) (i : ℕ) (first new : List Tree) → length ls ≤ i
    → new ++ map text (list_lines (drop i ls)) ≡ first ++ map text (list_lines ls) → new ≡ first ++ map text (list_lines ls)
all_lists_added ls i first new h e =
    sym (append-nil new) ∙ ap (λ (l : List (List ℕ)). new ++ map text l) (sym (list_lines-end ls i h)) ∙ e
