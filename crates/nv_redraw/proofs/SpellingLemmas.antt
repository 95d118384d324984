-- What is written so far, with what is to come, is all; and what an error leaves.
use Rattle.std.proofs.Common.{ℕ, ◌+◌, ◌*◌, ◌<◌, ◌≤◌, ◌≡◌, List, [], ◌∷◌, ◌++◌, length, map, take, drop, get_or, refl, sym, ap, ◌∙◌, arith}
use Rattle.std.proofs.lemmas.List.{append_assoc, drop_more, take-take, length-take}
use Rattle.std.proofs.Math.Seq.{take-append_seam}
use Rattle.nv_value.specs.Content.{Tree, trees_of, in_turn, count}
use Rattle.nv_value.specs.View.{content}
use Rattle.nv_value.specs.declared.value.Value.{Value}
use Rattle.nv_msgpack.specs.Shortest.{shortest, all_shortest, BeginsAs}
use Rattle.nv_linegrid.specs.declared.event.Redraw.{Redraw}
use Rattle.nv_redraw.specs.Values.{NamedEvents, entry_tree, events_by_name}
use Rattle.nv_redraw.proofs.NamingLemmas.{FrontAt}

-- what begins as a list that begins as the old one begins as the old one
pub begins_through : (old middle new : List ℕ) → BeginsAs old middle → BeginsAs middle new → length old ≤ length middle → BeginsAs old new
begins_through old middle new h g l =
    let nested : take (length old) (take (length middle) new) ≡ take (length old) new = take-take (length old) (length middle) new (omega arith) in
    sym nested ∙ ap (λ (x : List ℕ). take (length old) x) g ∙ h

-- a list that begins as another is as long at least
pub begins_long : (old new : List ℕ) → BeginsAs old new → length old ≤ length new
begins_long old new h = omega (arith, ap (length {A = ℕ}) h, length-take {A = ℕ})

pub begins_more : (old middle new more : List ℕ) → BeginsAs old middle → new ≡ middle ++ more → BeginsAs old new
begins_more old middle new more h e =
    begins_through old middle new h (ap (λ (l : List ℕ). take (length middle) l) e ∙ take-append_seam middle more) (begins_long old middle h)

-- what an error behind the loop's bytes leaves
pub begins_on : (old middle new : List ℕ) → BeginsAs old middle → BeginsAs middle new → BeginsAs old new
begins_on old middle new h g = begins_through old middle new h g (begins_long old middle h)

-- one value more is written
pub value_written : {X : Type 0} (F : X → Tree) (before after all : List ℕ) (xs : List X) (i : ℕ) (x : X) → i < length xs → x ≡ get_or xs i x
    → before ++ all_shortest (trees_of (map F (drop i xs))) ≡ all → after ≡ before ++ shortest (F x)
    → after ++ all_shortest (trees_of (map F (drop (i + 1) xs))) ≡ all
value_written F before after all xs i x lt is h e =
    let rest = all_shortest (trees_of (map F (drop (i + 1) xs))) in
    let here : drop i xs ≡ x ∷ drop (i + 1) xs = drop_more xs i x lt ∙ ap (λ y. y ∷ drop (i + 1) xs) (sym is) in
    ap (λ (l : List ℕ). l ++ rest) e ∙ append_assoc before (shortest (F x)) rest
    ∙ ap (λ l. before ++ all_shortest (trees_of (map F l))) (sym here) ∙ h

-- one entry more is written
pub entry_written : (before after all name : List ℕ) (es : List Redraw) (at n : ℕ) → FrontAt es at n name
    → before ++ all_shortest (trees_of (map entry_tree (events_by_name (drop at es)))) ≡ all
    → after ≡ before ++ shortest (entry_tree (record { name = name; events = take n (drop at es) }))
    → after ++ all_shortest (trees_of (map entry_tree (events_by_name (drop (at + n) es)))) ≡ all
entry_written before after all name es at n f h e =
    let front : NamedEvents = record { name = name; events = take n (drop at es) } in
    let rest = all_shortest (trees_of (map entry_tree (events_by_name (drop (at + n) es)))) in
    ap (λ (l : List ℕ). l ++ rest) e ∙ append_assoc before (shortest (entry_tree front)) rest
    ∙ ap (λ (gs : List NamedEvents). before ++ all_shortest (trees_of (map entry_tree gs))) (sym f.step) ∙ h

-- one entry more is made
pub entry_made : (before : List Tree) (all : List Tree) (name : List ℕ) (es : List Redraw) (at n : ℕ) → FrontAt es at n name
    → before ++ map entry_tree (events_by_name (drop at es)) ≡ all
    → (before ++ entry_tree (record { name = name; events = take n (drop at es) }) ∷ []) ++ map entry_tree (events_by_name (drop (at + n) es)) ≡ all
entry_made before all name es at n f h =
    let front : NamedEvents = record { name = name; events = take n (drop at es) } in
    let rest = map entry_tree (events_by_name (drop (at + n) es)) in
    append_assoc before (entry_tree front ∷ []) rest
    ∙ ap (λ (gs : List NamedEvents). before ++ map entry_tree gs) (sym f.step) ∙ h

pub all_shortest-append : (ps qs : List (Tree × Tree)) → all_shortest (in_turn (ps ++ qs)) ≡ all_shortest (in_turn ps) ++ all_shortest (in_turn qs)
all_shortest-append [] qs = refl
all_shortest-append (p ∷ ps) qs =
    let a = shortest p.0 in let b = shortest p.1 in let x = all_shortest (in_turn ps) in let y = all_shortest (in_turn qs) in
    ap (λ (l : List ℕ). a ++ (b ++ l)) (all_shortest-append ps qs)
    ∙ ap (λ (l : List ℕ). a ++ l) (sym (append_assoc b x y)) ∙ sym (append_assoc a (b ++ x) y)

pub count-in_turn : (ps : List (Tree × Tree)) → count (in_turn ps) ≡ 2 * length ps
count-in_turn [] = refl
count-in_turn (p ∷ ps) = omega (arith, count-in_turn ps)

pub count-trees_of : (ts : List Tree) → count (trees_of ts) ≡ length ts
count-trees_of [] = refl
count-trees_of (t ∷ ts) = omega (arith, count-trees_of ts)

map_pushed : (old : List Value) (v : Value) → map content (old ++ v ∷ []) ≡ map content old ++ content v ∷ []
map_pushed [] v = refl
map_pushed (x ∷ old) v = ap (λ (l : List Tree). content x ∷ l) (map_pushed old v)

-- one value more has its content
pub value_pushed : (old new : List Value) (v : Value) (t : Tree) → new ≡ old ++ v ∷ [] → content v ≡ t → map content new ≡ map content old ++ t ∷ []
value_pushed old new v t e f = ap (map content) e ∙ map_pushed old v ∙ ap (λ (u : Tree). map content old ++ u ∷ []) f

-- the same by the value at the place
pub value_written_at : {X : Type 0} (F : X → Tree) (before after all : List ℕ) (xs : List X) (i : ℕ) (d : X) → i < length xs
    → before ++ all_shortest (trees_of (map F (drop i xs))) ≡ all → after ≡ before ++ shortest (F (get_or xs i d))
    → after ++ all_shortest (trees_of (map F (drop (i + 1) xs))) ≡ all
value_written_at F before after all xs i d lt h e =
    let x = get_or xs i d in
    let rest = all_shortest (trees_of (map F (drop (i + 1) xs))) in
    let here : drop i xs ≡ x ∷ drop (i + 1) xs = drop_more xs i d lt in
    ap (λ (l : List ℕ). l ++ rest) e ∙ append_assoc before (shortest (F x)) rest
    ∙ ap (λ l. before ++ all_shortest (trees_of (map F l))) (sym here) ∙ h
