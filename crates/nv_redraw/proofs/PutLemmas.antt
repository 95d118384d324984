-- What is written one after another is the spelling of the whole.
use Rattle.std.proofs.Common.{ℕ, suc, ℤ, ◌+◌, ◌/◌, ◌≡◌, List, [], ◌∷◌, ◌++◌, length, map, Option, refl, sym, ap, ◌∙◌, arith}
use Rattle.std.specs.Prelude.{codes}
use Rattle.std.proofs.lemmas.List.{append_assoc, append-nil}
use Rattle.nv_value.specs.Content.{Tree, trees_of, in_turn, count}
use Rattle.nv_msgpack.specs.Shortest.{shortest, all_shortest, unsigned_spelling, integer_spelling, list_head, text_head, map_head}
use Rattle.nv_linegrid.specs.declared.event.Run.{Run}
use Rattle.nv_linegrid.specs.declared.event.Redraw.{Redraw}
use Rattle.nv_linegrid.specs.declared.event.Redraw.TheVariants.{LineOf}
use Rattle.nv_redraw.specs.Values.{tuple_tree, event_tree, run_tree, entry_tree, events_by_name, batch_tree, AttrFields, pair_if_there, pairs_there, map_tree}
use Rattle.nv_redraw.specs.inside.Parts.{place_spelling}
use Rattle.nv_redraw.proofs.SpellingLemmas.{all_shortest-append, count-in_turn}

count_of : {X : Type 0} (F : X → Tree) (xs : List X) → count (trees_of (map F xs)) ≡ length xs
count_of F [] = refl
count_of F (x ∷ xs) = omega (arith, count_of F xs)

-- two things one after another
pub then_put : (old middle new a b : List ℕ) → middle ≡ old ++ a → new ≡ middle ++ b → new ≡ old ++ (a ++ b)
then_put old middle new a b e w = w ∙ ap (λ (l : List ℕ). l ++ b) e ∙ append_assoc old a b

-- a list is its head and its values
pub list_put : {X : Type 0} (F : X → Tree) (old middle new : List ℕ) (xs : List X) → middle ≡ old ++ list_head (length xs)
    → new ≡ middle ++ all_shortest (trees_of (map F xs)) → new ≡ old ++ shortest (tuple_tree (map F xs))
list_put F old middle new xs e w =
    let s = all_shortest (trees_of (map F xs)) in
    then_put old middle new (list_head (length xs)) s e w ∙ ap (λ (n : ℕ). old ++ (list_head n ++ s)) (sym (count_of F xs))

pub batch_put : (old first middle new : List ℕ) (es : List Redraw) (n : ℕ) → n ≡ length (events_by_name es)
    → first ≡ old ++ 0x93 ∷ 2 ∷ 0xa6 ∷ codes "redraw" → middle ≡ first ++ list_head n
    → new ≡ middle ++ all_shortest (trees_of (map entry_tree (events_by_name es))) → new ≡ old ++ shortest (batch_tree es)
unfolding batch_tree unsigned_spelling text_head list_head
batch_put old first middle new es n few e f w =
    let s = all_shortest (trees_of (map entry_tree (events_by_name es))) in
    let nine : List ℕ = 0x93 ∷ 2 ∷ 0xa6 ∷ codes "redraw" in
    let counted : n ≡ count (trees_of (map entry_tree (events_by_name es))) = few ∙ sym (count_of entry_tree (events_by_name es)) in
    let tail = then_put first middle new (list_head n) s f w in
    then_put old first new nine (list_head n ++ s) e tail
    ∙ ap (λ (k : ℕ). old ++ (nine ++ (list_head k ++ s))) counted
    ∙ ap (λ (l : List ℕ). old ++ (nine ++ l)) (sym (append-nil (list_head (count (trees_of (map entry_tree (events_by_name es)))) ++ s)))

-- an entry: its name and its events
pub entry_put : (old head middle new : List ℕ) (name : List ℕ) (es : List Redraw) → head ≡ old ++ list_head (length es + 1)
    → middle ≡ head ++ (text_head (length name) ++ name) → new ≡ middle ++ all_shortest (trees_of (map event_tree es))
    → new ≡ old ++ shortest (entry_tree (record { name = name; events = es }))
entry_put old head middle new name es e f w =
    let s = all_shortest (trees_of (map event_tree es)) in
    let t = text_head (length name) ++ name in
    let counted : length es + 1 ≡ suc (count (trees_of (map event_tree es))) = omega (arith, count_of event_tree es) in
    then_put old head new (list_head (length es + 1)) (t ++ s) e (then_put head middle new t s f w)
    ∙ ap (λ (n : ℕ). old ++ (list_head n ++ (t ++ s))) counted

-- the arguments of a line
pub line_put : (old place middle new : List ℕ) (grid : ℤ) (row col : ℕ) (cells : List Run)
    → place ≡ old ++ place_spelling grid row col → middle ≡ place ++ shortest (tuple_tree (map run_tree cells)) → new ≡ middle ++ 0xc2 ∷ []
    → new ≡ old ++ shortest (event_tree (LineOf grid row col cells))
unfolding list_head
line_put old place middle new grid row col cells h1 h2 h3 =
    let g = integer_spelling grid in let x = unsigned_spelling row in let y = unsigned_spelling col in
    let t = shortest (tuple_tree (map run_tree cells)) in
    let wrap : List ℕ = 0xc2 ∷ [] in
    then_put old place new (place_spelling grid row col) (t ++ wrap) h1 (then_put place middle new t wrap h2 h3)
    ∙ ap (λ (l : List ℕ). old ++ 0x95 ∷ l) (append_assoc g (x ++ y) (t ++ wrap) ∙ ap (λ (l : List ℕ). g ++ l) (append_assoc x y (t ++ wrap)))

-- ---- maps

-- the spellings of the pairs of fields
abbrev fields_spelling : AttrFields → List ℕ
fields_spelling fs = all_shortest (in_turn (pairs_there fs))

-- a map is its head and its pairs
pub map_put : (old middle new : List ℕ) (fs : AttrFields) (n : ℕ) → n ≡ length (pairs_there fs)
    → middle ≡ old ++ map_head n → new ≡ middle ++ all_shortest (in_turn (pairs_there fs)) → new ≡ old ++ shortest (map_tree fs)
map_put old middle new fs n is e w =
    let half : n ≡ count (in_turn (pairs_there fs)) / 2 = omega (arith, is, count-in_turn (pairs_there fs)) in
    then_put old middle new (map_head n) (fields_spelling fs) e w ∙ ap (λ (k : ℕ). old ++ (map_head k ++ fields_spelling fs)) half

pairs-append : (fs gs : AttrFields) → pairs_there (fs ++ gs) ≡ pairs_there fs ++ pairs_there gs
pairs-append [] gs = refl
pairs-append (f ∷ fs) gs =
    ap (λ (l : List (Tree × Tree)). pair_if_there f.0 f.1 ++ l) (pairs-append fs gs) ∙ sym (append_assoc (pair_if_there f.0 f.1) (pairs_there fs) (pairs_there gs))

-- fields and those behind them
pub fields_put : (old middle new : List ℕ) (fs gs : AttrFields) → middle ≡ old ++ all_shortest (in_turn (pairs_there fs))
    → new ≡ middle ++ all_shortest (in_turn (pairs_there gs)) → new ≡ old ++ all_shortest (in_turn (pairs_there (fs ++ gs)))
fields_put old middle new fs gs e w =
    then_put old middle new (fields_spelling fs) (fields_spelling gs) e w
    ∙ ap (λ (l : List ℕ). old ++ l) (sym (all_shortest-append (pairs_there fs) (pairs_there gs)))
    ∙ ap (λ (ps : List (Tree × Tree)). old ++ all_shortest (in_turn ps)) (sym (pairs-append fs gs))

-- a field and those behind it
pub field_put : (old middle new : List ℕ) (k : List ℕ) (o : Option Tree) (fs : AttrFields) → middle ≡ old ++ all_shortest (in_turn (pair_if_there k o))
    → new ≡ middle ++ all_shortest (in_turn (pairs_there fs)) → new ≡ old ++ all_shortest (in_turn (pairs_there ((k, o) ∷ fs)))
field_put old middle new k o fs e w =
    then_put old middle new (all_shortest (in_turn (pair_if_there k o))) (all_shortest (in_turn (pairs_there fs))) e w
    ∙ ap (λ (l : List ℕ). old ++ l) (sym (all_shortest-append (pair_if_there k o) (pairs_there fs)))

-- the last field
pub last_put : (old new : List ℕ) (k : List ℕ) (o : Option Tree) → new ≡ old ++ all_shortest (in_turn (pair_if_there k o))
    → new ≡ old ++ all_shortest (in_turn (pairs_there ((k, o) ∷ [])))
last_put old new k o e = e ∙ ap (λ (ps : List (Tree × Tree)). old ++ all_shortest (in_turn ps)) (sym (append-nil (pair_if_there k o)))
