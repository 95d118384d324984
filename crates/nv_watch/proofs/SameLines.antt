-- Two texts row by row, and one that stands in chunks.
use Rattle.std.proofs.Common.{◌≡◌, refl, ap, sym, ◌∙◌, ℕ, zero, suc, ◌+◌, ◌<◌, ◌≤◌, Bool, true, false, List, [], ◌∷◌, ◌++◌, take, drop, get_or, length, length-append, arith, Some}
use Rattle.std.specs.Prelude.{◌&&◌, ◌-◌, bytes_eq, slice_get}
use Rattle.nv_lines.specs.Chunks.{chunk_lines}
use Rattle.nv_lines.specs.declared.chunk.Chunk.{Chunk}
use Rattle.std.specs.Cmp.Lexicographic.{bytes_decides}
use Rattle.std.proofs.lemmas.List.{drop-drop, take-take, take-append-drop}
use Rattle.nv_watch.specs.Folds.{are_same_lines}
use Rattle.nv_watch.specs.declared.mirror.Ends.{Ends}
use Rattle.nv_watch.specs.inside.Sharing.{ShareEnds}
use Rattle.nv_watch.proofs.Handles.{rest_here}

pub same_at : (xs bs : List (List ℕ)) (i : ℕ) (x b : List ℕ) (same : Bool) → length xs ≡ length bs → i < length xs
    → x ≡ get_or xs i x → b ≡ get_or bs i b → same ≡ bytes_eq x b
    → are_same_lines (drop i xs) (drop i bs) ≡ (same && are_same_lines (drop (suc i) xs) (drop (suc i) bs))
same_at [] bs i x b same count below xi bi is = absurd (omega (arith, below))
same_at (y ∷ xs) [] i x b same count below xi bi is = absurd (omega (arith, count))
same_at (y ∷ xs) (c ∷ bs) zero x b same count below xi bi is =
    ap (λ (t : Bool). t && are_same_lines xs bs) (sym (is ∙ ap (λ (l : List ℕ). bytes_eq l b) xi ∙ ap (λ (l : List ℕ). bytes_eq y l) bi))
same_at (y ∷ xs) (c ∷ bs) (suc i) x b same count below xi bi is = same_at xs bs i x b same (omega (arith, count)) (omega (arith, below)) xi bi is

both_then : (a b c : Bool) → (a && (b && c)) ≡ ((a && b) && c)
both_then true b c = refl
both_then false b c = refl

-- two texts are the same where their fronts are, and what stands behind these
same_parts : (xs ys bs cs : List (List ℕ)) → length xs ≡ length bs
    → are_same_lines (xs ++ ys) (bs ++ cs) ≡ (are_same_lines xs bs && are_same_lines ys cs)
same_parts [] ys [] cs count = refl
same_parts [] ys (b ∷ bs) cs count = absurd (omega (arith, count))
same_parts (x ∷ xs) ys [] cs count = absurd (omega (arith, count))
same_parts (x ∷ xs) ys (b ∷ bs) cs count =
    ap (λ (t : Bool). bytes_eq x b && t) (same_parts xs ys bs cs (omega (arith, count)))
    ∙ both_then (bytes_eq x b) (are_same_lines xs bs) (are_same_lines ys cs)

-- the lines of the chunks from one on are its own, and those of the chunks behind it
lines_here : (cs : List Chunk) (i : ℕ) (c : Chunk) (held : List (List ℕ)) → i < length cs → c ≡ get_or cs i c → held ≡ c.lines
    → chunk_lines (drop i cs) ≡ held ++ chunk_lines (drop (suc i) cs)
lines_here cs i c held within is held_is =
    ap chunk_lines (rest_here cs i c within is)
    ∙ ap (λ (l : List (List ℕ)). l ++ chunk_lines (drop (suc i) cs)) (sym held_is)

pub chunk_fits : (cs : List Chunk) (i : ℕ) (c : Chunk) (held left : List (List ℕ)) → i < length cs → c ≡ get_or cs i c → held ≡ c.lines
    → length (chunk_lines (drop i cs)) ≡ length left → length held ≤ length left
chunk_fits cs i c held left within is held_is count =
    omega (arith, count, ap length (lines_here cs i c held within is held_is), length-append held (chunk_lines (drop (suc i) cs)))

pub count_behind : (cs : List Chunk) (i : ℕ) (c : Chunk) (held left here others : List (List ℕ)) → i < length cs → c ≡ get_or cs i c → held ≡ c.lines
    → left ≡ here ++ others → length here ≡ length held
    → length (chunk_lines (drop i cs)) ≡ length left → length (chunk_lines (drop (suc i) cs)) ≡ length others
count_behind cs i c held left here others within is held_is parts as_many count =
    omega (
      arith,
      count,
      as_many,
      ap length parts,
      ap length (lines_here cs i c held within is held_is),
      length-append held (chunk_lines (drop (suc i) cs)),
      length-append here others,
    )

pub same_behind : (cs : List Chunk) (i : ℕ) (c : Chunk) (held left here others : List (List ℕ)) (same all : Bool)
    → i < length cs → c ≡ get_or cs i c → held ≡ c.lines → left ≡ here ++ others → length here ≡ length held → same ≡ are_same_lines held here
    → are_same_lines (chunk_lines (drop i cs)) left ≡ all
    → (same && are_same_lines (chunk_lines (drop (suc i) cs)) others) ≡ all
same_behind cs i c held left here others same all within is held_is parts as_many same_is known =
    ap (λ (t : Bool). t && are_same_lines (chunk_lines (drop (suc i) cs)) others) same_is
    ∙ sym (same_parts held (chunk_lines (drop (suc i) cs)) here others (sym as_many))
    ∙ ap (λ (l : List (List ℕ)). are_same_lines l (here ++ others)) (sym (lines_here cs i c held within is held_is))
    ∙ ap (λ (l : List (List ℕ)). are_same_lines (chunk_lines (drop i cs)) l) (sym parts)
    ∙ known

none_behind : (cs : List Chunk) (i : ℕ) → length cs ≤ i → chunk_lines (drop i cs) ≡ []
none_behind [] zero past = refl
none_behind [] (suc i) past = refl
none_behind (c ∷ cs) zero past = absurd (omega (arith, past))
none_behind (c ∷ cs) (suc i) past = none_behind cs i (omega (arith, past))

none_same : (xs left : List (List ℕ)) (all : Bool) → xs ≡ [] → length xs ≡ length left → are_same_lines xs left ≡ all → true ≡ all
none_same [] [] all none count known = known
none_same [] (l ∷ left) all none count known = absurd (omega (arith, count))
none_same (x ∷ xs) left all none count known = absurd (omega (arith, ap length none))

-- where no chunk is left, all lines were the same
pub all_same : (cs : List Chunk) (i : ℕ) (left : List (List ℕ)) (all : Bool) → length cs ≤ i → length (chunk_lines (drop i cs)) ≡ length left
    → are_same_lines (chunk_lines (drop i cs)) left ≡ all → true ≡ all
all_same cs i left all past count known = none_same (chunk_lines (drop i cs)) left all (none_behind cs i past) count known

-- ---- rows that are known to be the same
bytes_same : (x : List ℕ) → bytes_eq x x ≡ true
bytes_same x = (bytes_decides x x).1 refl

pub self_same : (ls : List (List ℕ)) → are_same_lines ls ls ≡ true
self_same [] = refl
self_same (l ∷ ls) = ap (λ (t : Bool). t && are_same_lines ls ls) (bytes_same l) ∙ self_same ls

both_hold : (a b : Bool) → (a && b) ≡ true → (a ≡ true) × (b ≡ true)
both_hold true b e = (refl, e)
both_hold false b e = absurd cc

pub same_texts : (xs ys : List (List ℕ)) → are_same_lines xs ys ≡ true → xs ≡ ys
same_texts [] [] e = refl
same_texts [] (y ∷ ys) e = absurd cc
same_texts (x ∷ xs) [] e = absurd cc
same_texts (x ∷ xs) (y ∷ ys) e =
    let both = both_hold (bytes_eq x y) (are_same_lines xs ys) e in
    ap (λ (l : List ℕ). l ∷ xs) ((bytes_decides x y).0 both.0) ∙ ap (λ (ls : List (List ℕ)). y ∷ ls) (same_texts xs ys both.1)

some_same : {A : Type 0} (a b : A) → Some a ≡ Some b → a ≡ b
some_same a b e = cc

pub same_here : (xs bs : List (List ℕ)) (i : ℕ) (x b : List ℕ) (same : Bool) → length xs ≡ length bs → slice_get xs i ≡ Some x
    → b ≡ get_or bs i b → same ≡ bytes_eq x b
    → are_same_lines (drop i xs) (drop i bs) ≡ (same && are_same_lines (drop (suc i) xs) (drop (suc i) bs))
same_here [] bs i x b same count xi bi is = absurd cc
same_here (y ∷ xs) [] i x b same count xi bi is = absurd (omega (arith, count))
same_here (y ∷ xs) (c ∷ bs) zero x b same count xi bi is =
    ap (λ (t : Bool). t && are_same_lines xs bs) (sym (is ∙ ap (λ (l : List ℕ). bytes_eq l b) (sym (some_same y x xi)) ∙ ap (λ (l : List ℕ). bytes_eq y l) bi))
same_here (y ∷ xs) (c ∷ bs) (suc i) x b same count xi bi is = same_here xs bs i x b same (omega (arith, count)) xi bi is

-- all is told by the rows between those that are the same
pub told_between : (text lines : List (List ℕ)) (e : Ends) (from to : ℕ) (told : Bool) → length text ≡ length lines → from ≤ e.front → length lines - e.back ≤ to
    → (are_same_lines (drop to text) (drop to lines) ≡ true → told ≡ are_same_lines (drop from text) (drop from lines))
    → ShareEnds e lines text → told ≡ are_same_lines text lines
told_between text lines e from to told count before behind between h =
    let here : length lines - e.back + (to - (length lines - e.back)) ≡ to = omega (arith, behind) in
    let there : length text - e.back + (to - (length lines - e.back)) ≡ to = omega (arith, behind, count) in
    let rest : drop to lines ≡ drop to text =
    ap (λ (j : ℕ). drop j lines) (sym here) ∙ sym (drop-drop (to - (length lines - e.back)) (length lines - e.back) lines)
    ∙ ap (drop (to - (length lines - e.back))) h.back
    ∙ drop-drop (to - (length lines - e.back)) (length text - e.back) text ∙ ap (λ (j : ℕ). drop j text) there in
    let front : take from lines ≡ take from text = sym (take-take from e.front lines before) ∙ ap (take from) h.front ∙ take-take from e.front text before in
    between (ap (λ (ls : List (List ℕ)). are_same_lines (drop to text) ls) rest ∙ self_same (drop to text))
    ∙ ap (λ (t : Bool). t && are_same_lines (drop from text) (drop from lines))
    (sym (ap (λ (ls : List (List ℕ)). are_same_lines (take from text) ls) front ∙ self_same (take from text)))
    ∙ sym (same_parts (take from text) (drop from text) (take from lines) (drop from lines) (ap length (sym front)))
    ∙ ap (λ (ls : List (List ℕ)). are_same_lines ls (take from lines ++ drop from lines)) (take-append-drop from text)
    ∙ ap (λ (ls : List (List ℕ)). are_same_lines text ls) (take-append-drop from lines)
