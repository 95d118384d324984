-- Reading values one after another, as a loop does.
use Rattle.std.proofs.Common.{◌≡◌, ℕ, pos, ◌+◌, ◌-◌, ◌*◌, ◌<◌, ◌≤◌, zero, suc, List, [], ◌∷◌, ◌++◌, length, drop, get_or, map, refl, sym, ap, ◌∙◌, subst, arith, cond, ltb, Bool, true, false}
use Rattle.std.proofs.lemmas.Bool.Decides.{nat_tests}
use Rattle.std.proofs.lemmas.List.{drop-drop, drop_more, drop_all, length-drop, map-append}
use Rattle.nv_value.specs.Content.{Tree, Trees, no_more, one, integer, trees_of, in_turn}
use Rattle.nv_value.specs.View.{content, contents, pair_content, pair_contents}
use Rattle.nv_value.specs.declared.value.Value.{Value}
use Rattle.nv_value.specs.declared.value.Pair.{Pair}
use Rattle.nv_msgpack.specs.Spelling.{Size, Many, Form, unused, alone, raw, many, form, width, number_in, values, many_value}
use Rattle.nv_msgpack.specs.Reading.{Reading, whole, more, flawed, too_long, Inside, none, some, map_reading, after, reading_then, items_at, many_at, read_by, read_with, value_at}
use Rattle.nv_msgpack.specs.declared.stop.Stop.{Stop}
use Rattle.nv_msgpack.specs.declared.stop.Stop.TheVariants as stops
use Rattle.nv_msgpack.specs.declared.first_bytes.Length.{Length}
use Rattle.nv_msgpack.specs.declared.first_bytes.FirstByte.{FirstByte}
use Rattle.nv_msgpack.specs.declared.first_bytes.FirstByte.TheVariants as begins
use Rattle.nv_msgpack.specs.FirstByte.{form_seen}
use Rattle.nv_msgpack.specs.inside.Steps.{Stops, head_at}
use Rattle.nv_msgpack.proofs.Readings.{after-is_whole}
use Rattle.nv_msgpack.proofs.Sound.{sound, items_sound}
use Rattle.nv_msgpack.proofs.Exact.{empty_wants}

-- values, and then others
abbrev pub joined : Trees → Trees → Trees
joined no_more us = us
joined (one t ts) us = one t (joined ts us)

joined-none : (ts : Trees) → joined ts no_more ≡ ts
joined-none no_more = refl
joined-none (one t ts) = ap (λ (us : Trees). one t us) (joined-none ts)

joined-joined : (ts us vs : Trees) → joined (joined ts us) vs ≡ joined ts (joined us vs)
joined-joined no_more us vs = refl
joined-joined (one t ts) us vs = ap (λ (ws : Trees). one t ws) (joined-joined ts us vs)

trees_of-append : (xs ys : List Tree) → trees_of (xs ++ ys) ≡ joined (trees_of xs) (trees_of ys)
trees_of-append [] ys = refl
trees_of-append (x ∷ xs) ys = ap (λ (us : Trees). one x us) (trees_of-append xs ys)

in_turn-append : (xs ys : List (Tree × Tree)) → in_turn (xs ++ ys) ≡ joined (in_turn xs) (in_turn ys)
in_turn-append [] ys = refl
in_turn-append (x ∷ xs) ys = ap (λ (us : Trees). one x.0 (one x.1 us)) (in_turn-append xs ys)

-- one value more
pub contents-push : (vs : List Value) (v : Value) → contents (vs ++ v ∷ []) ≡ joined (contents vs) (one (content v) no_more)
contents-push vs v = ap trees_of (map-append content vs (v ∷ [])) ∙ trees_of-append (map content vs) (content v ∷ [])

-- one pair more
pub pair_contents-push : (ps : List Pair) (p : Pair) → pair_contents (ps ++ p ∷ []) ≡ joined (pair_contents ps) (in_turn (pair_content p ∷ []))
pair_contents-push ps p = ap in_turn (map-append pair_content ps (p ∷ [])) ∙ in_turn-append (map pair_content ps) (pair_content p ∷ [])

-- what was read before, and what is still read
abbrev pub behind : Trees → Reading Trees → Reading Trees
behind front reading = map_reading (joined front) reading

-- the values at a place that are still owed
abbrev pub owed_at : ℕ → ℕ → List ℕ → ℕ → ℕ → Reading Trees
owed_at depth limit bytes owed at = after at (items_at (value_at depth) owed (limit - at) (drop at bytes))

after-after : {A : Type 0} (m n : ℕ) (r : Reading A) → after m (after n r) ≡ after (m + n) r
after-after m n (whole a k) = ap (λ (x : ℕ). whole a x) (omega arith)
after-after m n more = refl
after-after m n (flawed x k) = ap (λ (y : ℕ). flawed x y) (omega arith)

pub after-zero : {A : Type 0} (r : Reading A) → after 0 r ≡ r
after-zero (whole a k) = ap (λ (x : ℕ). whole a x) (omega arith)
after-zero more = refl
after-zero (flawed x k) = ap (λ (y : ℕ). flawed x y) (omega arith)

mapped-after : {A B : Type 0} (f : A → B) (n : ℕ) (r : Reading A) → map_reading f (after n r) ≡ after n (map_reading f r)
mapped-after f n (whole a k) = refl
mapped-after f n more = refl
mapped-after f n (flawed x k) = refl

behind-none : (r : Reading Trees) → map_reading (joined no_more) r ≡ r
behind-none (whole ts k) = refl
behind-none more = refl
behind-none (flawed x k) = refl

behind-one : (t : Tree) (front : Trees) (r : Reading Trees) → map_reading (one t) (map_reading (joined front) r) ≡ map_reading (joined (one t front)) r
behind-one t front (whole ts k) = refl
behind-one t front more = refl
behind-one t front (flawed x k) = refl

behind-behind : (front next : Trees) (r : Reading Trees) → behind front (behind next r) ≡ behind (joined front next) r
behind-behind front next (whole ts k) = ap (λ (us : Trees). whole us k) (sym (joined-joined front next ts))
behind-behind front next more = refl
behind-behind front next (flawed x k) = refl

chained-one : (t : Tree) (k : ℕ) (r : Reading Trees) (f g : Trees → ℕ → Reading Trees) → ((ts : Trees) (j : ℕ) → map_reading (one t) (f ts j) ≡ g (one t ts) (k + j))
    → after k (map_reading (one t) (reading_then r f)) ≡ reading_then (after k (map_reading (one t) r)) g
chained-one t k (whole ts j) f g law =
    ap (λ (r : Reading Trees). after k r) (mapped-after (one t) j (f ts j)) ∙ after-after k j (map_reading (one t) (f ts j)) ∙ ap (λ (r : Reading Trees). after (k + j) r) (law ts j)
chained-one t k more f g law = refl
chained-one t k (flawed x j) f g law = refl

split_first : (read : ℕ → List ℕ → Reading Tree) (m n room : ℕ) (bytes : List ℕ)
    → ((room : ℕ) (bytes : List ℕ) → items_at read (m + n) room bytes ≡ reading_then (items_at read m (room - n) bytes) (λ (ts : Trees) (k : ℕ). behind ts (items_at read n (room - k) (drop k bytes))))
    → (r : Reading Tree) → reading_then r (λ (t : Tree) (k : ℕ). map_reading (one t) (items_at read (m + n) (room - k) (drop k bytes)))
    ≡ reading_then (reading_then r (λ (t : Tree) (k : ℕ). map_reading (one t) (items_at read m (room - n - k) (drop k bytes)))) (λ (ts : Trees) (k : ℕ). behind ts (items_at read n (room - k) (drop k bytes)))
split_first read m n room bytes law (whole t k) =
    let e : room - k - n ≡ room - n - k = omega arith in
    let inner : items_at read (m + n) (room - k) (drop k bytes)
    ≡ reading_then (items_at read m (room - n - k) (drop k bytes)) (λ (ts : Trees) (j : ℕ). behind ts (items_at read n (room - k - j) (drop j (drop k bytes)))) =
    law (room - k) (drop k bytes) ∙ ap (λ (x : ℕ). reading_then (items_at read m x (drop k bytes)) (λ (ts : Trees) (j : ℕ). behind ts (items_at read n (room - k - j) (drop j (drop k bytes))))) e in
    ap (λ (r : Reading Trees). after k (map_reading (one t) r)) inner
    ∙ chained-one t k (items_at read m (room - n - k) (drop k bytes))
    (λ (ts : Trees) (j : ℕ). behind ts (items_at read n (room - k - j) (drop j (drop k bytes))))
    (λ (ts : Trees) (j : ℕ). behind ts (items_at read n (room - j) (drop j bytes)))
    (λ ts j. behind-one t ts (items_at read n (room - k - j) (drop j (drop k bytes)))
    ∙ ap (λ (x : ℕ). behind (one t ts) (items_at read n x (drop j (drop k bytes)))) (omega arith)
    ∙ ap (λ (l : List ℕ). behind (one t ts) (items_at read n (room - (k + j)) l)) (drop-drop j k bytes))
split_first read m n room bytes law more = refl
split_first read m n room bytes law (flawed x k) = refl

-- m and n values are m values, and then n
split : (read : ℕ → List ℕ → Reading Tree) (m n room : ℕ) (bytes : List ℕ)
    → items_at read (m + n) room bytes ≡ reading_then (items_at read m (room - n) bytes) (λ (ts : Trees) (k : ℕ). behind ts (items_at read n (room - k) (drop k bytes)))
unfolding items_at
split read zero n room bytes =
    let e : zero + n ≡ n = omega arith in
    let r : room - 0 ≡ room = omega arith in
    ap (λ (x : ℕ). items_at read x room bytes) e
    ∙ sym (after-zero (map_reading (joined no_more) (items_at read n (room - 0) bytes)) ∙ behind-none (items_at read n (room - 0) bytes) ∙ ap (λ (x : ℕ). items_at read n x bytes) r)
split read (suc m) n room bytes =
    let e : suc m + n ≡ suc (m + n) = omega arith in
    let r : room - (m + n) ≡ room - n - m = omega arith in
    ap (λ (x : ℕ). items_at read x room bytes) e
    ∙ ap (λ (x : ℕ). reading_then (read x bytes) (λ (t : Tree) (k : ℕ). map_reading (one t) (items_at read (m + n) (room - k) (drop k bytes)))) r
    ∙ split_first read m n room bytes (split read m n) (read (room - n - m) bytes)

-- m of the values owed were read: the others are owed
pub some_more : (depth limit : ℕ) (bytes : List ℕ) (m owed at : ℕ) (front ts : Trees) (end : ℕ) (total : Reading Trees) → at + (m + owed) ≤ limit
    → after at (items_at (value_at depth) m (limit - owed - at) (drop at bytes)) ≡ whole ts end
    → behind front (owed_at depth limit bytes (m + owed) at) ≡ total → behind (joined front ts) (owed_at depth limit bytes owed end) ≡ total
some_more depth limit bytes m owed at front ts end total fits e so_far =
    let read = value_at depth in
    let a = after-is_whole at (items_at read m (limit - owed - at) (drop at bytes)) ts end e in
    let k = a.0 in
    let r : limit - at - owed ≡ limit - owed - at = omega arith in
    let first : items_at read m (limit - at - owed) (drop at bytes) ≡ whole ts k = ap (λ (x : ℕ). items_at read m x (drop at bytes)) r ∙ a.1 in
    let next = λ (us : Trees) (j : ℕ). behind us (items_at read owed (limit - at - j) (drop j (drop at bytes))) in
    let end_is : end ≡ at + k = a.2 in
    let room : limit - at - k ≡ limit - end = omega arith in
    let rest : items_at read owed (limit - at - k) (drop k (drop at bytes)) ≡ items_at read owed (limit - end) (drop end bytes) =
    ap (λ (x : ℕ). items_at read owed x (drop k (drop at bytes))) room
    ∙ ap (λ (l : List ℕ). items_at read owed (limit - end) l) (drop-drop k at bytes ∙ ap (λ (x : ℕ). drop x bytes) (sym end_is)) in
    let whole_is : owed_at depth limit bytes (m + owed) at ≡ behind ts (owed_at depth limit bytes owed end) =
    ap (λ (r : Reading Trees). after at r) (split read m owed (limit - at) (drop at bytes) ∙ ap (λ (r : Reading Trees). reading_then r next) first
    ∙ ap (λ (r : Reading Trees). after k (behind ts r)) rest)
    ∙ after-after at k (behind ts (items_at read owed (limit - end) (drop end bytes)))
    ∙ ap (λ (x : ℕ). after x (behind ts (items_at read owed (limit - end) (drop end bytes)))) (sym end_is)
    ∙ sym (mapped-after (joined ts) end (items_at read owed (limit - end) (drop end bytes))) in
    sym (behind-behind front ts (owed_at depth limit bytes owed end)) ∙ ap (λ (r : Reading Trees). behind front r) (sym whole_is) ∙ so_far

Stops-behind : {A B : Type 0} (stop : Stop) (f : A → B) (r : Reading A) → Stops stop r → Stops stop (map_reading f r)
Stops-behind {A} stops.NoMemory f r h = tt
Stops-behind {A} stops.NeedsMore f r h = ap (λ (x : Reading A). map_reading f x) h
Stops-behind {A} (stops.Flawed fault place) f r h = ap (λ (x : Reading A). map_reading f x) h

Stops-chained : (stop : Stop) (at : ℕ) (r : Reading Trees) (next : Trees → ℕ → Reading Trees) → Stops stop (after at r) → Stops stop (after at (reading_then r next))
Stops-chained stops.NoMemory at r next h = tt
Stops-chained stops.NeedsMore at (whole ts k) next h = cc
Stops-chained stops.NeedsMore at more next h = refl
Stops-chained stops.NeedsMore at (flawed x k) next h = cc
Stops-chained (stops.Flawed fault place) at (whole ts k) next h = cc
Stops-chained (stops.Flawed fault place) at more next h = cc
Stops-chained (stops.Flawed fault place) at (flawed x k) next h = h

-- the values stop where one of them stops
pub some_stop : (stop : Stop) (depth limit : ℕ) (bytes : List ℕ) (m owed at : ℕ) (front : Trees) (total : Reading Trees) → at + (m + owed) ≤ limit
    → Stops stop (after at (items_at (value_at depth) m (limit - owed - at) (drop at bytes)))
    → behind front (owed_at depth limit bytes (m + owed) at) ≡ total → Stops stop total
some_stop stop depth limit bytes m owed at front total fits h so_far =
    let read = value_at depth in
    let r : limit - owed - at ≡ limit - at - owed = omega arith in
    let next = λ (us : Trees) (j : ℕ). behind us (items_at read owed (limit - at - j) (drop j (drop at bytes))) in
    let first : Stops stop (after at (items_at read m (limit - at - owed) (drop at bytes))) = subst (λ (x : ℕ). Stops stop (after at (items_at read m x (drop at bytes)))) r h in
    let all : Stops stop (owed_at depth limit bytes (m + owed) at) =
    subst (λ (x : Reading Trees). Stops stop (after at x)) (sym (split read m owed (limit - at) (drop at bytes))) (Stops-chained stop at (items_at read m (limit - at - owed) (drop at bytes)) next first) in
    subst (λ (x : Reading Trees). Stops stop x) so_far (Stops-behind stop (joined front) (owed_at depth limit bytes (m + owed) at) all)

one_by : (at : ℕ) (r : Reading Tree) → after at (reading_then r (λ (t : Tree) (k : ℕ). whole (one t no_more) 0)) ≡ map_reading (λ (t : Tree). one t no_more) (after at r)
one_by at (whole t k) = ap (λ (x : ℕ). whole (one t no_more) (at + x)) (omega arith)
one_by at more = refl
one_by at (flawed x k) = refl

-- a value is a list of one
items_one : (read : ℕ → List ℕ → Reading Tree) (room at : ℕ) (bytes : List ℕ) → after at (items_at read 1 room bytes) ≡ map_reading (λ (t : Tree). one t no_more) (after at (read room bytes))
unfolding items_at
items_one read room at bytes =
    let e : room - 0 ≡ room = omega arith in
    ap (λ (x : ℕ). after at (reading_then (read x bytes) (λ (t : Tree) (k : ℕ). whole (one t no_more) 0))) e ∙ one_by at (read room bytes)

pub one_whole : (read : ℕ → List ℕ → Reading Tree) (room at : ℕ) (bytes : List ℕ) (t : Tree) (end : ℕ) → after at (read room bytes) ≡ whole t end → after at (items_at read 1 room bytes) ≡ whole (one t no_more) end
one_whole read room at bytes t end e = items_one read room at bytes ∙ ap (λ (r : Reading Tree). map_reading (λ (t : Tree). one t no_more) r) e

pub one_stops : (stop : Stop) (read : ℕ → List ℕ → Reading Tree) (room at : ℕ) (bytes : List ℕ) → Stops stop (after at (read room bytes)) → Stops stop (after at (items_at read 1 room bytes))
one_stops stop read room at bytes h = subst (λ (r : Reading Trees). Stops stop r) (sym (items_one read room at bytes)) (Stops-behind stop (λ (t : Tree). one t no_more) (after at (read room bytes)) h)

-- all were read
pub all_read : (depth limit : ℕ) (bytes : List ℕ) (at : ℕ) (front : Trees) (total : Reading Trees) → behind front (owed_at depth limit bytes 0 at) ≡ total → total ≡ whole front at
unfolding items_at
all_read depth limit bytes at front total so_far =
    sym so_far ∙ ap (λ (ts : Trees). whole ts (at + 0)) (joined-none front) ∙ ap (λ (x : ℕ). whole front x) (omega arith)

-- nothing was read yet
pub none_read : (r : Reading Trees) → behind no_more r ≡ r
none_read r = behind-none r

-- where a value ends
pub ends_within : (depth limit at : ℕ) (bytes : List ℕ) (t : Tree) (end : ℕ) → at < limit → at ≤ length bytes → after at (value_at depth (limit - at) (drop at bytes)) ≡ whole t end → (end ≤ length bytes) × (end ≤ limit)
ends_within depth limit at bytes t end h l e =
    let a = after-is_whole at (value_at depth (limit - at) (drop at bytes)) t end e in
    let w = sound depth (limit - at) (drop at bytes) t a.0 (omega arith) a.1 in
    let p = w.within in
    let q = w.fits in
    let long = length-drop at bytes in
    let end_is : end ≡ at + a.0 = a.2 in
    (omega arith, omega arith)

-- where values end
pub items_end_within : (depth limit n at : ℕ) (bytes : List ℕ) (ts : Trees) (end : ℕ) → at + n ≤ limit → at ≤ length bytes → after at (items_at (value_at depth) n (limit - at) (drop at bytes)) ≡ whole ts end → (end ≤ length bytes) × (end ≤ limit)
items_end_within depth limit n at bytes ts end h l e =
    let a = after-is_whole at (items_at (value_at depth) n (limit - at) (drop at bytes)) ts end e in
    let w = items_sound depth n (limit - at) (drop at bytes) ts a.0 (omega arith) a.1 in
    let p = w.within in
    let q = w.fits in
    let long = length-drop at bytes in
    let end_is : end ≡ at + a.0 = a.2 in
    (omega arith, omega arith)

by_tests : (a b : Bool) (n head : ℕ) (next : ℕ → ℕ → Reading Tree) → cond a (flawed too_long 0) (cond b more (after head (next n head))) ≡ reading_then (cond a (flawed too_long 0) (cond b more (whole n head))) next
by_tests true b n head next = refl
by_tests false true n head next = refl
by_tests false false n head next = refl

-- a list or map is its length and what is behind it
many_by : (inside : ℕ → ℕ → List ℕ → Reading Trees) (m : Many) (each : ℕ) (s : Size) (room : ℕ) (rest : List ℕ) → values m (number_in s rest) ≡ each * number_in s rest
    → many_at inside m s room rest ≡ reading_then (head_at each s room rest) (λ (n k : ℕ). map_reading (many_value m) (inside (values m n) (room - k) (drop (width s) rest)))
many_by inside m each s room rest e =
    ap (λ (x : ℕ). cond (ltb room (1 + width s + x)) (flawed too_long 0) (cond (ltb (length rest) (width s)) more
    (after (1 + width s) (map_reading (many_value m) (inside (values m (number_in s rest)) (room - (1 + width s)) (drop (width s) rest)))))) e
    ∙ by_tests (ltb room (1 + width s + each * number_in s rest)) (ltb (length rest) (width s)) (number_in s rest) (1 + width s)
    (λ (n k : ℕ). map_reading (many_value m) (inside (values m n) (room - k) (drop (width s) rest)))

Stops-head : (stop : Stop) (at : ℕ) (r : Reading ℕ) (next : ℕ → ℕ → Reading Tree) → Stops stop (after at r) → Stops stop (after at (reading_then r next))
Stops-head stops.NoMemory at r next h = tt
Stops-head stops.NeedsMore at (whole ts k) next h = cc
Stops-head stops.NeedsMore at more next h = refl
Stops-head stops.NeedsMore at (flawed x k) next h = cc
Stops-head (stops.Flawed fault place) at (whole ts k) next h = cc
Stops-head (stops.Flawed fault place) at more next h = cc
Stops-head (stops.Flawed fault place) at (flawed x k) next h = cc

-- it stops where its length stops
pub head_stops : (stop : Stop) (inside : ℕ → ℕ → List ℕ → Reading Trees) (m : Many) (each : ℕ) (s : Size) (room at : ℕ) (rest : List ℕ) → values m (number_in s rest) ≡ each * number_in s rest
    → Stops stop (after at (head_at each s room rest)) → Stops stop (after at (many_at inside m s room rest))
head_stops stop inside m each s room at rest e h =
    subst (λ (r : Reading Tree). Stops stop (after at r)) (sym (many_by inside m each s room rest e))
    (Stops-head stop at (head_at each s room rest) (λ (n k : ℕ). map_reading (many_value m) (inside (values m n) (room - k) (drop (width s) rest))) h)

length_by : (a b : Bool) (n head m k : ℕ) → cond a (flawed too_long 0) (cond b more (whole m head)) ≡ whole n k → k ≡ head
length_by true b n head m k e = cc
length_by false true n head m k e = cc
length_by false false n head m k e = cc

head_length : (each : ℕ) (s : Size) (room : ℕ) (rest : List ℕ) (n k : ℕ) → head_at each s room rest ≡ whole n k → k ≡ 1 + width s
head_length each s room rest n k e = length_by (ltb room (1 + width s + each * number_in s rest)) (ltb (length rest) (width s)) n (1 + width s) (number_in s rest) k e

-- behind its length it is its values
pub head_then : (inside : ℕ → ℕ → List ℕ → Reading Trees) (m : Many) (each : ℕ) (s : Size) (limit at : ℕ) (bytes : List ℕ) (n start : ℕ)
    → values m (number_in s (drop (at + 1) bytes)) ≡ each * number_in s (drop (at + 1) bytes)
    → after at (head_at each s (limit - at) (drop (at + 1) bytes)) ≡ whole n start
    → after at (many_at inside m s (limit - at) (drop (at + 1) bytes)) ≡ map_reading (many_value m) (after start (inside (values m n) (limit - start) (drop start bytes)))
head_then inside m each s limit at bytes n start e h =
    let rest = drop (at + 1) bytes in
    let a = after-is_whole at (head_at each s (limit - at) rest) n start h in
    let k = a.0 in
    let next = λ (n k : ℕ). map_reading (many_value m) (inside (values m n) (limit - at - k) (drop (width s) rest)) in
    let k_is : k ≡ 1 + width s = head_length each s (limit - at) rest n k a.1 in
    let start_is : start ≡ at + k = a.2 in
    let room : limit - at - k ≡ limit - start = omega arith in
    let place : at + 1 + width s ≡ start = omega arith in
    let behind_is : drop (width s) rest ≡ drop start bytes = drop-drop (width s) (at + 1) bytes ∙ ap (λ (x : ℕ). drop x bytes) place in
    let body = inside (values m n) (limit - start) (drop start bytes) in
    ap (λ (r : Reading Tree). after at r) (many_by inside m each s (limit - at) rest e ∙ ap (λ (r : Reading ℕ). reading_then r next) a.1)
    ∙ after-after at k (next n k)
    ∙ ap (λ (x : ℕ). after x (next n k)) (sym start_is)
    ∙ ap (λ (x : ℕ). after start (map_reading (many_value m) (inside (values m n) x (drop (width s) rest)))) room
    ∙ ap (λ (l : List ℕ). after start (map_reading (many_value m) (inside (values m n) (limit - start) l))) behind_is
    ∙ sym (mapped-after (many_value m) start body)

-- the values behind a length stop
pub body_stops : (stop : Stop) (m : Many) (total : Reading Tree) (r : Reading Trees) → total ≡ map_reading (many_value m) r → Stops stop r → Stops stop total
body_stops stop m total r e h = subst (λ (x : Reading Tree). Stops stop x) (sym e) (Stops-behind stop (many_value m) r h)

pub body_whole : (m : Many) (total : Reading Tree) (r : Reading Trees) (ts : Trees) (end : ℕ) → total ≡ map_reading (many_value m) r → r ≡ whole ts end → total ≡ whole (many_value m ts) end
body_whole m total r ts end e h = e ∙ ap (λ (x : Reading Trees). map_reading (many_value m) x) h

-- the value at a place, by its first byte
abbrev inside_of : ℕ → Inside
inside_of zero = none
inside_of (suc depth) = some (items_at (value_at depth))

value_with : (depth room : ℕ) (bytes : List ℕ) → value_at depth room bytes ≡ read_with (inside_of depth) room bytes
unfolding value_at
value_with zero room bytes = refl
value_with (suc depth) room bytes = refl

value_first : (depth room at : ℕ) (bytes : List ℕ) (f : Form) → at < length bytes → f ≡ form (get_or bytes at 0) → value_at depth room (drop at bytes) ≡ read_by (inside_of depth) f room (drop (at + 1) bytes)
value_first depth room at bytes f l e =
    value_with depth room (drop at bytes) ∙ ap (λ (x : List ℕ). read_with (inside_of depth) room x) (drop_more bytes at 0 l)
    ∙ ap (λ (g : Form). read_by (inside_of depth) g room (drop (at + 1) bytes)) (sym e)

-- at depth 0 nothing is inside
pub value_flat : (depth room at : ℕ) (bytes : List ℕ) (f : Form) → depth ≡ 0 → at < length bytes → f ≡ form (get_or bytes at 0) → value_at depth room (drop at bytes) ≡ read_by none f room (drop (at + 1) bytes)
value_flat depth room at bytes f z l e =
    ap (λ (d : ℕ). value_at d room (drop at bytes)) z ∙ value_first 0 room at bytes f l e

-- what is no list or map
abbrev pub IsPlain : Form → Type 0
IsPlain (many m s) = ⊥
IsPlain _ = Unit {0}

plain_by : (i : Inside) (f : Form) (room : ℕ) (rest : List ℕ) → IsPlain f → read_by i f room rest ≡ read_by none f room rest
plain_by i unused room rest h = refl
plain_by i (alone t) room rest h = refl
plain_by i (raw r s) room rest h = refl
plain_by i (many m s) room rest h = absurd h

-- what lies inside is one less deep
pub value_inside : (depth room at : ℕ) (bytes : List ℕ) (f : Form) → 0 < depth → at < length bytes → f ≡ form (get_or bytes at 0)
    → value_at depth room (drop at bytes) ≡ read_by (some (items_at (value_at (depth - 1)))) f room (drop (at + 1) bytes)
value_inside depth room at bytes f h l e =
    let d : depth ≡ suc (depth - 1) = omega arith in
    ap (λ (x : ℕ). value_at x room (drop at bytes)) d ∙ value_first (suc (depth - 1)) room at bytes f l e

-- a list or map, one less deep inside
pub value_many : (depth room at : ℕ) (bytes : List ℕ) (m : Many) (s : Size) → 0 < depth → at < length bytes → many m s ≡ form (get_or bytes at 0)
    → value_at depth room (drop at bytes) ≡ many_at (items_at (value_at (depth - 1))) m s room (drop (at + 1) bytes)
value_many depth room at bytes m s h l e = value_inside depth room at bytes (many m s) h l e

-- what is no list or map, or lies at depth 0
plain_at : (depth : ℕ) (f : Form) (room : ℕ) (rest : List ℕ) → (0 < depth → IsPlain f) → read_by (inside_of depth) f room rest ≡ read_by none f room rest
plain_at zero f room rest h = refl
plain_at (suc depth) f room rest h = plain_by (inside_of (suc depth)) f room rest (h (omega arith))

pub value_plain : (depth room at : ℕ) (bytes : List ℕ) (f : Form) → (0 < depth → IsPlain f) → at < length bytes → f ≡ form (get_or bytes at 0) → value_at depth room (drop at bytes) ≡ read_by none f room (drop (at + 1) bytes)
value_plain depth room at bytes f h l e = value_first depth room at bytes f l e ∙ plain_at depth f room (drop (at + 1) bytes) h

small_form : (b : ℕ) → b < 0x80 → form b ≡ alone (integer (pos b))
unfolding form
small_form b h = grind (arith, nat_tests)

-- a number of at least 0 in its first byte
pub value_small : (depth limit at : ℕ) (bytes : List ℕ) (b : ℕ) → at < length bytes → b ≡ get_or bytes at 0 → b < 0x80 → after at (value_at depth (limit - at) (drop at bytes)) ≡ whole (integer (pos b)) (at + 1)
value_small depth limit at bytes b l e h =
    ap (λ (r : Reading Tree). after at r) (value_first depth (limit - at) at bytes (alone (integer (pos b))) l (sym (small_form b h) ∙ ap form e))

-- past the end nothing has come
pub nothing_yet : (depth room at : ℕ) (bytes : List ℕ) → length bytes ≤ at → after at (value_at depth room (drop at bytes)) ≡ more
nothing_yet depth room at bytes l =
    ap (λ (x : List ℕ). after at (value_at depth room x)) (drop_all at bytes l) ∙ ap (λ (r : Reading Tree). after at r) (empty_wants depth room)

-- One value of those owed.

pub item_more : (depth limit : ℕ) (bytes : List ℕ) (owed at : ℕ) (front : Trees) (t : Tree) (end : ℕ) (total : Reading Trees) → 0 < owed → at + owed ≤ limit
    → after at (value_at depth (limit - (owed - 1) - at) (drop at bytes)) ≡ whole t end
    → behind front (owed_at depth limit bytes owed at) ≡ total → behind (joined front (one t no_more)) (owed_at depth limit bytes (owed - 1) end) ≡ total
item_more depth limit bytes owed at front t end total h l e so_far =
    let n : owed ≡ 1 + (owed - 1) = omega arith in
    some_more depth limit bytes 1 (owed - 1) at front (one t no_more) end total (omega arith)
    (one_whole (value_at depth) (limit - (owed - 1) - at) at (drop at bytes) t end e)
    (ap (λ (x : ℕ). behind front (owed_at depth limit bytes x at)) (sym n) ∙ so_far)

pub item_stop : (stop : Stop) (depth limit : ℕ) (bytes : List ℕ) (owed at : ℕ) (front : Trees) (total : Reading Trees) → 0 < owed → at + owed ≤ limit
    → Stops stop (after at (value_at depth (limit - (owed - 1) - at) (drop at bytes)))
    → behind front (owed_at depth limit bytes owed at) ≡ total → Stops stop total
item_stop stop depth limit bytes owed at front total h l e so_far =
    let n : owed ≡ 1 + (owed - 1) = omega arith in
    some_stop stop depth limit bytes 1 (owed - 1) at front total (omega arith)
    (one_stops stop (value_at depth) (limit - (owed - 1) - at) at (drop at bytes) e)
    (ap (λ (x : ℕ). behind front (owed_at depth limit bytes x at)) (sym n) ∙ so_far)

-- One pair of those owed.

pub field_more : (depth limit : ℕ) (bytes : List ℕ) (owed at : ℕ) (front ts : Trees) (end : ℕ) (total : Reading Trees) → 0 < owed → at + 2 * owed ≤ limit
    → after at (items_at (value_at depth) 2 (limit - 2 * (owed - 1) - at) (drop at bytes)) ≡ whole ts end
    → behind front (owed_at depth limit bytes (2 * owed) at) ≡ total → behind (joined front ts) (owed_at depth limit bytes (2 * (owed - 1)) end) ≡ total
field_more depth limit bytes owed at front ts end total h l e so_far =
    let n : 2 * owed ≡ 2 + 2 * (owed - 1) = omega arith in
    some_more depth limit bytes 2 (2 * (owed - 1)) at front ts end total (omega arith) e
    (ap (λ (x : ℕ). behind front (owed_at depth limit bytes x at)) (sym n) ∙ so_far)

pub field_stop : (stop : Stop) (depth limit : ℕ) (bytes : List ℕ) (owed at : ℕ) (front : Trees) (total : Reading Trees) → 0 < owed → at + 2 * owed ≤ limit
    → Stops stop (after at (items_at (value_at depth) 2 (limit - 2 * (owed - 1) - at) (drop at bytes)))
    → behind front (owed_at depth limit bytes (2 * owed) at) ≡ total → Stops stop total
field_stop stop depth limit bytes owed at front total h l e so_far =
    let n : 2 * owed ≡ 2 + 2 * (owed - 1) = omega arith in
    some_stop stop depth limit bytes 2 (2 * (owed - 1)) at front total (omega arith) e
    (ap (λ (x : ℕ). behind front (owed_at depth limit bytes x at)) (sym n) ∙ so_far)

-- A pair: its key, and then its value.

pub key_stops : (stop : Stop) (depth limit : ℕ) (bytes : List ℕ) (at : ℕ) → at + 2 ≤ limit → Stops stop (after at (value_at depth (limit - 1 - at) (drop at bytes))) → Stops stop (owed_at depth limit bytes 2 at)
key_stops stop depth limit bytes at l h = item_stop stop depth limit bytes 2 at no_more (owed_at depth limit bytes 2 at) (omega arith) l h (none_read (owed_at depth limit bytes 2 at))

key_read : (depth limit : ℕ) (bytes : List ℕ) (at : ℕ) (k : Tree) (middle : ℕ) → at + 2 ≤ limit → after at (value_at depth (limit - 1 - at) (drop at bytes)) ≡ whole k middle
    → behind (one k no_more) (owed_at depth limit bytes 1 middle) ≡ owed_at depth limit bytes 2 at
key_read depth limit bytes at k middle l h = item_more depth limit bytes 2 at no_more k middle (owed_at depth limit bytes 2 at) (omega arith) l h (none_read (owed_at depth limit bytes 2 at))

pub value_stops : (stop : Stop) (depth limit : ℕ) (bytes : List ℕ) (at : ℕ) (k : Tree) (middle : ℕ) → at + 2 ≤ limit → middle < limit → after at (value_at depth (limit - 1 - at) (drop at bytes)) ≡ whole k middle
    → Stops stop (after middle (value_at depth (limit - middle) (drop middle bytes))) → Stops stop (owed_at depth limit bytes 2 at)
value_stops stop depth limit bytes at k middle l m h e =
    let r : limit - middle ≡ limit - (1 - 1) - middle = omega arith in
    item_stop stop depth limit bytes 1 middle (one k no_more) (owed_at depth limit bytes 2 at) (omega arith) (omega arith)
    (subst (λ (x : ℕ). Stops stop (after middle (value_at depth x (drop middle bytes)))) r e) (key_read depth limit bytes at k middle l h)

pub pair_read : (depth limit : ℕ) (bytes : List ℕ) (at : ℕ) (k : Tree) (middle : ℕ) (v : Tree) (end : ℕ) → at + 2 ≤ limit → middle < limit → after at (value_at depth (limit - 1 - at) (drop at bytes)) ≡ whole k middle
    → after middle (value_at depth (limit - middle) (drop middle bytes)) ≡ whole v end → owed_at depth limit bytes 2 at ≡ whole (one k (one v no_more)) end
pair_read depth limit bytes at k middle v end l m h e =
    let r : limit - (1 - 1) - middle ≡ limit - middle = omega arith in
    all_read depth limit bytes end (one k (one v no_more)) (owed_at depth limit bytes 2 at)
    (item_more depth limit bytes 1 middle (one k no_more) v end (owed_at depth limit bytes 2 at) (omega arith) (omega arith)
    (ap (λ (x : ℕ). after middle (value_at depth x (drop middle bytes))) r ∙ e) (key_read depth limit bytes at k middle l h))

-- A first byte of no list or map begins a plain value.
pub plain_seen : (first : FirstByte) → ((s : Length) → first ≡ begins.List s → ⊥) → ((s : Length) → first ≡ begins.Map s → ⊥) → IsPlain (form_seen first)
plain_seen begins.Unused f g = tt
plain_seen begins.Nil f g = tt
plain_seen (begins.Truth b) f g = tt
plain_seen (begins.Small n) f g = tt
plain_seen (begins.Text l) f g = tt
plain_seen (begins.Bin l) f g = tt
plain_seen (begins.Ext l) f g = tt
plain_seen (begins.Unsigned w) f g = tt
plain_seen (begins.Signed w) f g = tt
plain_seen (begins.Float w) f g = tt
plain_seen (begins.List l) f g = absurd (f l refl)
plain_seen (begins.Map l) f g = absurd (g l refl)

-- The value at the front is the value at place 0.
pub at_start : (depth most : ℕ) (bytes : List ℕ) → after 0 (value_at depth (most - 0) (drop 0 bytes)) ≡ value_at depth most bytes
at_start depth most bytes =
    let r : most - 0 ≡ most = omega arith in
    after-zero (value_at depth (most - 0) bytes) ∙ ap (λ (x : ℕ). value_at depth x bytes) r
