-- A line begins with the pieces of its front, up to the last cluster of the front, which what follows may join.
use Rattle.std.proofs.Common.{◌≡◌, ◌≢◌, ℕ, zero, suc, min, ◌+◌, ◌-◌, ◌<◌, ◌≤◌, Bool, true, false, cond, List, [], ◌∷◌, ◌++◌, length, take, drop, map, encode_utf8_all, chars, refl, sym, ap, ap₂, subst, ◌∙◌, arith, append_assoc, append-nil, length-append, ⊎_elim}
use Rattle.std.proofs.lemmas.Bool.{true≢false, cases_lt}
use Rattle.std.proofs.lemmas.List.{take-append-drop, take-append-le, take-take, take_all, drop_all, length-drop, length-take, length-map}
use Rattle.std.proofs.lemmas.List.Concat.{flat_map-append}
use Rattle.std.proofs.lemmas.Str.{chars-append, utf8_valid_len-IsUtf8, utf8_valid_len_le, is_utf8-from_IsUtf8}
use Rattle.std.specs.List.{flat_map}
use Rattle.std.specs.Str.{IsUtf8, is_utf8}
use Rattle.std.specs.Str.Lossy.{valid_len_up_to, utf8_valid_len}
use Rattle.unicode_segmentation.specs.Grapheme.{graphemes, is_grapheme_break}
use Rattle.unicode_segmentation.specs.Segments.{cut, segments, prepend}
use Rattle.nv_text.specs.declared.piece.Piece.{Piece}
use Rattle.nv_text.specs.Pieces.{Part, cluster_parts, text_parts, parts_from_escape, parts, pieces_from, pieces_of}
use Rattle.nv_text.proofs.PartLemmas.{parts_step, utf8_front}

-- ---- clusters of characters

length-prepend : (x y : List ℕ) (ps qs : List (List ℕ)) → length ps ≡ length qs → length (prepend x ps) ≡ length (prepend y qs)
length-prepend x y [] [] h = refl
length-prepend x y [] (q ∷ qs) h = absurd (omega (arith, h))
length-prepend x y (p ∷ ps) [] h = absurd (omega (arith, h))
length-prepend x y (p ∷ ps) (q ∷ qs) h = h

take-prepend : (m : ℕ) (x : List ℕ) (ps : List (List ℕ)) → take (suc m) (prepend x ps) ≡ prepend x (take (suc m) ps)
take-prepend m x [] = ap (λ (t : List (List ℕ)). x ∷ t) (take_all m [] (omega arith))
take-prepend m x (p ∷ ps) = refl

length-prepend-some : (x : List ℕ) (ps : List (List ℕ)) → 0 < length ps → length (prepend x ps) ≡ length ps
length-prepend-some x [] h = absurd (omega (arith, h))
length-prepend-some x (p ∷ ps) h = refl

cut_some : (before : List ℕ) (c : ℕ) (cs : List ℕ) → 0 < length (cut (is_grapheme_break true) before (c ∷ cs) [])
unfolding cut
cut_some before c cs = by (is_grapheme_break true (c ∷ before) (cs ++ [])) (cut (is_grapheme_break true) (c ∷ before) cs [])
  where
    by : (b : Bool) (rest : List (List ℕ)) → 0 < length (cond b ((c ∷ []) ∷ rest) (prepend (c ∷ []) rest))
    by true rest = omega arith
    by false [] = omega arith
    by false (p ∷ ps) = omega arith

-- one character more in front
one_more : (b : Bool) (n c : ℕ) (xs ys : List (List ℕ)) → ((m : ℕ) → m < length xs → take m ys ≡ take m xs)
    → 0 < length xs → n < length (cond b ((c ∷ []) ∷ xs) (prepend (c ∷ []) xs))
    → take n (cond b ((c ∷ []) ∷ ys) (prepend (c ∷ []) ys)) ≡ take n (cond b ((c ∷ []) ∷ xs) (prepend (c ∷ []) xs))
one_more b zero c xs ys more some lt = refl
one_more true (suc m) c xs ys more some lt = ap (λ t. (c ∷ []) ∷ t) (more m (omega (arith, lt)))
one_more false (suc m) c xs ys more some lt =
    take-prepend m (c ∷ []) ys
    ∙ ap (prepend (c ∷ [])) (more (suc m) (omega (arith, lt, length-prepend-some (c ∷ []) xs some)))
    ∙ sym (take-prepend m (c ∷ []) xs)

take_cut : (before cs ds : List ℕ) (n : ℕ) → n < length (cut (is_grapheme_break true) before cs [])
    → take n (cut (is_grapheme_break true) before (cs ++ ds) []) ≡ take n (cut (is_grapheme_break true) before cs [])
unfolding cut is_grapheme_break
take_cut before [] ds n lt = absurd (omega (arith, lt))
take_cut before (c ∷ []) ds zero lt = refl
take_cut before (c ∷ []) ds (suc n) lt = absurd (omega (arith, lt))
take_cut before (c ∷ (d ∷ cs)) ds n lt =
    one_more (is_grapheme_break true (c ∷ before) (d ∷ cs)) n c (cut (is_grapheme_break true) (c ∷ before) (d ∷ cs) [])
    (cut (is_grapheme_break true) (c ∷ before) (d ∷ (cs ++ ds)) []) (λ m. take_cut (c ∷ before) (d ∷ cs) ds m)
    (cut_some (c ∷ before) d cs) lt

-- ---- clusters of texts

take-map : {X Y : Type 0} (f : X → Y) (n : ℕ) (xs : List X) → take n (map f xs) ≡ map f (take n xs)
take-map f zero xs = refl
take-map f (suc n) [] = refl
take-map f (suc n) (x ∷ xs) = ap (λ t. f x ∷ t) (take-map f n xs)

take_graphemes : (a b : List ℕ) (n : ℕ) → IsUtf8 a → n < length (graphemes true a) → take n (graphemes true (a ++ b)) ≡ take n (graphemes true a)
unfolding segments
take_graphemes a b n u lt =
    let rule = is_grapheme_break true in
    let some : n < length (cut rule [] (chars a) []) = omega (arith, lt, length-map (cut rule [] (chars a) []) encode_utf8_all) in
    ap (λ cs. take n (map encode_utf8_all (cut rule [] cs []))) (chars-append a b u)
    ∙ take-map encode_utf8_all n (cut rule [] (chars a ++ chars b) [])
    ∙ ap (map encode_utf8_all) (take_cut [] (chars a) (chars b) n some)
    ∙ sym (take-map encode_utf8_all n (cut rule [] (chars a) []))

few_parts-by : (b : Bool) (x y z : Part) → length (cond b (x ∷ y ∷ []) (z ∷ [])) ≤ 2
few_parts-by true x y z = omega arith
few_parts-by false x y z = omega arith

few_parts : (cluster : List ℕ) → length (cluster_parts cluster) ≤ 2
few_parts cluster = few_parts-by _ _ _ _

last_parts : (clusters : List (List ℕ)) → length clusters ≤ 1 → length (flat_map cluster_parts clusters) ≤ 2
last_parts [] h = omega arith
last_parts (c ∷ []) h = omega (arith, length-append (cluster_parts c) [], few_parts c)
last_parts (c ∷ (d ∷ cs)) h = absurd (omega (arith, h))

no_parts_of : (g : List (List ℕ)) → length g ≤ 0 → length (flat_map cluster_parts g) ≡ 0
no_parts_of [] h = refl
no_parts_of (c ∷ cs) h = absurd (omega (arith, h))

-- a text and the same with more behind it begin with the same parts
begins : (a b : List ℕ) (k : ℕ) → IsUtf8 a → k + 2 ≤ length (text_parts a)
    → (front : List Part) × (k ≤ length front)
    × (x : List Part) × (text_parts a ≡ front ++ x) × (y : List Part) × (text_parts (a ++ b) ≡ front ++ y)
begins a b k u enough =
    let g = graphemes true a in
    let h = graphemes true (a ++ b) in
    let m = length g - 1 in
    let front = flat_map cluster_parts (take m g) in
    let x = flat_map cluster_parts (drop m g) in
    let y = flat_map cluster_parts (drop m h) in
    let whole : text_parts a ≡ front ++ x =
    ap (flat_map cluster_parts) (sym (take-append-drop m g)) ∙ flat_map-append cluster_parts (take m g) (drop m g) in
    let last : length x ≤ 2 = last_parts (drop m g) (omega (arith, length-drop m g)) in
    let some : m < length g = ⊎_elim (λ (lt : 0 < length g). omega (arith, lt))
    (λ (none : length g ≤ 0). absurd (omega (arith, enough, no_parts_of g none))) (cases_lt 0 (length g)) in
    let same : take m h ≡ take m g = take_graphemes a b m u some in
    let longer : text_parts (a ++ b) ≡ front ++ y =
    ap (flat_map cluster_parts) (sym (take-append-drop m h)) ∙ flat_map-append cluster_parts (take m h) (drop m h)
    ∙ ap (λ t. flat_map cluster_parts t ++ y) same in
    (front, omega (arith, enough, ap length whole, length-append front x, last), x, whole, y, longer)

-- ---- the longest front that is UTF-8 is no shorter than another

longest-by : (bs : List ℕ) (k n : ℕ) (b : Bool) → is_utf8 (take (suc n) bs) ≡ b → is_utf8 (take k bs) ≡ true → k ≤ suc n
    → (k ≤ n → k ≤ valid_len_up_to bs n) → k ≤ cond b (suc n) (valid_len_up_to bs n)
longest-by bs k n true e u le more = le
longest-by bs k n false e u le more = more (omega (arith, le, other))
  where
    other : k ≢ suc n
    other same = true≢false (sym u ∙ ap (λ j. is_utf8 (take j bs)) same ∙ e)

longest : (bs : List ℕ) (k n : ℕ) → is_utf8 (take k bs) ≡ true → k ≤ n → k ≤ valid_len_up_to bs n
longest bs k zero u le = le
longest bs k (suc n) u le = longest-by bs k n (is_utf8 (take (suc n) bs)) refl u le (longest bs k n u)

-- ---- pieces

take-pieces_from : (n from : ℕ) (xs : List Part) → take n (pieces_from from xs) ≡ pieces_from from (take n xs)
take-pieces_from zero from xs = refl
take-pieces_from (suc n) from [] = refl
take-pieces_from (suc n) from (x ∷ xs) =
    ap (λ (t : List Piece). record { from = from; to = from + length x.0; kind = x.1 } ∷ t) (take-pieces_from n (from + length x.0) xs)

length-pieces_from : (from : ℕ) (xs : List Part) → length (pieces_from from xs) ≡ length xs
length-pieces_from from [] = refl
length-pieces_from from (x ∷ xs) = ap suc (length-pieces_from (from + length x.0) xs)

parts_of_text : (a : List ℕ) → IsUtf8 a → parts a ≡ text_parts a
parts_of_text a u =
    let all : utf8_valid_len a ≡ length a = utf8_valid_len-IsUtf8 a u in
    parts_step a
    ∙ ap (λ n. text_parts (take n a) ++ parts_from_escape parts (drop n a)) all
    ∙ ap₂ (λ (f r : List ℕ). text_parts f ++ parts_from_escape parts r) (take_all (length a) a (omega arith)) (drop_all (length a) a (omega arith))
    ∙ append-nil (text_parts a)

first_pieces_same : (a line : List ℕ) (most : ℕ) (front x y rest : List Part) → most ≤ length front → parts a ≡ front ++ x
    → parts line ≡ (front ++ y) ++ rest → take most (pieces_of a) ≡ take most (pieces_of line)
first_pieces_same a line most front x y rest le whole longer =
    take-pieces_from most 0 (parts a)
    ∙ ap (λ ps. pieces_from 0 (take most ps)) whole
    ∙ ap (pieces_from 0) (take-append-le most front x le)
    ∙ sym (take-pieces_from most 0 (parts line) ∙ ap (λ ps. pieces_from 0 (take most ps)) (longer ∙ append_assoc front y rest)
    ∙ ap (pieces_from 0) (take-append-le most front (y ++ rest) le))

valid_from : (bs : List ℕ) (k : ℕ) → IsUtf8 (take k bs) → k ≤ length bs → k ≤ utf8_valid_len bs
unfolding utf8_valid_len
valid_from bs k u le = longest bs k (length bs) (is_utf8-from_IsUtf8 (take k bs) u) le

pub front_first : (line start front : List ℕ) (window most : ℕ) (ps items : List Piece) → start ≡ take window line
    → front ≡ take (utf8_valid_len start) start → ps ≡ pieces_of front → most + 2 ≤ length ps → items ≡ take most ps
    → items ≡ take most (pieces_of line)
front_first line start front window most ps items start_is front_is ps_is enough items_is =
    let v = utf8_valid_len start in
    let V = utf8_valid_len line in
    let u : IsUtf8 front = subst IsUtf8 (sym front_is) (utf8_front start) in
    let short : v ≤ length start = utf8_valid_len_le start in
    let small : v ≤ min window (length line) = omega (arith, short, ap length start_is, length-take window line) in
    let at : front ≡ take v line = front_is ∙ ap (take v) start_is ∙ take-take v window line (omega (arith, small)) in
    let reach : v ≤ V = valid_from line v (subst IsUtf8 at u) (omega (arith, small)) in
    let b = drop v (take V line) in
    let joined : take V line ≡ front ++ b =
    sym (take-append-drop v (take V line)) ∙ ap (λ t. t ++ b) (take-take v V line reach ∙ sym at) in
    let own : parts front ≡ text_parts front = parts_of_text front u in
    let count : length ps ≡ length (text_parts front) = ap length ps_is ∙ length-pieces_from 0 (parts front) ∙ ap length own in
    let start_same = begins front b most u (omega (arith, enough, count)) in
    let f = start_same.0 in
    let x = start_same.2 in
    let y = start_same.4 in
    let rest = parts_from_escape parts (drop V line) in
    items_is ∙ ap (take most) ps_is
    ∙ first_pieces_same front line most f x y rest start_same.1 (own ∙ start_same.3)
    (parts_step line ∙ ap (λ t. text_parts t ++ rest) joined ∙ ap (λ t. t ++ rest) start_same.5)
