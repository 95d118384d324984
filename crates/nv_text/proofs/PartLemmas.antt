-- Lemmas on the parts of a line.
use Rattle.std.proofs.Common.{◌≡◌, ℕ, zero, suc, ◌+◌, ◌*◌, ◌<◌, ◌≤◌, Bool, true, false, List, [], ◌∷◌, ◌++◌, length, take, drop, cond, refl, sym, ap, ap₂, ◌∙◌, subst, arith, append_assoc, append-nil, length-append, zero-add, get_or, slice_index}
use Rattle.std.proofs.Math.Seq.{drop-cons}
use Rattle.std.proofs.lemmas.List.{take-append-drop, length-drop, drop_all}
use Rattle.std.proofs.lemmas.Str.{IsUtf8-from_is_utf8, IsUtf8-nil}
use Rattle.std.specs.Cmp.Lexicographic.{same_text}
use Rattle.std.proofs.lemmas.List.Elements.{All-take, All-from_recursion}
use Rattle.std.specs.List.{All, AllByRecursion, concat, flat_map}
use Rattle.std.specs.Str.{IsUtf8, is_utf8, bytes_eq}
use Rattle.std.specs.Str.Lossy.{valid_len_up_to, utf8_valid_len}
use Rattle.unicode_segmentation.specs.Grapheme.{graphemes, is_grapheme_break}
use Rattle.unicode_segmentation.proofs.SegmentsLemmas.{AllPieces, concat-segments, segments_nonempty}
use Rattle.nv_text.specs.declared.piece.Kind.TheVariants.{Tab, Control, Escape, Cluster}
use Rattle.nv_text.specs.declared.piece.Piece.{Piece}
use Rattle.nv_text.specs.Pieces.{Part, is_control, is_late_control, cluster_kind, cluster_parts, text_parts, parts_from_escape, parts_within, parts, pieces_from, pieces_of, kind_cells, parts_cells, strwidth_of}
use Rattle.nv_text.specs.Laws.{Cover}

-- the bytes that parts are made of
abbrev pub spelled : List Part → List ℕ
spelled [] = []
spelled (part ∷ rest) = part.0 ++ spelled rest

pub spelled-append : (xs ys : List Part) → spelled (xs ++ ys) ≡ spelled xs ++ spelled ys
spelled-append [] ys = refl
spelled-append (x ∷ xs) ys = ap (λ t. x.0 ++ t) (spelled-append xs ys) ∙ sym (append_assoc x.0 (spelled xs) (spelled ys))

pub pieces_from-append : (from : ℕ) (xs ys : List Part) → pieces_from from (xs ++ ys) ≡ pieces_from from xs ++ pieces_from (from + length (spelled xs)) ys
pieces_from-append from [] ys = ap (λ n. pieces_from n ys) (omega arith)
pieces_from-append from (x ∷ xs) ys =
    let seam : from + length x.0 + length (spelled xs) ≡ from + length (x.0 ++ spelled xs) = omega (arith, length-append x.0 (spelled xs)) in
    ap (λ (t : List Piece). record { from = from; to = from + length x.0; kind = x.1 } ∷ t)
    (pieces_from-append (from + length x.0) xs ys ∙ ap (λ n. pieces_from (from + length x.0) xs ++ pieces_from n ys) seam)

pub parts_cells-append : (xs ys : List Part) → parts_cells (xs ++ ys) ≡ parts_cells xs + parts_cells ys
parts_cells-append [] ys = sym (zero-add (parts_cells ys))
parts_cells-append (x ∷ xs) ys = omega (arith, parts_cells-append xs ys)

-- ---- one cluster

bytes_eq-same : (xs ys : List ℕ) → bytes_eq xs ys ≡ true → xs ≡ ys
bytes_eq-same xs ys h = same_text xs ys (sym h)

spelled-choice : (b : Bool) (cluster : List ℕ) → (b ≡ true → cluster ≡ 13 ∷ 10 ∷ [])
    → spelled (cond b ((13 ∷ [], Control 13) ∷ (10 ∷ [], Control 10) ∷ []) ((cluster, cluster_kind cluster) ∷ [])) ≡ cluster
spelled-choice true cluster h = sym (h refl)
spelled-choice false cluster h = append-nil cluster

pub spelled-cluster : (cluster : List ℕ) → spelled (cluster_parts cluster) ≡ cluster
spelled-cluster cluster = spelled-choice (bytes_eq cluster (13 ∷ 10 ∷ [])) cluster (bytes_eq-same cluster (13 ∷ 10 ∷ []))

pub spelled-clusters : (clusters : List (List ℕ)) → spelled (flat_map cluster_parts clusters) ≡ concat clusters
spelled-clusters [] = refl
spelled-clusters (c ∷ cs) = spelled-append (cluster_parts c) (flat_map cluster_parts cs) ∙ ap₂ ◌++◌ (spelled-cluster c) (spelled-clusters cs)

pub spelled-text : (text : List ℕ) → IsUtf8 text → spelled (text_parts text) ≡ text
spelled-text text u = spelled-clusters (graphemes true text) ∙ concat-segments (is_grapheme_break true) text u

cells_cluster : (b : Bool) → kind_cells (Cluster (cond b 2 1)) ≤ 2
cells_cluster true = omega arith
cells_cluster false = omega arith

cells_control : (b : Bool) (n : ℕ) → kind_cells (cond b Tab (Control n)) ≡ 1
cells_control true n = refl
cells_control false n = refl

cells_kind : (control late tab wide : Bool) (n m : ℕ)
    → kind_cells (cond control (cond tab Tab (Control n)) (cond late (Escape m) (Cluster (cond wide 2 1)))) ≤ 4
cells_kind true late tab wide n m = omega (arith, cells_control tab n)
cells_kind false true tab wide n m = omega arith
cells_kind false false tab wide n m = omega (arith, cells_cluster wide)

cells-choice : (b : Bool) (cluster : List ℕ) → (b ≡ true → cluster ≡ 13 ∷ 10 ∷ []) → 0 < length cluster → kind_cells (cluster_kind cluster) ≤ 4
    → parts_cells (cond b ((13 ∷ [], Control 13) ∷ (10 ∷ [], Control 10) ∷ []) ((cluster, cluster_kind cluster) ∷ [])) ≤ 4 * length cluster
cells-choice true cluster h some le = omega arith
cells-choice false cluster h some le = omega arith

pub cluster_cells-le : (cluster : List ℕ) → 0 < length cluster → parts_cells (cluster_parts cluster) ≤ 4 * length cluster
cluster_cells-le cluster some =
    cells-choice (bytes_eq cluster (13 ∷ 10 ∷ [])) cluster (bytes_eq-same cluster (13 ∷ 10 ∷ [])) some
    (cells_kind (is_control cluster) (is_late_control cluster) _ _ (slice_index cluster 0) (slice_index cluster 1))

-- ---- the clusters of a text

clusters_cells-le : (clusters : List (List ℕ)) → AllPieces (λ p. 0 < length p) clusters
    → parts_cells (flat_map cluster_parts clusters) ≤ 4 * length (concat clusters)
clusters_cells-le [] h = omega arith
clusters_cells-le (c ∷ cs) h =
    omega (arith, parts_cells-append (cluster_parts c) (flat_map cluster_parts cs), cluster_cells-le c h.0, clusters_cells-le cs h.1, length-append c (concat cs))

pub text_cells-le : (text : List ℕ) → IsUtf8 text → parts_cells (text_parts text) ≤ 4 * length text
text_cells-le text u =
    subst (λ t. parts_cells (text_parts text) ≤ 4 * length t) (concat-segments (is_grapheme_break true) text u)
    (clusters_cells-le (graphemes true text) (segments_nonempty (is_grapheme_break true) text))

-- ---- the longest front that is UTF-8

valid_choice : (bs : List ℕ) (k n : ℕ) (b : Bool) → (b ≡ true → IsUtf8 (take (suc k) bs)) → IsUtf8 (take n bs) → IsUtf8 (take (cond b (suc k) n) bs)
valid_choice bs k n true h g = h refl
valid_choice bs k n false h g = g

valid_front : (bs : List ℕ) (k : ℕ) → IsUtf8 (take (valid_len_up_to bs k) bs)
valid_front bs zero = IsUtf8-nil
valid_front bs (suc k) =
    valid_choice bs k (valid_len_up_to bs k) (is_utf8 (take (suc k) bs)) (IsUtf8-from_is_utf8 (take (suc k) bs)) (valid_front bs k)

pub utf8_front : (bs : List ℕ) → IsUtf8 (take (utf8_valid_len bs) bs)
unfolding utf8_valid_len
utf8_front bs = valid_front bs (length bs)

-- ---- the parts of a line, step by step

parts_from_escape-same : (f g : List ℕ → List Part) (bs : List ℕ) → ((xs : List ℕ) → length xs < length bs → f xs ≡ g xs) → parts_from_escape f bs ≡ parts_from_escape g bs
parts_from_escape-same f g [] h = refl
parts_from_escape-same f g (b ∷ bs) h = ap (λ t. (b ∷ [], Escape b) ∷ t) (h bs (omega arith))

-- more steps than there are bytes change nothing
parts_within-same : (k j : ℕ) (bs : List ℕ) → length bs < k → length bs < j → parts_within k bs ≡ parts_within j bs
parts_within-same zero j bs lk lj = absurd (omega arith)
parts_within-same (suc k) zero bs lk lj = absurd (omega arith)
parts_within-same (suc k) (suc j) bs lk lj =
    let n = utf8_valid_len bs in
    ap (λ t. text_parts (take n bs) ++ t)
    (parts_from_escape-same (parts_within k) (parts_within j) (drop n bs)
    (λ xs lt. parts_within-same k j xs (omega (arith, length-drop n bs)) (omega (arith, length-drop n bs))))

pub parts_step : (bs : List ℕ) → parts bs ≡ text_parts (take (utf8_valid_len bs) bs) ++ parts_from_escape parts (drop (utf8_valid_len bs) bs)
unfolding parts
parts_step bs =
    let n = utf8_valid_len bs in
    ap (λ t. text_parts (take n bs) ++ t)
    (parts_from_escape-same (parts_within (length bs)) parts (drop n bs)
    (λ xs lt. parts_within-same (length bs) (suc (length xs)) xs (omega (arith, length-drop n bs)) (omega arith)))

spelled-escape : (f : List ℕ → List Part) (bs : List ℕ) → ((xs : List ℕ) → length xs < length bs → spelled (f xs) ≡ xs) → spelled (parts_from_escape f bs) ≡ bs
spelled-escape f [] h = refl
spelled-escape f (b ∷ bs) h = ap (λ t. b ∷ t) (h bs (omega arith))

spelled-within : (k : ℕ) (bs : List ℕ) → length bs < k → spelled (parts_within k bs) ≡ bs
spelled-within zero bs lt = absurd (omega arith)
spelled-within (suc k) bs lt =
    let n = utf8_valid_len bs in
    spelled-append (text_parts (take n bs)) (parts_from_escape (parts_within k) (drop n bs))
    ∙ ap₂ ◌++◌ (spelled-text (take n bs) (utf8_front bs))
    (spelled-escape (parts_within k) (drop n bs) (λ xs le. spelled-within k xs (omega (arith, length-drop n bs))))
    ∙ take-append-drop n bs

pub spelled-parts : (bs : List ℕ) → spelled (parts bs) ≡ bs
unfolding parts
spelled-parts bs = spelled-within (suc (length bs)) bs (omega arith)

escape_cells-le : (f : List ℕ → List Part) (bs : List ℕ) → ((xs : List ℕ) → length xs < length bs → parts_cells (f xs) ≤ 4 * length xs)
    → parts_cells (parts_from_escape f bs) ≤ 4 * length bs
escape_cells-le f [] h = omega arith
escape_cells-le f (b ∷ bs) h = omega (arith, h bs (omega arith))

cells_within-le : (k : ℕ) (bs : List ℕ) → length bs < k → parts_cells (parts_within k bs) ≤ 4 * length bs
cells_within-le zero bs lt = absurd (omega arith)
cells_within-le (suc k) bs lt =
    let n = utf8_valid_len bs in
    omega (
      arith,
      parts_cells-append (text_parts (take n bs)) (parts_from_escape (parts_within k) (drop n bs)),
      text_cells-le (take n bs) (utf8_front bs),
      escape_cells-le (parts_within k) (drop n bs) (λ xs le. cells_within-le k xs (omega (arith, length-drop n bs))),
      ap length (take-append-drop n bs),
      length-append (take n bs) (drop n bs),
    )

-- the cells of a text are no more than four for each byte
pub cells-le : (bs : List ℕ) → strwidth_of bs ≤ 4 * length bs
unfolding parts
cells-le bs = cells_within-le (suc (length bs)) bs (omega arith)

-- ---- no part is empty, so the pieces cover the line

abbrev Some : List Part → Type 0
Some [] = Unit {0}
Some (part ∷ rest) = (0 < length part.0) × Some rest

Some-append : (xs ys : List Part) → Some xs → Some ys → Some (xs ++ ys)
Some-append [] ys h g = g
Some-append (x ∷ xs) ys h g = (h.0, Some-append xs ys h.1 g)

Some-choice : (b : Bool) (cluster : List ℕ) → 0 < length cluster
    → Some (cond b ((13 ∷ [], Control 13) ∷ (10 ∷ [], Control 10) ∷ []) ((cluster, cluster_kind cluster) ∷ []))
Some-choice true cluster h = (omega arith, (omega arith, tt))
Some-choice false cluster h = (h, tt)

Some-clusters : (clusters : List (List ℕ)) → AllPieces (λ p. 0 < length p) clusters → Some (flat_map cluster_parts clusters)
Some-clusters [] h = tt
Some-clusters (c ∷ cs) h = Some-append (cluster_parts c) (flat_map cluster_parts cs) (Some-choice (bytes_eq c (13 ∷ 10 ∷ [])) c h.0) (Some-clusters cs h.1)

Some-text : (text : List ℕ) → Some (text_parts text)
Some-text text = Some-clusters (graphemes true text) (segments_nonempty (is_grapheme_break true) text)

Some-escape : (f : List ℕ → List Part) (bs : List ℕ) → ((xs : List ℕ) → Some (f xs)) → Some (parts_from_escape f bs)
Some-escape f [] h = tt
Some-escape f (b ∷ bs) h = (omega arith, h bs)

Some-within : (k : ℕ) (bs : List ℕ) → Some (parts_within k bs)
Some-within zero bs = tt
Some-within (suc k) bs =
    let n = utf8_valid_len bs in
    Some-append (text_parts (take n bs)) (parts_from_escape (parts_within k) (drop n bs)) (Some-text (take n bs)) (Some-escape (parts_within k) (drop n bs) (Some-within k))

Cover-pieces_from : (from : ℕ) (xs : List Part) → Some xs → Cover from (pieces_from from xs) (from + length (spelled xs))
Cover-pieces_from from [] h = omega arith
Cover-pieces_from from (x ∷ xs) h =
    let seam : from + length x.0 + length (spelled xs) ≡ from + length (x.0 ++ spelled xs) = omega (arith, length-append x.0 (spelled xs)) in
    (refl, omega (arith, h.0), subst (λ n. Cover (from + length x.0) (pieces_from (from + length x.0) xs) n) seam (Cover-pieces_from (from + length x.0) xs h.1))

Some-parts : (line : List ℕ) → Some (parts line)
unfolding parts
Some-parts line = Some-within (suc (length line)) line

pub lines_are_covered : (line : List ℕ) → Cover 0 (pieces_of line) (length line)
lines_are_covered line =
    subst (λ n. Cover 0 (pieces_of line) n) (zero-add (length (spelled (parts line))) ∙ ap length (spelled-parts line))
    (Cover-pieces_from 0 (parts line) (Some-parts line))

-- ---- a text at the front of bytes, as `text_at_front` gives it

-- the front of bytes, with its length
abbrev pub IsFront : List ℕ → List ℕ → Type 0
IsFront bs front = (front ≡ take (utf8_valid_len bs) bs) × (length front ≡ utf8_valid_len bs)

IsUtf8-front : (bs front : List ℕ) → IsFront bs front → IsUtf8 front
IsUtf8-front bs front is = subst IsUtf8 (sym is.0) (utf8_front bs)

parts_front : (bs front : List ℕ) → IsFront bs front → parts bs ≡ text_parts front ++ parts_from_escape parts (drop (length front) bs)
parts_front bs front is =
    parts_step bs ∙ ap₂ (λ t n. text_parts t ++ parts_from_escape parts (drop n bs)) (sym is.0) (sym is.1)

parts_more : (bs front : List ℕ) → IsFront bs front → length front < length bs
    → parts bs ≡ text_parts front ++ (get_or bs (length front) 0 ∷ [], Escape (get_or bs (length front) 0)) ∷ parts (drop (length front + 1) bs)
parts_more bs front is lt =
    let next : suc (length front) ≡ length front + 1 = omega arith in
    let byte = get_or bs (length front) 0 in
    parts_front bs front is
    ∙ ap (λ t. text_parts front ++ parts_from_escape parts t) (drop-cons bs (length front) 0 lt)
    ∙ ap (λ n. text_parts front ++ (byte ∷ [], Escape byte) ∷ parts (drop n bs)) next

parts_last : (bs front : List ℕ) → IsFront bs front → length front ≡ length bs → parts bs ≡ text_parts front
parts_last bs front is all =
    parts_front bs front is
    ∙ ap (λ t. text_parts front ++ parts_from_escape parts t) (drop_all (length front) bs (omega arith))
    ∙ append-nil (text_parts front)

pub front_cells-le : (bs front : List ℕ) → IsFront bs front → parts_cells (text_parts front) ≤ strwidth_of bs
front_cells-le bs front is =
    omega (arith, ap parts_cells (parts_front bs front is), parts_cells-append (text_parts front) (parts_from_escape parts (drop (length front) bs)))

pub strwidth_more : (bs front : List ℕ) → IsFront bs front → length front < length bs
    → strwidth_of bs ≡ parts_cells (text_parts front) + 4 + strwidth_of (drop (length front + 1) bs)
strwidth_more bs front is lt =
    let byte = get_or bs (length front) 0 in
    omega (
      arith,
      ap parts_cells (parts_more bs front is lt),
      parts_cells-append (text_parts front) ((byte ∷ [], Escape byte) ∷ parts (drop (length front + 1) bs)),
    )

pub strwidth_last : (bs front : List ℕ) → IsFront bs front → length front ≡ length bs → strwidth_of bs ≡ parts_cells (text_parts front)
strwidth_last bs front is all = ap parts_cells (parts_last bs front is all)

-- an escape behind a text was pushed
pub pieces_more : (bs front : List ℕ) (from : ℕ) (items pushed new goal : List Piece) → IsFront bs front → length front < length bs
    → pushed ≡ items ++ pieces_from from (text_parts front)
    → new ≡ pushed ++ record { from = from + length front; to = from + length front + 1; kind = Escape (get_or bs (length front) 0) } ∷ []
    → items ++ pieces_from from (parts bs) ≡ goal
    → new ++ pieces_from (from + length front + 1) (parts (drop (length front + 1) bs)) ≡ goal
pieces_more bs front from items pushed new goal is lt text escape before =
    let byte = get_or bs (length front) 0 in
    let after = parts (drop (length front + 1) bs) in
    let rest = pieces_from (from + length front + 1) after in
    let piece : Piece = record { from = from + length front; to = from + length front + 1; kind = Escape byte } in
    let cut : pieces_from from (parts bs) ≡ pieces_from from (text_parts front) ++ piece ∷ rest =
    ap (pieces_from from) (parts_more bs front is lt)
    ∙ pieces_from-append from (text_parts front) ((byte ∷ [], Escape byte) ∷ after)
    ∙ ap (λ (t : List ℕ). pieces_from from (text_parts front) ++ pieces_from (from + length t) ((byte ∷ [], Escape byte) ∷ after)) (spelled-text front (IsUtf8-front bs front is)) in
    ap (λ t. t ++ rest) escape
    ∙ append_assoc pushed (piece ∷ []) rest
    ∙ ap (λ t. t ++ piece ∷ rest) text
    ∙ append_assoc items (pieces_from from (text_parts front)) (piece ∷ rest)
    ∙ ap (λ t. items ++ t) (sym cut)
    ∙ before

-- the last text was pushed
pub pieces_last : (bs front : List ℕ) (from : ℕ) (items pushed goal : List Piece) → IsFront bs front → length front ≡ length bs
    → pushed ≡ items ++ pieces_from from (text_parts front) → items ++ pieces_from from (parts bs) ≡ goal → pushed ≡ goal
pieces_last bs front from items pushed goal is all text before =
    text ∙ ap (λ t. items ++ pieces_from from t) (sym (parts_last bs front is all)) ∙ before

-- ---- one cluster more, of those that are left

pub cells_next : (left cs : List (List ℕ)) (c : List ℕ) → left ≡ c ∷ cs
    → parts_cells (flat_map cluster_parts left) ≡ parts_cells (cluster_parts c) + parts_cells (flat_map cluster_parts cs)
cells_next left cs c e = ap (λ ls. parts_cells (flat_map cluster_parts ls)) e ∙ parts_cells-append (cluster_parts c) (flat_map cluster_parts cs)

pub pieces_next : (left cs : List (List ℕ)) (c : List ℕ) (at : ℕ) (items new goal : List Piece) → left ≡ c ∷ cs
    → new ≡ items ++ pieces_from at (cluster_parts c)
    → items ++ pieces_from at (flat_map cluster_parts left) ≡ goal
    → new ++ pieces_from (at + length c) (flat_map cluster_parts cs) ≡ goal
pieces_next left cs c at items new goal e pushed before =
    let rest = pieces_from (at + length c) (flat_map cluster_parts cs) in
    let cut : pieces_from at (flat_map cluster_parts left) ≡ pieces_from at (cluster_parts c) ++ rest =
    ap (λ ls. pieces_from at (flat_map cluster_parts ls)) e
    ∙ pieces_from-append at (cluster_parts c) (flat_map cluster_parts cs)
    ∙ ap (λ (t : List ℕ). pieces_from at (cluster_parts c) ++ pieces_from (at + length t) (flat_map cluster_parts cs)) (spelled-cluster c) in
    ap (λ t. t ++ rest) pushed
    ∙ append_assoc items (pieces_from at (cluster_parts c)) rest
    ∙ ap (λ t. items ++ t) (sym cut)
    ∙ before

-- ---- pieces lie in their line

pub cover-le : (from : ℕ) (ps : List Piece) (to : ℕ) → Cover from ps to → from ≤ to
cover-le from [] to h = omega (arith, h)
cover-le from (p ∷ ps) to h = omega (arith, h.0, h.1, cover-le p.to ps to h.2)

cover_within : (from : ℕ) (ps : List Piece) (to : ℕ) → Cover from ps to → AllByRecursion (λ p. (p.from < p.to) × (p.to ≤ to)) ps
cover_within from [] to h = tt
cover_within from (p ∷ ps) to h = ((omega (arith, h.0, h.1), cover-le p.to ps to h.2), cover_within p.to ps to h.2)

pub pieces_lie_within : (line : List ℕ) (most : ℕ) (ps : List Piece) → ps ≡ take most (pieces_of line)
    → All (λ p. (p.from < p.to) × (p.to ≤ length line)) ps
pieces_lie_within line most ps is =
    subst (All (λ (p : Piece). (p.from < p.to) × (p.to ≤ length line))) (sym is)
    (All-take (λ (p : Piece). (p.from < p.to) × (p.to ≤ length line)) most (pieces_of line)
    (All-from_recursion (λ (p : Piece). (p.from < p.to) × (p.to ≤ length line)) (pieces_of line)
    (cover_within 0 (pieces_of line) (length line) (lines_are_covered line))))
