-- Lemmas on text of printable ASCII, which has one piece for each byte.
use Rattle.std.proofs.Common.{◌≡◌, ℕ, zero, suc, ◌+◌, ◌-◌, ◌<◌, ◌≤◌, Bool, true, false, not, ◌&&◌, ◌||◌, List, [], ◌∷◌, ◌++◌, length, map, cond, encode_utf8, encode_utf8_all, nat_lt, refl, sym, ap, ap₂, ◌∙◌, arith, append-nil, append_assoc}
use Rattle.std.proofs.lemmas.Bool.{and_parts, true≢false}
use Rattle.std.proofs.lemmas.Bool.Decides.{nat_tests}
use Rattle.std.proofs.lemmas.Str.{chars-IsAscii, encode_ascii}
use Rattle.std.specs.Int.{is_in_range}
use Rattle.std.specs.List.{list_all, flat_map}
use Rattle.std.specs.Str.{IsAscii, bytes_eq}
use Rattle.ucd_table.proofs.Computing.{tables}
use Rattle.ucd_table.proofs.Facts.{Stepped-below}
use Rattle.ucd_breaks.specs.GraphemeClusterBreak.{grapheme_cluster_break}
use Rattle.ucd_breaks.specs.declared.GraphemeClusterBreak.{GraphemeClusterBreak}
use Rattle.ucd_breaks.specs.declared.GraphemeClusterBreak.TheVariants.{Other}
use Rattle.ucd_breaks.proofs.GraphemeClusterBreakLemmas.{grapheme_cluster_break_stepped}
use Rattle.unicode_segmentation.specs.Grapheme.{graphemes, is_grapheme_break}
use Rattle.unicode_segmentation.specs.Segments.{cut, segments, prepend}
use Rattle.unicode_segmentation.proofs.GraphemeLemmas.{is_grapheme_break-others}
use Rattle.unicode_width.specs.Width.{str_width}
use Rattle.unicode_width.proofs.Rules.{str_width-printable}
use Rattle.nv_text.specs.declared.piece.Kind.TheVariants.{Control, Cluster}
use Rattle.nv_text.specs.declared.piece.Piece.{Piece}
use Rattle.nv_text.specs.Pieces.{Part, cluster_cells, is_control, control_kind, cluster_kind, cluster_parts, text_parts, pieces_from, parts_cells}

-- a printable character of ASCII
abbrev pub is_printable : ℕ → Bool
is_printable = is_in_range 0x20 0x7E

pub printable_bounds : (c : ℕ) → is_printable c ≡ true → (0x20 ≤ c) × (c ≤ 0x7E)
printable_bounds c h = (grind (arith, nat_tests), grind (arith, nat_tests))

-- ---- printable characters stand alone

abbrev is_other : GraphemeClusterBreak → Bool
is_other Other = true
is_other _ = false

is_other-same : (v : GraphemeClusterBreak) → is_other v ≡ true → Other ≡ v
is_other-same Other h = refl
is_other-same _ h = absurd (true≢false (sym h))

other_if_printable : (c : ℕ) → c < 0x7F → (not (is_printable c) || is_other (grapheme_cluster_break c)) ≡ true
unfolding tables grapheme_cluster_break_stepped
other_if_printable = Stepped-below grapheme_cluster_break grapheme_cluster_break_stepped (λ c v. not (is_printable c) || is_other v) 0x7F refl

pub other_from_printable : (c : ℕ) → is_printable c ≡ true → Other ≡ grapheme_cluster_break c
other_from_printable c h =
    is_other-same (grapheme_cluster_break c)
    (ap (λ b. not b || is_other (grapheme_cluster_break c)) (sym h) ∙ other_if_printable c (omega (arith, printable_bounds c h)))

pub break_after : (before : List ℕ) (c d : ℕ) (after : List ℕ) → is_printable c ≡ true → is_printable d ≡ true → true ≡ is_grapheme_break true (c ∷ before) (d ∷ after)
break_after before c d after h g =
    is_grapheme_break-others true (c ∷ before) d after (omega arith) (omega (arith, printable_bounds d g)) (other_from_printable c h) (other_from_printable d g)

abbrev pub alone : List ℕ → List (List ℕ)
alone [] = []
alone (c ∷ cs) = (c ∷ []) ∷ alone cs

cut_alone : (before cs : List ℕ) → list_all is_printable cs ≡ true → cut (is_grapheme_break true) before cs [] ≡ alone cs
unfolding cut is_grapheme_break
cut_alone before [] h = refl
cut_alone before (c ∷ []) h = refl
cut_alone before (c ∷ (d ∷ cs)) h =
    let first = and_parts (is_printable c) (list_all is_printable (d ∷ cs)) h in
    let second = and_parts (is_printable d) (list_all is_printable cs) first.1 in
    let rest = cut (is_grapheme_break true) (c ∷ before) (d ∷ cs) [] in
    ap (λ b. cond b ((c ∷ []) ∷ rest) (prepend (c ∷ []) rest)) (sym (break_after before c d (cs ++ []) first.0 second.0))
    ∙ ap (λ t. (c ∷ []) ∷ t) (cut_alone (c ∷ before) (d ∷ cs) first.1)

pub encode_alone : (cs : List ℕ) → list_all is_printable cs ≡ true → map encode_utf8_all (alone cs) ≡ alone cs
encode_alone [] h = refl
encode_alone (c ∷ cs) h =
    let parts = and_parts (is_printable c) (list_all is_printable cs) h in
    ap₂ (λ (x : List ℕ) t. x ∷ t) (append-nil (encode_utf8 c) ∙ encode_ascii c (omega (arith, printable_bounds c parts.0))) (encode_alone cs parts.1)

pub ascii_from_printable : (cs : List ℕ) → list_all is_printable cs ≡ true → IsAscii cs
ascii_from_printable [] h i = omega arith
ascii_from_printable (c ∷ cs) h zero = omega (arith, printable_bounds c (and_parts (is_printable c) (list_all is_printable cs) h).0)
ascii_from_printable (c ∷ cs) h (suc i) = ascii_from_printable cs (and_parts (is_printable c) (list_all is_printable cs) h).1 i

graphemes_alone : (text : List ℕ) → list_all is_printable text ≡ true → graphemes true text ≡ alone text
unfolding segments
graphemes_alone text h =
    ap (λ cs. map encode_utf8_all (cut (is_grapheme_break true) [] cs [])) (chars-IsAscii text (ascii_from_printable text h))
    ∙ ap (map encode_utf8_all) (cut_alone [] text h) ∙ encode_alone text h

-- ---- each is a cluster of width 1

cells_alone : (c : ℕ) → is_printable c ≡ true → cluster_cells (c ∷ []) ≡ 1
cells_alone c h =
    let all : list_all is_printable (c ∷ []) ≡ true = ap (λ b. b && true) h in
    ap (λ cs. cond (nat_lt 1 (str_width false cs)) 2 1) (chars-IsAscii (c ∷ []) (ascii_from_printable (c ∷ []) all))
    ∙ ap (λ n. cond (nat_lt 1 n) 2 1) (str_width-printable false (c ∷ []) all)

no_control : (c : ℕ) → is_printable c ≡ true → is_control (c ∷ []) ≡ false
no_control c h = grind (arith, nat_tests, printable_bounds c h)

parts_alone : (c : ℕ) → is_printable c ≡ true → cluster_parts (c ∷ []) ≡ (c ∷ [], Cluster 1) ∷ []
parts_alone c h =
    let cell = cells_alone c h in
    let control = no_control c h in
    let split : bytes_eq (c ∷ []) (13 ∷ 10 ∷ []) ≡ false = grind (arith, nat_tests, printable_bounds c h) in
    ap (λ b. cond b ((13 ∷ [], Control 13) ∷ (10 ∷ [], Control 10) ∷ []) ((c ∷ [], cluster_kind (c ∷ [])) ∷ [])) split
    ∙ ap (λ b. (c ∷ [], cond b (control_kind c) (Cluster (cluster_cells (c ∷ [])))) ∷ []) control
    ∙ ap (λ n. (c ∷ [], Cluster n) ∷ []) cell

abbrev pub plain_parts : List ℕ → List Part
plain_parts [] = []
plain_parts (c ∷ cs) = (c ∷ [], Cluster 1) ∷ plain_parts cs

pub flat_alone : (cs : List ℕ) → list_all is_printable cs ≡ true → flat_map cluster_parts (alone cs) ≡ plain_parts cs
flat_alone [] h = refl
flat_alone (c ∷ cs) h =
    let parts = and_parts (is_printable c) (list_all is_printable cs) h in
    ap₂ (λ (x : List Part) t. x ++ t) (parts_alone c parts.0) (flat_alone cs parts.1)

pub plain_text : (text : List ℕ) → list_all is_printable text ≡ true → text_parts text ≡ plain_parts text
plain_text text h = ap (flat_map cluster_parts) (graphemes_alone text h) ∙ flat_alone text h

pub plain_parts-cells : (text : List ℕ) → parts_cells (plain_parts text) ≡ length text
plain_parts-cells [] = refl
plain_parts-cells (c ∷ cs) = omega (arith, plain_parts-cells cs)

pub plain_cells : (text : List ℕ) → list_all is_printable text ≡ true → parts_cells (text_parts text) ≡ length text
plain_cells text h = ap parts_cells (plain_text text h) ∙ plain_parts-cells text

-- so many pieces of one byte and one cell, from a place on
abbrev pub plain_pieces : ℕ → ℕ → List Piece
plain_pieces from zero = []
plain_pieces from (suc n) = record { from = from; to = from + 1; kind = Cluster 1 } ∷ plain_pieces (from + 1) n

pieces_from-plain : (from : ℕ) (text : List ℕ) → pieces_from from (plain_parts text) ≡ plain_pieces from (length text)
pieces_from-plain from [] = refl
pieces_from-plain from (c ∷ cs) = ap (λ (t : List Piece). record { from = from; to = from + 1; kind = Cluster 1 } ∷ t) (pieces_from-plain (from + 1) cs)

pub plain_placed : (from : ℕ) (text : List ℕ) → list_all is_printable text ≡ true → pieces_from from (text_parts text) ≡ plain_pieces from (length text)
plain_placed from text h = ap (pieces_from from) (plain_text text h) ∙ pieces_from-plain from text

pub plain_pieces-step : (at end : ℕ) → at < end → plain_pieces at (end - at) ≡ record { from = at; to = at + 1; kind = Cluster 1 } ∷ plain_pieces (at + 1) (end - (at + 1))
plain_pieces-step at end lt =
    let more : end - at ≡ suc (end - (at + 1)) = omega arith in
    ap (plain_pieces at) more

pub plain_more : (at end : ℕ) (items new goal : List Piece) → at < end
    → new ≡ items ++ record { from = at; to = at + 1; kind = Cluster 1 } ∷ []
    → items ++ plain_pieces at (end - at) ≡ goal
    → new ++ plain_pieces (at + 1) (end - (at + 1)) ≡ goal
plain_more at end items new goal lt pushed before =
    let piece : Piece = record { from = at; to = at + 1; kind = Cluster 1 } in
    let rest = plain_pieces (at + 1) (end - (at + 1)) in
    ap (λ t. t ++ rest) pushed
    ∙ append_assoc items (piece ∷ []) rest
    ∙ ap (λ t. items ++ t) (sym (plain_pieces-step at end lt))
    ∙ before

pub plain_done : (at end : ℕ) (items goal : List Piece) → end ≤ at → items ++ plain_pieces at (end - at) ≡ goal → items ≡ goal
plain_done at end items goal le before =
    let none : end - at ≡ 0 = omega arith in
    sym (append-nil items) ∙ ap (λ n. items ++ plain_pieces at n) (sym none) ∙ before
