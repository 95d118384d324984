-- Lemmas on printable ASCII in front of a text: it is cut by itself, up to its last character, which what follows may join.
use Rattle.std.proofs.Common.{◌≡◌, ℕ, zero, suc, ◌+◌, ◌-◌, ◌<◌, ◌≤◌, Bool, true, false, not, ◌&&◌, ◌||◌, List, [], ◌∷◌, ◌++◌, length, take, drop, get_or, map, cond, chars, encode_utf8_all, Option, unwrap_or, ⊎_elim, refl, sym, ap, ap₂, subst, ◌∙◌, arith, append-nil, append_assoc}
use Rattle.std.proofs.lemmas.Bool.{and_parts, not-true, true≢false, cases_lt}
use Rattle.std.proofs.lemmas.List.{map-append, take-append-drop, drop_all, take_all}
use Rattle.std.proofs.lemmas.List.Concat.{flat_map-append}
use Rattle.std.proofs.lemmas.List.Sums.{prefix_len-le-length, prefix_len_passes}
use Rattle.std.proofs.lemmas.Str.{chars-IsAscii, chars-append, chars-nil, IsUtf8-from_ascii, IsCharBoundary-start, IsCharBoundary-end, IsCharBoundary-before_ascii}
use Rattle.std.proofs.Math.Seq.{drop-cons}
use Rattle.std.specs.List.{list_all, flat_map, prefix_len}
use Rattle.std.specs.Str.{IsUtf8, IsCharBoundary}
use Rattle.ucd_table.proofs.Computing.{tables}
use Rattle.ucd_table.proofs.Facts.{Stepped-below}
use Rattle.ucd_breaks.specs.GraphemeClusterBreak.{grapheme_cluster_break}
use Rattle.ucd_derived.specs.IndicConjunctBreak.{indic_conjunct_break}
use Rattle.ucd_derived.specs.declared.IndicConjunctBreak.{IndicConjunctBreak}
use Rattle.ucd_derived.specs.declared.IndicConjunctBreak.TheVariants.{Linker, Extend}
use Rattle.ucd_derived.proofs.IndicConjunctBreakLemmas.{indic_conjunct_break_stepped}
use Rattle.ucd_emoji.specs.Binary.{is_extended_pictographic}
use Rattle.ucd_emoji.proofs.BinaryLemmas.{is_extended_pictographic_stepped}
use Rattle.unicode_segmentation.specs.Grapheme.{graphemes, break_by_pair, ends_in_linker, is_consonant, is_extend, is_zwj, is_regional, ends_in_pictograph, joins_emoji, ends_in_half_flag, is_grapheme_break}
use Rattle.unicode_segmentation.specs.Segments.{cut, segments, prepend}
use Rattle.unicode_segmentation.proofs.GraphemeLemmas.{joins_emoji-not_zwj}
use Rattle.nv_text.specs.declared.piece.Piece.{Piece}
use Rattle.nv_text.specs.Pieces.{cluster_parts, text_parts, pieces_from, parts_cells}
use Rattle.nv_text.proofs.PartLemmas.{parts_cells-append, pieces_from-append, spelled-text}
use Rattle.nv_text.proofs.PlainLemmas.{is_printable, printable_bounds, other_from_printable, break_after, alone, encode_alone, ascii_from_printable, flat_alone, plain_text, plain_cells}

-- ---- what stands before a printable character has no say in the breaks behind it

-- a search back for a linker ends here
abbrev ends_search : IndicConjunctBreak → Bool
ends_search Linker = false
ends_search Extend = false
ends_search _ = true

early_ends_search : (c : ℕ) → c < 0x7F → ends_search (indic_conjunct_break c) ≡ true
unfolding tables indic_conjunct_break_stepped
early_ends_search = Stepped-below indic_conjunct_break indic_conjunct_break_stepped (λ _ v. ends_search v) 0x7F refl

early_no_pictograph : (c : ℕ) → c < 0x7F → not (is_extended_pictographic c) ≡ true
unfolding tables is_extended_pictographic_stepped
early_no_pictograph = Stepped-below is_extended_pictographic is_extended_pictographic_stepped (λ _ v. not v) 0x7F refl

no_linker : (v : IndicConjunctBreak) (vs : List IndicConjunctBreak) → ends_search v ≡ true → ends_in_linker (v ∷ vs) ≡ false
unfolding ends_in_linker
no_linker Linker vs h = absurd (true≢false (sym h))
no_linker Extend vs h = absurd (true≢false (sym h))
no_linker _ vs h = refl

linker_step : (v : IndicConjunctBreak) (us vs : List IndicConjunctBreak) → ends_in_linker us ≡ ends_in_linker vs
    → ends_in_linker (v ∷ us) ≡ ends_in_linker (v ∷ vs)
unfolding ends_in_linker
linker_step Linker us vs e = refl
linker_step Extend us vs e = e
linker_step _ us vs e = refl

module _ (c : ℕ) (h : is_printable c ≡ true) (xs ys : List ℕ) where
  linker_same : (a : List ℕ) → ends_in_linker (map indic_conjunct_break (a ++ c ∷ xs)) ≡ ends_in_linker (map indic_conjunct_break (a ++ c ∷ ys))
  linker_same [] =
      let ends = early_ends_search c (omega (arith, printable_bounds c h)) in
      no_linker (indic_conjunct_break c) (map indic_conjunct_break xs) ends ∙ sym (no_linker (indic_conjunct_break c) (map indic_conjunct_break ys) ends)
  linker_same (d ∷ a) = linker_step (indic_conjunct_break d) _ _ (linker_same a)

no_pictograph : (c : ℕ) (xs : List ℕ) → is_printable c ≡ true → ends_in_pictograph (c ∷ xs) ≡ false
unfolding ends_in_pictograph
no_pictograph c xs h =
    ap₂ (λ p e. p || (e && ends_in_pictograph xs)) (not-true _ (early_no_pictograph c (omega (arith, printable_bounds c h))))
    (ap is_extend (sym (other_from_printable c h)))

no_half_flag : (c : ℕ) (xs : List ℕ) → is_printable c ≡ true → ends_in_half_flag (c ∷ xs) ≡ false
unfolding ends_in_half_flag
no_half_flag c xs h = ap (λ r. r && not (ends_in_half_flag xs)) (ap is_regional (sym (other_from_printable c h)))

pictograph_same : (a : List ℕ) (c : ℕ) (xs ys : List ℕ) → is_printable c ≡ true → ends_in_pictograph (a ++ c ∷ xs) ≡ ends_in_pictograph (a ++ c ∷ ys)
unfolding ends_in_pictograph
pictograph_same [] c xs ys h = no_pictograph c xs h ∙ sym (no_pictograph c ys h)
pictograph_same (d ∷ a) c xs ys h =
    ap (λ b. is_extended_pictographic d || (is_extend (grapheme_cluster_break d) && b)) (pictograph_same a c xs ys h)

half_flag_same : (a : List ℕ) (c : ℕ) (xs ys : List ℕ) → is_printable c ≡ true → ends_in_half_flag (a ++ c ∷ xs) ≡ ends_in_half_flag (a ++ c ∷ ys)
unfolding ends_in_half_flag
half_flag_same [] c xs ys h = no_half_flag c xs h ∙ sym (no_half_flag c ys h)
half_flag_same (d ∷ a) c xs ys h = ap (λ b. is_regional (grapheme_cluster_break d) && not b) (half_flag_same a c xs ys h)

emoji_same : (a : List ℕ) (c : ℕ) (xs ys : List ℕ) (next : ℕ) → is_printable c ≡ true → joins_emoji (a ++ c ∷ xs) next ≡ joins_emoji (a ++ c ∷ ys) next
emoji_same [] c xs ys next h =
    let other = ap is_zwj (sym (other_from_printable c h)) in
    joins_emoji-not_zwj (c ∷ xs) next other ∙ sym (joins_emoji-not_zwj (c ∷ ys) next other)
emoji_same (d ∷ a) c xs ys next h =
    ap (λ b. is_zwj (grapheme_cluster_break d) && b && is_extended_pictographic next) (pictograph_same a c xs ys h)

joins_same : (pair : Option Bool) (conjunct conjunct' emoji emoji' flag flag' : Bool) → conjunct ≡ conjunct' → emoji ≡ emoji' → flag ≡ flag'
    → unwrap_or pair (not ((true && conjunct) || emoji || flag)) ≡ unwrap_or pair (not ((true && conjunct') || emoji' || flag'))
joins_same pair conjunct conjunct' emoji emoji' flag flag' p q r =
    ap (λ b. unwrap_or pair (not b)) (ap₂ ◌||◌ (ap₂ ◌||◌ (ap (λ b. true && b) p) q) r)

break_same : (a : List ℕ) (c : ℕ) (xs ys after : List ℕ) → is_printable c ≡ true
    → is_grapheme_break true (a ++ c ∷ xs) after ≡ is_grapheme_break true (a ++ c ∷ ys) after
unfolding is_grapheme_break
break_same [] c xs ys [] h = refl
break_same (d ∷ a) c xs ys [] h = refl
break_same [] c xs ys (next ∷ after) h =
    joins_same (break_by_pair true (grapheme_cluster_break c) (grapheme_cluster_break next)) _ _ _ _ _ _
    (ap (λ b. b && is_consonant (indic_conjunct_break next)) (linker_same c h xs ys [])) (emoji_same [] c xs ys next h)
    (ap (λ b. b && is_regional (grapheme_cluster_break next)) (half_flag_same [] c xs ys h))
break_same (d ∷ a) c xs ys (next ∷ after) h =
    joins_same (break_by_pair true (grapheme_cluster_break d) (grapheme_cluster_break next)) _ _ _ _ _ _
    (ap (λ b. b && is_consonant (indic_conjunct_break next)) (linker_same c h xs ys (d ∷ a))) (emoji_same (d ∷ a) c xs ys next h)
    (ap (λ b. b && is_regional (grapheme_cluster_break next)) (half_flag_same (d ∷ a) c xs ys h))

cut_same : (a : List ℕ) (c : ℕ) (xs ys cs : List ℕ) → is_printable c ≡ true
    → cut (is_grapheme_break true) (a ++ c ∷ xs) cs [] ≡ cut (is_grapheme_break true) (a ++ c ∷ ys) cs []
unfolding cut
cut_same a c xs ys [] h = refl
cut_same a c xs ys (d ∷ cs) h =
    ap₂ (λ b (rest : List (List ℕ)). cond b ((d ∷ []) ∷ rest) (prepend (d ∷ []) rest))
    (break_same (d ∷ a) c xs ys (cs ++ []) h) (cut_same (d ∷ a) c xs ys cs h)

-- ---- printable characters before one more of them are cut off by themselves

cut_front : (before front : List ℕ) (c : ℕ) (cs : List ℕ) → list_all is_printable front ≡ true → is_printable c ≡ true
    → cut (is_grapheme_break true) before (front ++ c ∷ cs) [] ≡ alone front ++ cut (is_grapheme_break true) [] (c ∷ cs) []
unfolding cut
cut_front before [] c cs hs h =
    ap₂ (λ b (rest : List (List ℕ)). cond b ((c ∷ []) ∷ rest) (prepend (c ∷ []) rest))
    (break_same [] c before [] (cs ++ []) h) (cut_same [] c before [] cs h)
cut_front before (d ∷ []) c cs hs h =
    let first = and_parts (is_printable d) true hs in
    let rest = cut (is_grapheme_break true) (d ∷ before) (c ∷ cs) [] in
    ap (λ b. cond b ((d ∷ []) ∷ rest) (prepend (d ∷ []) rest)) (sym (break_after before d c (cs ++ []) first.0 h))
    ∙ ap (λ t. (d ∷ []) ∷ t) (cut_front (d ∷ before) [] c cs refl h)
cut_front before (d ∷ (e ∷ front)) c cs hs h =
    let first = and_parts (is_printable d) (list_all is_printable (e ∷ front)) hs in
    let second = and_parts (is_printable e) (list_all is_printable front) first.1 in
    let rest = cut (is_grapheme_break true) (d ∷ before) ((e ∷ front) ++ c ∷ cs) [] in
    ap (λ b. cond b ((d ∷ []) ∷ rest) (prepend (d ∷ []) rest)) (sym (break_after before d e ((front ++ c ∷ cs) ++ []) first.0 second.0))
    ∙ ap (λ t. (d ∷ []) ∷ t) (cut_front (d ∷ before) (e ∷ front) c cs first.1 h)

chars_front : (front rest : List ℕ) → list_all is_printable front ≡ true → chars (front ++ rest) ≡ front ++ chars rest
chars_front front rest hs =
    let ascii = ascii_from_printable front hs in
    chars-append front rest (IsUtf8-from_ascii front ascii) ∙ ap (λ cs. cs ++ chars rest) (chars-IsAscii front ascii)

graphemes_front : (front : List ℕ) (c : ℕ) (rest : List ℕ) → list_all is_printable front ≡ true → is_printable c ≡ true
    → graphemes true (front ++ c ∷ rest) ≡ alone front ++ graphemes true (c ∷ rest)
unfolding segments
graphemes_front front c rest hs h =
    let next : chars (c ∷ rest) ≡ c ∷ chars rest = chars_front (c ∷ []) rest (ap (λ b. b && true) h) in
    let rule = is_grapheme_break true in
    ap (λ cs. map encode_utf8_all (cut rule [] cs [])) (chars_front front (c ∷ rest) hs)
    ∙ ap (λ cs. map encode_utf8_all (cut rule [] (front ++ cs) [])) next
    ∙ ap (map encode_utf8_all) (cut_front [] front c (chars rest) hs h)
    ∙ map-append encode_utf8_all (alone front) (cut rule [] (c ∷ chars rest) [])
    ∙ ap₂ ◌++◌ (encode_alone front hs) (ap (λ cs. map encode_utf8_all (cut rule [] cs [])) (sym next))

parts_front : (front : List ℕ) (c : ℕ) (rest : List ℕ) → list_all is_printable front ≡ true → is_printable c ≡ true
    → text_parts (front ++ c ∷ rest) ≡ text_parts front ++ text_parts (c ∷ rest)
parts_front front c rest hs h =
    ap (flat_map cluster_parts) (graphemes_front front c rest hs h)
    ∙ flat_map-append cluster_parts (alone front) (graphemes true (c ∷ rest))
    ∙ ap (λ t. t ++ text_parts (c ∷ rest)) (flat_alone front hs ∙ sym (plain_text front hs))

no_parts : text_parts [] ≡ []
unfolding segments cut
no_parts = ap (λ cs. flat_map cluster_parts (map encode_utf8_all (cut (is_grapheme_break true) [] cs []))) chars-nil

-- a text cut behind printable characters of which the next is one too, or at its end
pub parts_cut : (text : List ℕ) (at : ℕ) → list_all is_printable (take at text) ≡ true → at < length text → is_printable (get_or text at 0) ≡ true
    → text_parts text ≡ text_parts (take at text) ++ text_parts (drop at text)
parts_cut text at hs lt h =
    let rest : drop at text ≡ get_or text at 0 ∷ drop (suc at) text = drop-cons text at 0 lt in
    ap text_parts (sym (take-append-drop at text) ∙ ap (λ t. take at text ++ t) rest)
    ∙ parts_front (take at text) (get_or text at 0) (drop (suc at) text) hs h
    ∙ ap (λ t. text_parts (take at text) ++ text_parts t) (sym rest)

pub parts_cut_end : (text : List ℕ) (at : ℕ) → length text ≤ at → text_parts text ≡ text_parts (take at text) ++ text_parts (drop at text)
parts_cut_end text at le =
    sym (ap₂ (λ (f r : List ℕ). text_parts f ++ text_parts r) (take_all at text le) (drop_all at text le)
    ∙ ap (λ t. text_parts text ++ t) no_parts ∙ append-nil (text_parts text))

-- ---- how far the printable characters at the front go

printable_step : (b : Bool) (n at : ℕ) (rest : List ℕ) → suc at ≤ cond b (1 + n) 0 → (at ≤ n → list_all is_printable rest ≡ true) → (b && list_all is_printable rest) ≡ true
printable_step true n at rest h more = more (omega arith)
printable_step false n at rest h more = absurd (omega arith)

printable_take : (text : List ℕ) (at : ℕ) → at ≤ prefix_len is_printable text → list_all is_printable (take at text) ≡ true
printable_take text zero h = refl
printable_take [] (suc at) h = refl
printable_take (c ∷ cs) (suc at) h =
    printable_step (is_printable c) (prefix_len is_printable cs) at (take at cs) h (λ le. printable_take cs at le)

-- printable characters at the front of a text that are cut by themselves
pub record IsPlainFront (text : List ℕ) (at : ℕ) : Type 0 where
  pub plain : list_all is_printable (take at text) ≡ true
  pub boundary : IsCharBoundary text at
  pub cut : text_parts text ≡ text_parts (take at text) ++ text_parts (drop at text)

-- all of the text is printable
pub plain_whole : (text : List ℕ) (at : ℕ) → at ≡ prefix_len is_printable text → at ≡ length text → IsPlainFront text at
plain_whole text at is all = record {
  plain = printable_take text at (omega (arith, is));
  boundary = subst (λ n. IsCharBoundary text n) (sym all) (IsCharBoundary-end text);
  cut = parts_cut_end text at (omega (arith, all));
}

-- nothing at the front is taken
plain_none : (text : List ℕ) (at : ℕ) → IsUtf8 text → at ≡ 0 → IsPlainFront text at
plain_none text at u none = subst (λ n. IsPlainFront text n) (sym none) (record {
  plain = refl;
  boundary = IsCharBoundary-start text u;
  cut = ap (λ t. t ++ text_parts text) (sym no_parts);
})

-- all but the last of the printable characters at the front
pub plain_front : (text : List ℕ) (at : ℕ) → IsUtf8 text → at ≡ prefix_len is_printable text - 1 → IsPlainFront text at
plain_front text at u is =
    ⊎_elim (λ (some : 0 < prefix_len is_printable text).
    let lt : at < prefix_len is_printable text = omega (arith, is) in
    let within : at < length text = omega (arith, lt, prefix_len-le-length is_printable text) in
    let next : is_printable (get_or text at 0) ≡ true = prefix_len_passes is_printable text at 0 lt in
    let early : get_or text at 0 < 128 = omega (arith, printable_bounds (get_or text at 0) next) in
    let front : list_all is_printable (take at text) ≡ true = printable_take text at (omega (arith, lt)) in
    record {
      plain = front;
      boundary = IsCharBoundary-before_ascii text at within early;
      cut = parts_cut text at front within next;
    })
    (λ none. plain_none text at u (omega (arith, is)))
    (cases_lt 0 (prefix_len is_printable text))

-- the cells of a text whose front is plain
pub front_cells : (text front rest : List ℕ) (at : ℕ) → front ≡ take at text → rest ≡ drop at text → list_all is_printable (take at text) ≡ true
    → text_parts text ≡ text_parts (take at text) ++ text_parts (drop at text)
    → length front + parts_cells (text_parts rest) ≡ parts_cells (text_parts text)
front_cells text front rest at front_is rest_is plain cut =
    omega (
      arith,
      ap length front_is,
      ap (λ t. parts_cells (text_parts t)) rest_is,
      ap parts_cells cut,
      parts_cells-append (text_parts (take at text)) (text_parts (drop at text)),
      plain_cells (take at text) plain,
    )

-- the pieces of a text whose front is plain, once those of the front were pushed
pub front_pushed : (text front rest : List ℕ) (at from : ℕ) (items pushed : List Piece) → front ≡ take at text → rest ≡ drop at text
    → list_all is_printable (take at text) ≡ true → text_parts text ≡ text_parts (take at text) ++ text_parts (drop at text)
    → pushed ≡ items ++ pieces_from from (text_parts front)
    → pushed ++ pieces_from (from + length front) (text_parts rest) ≡ items ++ pieces_from from (text_parts text)
front_pushed text front rest at from items pushed front_is rest_is plain cut push =
    let utf8 : IsUtf8 front = subst IsUtf8 (sym front_is) (IsUtf8-from_ascii (take at text) (ascii_from_printable (take at text) plain)) in
    let parts : text_parts text ≡ text_parts front ++ text_parts rest =
    cut ∙ ap₂ (λ (f r : List ℕ). text_parts f ++ text_parts r) (sym front_is) (sym rest_is) in
    let joined : pieces_from from (text_parts text) ≡ pieces_from from (text_parts front) ++ pieces_from (from + length front) (text_parts rest) =
    ap (pieces_from from) parts
    ∙ pieces_from-append from (text_parts front) (text_parts rest)
    ∙ ap (λ (t : List ℕ). pieces_from from (text_parts front) ++ pieces_from (from + length t) (text_parts rest)) (spelled-text front utf8) in
    ap (λ t. t ++ pieces_from (from + length front) (text_parts rest)) push
    ∙ append_assoc items (pieces_from from (text_parts front)) (pieces_from (from + length front) (text_parts rest))
    ∙ ap (λ t. items ++ t) (sym joined)
