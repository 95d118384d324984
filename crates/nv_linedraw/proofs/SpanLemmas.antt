-- Lemmas on spans on a stretch of a line.
use Rattle.std.proofs.Common.{◌≡◌, ◌+◌, ℕ, List, [], ◌∷◌, ◌++◌, cond, refl, sym, ap, ◌∙◌}
use Rattle.std.specs.Prelude.{All, slice_range}
use Rattle.std.proofs.lemmas.List.Elements.{All-head, All-tail}
use Rattle.nv_text.specs.declared.piece.Piece.{Piece}
use Rattle.nv_hl.specs.declared.attribute.Attr.{Attr}
use Rattle.nv_hl.specs.Attributes.{combined}
use Rattle.nv_hl.proofs.LawLemmas.{associative}
use Rattle.nv_linedraw.specs.declared.looks.Span.{Span}
use Rattle.nv_linedraw.specs.declared.spans.Stretch.{Stretch}
use Rattle.nv_linedraw.specs.inside.Stretches.{ShowAlike, HoldsStretch, MissesStretch}
use Rattle.nv_linedraw.specs.LineCells.{atoms_from, attr_at, attr_over, kind_atoms, span_holds, stop_after}

pub attr_over-append : (low : Attr) (xs ys : List Span) (offset : ℕ)
    → attr_over low (xs ++ ys) offset ≡ attr_over (attr_over low xs offset) ys offset
attr_over-append low [] ys offset = refl
attr_over-append low (x ∷ xs) ys offset = attr_over-append (cond (span_holds x offset) (combined low x.attr) low) xs ys offset

-- a span more, over those so far
pub alike_more : (stretch : Stretch) (new old xs ys : List Span) (s : Span)
    → ShowAlike stretch old xs → ShowAlike stretch new (old ++ s ∷ []) → ys ≡ xs ++ s ∷ [] → ShowAlike stretch new ys
alike_more stretch new old xs ys s before put is low offset h =
    put low offset h
    ∙ attr_over-append low old (s ∷ []) offset
    ∙ ap (λ a. attr_over a (s ∷ []) offset) (before low offset h)
    ∙ sym (attr_over-append low xs (s ∷ []) offset)
    ∙ ap (λ l. attr_over low l offset) (sym is)

-- a span that holds nothing of the stretch changes nothing there
pub alike_without : (stretch : Stretch) (xs : List Span) (s : Span) → MissesStretch s stretch → ShowAlike stretch xs (xs ++ s ∷ [])
alike_without stretch xs s none low offset h =
    let under = attr_over low xs offset in
    sym (attr_over-append low xs (s ∷ []) offset ∙ ap (λ b. cond b (combined under s.attr) under) (none offset h))

-- two spans that hold all of the stretch are one
pub alike_joined : (stretch : Stretch) (new old xs : List Span) (u s v : Span)
    → HoldsStretch u stretch → HoldsStretch s stretch → HoldsStretch v stretch → v.attr ≡ combined u.attr s.attr
    → old ≡ xs ++ u ∷ [] → new ≡ xs ++ v ∷ [] → ShowAlike stretch new (old ++ s ∷ [])
alike_joined stretch new old xs u s v u_holds s_holds v_holds attr old_is new_is low offset h =
    let under = attr_over low xs offset in
    let one : attr_over low old offset ≡ combined under u.attr =
    ap (λ l. attr_over low l offset) old_is
    ∙ attr_over-append low xs (u ∷ []) offset
    ∙ ap (λ b. cond b (combined under u.attr) under) (u_holds offset h) in
    let two : attr_over low (old ++ s ∷ []) offset ≡ combined (combined under u.attr) s.attr =
    attr_over-append low old (s ∷ []) offset
    ∙ ap (λ b. cond b (combined (attr_over low old offset) s.attr) (attr_over low old offset)) (s_holds offset h)
    ∙ ap (λ a. combined a s.attr) one in
    ap (λ l. attr_over low l offset) new_is
    ∙ attr_over-append low xs (v ∷ []) offset
    ∙ ap (λ b. cond b (combined under v.attr) under) (v_holds offset h)
    ∙ ap (combined under) attr
    ∙ sym (associative under u.attr s.attr)
    ∙ sym two

-- what the pieces are drawn as, where each has the same attribute
pub atoms_alike : (t stop : ℕ) (line : List ℕ) (xs ys : List Span) (special : Attr) (ps : List Piece)
    → All (λ p. attr_at xs p.from ≡ attr_at ys p.from) ps
    → atoms_from t stop line xs special ps ≡ atoms_from t stop line ys special ps
atoms_alike t stop line xs ys special [] h = refl
atoms_alike t stop line xs ys special (p ∷ ps) h =
    let same = All-head (λ (q : Piece). attr_at xs q.from ≡ attr_at ys q.from) p ps h in
    let rest = atoms_alike t (stop_after t stop p.kind) line xs ys special ps
    (All-tail (λ (q : Piece). attr_at xs q.from ≡ attr_at ys q.from) p ps h) in
    λ i. kind_atoms t stop (same i) special (slice_range line p.from p.to) p.kind ++ rest i
