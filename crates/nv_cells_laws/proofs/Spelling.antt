-- The texts of a line's pieces, in order, are the line.
use Rattle.std.proofs.Common.{◌≡◌, ◌+◌, ◌-◌, ℕ, List, [], ◌∷◌, ◌++◌, length, take, drop, flat_map, slice_range, sym, ap, ◌∙◌, arith, take-append-drop}
use Rattle.std.proofs.lemmas.List.{drop_all}
use Rattle.std.proofs.Math.Seq.{drop-drop}
use Rattle.nv_text.specs.declared.piece.Piece.{Piece}
use Rattle.nv_text.specs.Laws.{Cover}
use Rattle.nv_text.specs.Pieces.{pieces_of}
use Rattle.nv_text.proofs.PartLemmas.{lines_are_covered}
use Rattle.nv_cells_laws.specs.Laws.{PiecesSpellLines}

spelled_from : (line : List ℕ) (from : ℕ) (ps : List Piece) → Cover from ps (length line)
    → flat_map (λ p. slice_range line p.from p.to) ps ≡ drop from line
spelled_from line from [] h = sym (drop_all from line (omega (arith, h)))
spelled_from line from (p ∷ ps) h =
    let n = p.to - p.from in
    let on : p.from + n ≡ p.to = omega (arith, h.1) in
    ap (λ t. slice_range line p.from p.to ++ t) (spelled_from line p.to ps h.2)
    ∙ ap (λ k. take n (drop p.from line) ++ drop k line) (sym on)
    ∙ ap (λ t. take n (drop p.from line) ++ t) (sym (drop-drop n p.from line))
    ∙ take-append-drop n (drop p.from line)
    ∙ ap (λ k. drop k line) h.0

pub pieces_spell_lines : PiecesSpellLines
pieces_spell_lines line = spelled_from line 0 (pieces_of line) (lines_are_covered line)
