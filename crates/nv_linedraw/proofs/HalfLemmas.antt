-- Lemmas on pieces that are laid in two halves, each with the spans among them.
use Rattle.std.proofs.Common.{◌≡◌, ◌<◌, ◌≤◌, ◌+◌, ℕ, List, [], ◌∷◌, ◌++◌, length, take, drop, refl, sym, ap, subst, ◌∙◌, arith, append_assoc}
use Rattle.std.specs.Prelude.{All}
use Rattle.std.proofs.lemmas.List.{length-take, length-append, take-append-drop, take-append-le}
use Rattle.std.proofs.lemmas.List.Elements.{All-take, All-drop}
use Rattle.nv_text.specs.declared.piece.Piece.{Piece}
use Rattle.nv_linedraw.specs.declared.flow.Drawn.{Drawn}
use Rattle.nv_linedraw.specs.declared.looks.Span.{Span}
use Rattle.nv_linedraw.specs.inside.DrawnCells.{PiecesAreLaid, LineFlow, drawn_atoms, laid_cells, laid_col, stop_behind}
use Rattle.nv_linedraw.specs.LineCells.{Atom, attr_at, cells_from_column, col_after, filler_of, atoms_from, stop_after}
use Rattle.nv_linedraw.proofs.LayLemmas.{atoms_from-append, cells_from_column-append, col_after-append}
use Rattle.nv_linedraw.proofs.SpanLemmas.{atoms_alike}

-- lines that are drawn alike but for their spans, which give these pieces the same attributes
pub record AreDrawnAlike (e d : Drawn) (ps : List Piece) : Type 0 where
  pub width : e.width ≡ d.width
  pub tabstop : e.tabstop ≡ d.tabstop
  pub line : e.line.now ≡ d.line.now
  pub looks : e.looks.now ≡ d.looks.now
  pub attrs : All (λ p. attr_at e.spans.now p.from ≡ attr_at d.spans.now p.from) ps

abbrev SameAttrs : Drawn → Drawn → Piece → Type 0
SameAttrs e d p = attr_at e.spans.now p.from ≡ attr_at d.spans.now p.from

pub alike_front : (e d : Drawn) (k : ℕ) (ps : List Piece) → AreDrawnAlike e d ps → AreDrawnAlike e d (take k ps)
alike_front e d k ps h = record {
  width = h.width;
  tabstop = h.tabstop;
  line = h.line;
  looks = h.looks;
  attrs = All-take (SameAttrs e d) k ps h.attrs;
}

pub alike_back : (e d : Drawn) (k : ℕ) (ps : List Piece) → AreDrawnAlike e d ps → AreDrawnAlike e d (drop k ps)
alike_back e d k ps h = record {
  width = h.width;
  tabstop = h.tabstop;
  line = h.line;
  looks = h.looks;
  attrs = All-drop (SameAttrs e d) k ps h.attrs;
}

atoms_are : (e d : Drawn) (stop : ℕ) (ps : List Piece) → AreDrawnAlike e d ps → drawn_atoms e stop ps ≡ drawn_atoms d stop ps
atoms_are e d stop ps h =
    (λ i. atoms_from (h.tabstop i) stop (h.line i) e.spans.now ((h.looks i).special) ps)
    ∙ atoms_alike d.tabstop stop d.line.now e.spans.now d.spans.now d.looks.now.special ps h.attrs

cells_are : (e d : Drawn) (at : LineFlow) (ps : List Piece) → AreDrawnAlike e d ps → laid_cells e at ps ≡ laid_cells d at ps
cells_are e d at ps h = λ i. at.cells ++ cells_from_column (h.width i) (filler_of (h.looks i)) at.col (atoms_are e d at.stop ps h i)

col_is : (e d : Drawn) (at : LineFlow) (ps : List Piece) → AreDrawnAlike e d ps → laid_col e at ps ≡ laid_col d at ps
col_is e d at ps h = λ i. col_after (h.width i) at.col (atoms_are e d at.stop ps h i)

stop_is : (e d : Drawn) (stop : ℕ) (ps : List Piece) → AreDrawnAlike e d ps → stop_behind e.tabstop stop ps ≡ stop_behind d.tabstop stop ps
stop_is e d stop ps h = λ i. stop_behind (h.tabstop i) stop ps

-- pieces that were laid alike were laid
laid_alike : (e d : Drawn) (most : ℕ) (ps : List Piece) (a b : LineFlow) → AreDrawnAlike e d ps → PiecesAreLaid e most ps a b → PiecesAreLaid d most ps a b
laid_alike e d most ps a b h laid = record {
  front = laid.front ∙ ap (take (length b.cells)) (cells_are e d a ps h);
  all = λ few. laid.all few ∙ cells_are e d a ps h;
  col = λ few. laid.col few ∙ col_is e d a ps h;
  stop = λ few. laid.stop few ∙ stop_is e d a.stop ps h;
  count = laid.count;
}

stop_behind-append : (t stop : ℕ) (ps qs : List Piece) → stop_behind t stop (ps ++ qs) ≡ stop_behind t (stop_behind t stop ps) qs
stop_behind-append t stop [] qs = refl
stop_behind-append t stop (p ∷ ps) qs = stop_behind-append t (stop_after t stop p.kind) ps qs

module _ (d : Drawn) (a : LineFlow) (ps qs : List Piece) where
  abbrev xs : List Atom
  xs = drawn_atoms d a.stop ps

  abbrev ys : List Atom
  ys = drawn_atoms d (stop_behind d.tabstop a.stop ps) qs

  atoms_both : drawn_atoms d a.stop (ps ++ qs) ≡ xs ++ ys
  atoms_both = atoms_from-append d.tabstop d.line.now d.spans.now d.looks.now.special a.stop ps qs

  cells_both : laid_cells d a (ps ++ qs) ≡ laid_cells d a ps ++ cells_from_column d.width (filler_of d.looks.now) (laid_col d a ps) ys
  cells_both =
      let f = filler_of d.looks.now in
      ap (λ atoms. a.cells ++ cells_from_column d.width f a.col atoms) atoms_both
      ∙ ap (λ cs. a.cells ++ cs) (cells_from_column-append d.width f a.col xs ys)
      ∙ sym (append_assoc a.cells (cells_from_column d.width f a.col xs) (cells_from_column d.width f (laid_col d a ps) ys))

  cells_then : (b : LineFlow) → b.cells ≡ laid_cells d a ps → b.col ≡ laid_col d a ps → b.stop ≡ stop_behind d.tabstop a.stop ps
      → laid_cells d b qs ≡ laid_cells d a (ps ++ qs)
  cells_then b cells col stop =
      (λ i. cells i ++ cells_from_column d.width (filler_of d.looks.now) (col i) (drawn_atoms d (stop i) qs))
      ∙ sym cells_both

  col_then : (b : LineFlow) → b.col ≡ laid_col d a ps → b.stop ≡ stop_behind d.tabstop a.stop ps → laid_col d b qs ≡ laid_col d a (ps ++ qs)
  col_then b col stop =
      (λ i. col_after d.width (col i) (drawn_atoms d (stop i) qs))
      ∙ sym (col_after-append d.width a.col xs ys)
      ∙ ap (col_after d.width a.col) (sym atoms_both)

-- the front was enough
front_enough : (d : Drawn) (most : ℕ) (ps qs : List Piece) (a b : LineFlow) → PiecesAreLaid d most ps a b → most ≤ length b.cells
    → PiecesAreLaid d most (ps ++ qs) a b
front_enough d most ps qs a b laid enough =
    let more = cells_from_column d.width (filler_of d.looks.now) (laid_col d a ps) (drawn_atoms d (stop_behind d.tabstop a.stop ps) qs) in
    let within : length b.cells ≤ length (laid_cells d a ps) =
    omega (arith, ap length laid.front, length-take (length b.cells) (laid_cells d a ps)) in
    record {
      front = laid.front
          ∙ sym (take-append-le (length b.cells) (laid_cells d a ps) more within)
          ∙ ap (take (length b.cells)) (sym (cells_both d a ps qs));
      all = λ few. absurd (omega (arith, few, enough));
      col = λ few. absurd (omega (arith, few, enough));
      stop = λ few. absurd (omega (arith, few, enough));
      count = λ few. absurd (omega (arith, few, enough));
    }

both_laid : (d : Drawn) (most : ℕ) (ps qs : List Piece) (a b c : LineFlow) → PiecesAreLaid d most ps a b → length b.cells < most → PiecesAreLaid d most qs b c
    → PiecesAreLaid d most (ps ++ qs) a c
both_laid d most ps qs a b c first few then_ =
    let cells = cells_then d a ps qs b (first.all few) (first.col few) (first.stop few) in
    let col = col_then d a ps qs b (first.col few) (first.stop few) in
    record {
      front = then_.front ∙ ap (take (length c.cells)) cells;
      all = λ less. then_.all less ∙ cells;
      col = λ less. then_.col less ∙ col;
      stop = λ less. then_.stop less ∙ ap (λ s. stop_behind d.tabstop s qs) (first.stop few) ∙ sym (stop_behind-append d.tabstop a.stop ps qs);
      count = λ less. omega (arith, first.count few, then_.count less, length-append ps qs);
    }

-- ---- halves with the spans among both

pub drawn_alike : (e d : Drawn) (spans : List Span) (ps : List Piece) → e.width ≡ d.width → e.tabstop ≡ d.tabstop → e.line.now ≡ d.line.now
    → e.looks.now ≡ d.looks.now → e.spans.now ≡ spans → All (λ p. attr_at spans p.from ≡ attr_at d.spans.now p.from) ps → AreDrawnAlike e d ps
drawn_alike e d spans ps width tabstop line looks is attrs = record {
  width = width;
  tabstop = tabstop;
  line = line;
  looks = looks;
  attrs = subst (λ (l : List Span). All (λ (p : Piece). attr_at l p.from ≡ attr_at d.spans.now p.from) ps) (sym is) attrs;
}

halves : (d : Drawn) (most k : ℕ) (ps : List Piece) (a c : LineFlow) → PiecesAreLaid d most (take k ps ++ drop k ps) a c → PiecesAreLaid d most ps a c
halves d most k ps a c laid = subst (λ (qs : List Piece). PiecesAreLaid d most qs a c) (take-append-drop k ps) laid

pub front_laid : (e d : Drawn) (most k : ℕ) (ps front : List Piece) (a b : LineFlow) → front ≡ take k ps → AreDrawnAlike e d ps
    → PiecesAreLaid e most front a b → most ≤ length b.cells → PiecesAreLaid d most ps a b
front_laid e d most k ps front a b is alike laid enough =
    let first = subst (λ (qs : List Piece). PiecesAreLaid e most qs a b) is laid in
    halves d most k ps a b
    (front_enough d most (take k ps) (drop k ps) a b (laid_alike e d most (take k ps) a b (alike_front e d k ps alike) first) enough)

pub halves_laid : (e d : Drawn) (most k : ℕ) (ps front back : List Piece) (a b c : LineFlow) → front ≡ take k ps → back ≡ drop k ps → AreDrawnAlike e d ps
    → PiecesAreLaid e most front a b → length b.cells < most → PiecesAreLaid e most back b c → PiecesAreLaid d most ps a c
halves_laid e d most k ps front back a b c front_is back_is alike laid few then_ =
    let first = subst (λ (qs : List Piece). PiecesAreLaid e most qs a b) front_is laid in
    let rest = subst (λ (qs : List Piece). PiecesAreLaid e most qs b c) back_is then_ in
    halves d most k ps a c
    (both_laid d most (take k ps) (drop k ps) a b c
    (laid_alike e d most (take k ps) a b (alike_front e d k ps alike) first) few
    (laid_alike e d most (drop k ps) b c (alike_back e d k ps alike) rest))
