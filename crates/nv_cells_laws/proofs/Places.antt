-- Where the pieces of a line stand, and what follows them.
use Rattle.std.proofs.Common.{◌≡◌, ◌<◌, ◌≤◌, ◌+◌, ◌-◌, ◌*◌, ◌/◌, ◌%◌, ◌⊎◌, ℕ, Bool, true, false, not, cond, ◌&&◌, ◌==◌, List, [], ◌∷◌, ◌++◌, Some, length, take, drop, replicate, slice_get, slice_range, refl, sym, ap, subst, inl, inr, ⊎_elim, ◌∙◌, arith, append_assoc, append-nil, length-append, eqb-true, true≢false}
use Rattle.std.proofs.Math.Nat.{div-add-mod', mod-add-mod, mod_self, mod-eq_of_lt, mul-mod_left}
use Rattle.std.proofs.Math.Seq.{drop-append_seam, take-append_seam}
use Rattle.std.proofs.lemmas.Bool.Decides.{nat_tests}
use Rattle.std.proofs.lemmas.List.{length-replicate}
use Rattle.std.proofs.lemmas.Nat.{mod_below}
use Rattle.nv_text.specs.declared.piece.Kind.{Kind}
use Rattle.nv_text.specs.declared.piece.Kind.TheVariants.{Tab, Control, Escape, Cluster}
use Rattle.nv_text.specs.declared.piece.Piece.{Piece}
use Rattle.nv_text.specs.Laws.{Cover}
use Rattle.nv_text.specs.Pieces.{pieces_of}
use Rattle.nv_text.proofs.PartLemmas.{cover-le, lines_are_covered}
use Rattle.nv_hl.specs.declared.attribute.Attr.{Attr}
use Rattle.nv_hl.specs.declared.cell.Cell.{Cell}
use Rattle.nv_hl.specs.Cells.{cell_of, space}
use Rattle.nv_linedraw.specs.declared.looks.Looks.{Looks}
use Rattle.nv_linedraw.specs.declared.looks.Span.{Span}
use Rattle.nv_linedraw.specs.LineCells.{atoms_from, attr_at, cell_of_byte, cell_of_byte_from, cells_ahead, cells_from_column, cells_of_line, col_after, filler_of, filling, line_atoms, piece_atoms, rest_attr, row_cells}
use Rattle.nv_cells_laws.specs.DrawnLines.{DrawnLine, cells_of_cluster, cells_of_kind, column_after, columns_of_pieces, first_cell, line_cells, next_cell, piece_cells}
use Rattle.nv_cells_laws.specs.Laws.{BytesPastLinesStandFirst, ColumnsAreCells, EmptyLinesAreBlank, FirstPiecesStandFirst, PiecesFollow, PiecesStand, RestsAreBlank, TabsEndAtStops}
use Rattle.nv_cells_laws.proofs.Behind.{behind_others, cells_behind, cells_behind-append, columns-append, found, laid_behind, laid_from, laid_next, past}
use Rattle.nv_cells_laws.proofs.OnePiece.{laid_own, next_stop, own, own_cluster, own_count, tab_room, taken, width_of}

-- ---- a line's cells, by its pieces

module _ (w t : ℕ) (line : List ℕ) (spans : List Span) (looks : Looks) where
  -- what fills the last row
  abbrev pub blanks : List Cell
  blanks =
      replicate (filling w (length line == 0) (col_after w 0 (line_atoms t line spans looks))) (space (rest_attr spans (length line)))

  abbrev pub laid : ℕ → ℕ → List Piece → List Cell
  laid n at ps = laid_from w t (filler_of looks) line spans looks.special n at ps

  whole : 0 < w → 0 < t → cells_of_line w t line spans looks ≡ laid 0 0 (pieces_of line) ++ blanks
  unfolding cells_of_line
  whole wide some =
      let col : 0 ≡ 0 % w = sym (mod-eq_of_lt wide) in
      let stop : 0 ≡ 0 % t = sym (mod-eq_of_lt some) in
      λ i. cells_from_column w (filler_of looks) (col i) (atoms_from t (stop i) line spans looks.special (pieces_of line)) ++ blanks

  -- the cells of some pieces, and then those of the others
  pub parted : (before rest : List Piece) → 0 < w → 0 < t → pieces_of line ≡ before ++ rest
      → (xs : List Cell) × (length xs ≡ cells_behind w t 0 0 before)
      × (cells_of_line w t line spans looks ≡ xs ++ (laid (columns_of_pieces t 0 before) (cells_behind w t 0 0 before) rest ++ blanks))
  parted before rest wide some is =
      let more = laid_behind w t (filler_of looks) line spans looks.special 0 0 before rest wide some in (
        more.0,
        omega (arith, more.1),
        whole wide some
            ∙ ap (λ ps. laid 0 0 ps ++ blanks) is
            ∙ ap (λ cs. cs ++ blanks) more.2
            ∙ append_assoc more.0 (laid (columns_of_pieces t 0 before) (cells_behind w t 0 0 before) rest) blanks,
      )

  -- the cells of a piece with these before it
  abbrev pub own_cells : List Piece → Piece → List Cell
  own_cells before p =
      own w (filler_of looks) (column_after t (columns_of_pieces t 0 before) Tab - columns_of_pieces t 0 before)
      (attr_at spans p.from) looks.special (slice_range line p.from p.to) p.kind

  -- how many fillers stand ahead of it
  abbrev pub ahead : List Piece → Piece → ℕ
  ahead before p = cells_ahead w (cells_behind w t 0 0 before % w) p.kind

  pub piece_parted : (before after : List Piece) (p : Piece) → 0 < w → 0 < t → pieces_of line ≡ before ++ p ∷ after
      → (xs : List Cell) × (zs : List Cell) × (length xs ≡ cells_behind w t 0 0 before)
      × (cells_of_line w t line spans looks ≡ xs ++ (replicate (ahead before p) (filler_of looks) ++ (own_cells before p ++ zs)))
  piece_parted before after p wide some is =
      let f = filler_of looks in
      let n = columns_of_pieces t 0 before in
      let at = cells_behind w t 0 0 before in
      let attr = attr_at spans p.from in
      let text = slice_range line p.from p.to in
      let first = parted before (p ∷ after) wide some is in
      let fillers = replicate (ahead before p) f in
      let cells = own_cells before p in
      let later = laid (column_after t n p.kind) (at + taken w t n at p.kind) after in
      let here : cells_from_column w f (at % w) (piece_atoms t (n % t) line spans looks.special p) ≡ fillers ++ cells =
      laid_own w f (at % w) t (n % t) attr looks.special text p.kind
      ∙ ap (λ m. fillers ++ own w f m attr looks.special text p.kind) (tab_room t n some) in (
        first.0,
        later ++ blanks,
        first.1,
        first.2
            ∙ ap (λ cs. first.0 ++ (cs ++ blanks)) (laid_next w t f line spans looks.special n at p after wide some ∙ ap (λ cs. cs ++ later) here)
            ∙ ap (λ cs. first.0 ++ cs) (append_assoc (fillers ++ cells) later blanks ∙ append_assoc fillers cells (later ++ blanks)),
      )

  -- the cell of each byte of a piece
  pub byte_at : (before after : List Piece) (p : Piece) (byte : ℕ) → 0 < w → 0 < t → pieces_of line ≡ before ++ p ∷ after
      → p.from ≤ byte → byte < p.to
      → cell_of_byte w t line byte ≡ cells_behind w t 0 0 before + ahead before p
  byte_at before after p byte wide some is le lt =
      let col : 0 ≡ 0 % w = sym (mod-eq_of_lt wide) in
      let stop : 0 ≡ 0 % t = sym (mod-eq_of_lt some) in
      let cover = subst (λ (ps : List Piece). Cover 0 ps (length line)) is (lines_are_covered line) in
      (λ i. cell_of_byte_from w t line byte (stop i) (col i) 0 (is i))
      ∙ found w t line byte 0 0 0 before p after (length line) wide some cover le lt

-- ---- the cells of a piece, as the laws name them

cluster_is : (d : DrawnLine) (wide : Bool) (c : Cell) → cells_of_cluster d wide c ≡ own_cluster d.width (filler_of d.looks) wide c
cluster_is d true c = refl
cluster_is d false c = refl

kind_is : (d : DrawnLine) (column : ℕ) (attr : Attr) (text : List ℕ) (k : Kind)
    → cells_of_kind d column attr text k ≡ own d.width (filler_of d.looks) (column_after d.tabstop column Tab - column) attr d.looks.special text k
kind_is d column attr text Tab = refl
kind_is d column attr text (Control byte) = refl
kind_is d column attr text (Escape byte) = refl
kind_is d column attr text (Cluster m) = cluster_is d (m == 2) (cell_of text attr)

module _ (d : DrawnLine) (before after : List Piece) (p : Piece) where
  abbrev pub cells : List Cell
  cells = own_cells d.width d.tabstop d.line d.spans d.looks before p

  abbrev pub fillers : ℕ
  fillers = ahead d.width d.tabstop d.line d.spans d.looks before p

  abbrev pub behind : ℕ
  behind = cells_behind d.width d.tabstop 0 0 before

  abbrev pub room : ℕ
  room = column_after d.tabstop (columns_of_pieces d.tabstop 0 before) Tab - columns_of_pieces d.tabstop 0 before

  pub cells_are : piece_cells d before p ≡ cells
  cells_are = kind_is d (columns_of_pieces d.tabstop 0 before) (attr_at d.spans p.from) (slice_range d.line p.from p.to) p.kind

  pub count_is : length (piece_cells d before p) ≡ width_of d.width room p.kind
  count_is =
      ap length cells_are
      ∙ own_count d.width (filler_of d.looks) room (attr_at d.spans p.from) d.looks.special (slice_range d.line p.from p.to) p.kind

  pub some_bytes : pieces_of d.line ≡ before ++ p ∷ after → (p.from < p.to) × (p.to ≤ length d.line)
  some_bytes is =
      let all = behind_others 0 before p after (length d.line) (subst (λ (ps : List Piece). Cover 0 ps (length d.line)) is (lines_are_covered d.line)) in
      (all.1, all.2)

  pub first_is : pieces_of d.line ≡ before ++ p ∷ after → first_cell d p ≡ behind + fillers
  first_is is = byte_at d.width d.tabstop d.line d.spans d.looks before after p p.from d.wide d.stop is (omega arith) (some_bytes is).0

  pub next_is : pieces_of d.line ≡ before ++ p ∷ after → next_cell d before p ≡ cells_behind d.width d.tabstop 0 0 (before ++ p ∷ [])
  next_is is =
      let last : cells_behind d.width d.tabstop 0 0 (before ++ p ∷ []) ≡ behind + (fillers + width_of d.width room p.kind) =
      cells_behind-append d.width d.tabstop 0 0 before (p ∷ []) in
      omega (arith, first_is is, count_is, last)

-- ---- each piece stands in its place

shown_at : {X : Type 0} (xs ys cs zs : List X) (n : ℕ) → n ≡ length xs + length ys → slice_range (xs ++ (ys ++ (cs ++ zs))) n (n + length cs) ≡ cs
shown_at xs ys cs zs n is =
    let front : n ≡ length (xs ++ ys) = omega (arith, is, length-append xs ys) in
    let count : n + length cs - n ≡ length cs = omega arith in
    ap (λ l. slice_range l n (n + length cs)) (sym (append_assoc xs ys (cs ++ zs)))
    ∙ ap (λ k. take (n + length cs - n) (drop k ((xs ++ ys) ++ (cs ++ zs)))) front
    ∙ ap (take (n + length cs - n)) (drop-append_seam (xs ++ ys) (cs ++ zs))
    ∙ ap (λ k. take k (cs ++ zs)) count
    ∙ take-append_seam cs zs

less_still : (k w : ℕ) → k < w → (k + 1 == w) ≡ false → k + 1 < w
less_still k w lt is = grind (arith, nat_tests)

pair_whole : (one last : Bool) (w at : ℕ) → 0 < w → (w == 1) ≡ one → (at % w + 1 == w) ≡ last
    → (at + cond (not one && last) 1 0) % w + cond one 1 2 ≤ w
pair_whole true last w at wide one is = omega (arith, mod_below (at + 0) w wide)
pair_whole false true w at wide one is =
    let first : (at + 1) % w ≡ 0 = sym (mod-add-mod at w 1) ∙ ap (λ k. k % w) (eqb-true (at % w + 1) w is) ∙ mod_self w in
    let two : 1 < w = grind (arith, nat_tests) in
    omega (arith, first, two)
pair_whole false false w at wide one is =
    let same : at + 0 ≡ at = omega arith in
    omega (arith, ap (λ k. k % w) same, less_still (at % w) w (mod_below at w wide) is)

pub pieces_stand : PiecesStand
pieces_stand d before after p is =
    let w = d.width in
    let t = d.tabstop in
    let at = piece_parted w t d.line d.spans d.looks before after p d.wide d.stop is in
    let own_is = cells_are d before after p in
    let first = first_is d before after p is in
    let n = first_cell d p in
    let fs = replicate (fillers d before after p) (filler_of d.looks) in
    let all = at.0 ++ (fs ++ (cells d before after p ++ at.1)) in
    record {
      shown = ap (λ l. slice_range l n (n + length (piece_cells d before p))) at.3
          ∙ ap (λ cs. slice_range all n (n + length cs)) own_is
          ∙ shown_at at.0 fs (cells d before after p) at.1 n (omega (arith, first, at.2, length-replicate (fillers d before after p) (filler_of d.looks)))
          ∙ sym own_is;
      bytes = λ byte le lt. byte_at w t d.line d.spans d.looks before after p byte d.wide d.stop is le lt ∙ sym first;
      whole = λ kind.
          let start : n ≡ behind d before after p + cond (not (w == 1) && (behind d before after p % w + 1 == w)) 1 0 =
          first ∙ ap (λ k. behind d before after p + cells_ahead w (behind d before after p % w) k) kind in
          let count : length (piece_cells d before p) ≡ cond (w == 1) 1 2 = count_is d before after p ∙ ap (λ k. width_of w (room d before after p) k) kind in
          omega (arith, ap (λ k. k % w) start, count, pair_whole (w == 1) (behind d before after p % w + 1 == w) w (behind d before after p) d.wide refl refl);
    }

-- ---- what stands ahead of a piece

more_than_one : (w col : ℕ) → (w == 1) ≡ false → col + 1 ≡ w → 1 < w
more_than_one w col one at = grind (arith, nat_tests)

abbrev one_if : Bool → ℕ
one_if b = cond b 1 0

ahead_by : (pair one last : Bool) (w col m : ℕ) → (m == 2) ≡ pair → (w == 1) ≡ one → (col + 1 == w) ≡ last
    → (one_if (pair && not one && last) ≡ 0) ⊎ ((one_if (pair && not one && last) ≡ 1) × (Cluster m ≡ Cluster 2) × (col + 1 ≡ w) × (1 < w))
ahead_by false one last w col m two is at = inl refl
ahead_by true true last w col m two is at = inl refl
ahead_by true false false w col m two is at = inl refl
ahead_by true false true w col m two is at =
    let edge : col + 1 ≡ w = eqb-true (col + 1) w at in
    inr (refl, ap Cluster (eqb-true m 2 two), edge, more_than_one w col is edge)

ahead_is : (w col : ℕ) (k : Kind) → (cells_ahead w col k ≡ 0) ⊎ ((cells_ahead w col k ≡ 1) × (k ≡ Cluster 2) × (col + 1 ≡ w) × (1 < w))
ahead_is w col Tab = inl refl
ahead_is w col (Control byte) = inl refl
ahead_is w col (Escape byte) = inl refl
ahead_is w col (Cluster m) = ahead_by (m == 2) (w == 1) (col + 1 == w) w col m refl refl refl

-- no filler stands in the first column
none_first : (w : ℕ) (k : Kind) → 0 < w → cells_ahead w (0 % w) k ≡ 0
none_first w k wide =
    ⊎_elim
    (λ (none : cells_ahead w (0 % w) k ≡ 0). none)
    (λ (one : (cells_ahead w (0 % w) k ≡ 1) × (k ≡ Cluster 2) × (0 % w + 1 ≡ w) × (1 < w)).
    let first : 0 % w ≡ 0 = mod-eq_of_lt wide in
    absurd (omega (arith, first, one.2, one.3)))
    (ahead_is w (0 % w) k)

pub first_pieces_stand_first : FirstPiecesStandFirst
first_pieces_stand_first d after p is =
    omega (arith, first_is d [] after p is, none_first d.width p.kind d.wide)

-- ---- what follows a piece

get_at : {X : Type 0} (xs : List X) (y : X) (ys : List X) → slice_get (xs ++ y ∷ ys) (length xs) ≡ Some y
get_at [] y ys = refl
get_at (x ∷ xs) y ys = get_at xs y ys

pub pieces_follow : PiecesFollow
pieces_follow d before after p q is =
    let w = d.width in
    let f = filler_of d.looks in
    let to_q = before ++ p ∷ [] in
    let at_q : pieces_of d.line ≡ to_q ++ q ∷ after = is ∙ sym (append_assoc before (p ∷ []) (q ∷ after)) in
    let next = next_is d before (q ∷ after) p is in
    let first = first_is d to_q after q at_q in
    let cell = next_cell d before p in
    let at = piece_parted w d.tabstop d.line d.spans d.looks to_q after q d.wide d.stop at_q in
    let own = cells d to_q after q in
    let col = behind d to_q after q % w in
    ⊎_elim
    (λ (none : cells_ahead w col q.kind ≡ 0). inl (omega (arith, first, next, none)))
    (λ (one : (cells_ahead w col q.kind ≡ 1) × (q.kind ≡ Cluster 2) × (col + 1 ≡ w) × (1 < w)).
    inr (record {
      pair = one.1;
      last = ap (λ k. k % w + 1) next ∙ one.2;
      filler = ap (λ l. slice_get l cell) at.3
          ∙ ap (λ k. slice_get (at.0 ++ (replicate k f ++ (own ++ at.1))) cell) one.0
          ∙ ap (λ k. slice_get (at.0 ++ f ∷ (own ++ at.1)) k) (next ∙ sym at.2)
          ∙ get_at at.0 f (own ++ at.1);
      next = omega (arith, first, next, one.0);
    }))
    (ahead_is w col q.kind)

-- ---- what follows the last one

not_empty : (n : ℕ) → 0 < n → (n == 0) ≡ false
not_empty n some = grind (arith, nat_tests)

few_by : (none : Bool) (w col : ℕ) → (col == 0) ≡ none → 0 < w → cond none 0 (w - col) < w
few_by true w col is wide = omega (arith, wide)
few_by false w col is wide = grind (arith, nat_tests)

few_blanks : (empty : Bool) (w col : ℕ) → empty ≡ false → 0 < w → filling w empty col < w
few_blanks true w col is wide = absurd (true≢false is)
few_blanks false w col is wide = few_by (col == 0) w col refl wide

pub rests_are_blank : RestsAreBlank
rests_are_blank d before p is =
    let w = d.width in
    let t = d.tabstop in
    let to_end = before ++ p ∷ [] in
    let at_end : pieces_of d.line ≡ to_end ++ [] = is ∙ sym (append-nil to_end) in
    let next = next_is d before [] p is in
    let at = parted w t d.line d.spans d.looks to_end [] d.wide d.stop at_end in
    let rest = blanks w t d.line d.spans d.looks in
    let bytes = some_bytes d before [] p is in
    let some = not_empty (length d.line) (omega (arith, bytes.0, bytes.1)) in
    let col = col_after w 0 (line_atoms t d.line d.spans d.looks) in (
      filling w (length d.line == 0) col,
      few_blanks (length d.line == 0) w col some d.wide,
      ap (λ l. drop (next_cell d before p) l) at.2
          ∙ ap (λ k. drop k (at.0 ++ rest)) (next ∙ sym at.1)
          ∙ drop-append_seam at.0 rest,
    )

no_pieces : (ps : List Piece) → Cover 0 ps 0 → ps ≡ []
no_pieces [] h = refl
no_pieces (p ∷ ps) h = absurd (omega (arith, h.0, h.1, cover-le p.to ps 0 h.2))

empty_is : (w t : ℕ) (spans : List Span) (looks : Looks) → cells_of_line w t [] spans looks ≡ replicate w (space (rest_attr spans 0))
unfolding cells_of_line
empty_is w t spans looks =
    ap (λ ps. row_cells w (filler_of looks) (space (rest_attr spans 0)) true (atoms_from t 0 [] spans looks.special ps))
    (no_pieces (pieces_of []) (lines_are_covered []))

pub empty_lines_are_blank : EmptyLinesAreBlank
empty_lines_are_blank d is =
    ap (λ l. cells_of_line d.width d.tabstop l d.spans d.looks) is ∙ empty_is d.width d.tabstop d.spans d.looks

pub bytes_past_stand_first : BytesPastLinesStandFirst
bytes_past_stand_first d byte le =
    past d.width d.tabstop d.line byte 0 0 0 0 (pieces_of d.line) (length d.line) (lines_are_covered d.line) le

-- ---- Tabs

tab_columns : (t n : ℕ) → 0 < t → (n / t + 1) * t ≡ n + ((n / t + 1) * t - n)
tab_columns t n some = omega (arith, next_stop t n, div-add-mod' n t, mod_below n t some)

tab_some : (t n : ℕ) → 0 < t → 0 < (n / t + 1) * t - n
tab_some t n some = omega (arith, next_stop t n, div-add-mod' n t, mod_below n t some)

tab_most : (t n : ℕ) → 0 < t → (n / t + 1) * t - n ≤ t
tab_most t n some = omega (arith, next_stop t n, div-add-mod' n t, mod_below n t some)

pub tabs_end_at_stops : TabsEndAtStops
tabs_end_at_stops d before after p is kind =
    let t = d.tabstop in
    let n = columns_of_pieces t 0 before in
    let attr = attr_at d.spans p.from in
    let m = (n / t + 1) * t - n in
    let spaces : piece_cells d before p ≡ replicate m (space attr) =
    ap (λ k. cells_of_kind d n attr (slice_range d.line p.from p.to) k) kind in
    let count : length (piece_cells d before p) ≡ (n / t + 1) * t - n = ap length spaces ∙ length-replicate m (space attr) in
    record {
      count = m;
      shown = ap (λ k. slice_range (line_cells d) (first_cell d p) (first_cell d p + k)) (sym count) ∙ (pieces_stand d before after p is).shown ∙ spaces;
      some = tab_some t n d.stop;
      most = tab_most t n d.stop;
      ends = ap (λ k. k % t) (sym (tab_columns t n d.stop)) ∙ mul-mod_left (n / t + 1) t;
    }

cluster_columns : (wide one : Bool) (n : ℕ) → one ≡ false → cond wide (n + 2) (n + 1) ≡ n + cond wide (cond one 1 2) 1
cluster_columns true true n is = absurd (true≢false is)
cluster_columns true false n is = refl
cluster_columns false one n is = refl

kind_columns : (w t n : ℕ) (k : Kind) → 1 < w → 0 < t → column_after t n k ≡ n + width_of w (column_after t n Tab - n) k
kind_columns w t n Tab many some = tab_columns t n some
kind_columns w t n (Control byte) many some = refl
kind_columns w t n (Escape byte) many some = refl
kind_columns w t n (Cluster m) many some =
    let two : (w == 1) ≡ false = grind (arith, nat_tests) in
    cluster_columns (m == 2) (w == 1) n two

pub columns_are_cells : ColumnsAreCells
columns_are_cells d before p many =
    let n = columns_of_pieces d.tabstop 0 before in
    columns-append d.tabstop 0 before (p ∷ [])
    ∙ kind_columns d.width d.tabstop n p.kind many d.stop
    ∙ ap (λ k. n + k) (sym (count_is d before [] p))
