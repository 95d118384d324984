-- One piece, laid behind so many cells and so many columns.
use Rattle.std.proofs.Common.{◌≡◌, ◌<◌, ◌+◌, ◌-◌, ◌*◌, ◌/◌, ◌%◌, ℕ, zero, suc, Bool, true, false, not, cond, ◌&&◌, ◌==◌, List, [], ◌∷◌, ◌++◌, length, replicate, slice_range, refl, sym, ap, ◌∙◌, arith, length-append, eqb-true}
use Rattle.std.proofs.Math.Nat.{add-mul, div-add-mod', mod-add-mod, mod_self, mul-add-mod_self_right, mul-mod_left, mod-eq_of_lt}
use Rattle.std.proofs.lemmas.Bool.Decides.{nat_tests}
use Rattle.std.proofs.lemmas.List.{length-replicate}
use Rattle.std.proofs.lemmas.Nat.{mod_below}
use Rattle.nv_text.specs.declared.piece.Kind.{Kind}
use Rattle.nv_text.specs.declared.piece.Kind.TheVariants.{Tab, Control, Escape, Cluster}
use Rattle.nv_text.specs.declared.piece.Piece.{Piece}
use Rattle.nv_hl.specs.declared.attribute.Attr.{Attr}
use Rattle.nv_hl.specs.declared.cell.Cell.{Cell}
use Rattle.nv_hl.specs.Attributes.{combined}
use Rattle.nv_hl.specs.Cells.{cell_of, right_half, space}
use Rattle.nv_linedraw.specs.declared.looks.Span.{Span}
use Rattle.nv_linedraw.specs.LineCells.{Atom, single, ones, attr_at, cells_ahead, cells_from_column, cluster_atom, col_after, control_text, escape_text, kind_atoms, piece_atoms, round, stop_after}
use Rattle.nv_linedraw.proofs.WholeLemmas.{passes_all}
use Rattle.nv_cells_laws.specs.DrawnLines.{byte_cells, column_after}

-- ---- a counter that goes round is a remainder

rounds_by : (b : Bool) (t k : ℕ) → (k + 1 == t) ≡ b → k < t → cond b 0 (k + 1) ≡ (k + 1) % t
rounds_by true t k e lt = sym (ap (λ n. n % t) (eqb-true (k + 1) t e) ∙ mod_self t)
rounds_by false t k e lt =
    let less : k + 1 < t = grind (arith, nat_tests) in
    sym (mod-eq_of_lt less)

pub rounds : (t n : ℕ) → 0 < t → round t (n % t) ≡ (n + 1) % t
rounds t n some = rounds_by (n % t + 1 == t) t (n % t) refl (mod_below n t some) ∙ mod-add-mod n t 1

rounds_twice : (t n : ℕ) → 0 < t → round t (round t (n % t)) ≡ (n + 2) % t
rounds_twice t n some =
    let two : n + 1 + 1 ≡ n + 2 = omega arith in
    ap (round t) (rounds t n some) ∙ rounds t (n + 1) some ∙ ap (λ k. k % t) two

rounds_on : (t n : ℕ) → 0 < t → round t (round t (round t (round t (n % t)))) ≡ (n + 4) % t
rounds_on t n some =
    let four : n + 2 + 2 ≡ n + 4 = omega arith in
    ap (λ k. round t (round t k)) (rounds_twice t n some) ∙ rounds_twice t (n + 2) some ∙ ap (λ k. k % t) four

stops_cluster : (wide : Bool) (t n : ℕ) → 0 < t → cond wide (round t (round t (n % t))) (round t (n % t)) ≡ cond wide (n + 2) (n + 1) % t
stops_cluster true t n some = rounds_twice t n some
stops_cluster false t n some = rounds t n some

-- the cells behind the last tab stop are those of the column
pub stops : (t n : ℕ) (k : Kind) → 0 < t → stop_after t (n % t) k ≡ column_after t n k % t
stops t n Tab some = sym (mul-mod_left (n / t + 1) t)
stops t n (Control byte) some = rounds_twice t n some
stops t n (Escape byte) some = rounds_on t n some
stops t n (Cluster m) some = stops_cluster (m == 2) t n some

-- ---- the spaces of a Tab

pub next_stop : (t n : ℕ) → (n / t + 1) * t ≡ n / t * t + t
next_stop t n = omega (arith, add-mul (n / t) 1 t)

pub tab_room : (t n : ℕ) → 0 < t → t - n % t ≡ (n / t + 1) * t - n
tab_room t n some = omega (arith, next_stop t n, div-add-mod' n t, mod_below n t some)

-- ---- the cells of a piece without fillers, over plain variables

abbrev pub own_cluster : ℕ → Cell → Bool → Cell → List Cell
own_cluster w f true c = cond (w == 1) (f ∷ []) (c ∷ right_half c.attr ∷ [])
own_cluster w f false c = c ∷ []

abbrev pub own : ℕ → Cell → ℕ → Attr → Attr → List ℕ → Kind → List Cell
own w f n attr special text Tab = replicate n (space attr)
own w f n attr special text (Control byte) = byte_cells (combined special attr) (control_text byte)
own w f n attr special text (Escape byte) = byte_cells (combined special attr) (escape_text byte)
own w f n attr special text (Cluster m) = own_cluster w f (m == 2) (cell_of text attr)

equal_laid : (w : ℕ) (f c : Cell) (col n : ℕ) → cells_from_column w f col (replicate n (single c)) ≡ replicate n c
equal_laid w f c col zero = refl
equal_laid w f c col (suc n) = ap (λ t. c ∷ t) (equal_laid w f c (round w col) n)

ones_laid : (w : ℕ) (f : Cell) (col : ℕ) (bytes : List ℕ) (attr : Attr) → cells_from_column w f col (ones bytes attr) ≡ byte_cells attr bytes
ones_laid w f col [] attr = refl
ones_laid w f col (byte ∷ bytes) attr = ap (λ t. cell_of (byte ∷ []) attr ∷ t) (ones_laid w f (round w col) bytes attr)

pair_laid : (one last : Bool) (f c : Cell)
    → cond one (f ∷ []) (cond last (f ∷ c ∷ right_half c.attr ∷ []) (c ∷ right_half c.attr ∷ [])) ++ []
    ≡ replicate (cond (not one && last) 1 0) f ++ cond one (f ∷ []) (c ∷ right_half c.attr ∷ [])
pair_laid true last f c = refl
pair_laid false true f c = refl
pair_laid false false f c = refl

cluster_laid : (wide : Bool) (w : ℕ) (f : Cell) (col : ℕ) (text : List ℕ) (attr : Attr)
    → cells_from_column w f col (cluster_atom wide text attr ∷ [])
    ≡ replicate (cond (wide && not (w == 1) && (col + 1 == w)) 1 0) f ++ own_cluster w f wide (cell_of text attr)
cluster_laid true w f col text attr = pair_laid (w == 1) (col + 1 == w) f (cell_of text attr)
cluster_laid false w f col text attr = refl

pub laid_own : (w : ℕ) (f : Cell) (col t stop : ℕ) (attr special : Attr) (text : List ℕ) (k : Kind)
    → cells_from_column w f col (kind_atoms t stop attr special text k) ≡ replicate (cells_ahead w col k) f ++ own w f (t - stop) attr special text k
laid_own w f col t stop attr special text Tab = equal_laid w f (space attr) col (t - stop)
laid_own w f col t stop attr special text (Control byte) = ones_laid w f col (control_text byte) (combined special attr)
laid_own w f col t stop attr special text (Escape byte) = ones_laid w f col (escape_text byte) (combined special attr)
laid_own w f col t stop attr special text (Cluster m) = cluster_laid (m == 2) w f col text attr

-- ---- how many there are

abbrev pub width_of : ℕ → ℕ → Kind → ℕ
width_of w n Tab = n
width_of w n (Control byte) = 2
width_of w n (Escape byte) = 4
width_of w n (Cluster m) = cond (m == 2) (cond (w == 1) 1 2) 1

pair_count : (one : Bool) (f c d : Cell) → length (cond one (f ∷ []) (c ∷ d ∷ [])) ≡ cond one 1 2
pair_count true f c d = refl
pair_count false f c d = refl

cluster_count : (wide : Bool) (w : ℕ) (f c : Cell) → length (own_cluster w f wide c) ≡ cond wide (cond (w == 1) 1 2) 1
cluster_count true w f c = pair_count (w == 1) f c (right_half c.attr)
cluster_count false w f c = refl

pub own_count : (w : ℕ) (f : Cell) (n : ℕ) (attr special : Attr) (text : List ℕ) (k : Kind) → length (own w f n attr special text k) ≡ width_of w n k
own_count w f n attr special text Tab = length-replicate n (space attr)
own_count w f n attr special text (Control byte) = refl
own_count w f n attr special text (Escape byte) = refl
own_count w f n attr special text (Cluster m) = cluster_count (m == 2) w f (cell_of text attr)

-- the cells that a piece takes, with a filler ahead
abbrev pub taken : ℕ → ℕ → ℕ → ℕ → Kind → ℕ
taken w t n at k = cells_ahead w (at % w) k + width_of w (column_after t n Tab - n) k

pub laid_count : (w t n at : ℕ) (f : Cell) (line : List ℕ) (spans : List Span) (special : Attr) (p : Piece) → 0 < t
    → length (cells_from_column w f (at % w) (piece_atoms t (n % t) line spans special p)) ≡ taken w t n at p.kind
laid_count w t n at f line spans special p some =
    let attr = attr_at spans p.from in
    let text = slice_range line p.from p.to in
    let ahead = cells_ahead w (at % w) p.kind in
    let cells = own w f (t - n % t) attr special text p.kind in
    ap length (laid_own w f (at % w) t (n % t) attr special text p.kind)
    ∙ length-append (replicate ahead f) cells
    ∙ (λ i. length-replicate ahead f i + own_count w f (t - n % t) attr special text p.kind i)
    ∙ ap (λ m. ahead + width_of w m p.kind) (tab_room t n some)

-- the column behind atoms, by the number of their cells
pub next_col : (w : ℕ) (f : Cell) (xs : List Atom) (at : ℕ) → 0 < w
    → col_after w (at % w) xs ≡ (at + length (cells_from_column w f (at % w) xs)) % w
next_col w f xs at wide =
    let n = length (cells_from_column w f (at % w) xs) in
    let passes = passes_all w f (at % w) xs (mod_below at w wide) in
    sym (mod-eq_of_lt passes.within)
    ∙ sym (mul-add-mod_self_right passes.rows w (col_after w (at % w) xs))
    ∙ ap (λ k. k % w) (sym passes.is)
    ∙ mod-add-mod at w n
