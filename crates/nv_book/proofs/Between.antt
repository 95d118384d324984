-- Outputs that are read piece by piece.
use Rattle.std.proofs.Common.{◌≡◌, ℕ, zero, suc, ◌+◌, ◌≤◌, Bool, true, false, Option, List, [], ◌∷◌, ◌++◌, length, take, drop, map, refl, sym, ap, ◌∙◌, subst, arith, append_assoc, length-append}
use Rattle.std.specs.Prelude.{◌<◌, ◌-◌, ◌*◌, ◌==◌}
use Rattle.std.proofs.lemmas.Bool.{eqb-true}
use Rattle.std.proofs.lemmas.List.{length-drop, map-append, take_all}
use Rattle.nv_value.specs.Content.{Tree, bin}
use Rattle.nv_stream.specs.State.{State}
use Rattle.nv_book.specs.Books.{most_piece, piece_count, pieces_in, output_pieces}
use Rattle.nv_book.specs.Reading.{HasGiven}
use Rattle.nv_book.specs.inside.Intakes.{Intaking, StopsBehind, StopsFor, NoValue}
use Rattle.nv_book.specs.inside.Pieces.{IsPiece, IsNoPiece, HasRead, StopsInOutput, StopsOutput}
use Rattle.nv_book.proofs.Cutting.{piece_number}
use Rattle.nv_book.proofs.Standing.{given_for}
use Rattle.nv_book.specs.declared.faults.Unread.{Unread}
use Rattle.nv_book.specs.declared.faults.Unread.TheVariants.{NoMemory, ReadFault, Malformed}

drop_behind : (a b : List ℕ) (n : ℕ) → n ≤ length a → drop n (a ++ b) ≡ drop n a ++ b
drop_behind a b zero h = refl
drop_behind [] b (suc n) h = absurd (omega arith)
drop_behind (x ∷ a) b (suc n) h = drop_behind a b n (omega arith)

take_front : (a b : List ℕ) (n : ℕ) → n ≤ length a → take n (a ++ b) ≡ take n a
take_front a b zero h = refl
take_front [] b (suc n) h = absurd (omega arith)
take_front (x ∷ a) b (suc n) h = ap (λ (l : List ℕ). x ∷ l) (take_front a b n (omega arith))

-- whole pieces, and then others
pub pieces_more : (n m : ℕ) (a b : List ℕ) → length a ≡ n * most_piece → pieces_in (n + m) (a ++ b) ≡ pieces_in n a ++ pieces_in m b
pieces_more zero m [] b e = let s : 0 + m ≡ m = omega arith in ap (λ (k : ℕ). pieces_in k b) s
pieces_more zero m (x ∷ a) b e = absurd (omega (arith, e))
pieces_more (suc n) m a b e =
    let s : suc n + m ≡ suc (n + m) = omega arith in
    ap (λ (k : ℕ). pieces_in k (a ++ b)) s
    ∙ ap (λ (l : List ℕ). l ∷ pieces_in (n + m) (drop most_piece (a ++ b))) (take_front a b most_piece (omega (arith, e)))
    ∙ ap (λ (l : List ℕ). take most_piece a ∷ pieces_in (n + m) l) (drop_behind a b most_piece (omega (arith, e)))
    ∙ ap (λ (l : List (List ℕ)). take most_piece a ∷ l) (pieces_more n m (drop most_piece a) b (omega (arith, e, length-drop most_piece a)))

pub pieces_push : (n : ℕ) (a b : List ℕ) → length a ≡ n * most_piece → length b ≤ most_piece → pieces_in (n + 1) (a ++ b) ≡ pieces_in n a ++ b ∷ []
pieces_push n a b e h = pieces_more n 1 a b e ∙ ap (λ (l : List ℕ). pieces_in n a ++ l ∷ []) (take_all most_piece b h)

piece_small : (b : Bool) (n : ℕ) → IsPiece b n → n ≤ most_piece
piece_small true n p = p.1
piece_small false n p = omega (arith, p)

piece_some : (b : Bool) (n : ℕ) → IsPiece b n → 0 < n
piece_some true n p = p.0
piece_some false n p = omega (arith, p)

piece_whole : (b : Bool) (done count n : ℕ) → b ≡ (done == count) → done < count → IsPiece b n → n ≡ most_piece
piece_whole true done count n e l p = absurd (omega (arith, l, eqb-true done count (sym e)))
piece_whole false done count n e l p = p

-- ---- an output on its way: so many of its pieces were read

pub record IsCut (done count : ℕ) (out : List ℕ) : Type 0 where
  pub whole : done < count → length out ≡ done * most_piece
  pub last : (n : ℕ) → done ≡ count → count ≡ suc n → (n * most_piece < length out) × (length out ≤ count * most_piece)
  pub none : done ≡ 0 → out ≡ []

pub cut_none : (count : ℕ) → IsCut 0 count []
cut_none count = record {
  whole = λ l. refl;
  last = λ n d c. absurd (omega (arith, d, c));
  none = λ d. refl;
}

pub cut_next : (done count : ℕ) (is_last : Bool) (out piece new : List ℕ) → done < count → is_last ≡ (done + 1 == count) → IsCut done count out → IsPiece is_last (length piece) → new ≡ out ++ piece → IsCut (done + 1) count new
cut_next done count is_last out piece new l b h p e =
    let small : length piece ≤ most_piece = piece_small is_last (length piece) p in
    let long : length new ≡ done * most_piece + length piece = ap (length {A = ℕ}) e ∙ length-append out piece ∙ ap (λ (k : ℕ). k + length piece) (h.whole l) in
    record {
      whole = λ m. omega (arith, long, piece_whole is_last (done + 1) count (length piece) b m p);
      last = λ n d c. (omega (arith, long, piece_some is_last (length piece) p, d, c), omega (arith, long, small, d, c));
      none = λ d. absurd (omega (arith, d));
    }

-- one piece more was read
pub output_more : (bytes : List ℕ) (vs : List Tree) (done count : ℕ) (is_last : Bool) (out new : List ℕ) (x : Intaking) → done < count → is_last ≡ (done + 1 == count) → IsCut done count out
    → HasRead bytes (vs ++ map bin (pieces_in done out)) is_last out new x → HasGiven bytes (vs ++ map bin (pieces_in (done + 1) new)) x.taken x.stream × IsCut (done + 1) count new
output_more bytes vs done count is_last out new x l b h r =
    let p = r.is_put in
    let pieces : pieces_in (done + 1) new ≡ pieces_in done out ++ p.piece ∷ [] =
    ap (λ (o : List ℕ). pieces_in (done + 1) o) p.put ∙ pieces_push done out p.piece (h.whole l) (piece_small is_last (length p.piece) p.fits) in
    let all : (vs ++ map bin (pieces_in done out)) ++ r.t ∷ [] ≡ vs ++ map bin (pieces_in (done + 1) new) =
    append_assoc vs (map bin (pieces_in done out)) (r.t ∷ [])
    ∙ ap (λ (t : Tree). vs ++ (map bin (pieces_in done out) ++ t ∷ [])) p.is
    ∙ ap (λ (ts : List Tree). vs ++ ts) (sym (ap (map bin) pieces ∙ map-append bin (pieces_in done out) (p.piece ∷ []))) in
    (subst (λ (ts : List Tree). HasGiven bytes ts x.taken x.stream) all r.given, cut_next done count is_last out p.piece new l b h p.fits p.put)

-- all pieces were read
pub cut_all : (count : ℕ) (out : List ℕ) → IsCut count count out → piece_count (length out) ≡ count
cut_all zero out h = ap (λ (l : List ℕ). piece_count (length l)) (h.none refl)
cut_all (suc n) out h =
    let p = h.last n refl refl in
    omega (arith, p.0, p.1)

pub output_all : (bytes : List ℕ) (vs : List Tree) (count : ℕ) (out : List ℕ) (x : Intaking) → IsCut count count out → HasGiven bytes (vs ++ map bin (pieces_in count out)) x.taken x.stream
    → HasGiven bytes (vs ++ map bin (output_pieces out)) x.taken x.stream × (length (output_pieces out) ≡ count)
output_all bytes vs count out x h g =
    let n : piece_count (length out) ≡ count = cut_all count out h in
    (subst (λ (k : ℕ). HasGiven bytes (vs ++ map bin (pieces_in k out)) x.taken x.stream) (sym n) g, piece_number out ∙ n)

-- a piece is missing or wrong
pub output_stops : (bytes : List ℕ) (left : Option (List ℕ)) (vs : List Tree) (done count : ℕ) (is_last : Bool) (out : List ℕ) (fault : Unread) → done < count → is_last ≡ (done + 1 == count) → IsCut done count out
    → StopsFor bytes left (vs ++ map bin (pieces_in done out)) (IsNoPiece is_last) fault → StopsOutput bytes left vs count fault
output_stops bytes left vs done count is_last out NoMemory l b h s = tt
output_stops bytes left vs done count is_last out ReadFault l b h s = tt
output_stops bytes left vs done count is_last out (Malformed n) l b h s = record {
  done = done;
  output = out;
  more = l;
  whole = h.whole l;
  stops = subst (λ (y : Bool). StopsBehind bytes left (vs ++ map bin (pieces_in done out)) n (IsNoPiece y)) b s;
}

pub output_for : (a b c : List ℕ) (vs : List Tree) (done count : ℕ) (out : List ℕ) (x : Intaking) → HasGiven ((a ++ b) ++ c) (vs ++ map bin (pieces_in done out)) x.taken x.stream × IsCut done count out
    → HasGiven (a ++ (b ++ c)) (vs ++ map bin (pieces_in done out)) x.taken x.stream × IsCut done count out
output_for a b c vs done count out x h = (given_for a b c (vs ++ map bin (pieces_in done out)) x.taken x.stream h.0, h.1)
