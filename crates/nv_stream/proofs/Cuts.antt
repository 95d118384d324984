-- A stream has one cut, and one end.
use Rattle.std.proofs.Common.{◌≡◌, ℕ, ◌+◌, ◌≤◌, List, [], ◌∷◌, length, Option, Some, None, refl, sym, ap, ◌∙◌, arith, length-append}
use Rattle.nv_value.specs.Content.{Tree, trees_of}
use Rattle.nv_msgpack.specs.Reading.{Reading, whole, more, flawed, value_at}
use Rattle.nv_msgpack.specs.Reading as reading
use Rattle.nv_msgpack.specs.Within.{BeginsNone, IsCut}
use Rattle.nv_msgpack.proofs.Exact.{empty_wants, reads, wants_more, streams_have_one_cut}
use Rattle.nv_io.specs.declared.lanes.Flaw.{Flaw}
use Rattle.nv_io.specs.declared.lanes.Flaw.TheVariants.{Bad, TooDeep, TooLong, Inside, NoCall}
use Rattle.nv_stream.specs.Runs.{Ends, StreamsHaveOneEnd}

-- the flaw of a stream that stands at a byte of its rest
unfoldable pub flaw_at : reading.Flaw → ℕ → Flaw
flaw_at reading.bad place = Bad place
flaw_at reading.too_deep place = TooDeep place
flaw_at reading.too_long place = TooLong place

-- the end of the rest, by its reading
end_read : ℕ → List ℕ → Reading Tree → Option Flaw
end_read at [] r = None
end_read at (b ∷ rest) (whole t k) = None
end_read at (b ∷ rest) more = Some (Inside at)
end_read at (b ∷ rest) (flawed x n) = Some (flaw_at x (at + n))

-- a flaw of the empty list
no_flaw : (depth most : ℕ) (x : reading.Flaw) (n : ℕ) → value_at depth most [] ≡ flawed x n → ⊥
no_flaw depth most x n e = let c : more ≡ flawed x n = sym (empty_wants depth most) ∙ e in cc

ends_read : (depth most at : ℕ) (rest : List ℕ) (end : Option Flaw) → 1 ≤ most → Ends depth most at rest end → end ≡ end_read at rest (value_at depth most rest)
unfolding end_read flaw_at
ends_read depth most at [] None h e = refl
ends_read depth most at (b ∷ rest) None h e = cc
ends_read depth most at [] (Some (Inside place)) h e = absurd (omega (arith, e.1))
ends_read depth most at [] (Some (Bad place)) h e = absurd (no_flaw depth most _ _ e.2.1)
ends_read depth most at [] (Some (TooDeep place)) h e = absurd (no_flaw depth most _ _ e.2.1)
ends_read depth most at [] (Some (TooLong place)) h e = absurd (no_flaw depth most _ _ e.2.1)
ends_read depth most at [] (Some (NoCall place)) h e = absurd e
ends_read depth most at (b ∷ rest) (Some (Inside place)) h e =
    ap (λ (p : ℕ). Some (Inside p)) e.0 ∙ ap (λ (r : Reading Tree). end_read at (b ∷ rest) r) (sym (wants_more depth most (b ∷ rest) h e.2))
ends_read depth most at (b ∷ rest) (Some (Bad place)) h e =
    ap (λ (p : ℕ). Some (Bad p)) e.1 ∙ ap (λ (r : Reading Tree). end_read at (b ∷ rest) r) (sym e.2.1)
ends_read depth most at (b ∷ rest) (Some (TooDeep place)) h e =
    ap (λ (p : ℕ). Some (TooDeep p)) e.1 ∙ ap (λ (r : Reading Tree). end_read at (b ∷ rest) r) (sym e.2.1)
ends_read depth most at (b ∷ rest) (Some (TooLong place)) h e =
    ap (λ (p : ℕ). Some (TooLong p)) e.1 ∙ ap (λ (r : Reading Tree). end_read at (b ∷ rest) r) (sym e.2.1)
ends_read depth most at (b ∷ rest) (Some (NoCall place)) h e = absurd e

not_whole : (depth most at : ℕ) (rest : List ℕ) (end : Option Flaw) (t : Tree) (k : ℕ) → 1 ≤ most → Ends depth most at rest end → value_at depth most rest ≡ whole t k → ⊥
not_whole depth most at rest None t k h e w =
    let c : more ≡ whole t k = sym (empty_wants depth most) ∙ ap (λ (l : List ℕ). value_at depth most l) (sym e) ∙ w in cc
not_whole depth most at rest (Some (Inside place)) t k h e w = let c : more ≡ whole t k = sym (wants_more depth most rest h e.2) ∙ w in cc
not_whole depth most at rest (Some (Bad place)) t k h e w = let c : flawed reading.bad e.0 ≡ whole t k = sym e.2.1 ∙ w in cc
not_whole depth most at rest (Some (TooDeep place)) t k h e w = let c : flawed reading.too_deep e.0 ≡ whole t k = sym e.2.1 ∙ w in cc
not_whole depth most at rest (Some (TooLong place)) t k h e w = let c : flawed reading.too_long e.0 ≡ whole t k = sym e.2.1 ∙ w in cc
not_whole depth most at rest (Some (NoCall place)) t k h e w = absurd e

-- no spelling stands where a stream ends
pub ends_none : (depth most at : ℕ) (rest : List ℕ) (end : Option Flaw) → 1 ≤ most → Ends depth most at rest end → BeginsNone depth most rest
ends_none depth most at rest end h e t front tail split spells = not_whole depth most at rest end t (length front) h e (reads depth most rest t front tail split spells)

trees_of-one : (ts us : List Tree) → trees_of ts ≡ trees_of us → ts ≡ us
trees_of-one [] [] e = refl
trees_of-one [] (u ∷ us) e = cc
trees_of-one (t ∷ ts) [] e = cc
trees_of-one (t ∷ ts) (u ∷ us) e =
    let heads : t ≡ u = cc in
    let tails : trees_of ts ≡ trees_of us = cc in
    let same = trees_of-one ts us tails in
    cc

-- a stream has one cut
pub streams_have_one_end : StreamsHaveOneEnd
streams_have_one_end depth most stream values others end other h p q =
    let left : IsCut depth most stream (trees_of values) p.1 = (p.0, p.2, p.3, ends_none depth most (length p.0) p.1 end h p.4) in
    let right : IsCut depth most stream (trees_of others) q.1 = (q.0, q.2, q.3, ends_none depth most (length q.0) q.1 other h q.4) in
    let same = streams_have_one_cut depth most stream (trees_of values) (trees_of others) p.1 q.1 left right in
    let a : length stream ≡ length p.0 + length p.1 = ap (length {A = ℕ}) p.3 ∙ length-append p.0 p.1 in
    let b : length stream ≡ length q.0 + length q.1 = ap (length {A = ℕ}) q.3 ∙ length-append q.0 q.1 in
    let rests : length p.1 ≡ length q.1 = ap (length {A = ℕ}) same.1 in
    let places : length p.0 ≡ length q.0 = omega arith in
    let one_end : end ≡ end_read (length p.0) p.1 (value_at depth most p.1) = ends_read depth most (length p.0) p.1 end h p.4 in
    let other_end : other ≡ end_read (length q.0) q.1 (value_at depth most q.1) = ends_read depth most (length q.0) q.1 other h q.4 in
    let here : end_read (length p.0) p.1 (value_at depth most p.1) ≡ end_read (length q.0) p.1 (value_at depth most p.1) =
    ap (λ (n : ℕ). end_read n p.1 (value_at depth most p.1)) places in
    let there : end_read (length q.0) p.1 (value_at depth most p.1) ≡ end_read (length q.0) q.1 (value_at depth most q.1) =
    ap (λ (l : List ℕ). end_read (length q.0) l (value_at depth most l)) same.1 in
    (trees_of-one values others same.0, one_end ∙ here ∙ there ∙ sym other_end)
