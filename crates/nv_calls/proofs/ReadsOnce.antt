-- A stream of bytes holds one list of calls alone, and one end.
use Rattle.std.proofs.Common.{◌≡◌, ℕ, ◌+◌, List, [], ◌∷◌, ◌++◌, length, take, Option, Some, None, refl, sym, ap, ap₂, ◌∙◌, subst, arith}
use Rattle.std.proofs.lemmas.List.{append_cancel_left, take_at}
use Rattle.nv_value.specs.Content.{Tree}
use Rattle.nv_io.specs.declared.lanes.Flaw.{Flaw}
use Rattle.nv_io.specs.declared.lanes.Flaw.TheVariants.{Bad, TooDeep, TooLong, Inside, NoCall}
use Rattle.nv_msgpack.specs.Reading.{Reading, whole, more, flawed, value_at}
use Rattle.nv_msgpack.specs.Reading as reading
use Rattle.nv_msgpack.specs.Within.{SpellsWithin}
use Rattle.nv_msgpack.proofs.Exact.{empty_wants, reads, wants_more}
use Rattle.nv_rpc.specs.Calls.{Call, call_in}
use Rattle.nv_calls.specs.Reading.{most_depth, most_bytes, SpellsCall, EndsAt, ReadsFrom, ReadsOnce}

-- what is read at the front of bytes
at_front : List ℕ → Reading Tree
at_front bytes = value_at most_depth most_bytes bytes

-- a spelling at the front is what is read there
front_read : (value : Tree) (bytes front rest : List ℕ) → SpellsWithin most_depth most_bytes value front → bytes ≡ front ++ rest → at_front bytes ≡ whole value (length front)
unfolding at_front
front_read value bytes front rest h e = reads most_depth most_bytes bytes value front rest e h

-- the flaw of a stream that stands at a byte of its rest
flaw_at : reading.Flaw → ℕ → Flaw
flaw_at reading.bad place = Bad place
flaw_at reading.too_deep place = TooDeep place
flaw_at reading.too_long place = TooLong place

-- the end of a rest by what is read at its front
end_read : ℕ → ℕ → List ℕ → Reading Tree → Option Flaw
end_read number place [] r = None
end_read number place (b ∷ rest) (whole value n) = Some (NoCall number)
end_read number place (b ∷ rest) more = Some (Inside place)
end_read number place (b ∷ rest) (flawed x n) = Some (flaw_at x (place + n))

-- nothing whole, and no flaw, is read where nothing is
nothing_read : (r : Reading Tree) → at_front [] ≡ r → more ≡ r
unfolding at_front
nothing_read r e = sym (empty_wants most_depth most_bytes) ∙ e

end_is : (number place : ℕ) (bytes : List ℕ) (end : Option Flaw) → EndsAt number place bytes end → end ≡ end_read number place bytes (at_front bytes)
unfolding end_read flaw_at at_front
end_is number place [] None h = refl
end_is number place (b ∷ rest) None h = cc
end_is number place [] (Some (NoCall n)) h =
    let c : more ≡ whole h.1.value (length h.1.front) = nothing_read _ (front_read h.1.value [] h.1.front h.1.rest h.1.spelled h.1.parts) in cc
end_is number place [] (Some (Inside n)) h = absurd (omega (arith, h.1))
end_is number place [] (Some (Bad n)) h = let c : more ≡ flawed reading.bad h.0 = nothing_read _ h.2.1 in cc
end_is number place [] (Some (TooDeep n)) h = let c : more ≡ flawed reading.too_deep h.0 = nothing_read _ h.2.1 in cc
end_is number place [] (Some (TooLong n)) h = let c : more ≡ flawed reading.too_long h.0 = nothing_read _ h.2.1 in cc
end_is number place (b ∷ rest) (Some (NoCall n)) h =
    ap (λ (k : ℕ). Some (NoCall k)) h.0
    ∙ ap (λ (r : Reading Tree). end_read number place (b ∷ rest) r) (sym (front_read h.1.value (b ∷ rest) h.1.front h.1.rest h.1.spelled h.1.parts))
end_is number place (b ∷ rest) (Some (Inside n)) h =
    ap (λ (k : ℕ). Some (Inside k)) h.0
    ∙ ap (λ (r : Reading Tree). end_read number place (b ∷ rest) r) (sym (wants_more most_depth most_bytes (b ∷ rest) (omega arith) h.2))
end_is number place (b ∷ rest) (Some (Bad n)) h =
    ap (λ (k : ℕ). Some (Bad k)) h.1 ∙ ap (λ (r : Reading Tree). end_read number place (b ∷ rest) r) (sym h.2.1)
end_is number place (b ∷ rest) (Some (TooDeep n)) h =
    ap (λ (k : ℕ). Some (TooDeep k)) h.1 ∙ ap (λ (r : Reading Tree). end_read number place (b ∷ rest) r) (sym h.2.1)
end_is number place (b ∷ rest) (Some (TooLong n)) h =
    ap (λ (k : ℕ). Some (TooLong k)) h.1 ∙ ap (λ (r : Reading Tree). end_read number place (b ∷ rest) r) (sym h.2.1)

-- one value alone is whole at the front
one_value : (t u : Tree) (n m : ℕ) (r : Reading Tree) → r ≡ whole t n → r ≡ whole u m → (t ≡ u) × (n ≡ m)
one_value t u n m r p q = let c : whole t n ≡ whole u m = sym p ∙ q in (cc, cc)

-- where a stream ends no call is spelled
no_call : (number place : ℕ) (bytes : List ℕ) (end : Option Flaw) (call : Call) (front rest : List ℕ) → EndsAt number place bytes end → SpellsCall call front → bytes ≡ front ++ rest → ⊥
unfolding at_front
no_call number place bytes None call front rest h s e =
    let c : more ≡ whole s.value (length front) = nothing_read _ (ap at_front (sym h) ∙ front_read s.value bytes front rest s.spelled e) in cc
no_call number place bytes (Some (NoCall n)) call front rest h s e =
    let same = one_value h.1.value s.value (length h.1.front) (length front) (at_front bytes) (front_read h.1.value bytes h.1.front h.1.rest h.1.spelled h.1.parts) (front_read s.value bytes front rest s.spelled e) in
    let c : None ≡ Some call = sym h.1.no_call ∙ ap call_in same.0 ∙ s.is_call in
    cc
no_call number place bytes (Some (Inside n)) call front rest h s e =
    let c : more ≡ whole s.value (length front) = sym (wants_more most_depth most_bytes bytes (omega arith) h.2) ∙ front_read s.value bytes front rest s.spelled e in cc
no_call number place bytes (Some (Bad n)) call front rest h s e =
    let c : flawed reading.bad h.0 ≡ whole s.value (length front) = sym h.2.1 ∙ front_read s.value bytes front rest s.spelled e in cc
no_call number place bytes (Some (TooDeep n)) call front rest h s e =
    let c : flawed reading.too_deep h.0 ≡ whole s.value (length front) = sym h.2.1 ∙ front_read s.value bytes front rest s.spelled e in cc
no_call number place bytes (Some (TooLong n)) call front rest h s e =
    let c : flawed reading.too_long h.0 ≡ whole s.value (length front) = sym h.2.1 ∙ front_read s.value bytes front rest s.spelled e in cc

-- two calls at the front of the same bytes are one, and what follows them is the same
record SameFront (call other : Call) (front left rest last : List ℕ) : Type 0 where
  pub calls : call ≡ other
  pub fronts : front ≡ left
  pub rests : rest ≡ last

same_front : (bytes : List ℕ) (call other : Call) (front left rest last : List ℕ) → SpellsCall call front → SpellsCall other left → bytes ≡ front ++ rest → bytes ≡ left ++ last → SameFront call other front left rest last
same_front bytes call other front left rest last s o e d =
    let same = one_value s.value o.value (length front) (length left) (at_front bytes) (front_read s.value bytes front rest s.spelled e) (front_read o.value bytes left last o.spelled d) in
    let call_is : Some call ≡ Some other = sym s.is_call ∙ ap call_in same.0 ∙ o.is_call in
    let joined : front ++ rest ≡ left ++ last = sym e ∙ d in
    let fronts : front ≡ left = sym (take_at front rest (length front) refl) ∙ ap (λ (l : List ℕ). take (length front) l) joined ∙ take_at left last (length front) (sym same.1) in
    let tails : front ++ rest ≡ front ++ last = joined ∙ ap (λ (l : List ℕ). l ++ last) (sym fronts) in
    record { calls = cc; fronts = fronts; rests = append_cancel_left front rest last tails }

once : (number place : ℕ) (calls others : List Call) (bytes : List ℕ) (flaw other : Option Flaw) → ReadsFrom number place calls bytes flaw → ReadsFrom number place others bytes other → (calls ≡ others) × (flaw ≡ other)
once number place [] [] bytes flaw other p q = (refl, end_is number place bytes flaw p ∙ sym (end_is number place bytes other q))
once number place [] (call ∷ others) bytes flaw other p q = absurd (no_call number place bytes flaw call q.0 q.1 p q.2 q.3)
once number place (call ∷ calls) [] bytes flaw other p q = absurd (no_call number place bytes other call p.0 p.1 q p.2 p.3)
once number place (call ∷ calls) (second ∷ others) bytes flaw other p q =
    let same = same_front bytes call second p.0 q.0 p.1 q.1 p.2 q.2 p.3 q.3 in
    let there : ReadsFrom (number + 1) (place + length p.0) others p.1 other =
    subst (λ (l : List ℕ). ReadsFrom (number + 1) (place + length p.0) others l other) (sym same.rests)
    (subst (λ (l : List ℕ). ReadsFrom (number + 1) (place + length l) others q.1 other) (sym same.fronts) q.4) in
    let rest = once (number + 1) (place + length p.0) calls others p.1 flaw other p.4 there in
    (ap₂ (λ (c : Call) (cs : List Call). c ∷ cs) same.calls rest.0, rest.1)

pub reads_once : ReadsOnce
reads_once calls others bytes flaw other p q = once 0 0 calls others bytes flaw other p q
