-- What the reading from the left says, in the words of spellings alone.
use Rattle.std.proofs.Common.{◌≡◌, ◌⊎◌, ℕ, ◌+◌, ◌<◌, ◌≤◌, zero, suc, List, [], ◌++◌, length, take, drop, refl, sym, ap, ◌∙◌, arith, length-append, inl, inr, ⊎_elim}
use Rattle.std.proofs.lemmas.List.{append_assoc, append-nil, take-append-drop, length-take, take-take, take_all, append_cancel_left}
use Rattle.std.proofs.lemmas.Bool.{cases_lt}
use Rattle.nv_value.specs.Content.{Tree, Trees, no_more, one}
use Rattle.nv_msgpack.specs.Spelling.{Each}
use Rattle.nv_msgpack.specs.Reading.{Reading, whole, more, flawed, Flaw, bad, too_deep, too_long, value_at}
use Rattle.nv_msgpack.specs.Within.{SpellsWithin, BeginsWell, IsPartial, Lies, IsFlaw, BeginsNone, StreamsHaveOneCut}
use Rattle.nv_msgpack.proofs.Complete.{complete}
use Rattle.nv_msgpack.proofs.Sound.{sound}
use Rattle.nv_msgpack.proofs.Apart.{apart}
use Rattle.nv_msgpack.proofs.Partial.{grows}
use Rattle.nv_msgpack.proofs.Flaws.{stays, stays_whole, cause, seen_at_once, IsSeenAtOnce}

pub empty_wants : (depth room : ℕ) → value_at depth room [] ≡ more
unfolding value_at
empty_wants zero room = refl
empty_wants (suc depth) room = refl

-- a spelling at the front is what is read
pub reads : (depth most : ℕ) (bytes : List ℕ) (t : Tree) (front tail : List ℕ) → bytes ≡ front ++ tail → SpellsWithin depth most t front → value_at depth most bytes ≡ whole t (length front)
reads depth most bytes t front tail e h = ap (λ (l : List ℕ). value_at depth most l) e ∙ complete depth t front tail most h.0 h.1

cases_le : (a b : ℕ) → (a ≤ b) ⊎ (b < a)
cases_le a b = ⊎_elim (λ l. inr l) (λ l. inl l) (cases_lt b a)

reads_whole : (depth most : ℕ) (bytes : List ℕ) (t : Tree) → SpellsWithin depth most t bytes → value_at depth most bytes ≡ whole t (length bytes)
reads_whole depth most bytes t h = reads depth most bytes t bytes [] (sym (append-nil bytes)) h

-- what is read is a spelling
pub is_whole : (depth most : ℕ) (bytes : List ℕ) (t : Tree) (k : ℕ) → 1 ≤ most → value_at depth most bytes ≡ whole t k → (k ≤ length bytes) × SpellsWithin depth most t (take k bytes)
is_whole depth most bytes t k h e =
    let w = sound depth most bytes t k (omega arith) e in
    let f = w.fits in
    (w.within, (w.spelled, omega (arith, length-take k bytes)))

-- a reading that wants more is of a front of a spelling
pub is_partial : (depth most : ℕ) (bytes : List ℕ) → 1 ≤ most → value_at depth most bytes ≡ more → IsPartial depth most bytes
is_partial depth most bytes h e =
    let g = grows depth most bytes (omega arith) e in
    let f = g.fits in
    (g.tail, g.tree, g.some_tail, (g.spelled, omega (arith, length-append bytes g.tail)))

not_flawed : (depth most : ℕ) (bytes tail : List ℕ) (t : Tree) (x : Flaw) (k : ℕ) → 1 ≤ most → SpellsWithin depth most t (bytes ++ tail) → value_at depth most bytes ≡ flawed x k → ⊥
not_flawed depth most bytes tail t x k h s e =
    let a : value_at depth most (bytes ++ tail) ≡ flawed x k = stays depth most bytes tail x k (omega arith) e in
    let b : value_at depth most (bytes ++ tail) ≡ whole t (length (bytes ++ tail)) = reads_whole depth most (bytes ++ tail) t s in
    let c : flawed x k ≡ whole t (length (bytes ++ tail)) = sym a ∙ b in
    cc

not_whole : (depth most : ℕ) (bytes tail : List ℕ) (t u : Tree) (k : ℕ) → 1 ≤ most → 0 < length tail → SpellsWithin depth most t (bytes ++ tail) → value_at depth most bytes ≡ whole u k → ⊥
not_whole depth most bytes tail t u k h l s e =
    let a : value_at depth most (bytes ++ tail) ≡ whole u k = stays_whole depth most bytes tail u k (omega arith) e in
    let b : value_at depth most (bytes ++ tail) ≡ whole t (length (bytes ++ tail)) = reads_whole depth most (bytes ++ tail) t s in
    let c : whole u k ≡ whole t (length (bytes ++ tail)) = sym a ∙ b in
    let same : k ≡ length (bytes ++ tail) = cc in
    let w = sound depth most bytes u k (omega arith) e in
    let within = w.within in
    omega (arith, length-append bytes tail)

by_reading : (depth most : ℕ) (bytes : List ℕ) → 1 ≤ most → IsPartial depth most bytes → (r : Reading Tree) → value_at depth most bytes ≡ r → value_at depth most bytes ≡ more
by_reading depth most bytes h p (whole u k) e = absurd (not_whole depth most bytes p.0 p.1 u k h p.2 p.3 e)
by_reading depth most bytes h p more e = e
by_reading depth most bytes h p (flawed x k) e = absurd (not_flawed depth most bytes p.0 p.1 x k h p.3 e)

-- the front of a spelling wants more
pub wants_more : (depth most : ℕ) (bytes : List ℕ) → 1 ≤ most → IsPartial depth most bytes → value_at depth most bytes ≡ more
wants_more depth most bytes h p = by_reading depth most bytes h p (value_at depth most bytes) refl

-- where a text has a flaw, one of its fronts wants more and the front of one more byte has a flaw
record Turn (depth most : ℕ) (bytes : List ℕ) : Type 0 where
  at : ℕ
  within : at < length bytes
  wants : value_at depth most (take at bytes) ≡ more
  flaw : Flaw
  place : ℕ
  fails : value_at depth most (take (at + 1) bytes) ≡ flawed flaw place

take_suc : (n : ℕ) (bytes : List ℕ) → take n (take (n + 1) bytes) ≡ take n bytes
take_suc n bytes = take-take n (n + 1) bytes (omega arith)

still_whole : (depth most : ℕ) (bytes : List ℕ) (n : ℕ) (t : Tree) (k : ℕ) → 1 ≤ most → value_at depth most (take n bytes) ≡ whole t k → value_at depth most (take (n + 1) bytes) ≡ whole t k
still_whole depth most bytes n t k h e =
    let split : take (n + 1) bytes ≡ take n bytes ++ drop n (take (n + 1) bytes) =
    sym (take-append-drop n (take (n + 1) bytes)) ∙ ap (λ (l : List ℕ). l ++ drop n (take (n + 1) bytes)) (take_suc n bytes) in
    ap (λ (l : List ℕ). value_at depth most l) split ∙ stays_whole depth most (take n bytes) (drop n (take (n + 1) bytes)) t k (omega arith) e

turn_by : (depth most : ℕ) (bytes : List ℕ) (n : ℕ) (x : Flaw) (k : ℕ) → 1 ≤ most → n < length bytes → value_at depth most (take (n + 1) bytes) ≡ flawed x k
    → ((y : Flaw) (j : ℕ) → 1 ≤ most → n ≤ length bytes → value_at depth most (take n bytes) ≡ flawed y j → Turn depth most bytes)
    → (r : Reading Tree) → value_at depth most (take n bytes) ≡ r → Turn depth most bytes
turn_by depth most bytes n x k h l e before (whole t j) q =
    let c : whole t j ≡ flawed x k = sym (still_whole depth most bytes n t j h q) ∙ e in cc
turn_by depth most bytes n x k h l e before more q = record { at = n; within = l; wants = q; flaw = x; place = k; fails = e }
turn_by depth most bytes n x k h l e before (flawed y j) q = before y j h (omega arith) q

turns : (depth most : ℕ) (bytes : List ℕ) (n : ℕ) (x : Flaw) (k : ℕ) → 1 ≤ most → n ≤ length bytes → value_at depth most (take n bytes) ≡ flawed x k → Turn depth most bytes
turns depth most bytes zero x k h l e = let c : more ≡ flawed x k = sym (empty_wants depth most) ∙ e in cc
turns depth most bytes (suc n) x k h l e =
    let one_more : suc n ≡ n + 1 = omega arith in
    let fails : value_at depth most (take (n + 1) bytes) ≡ flawed x k = ap (λ (y : ℕ). value_at depth most (take y bytes)) (sym one_more) ∙ e in
    turn_by depth most bytes n x k h (omega arith) fails (turns depth most bytes n) (value_at depth most (take n bytes)) refl

begins_well : (depth most : ℕ) (bytes : List ℕ) → 1 ≤ most → value_at depth most bytes ≡ more → BeginsWell depth most bytes
begins_well depth most bytes h e = let p = is_partial depth most bytes h e in (p.0, p.1, p.3)

-- the first front that has the flaw has it where the whole text has it
same_flaw : (depth most : ℕ) (bytes : List ℕ) (x y : Flaw) (j k n : ℕ) → 1 ≤ most → value_at depth most bytes ≡ flawed x k → value_at depth most (take n bytes) ≡ flawed y j → (x ≡ y) × (k ≡ j)
same_flaw depth most bytes x y j k n h e q =
    let a : value_at depth most (take n bytes ++ drop n bytes) ≡ flawed y j = stays depth most (take n bytes) (drop n bytes) y j (omega arith) q in
    let b : flawed x k ≡ flawed y j = sym e ∙ ap (λ (l : List ℕ). value_at depth most l) (sym (take-append-drop n bytes)) ∙ a in
    (cc, cc)

-- a flaw that is seen at once is seen at the byte where the text stops
at_once : (depth most : ℕ) (bytes : List ℕ) (x : Flaw) (k at : ℕ) → 1 ≤ most → IsSeenAtOnce x → value_at depth most bytes ≡ flawed x k → value_at depth most (take at bytes) ≡ more → at ≤ k
at_once depth most bytes x k at h soon e q =
    ⊎_elim (λ l. l)
    (λ l. let early : value_at depth most (take (k + 1) bytes) ≡ flawed x k = seen_at_once depth most bytes x k soon (omega arith) e in
    let split : take at bytes ≡ take (k + 1) bytes ++ drop (k + 1) (take at bytes) =
    sym (take-append-drop (k + 1) (take at bytes)) ∙ ap (λ (z : List ℕ). z ++ drop (k + 1) (take at bytes)) (take-take (k + 1) at bytes (omega arith)) in
    let late : value_at depth most (take at bytes) ≡ flawed x k =
    ap (λ (z : List ℕ). value_at depth most z) split ∙ stays depth most (take (k + 1) bytes) (drop (k + 1) (take at bytes)) x k (omega arith) early in
    let c : more ≡ flawed x k = sym q ∙ late in cc)
    (cases_le at k)

lies : (x : Flaw) (k at : ℕ) → k ≤ at → (IsSeenAtOnce x → at ≤ k) → Lies x k at
lies bad k at h soon = let l : at ≤ k = soon tt in omega arith
lies too_deep k at h soon = let l : at ≤ k = soon tt in omega arith
lies too_long k at h soon = h

flaw_of : (depth most : ℕ) (bytes : List ℕ) (x : Flaw) (k : ℕ) → 1 ≤ most → value_at depth most bytes ≡ flawed x k → Turn depth most bytes → IsFlaw depth most bytes x k
flaw_of depth most bytes x k h e t =
    let same = same_flaw depth most bytes x t.flaw t.place k (t.at + 1) h e t.fails in
    let seen = cause depth most (take (t.at + 1) bytes) t.flaw t.place (omega arith) t.fails in
    let s0 = seen.0 in
    let s1 = same.1 in
    let inside = t.within in
    let before : k ≤ t.at = omega (arith, length-take (t.at + 1) bytes) in (
      t.at,
      (t.within, begins_well depth most (take t.at bytes) h t.wants, λ b. not_flawed depth most (take (t.at + 1) bytes) b.0 b.1 t.flaw t.place h b.2 t.fails),
      lies x k t.at before (λ soon. at_once depth most bytes x k t.at h soon e t.wants),
      (cause depth most bytes x k (omega arith) e).1,
    )

-- the flaw of the whole text, at the byte where it stops
pub is_flaw : (depth most : ℕ) (bytes : List ℕ) (x : Flaw) (k : ℕ) → 1 ≤ most → value_at depth most bytes ≡ flawed x k → IsFlaw depth most bytes x k
is_flaw depth most bytes x k h e =
    let all : take (length bytes) bytes ≡ bytes = take_all (length bytes) bytes (omega arith) in
    let t = turns depth most bytes (length bytes) x k h (omega arith) (ap (λ (l : List ℕ). value_at depth most l) all ∙ e) in
    flaw_of depth most bytes x k h e t

-- no spelling stands at the front of the rests x and y of one stream: the values before them are the same
abbrev One : ℕ → ℕ → Trees → Trees → List ℕ → List ℕ → List ℕ → List ℕ → Type 0
One depth most ts us a b x y = Each (SpellsWithin depth most) ts a → Each (SpellsWithin depth most) us b → a ++ x ≡ b ++ y → BeginsNone depth most x → BeginsNone depth most y → (ts ≡ us) × (x ≡ y)

one_cut : (depth most : ℕ) (ts us : Trees) (a b x y : List ℕ) → One depth most ts us a b x y
one_cut depth most no_more no_more a b x y p q e f g =
    (refl, sym (ap (λ (l : List ℕ). l ++ x) p) ∙ e ∙ ap (λ (l : List ℕ). l ++ y) q)
one_cut depth most no_more (one u us) a b x y p q e f g =
    absurd (f u q.0 (q.1 ++ y) (sym (ap (λ (l : List ℕ). l ++ x) p) ∙ e ∙ ap (λ (l : List ℕ). l ++ y) q.3 ∙ append_assoc q.0 q.1 y) q.2)
one_cut depth most (one t ts) no_more a b x y p q e f g =
    absurd (g t p.0 (p.1 ++ x) (sym (ap (λ (l : List ℕ). l ++ y) q) ∙ sym e ∙ ap (λ (l : List ℕ). l ++ x) p.3 ∙ append_assoc p.0 p.1 x) p.2)
one_cut depth most (one t ts) (one u us) a b x y p q e f g =
    let left : a ++ x ≡ p.0 ++ (p.1 ++ x) = ap (λ (l : List ℕ). l ++ x) p.3 ∙ append_assoc p.0 p.1 x in
    let right : b ++ y ≡ q.0 ++ (q.1 ++ y) = ap (λ (l : List ℕ). l ++ y) q.3 ∙ append_assoc q.0 q.1 y in
    let joined : p.0 ++ (p.1 ++ x) ≡ q.0 ++ (q.1 ++ y) = sym left ∙ e ∙ right in
    let first = apart t u p.0 q.0 (p.1 ++ x) (q.1 ++ y) (depth, p.2.0) (depth, q.2.0) joined in
    let behind : p.1 ++ x ≡ q.1 ++ y = append_cancel_left q.0 (p.1 ++ x) (q.1 ++ y) (ap (λ (l : List ℕ). l ++ (p.1 ++ x)) (sym first.0) ∙ joined) in
    let others = one_cut depth most ts us p.1 q.1 x y p.4 q.4 behind f g in
    (ap (λ (v : Tree). one v ts) first.1 ∙ ap (λ (vs : Trees). one u vs) others.0, others.1)

-- a stream has one cut
pub streams_have_one_cut : StreamsHaveOneCut
streams_have_one_cut depth most stream ts us x y p q = one_cut depth most ts us p.0 q.0 x y p.1 q.1 (sym p.2 ∙ q.2) p.3 q.3
