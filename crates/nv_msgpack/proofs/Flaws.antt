-- A flaw stays whatever follows, has its cause, and is the first.
use Rattle.std.proofs.Common.{◌≡◌, ◌⊎◌, ℕ, ◌+◌, ◌-◌, ◌<◌, ◌≤◌, zero, suc, List, [], ◌∷◌, ◌++◌, length, take, drop, get_or, refl, sym, ap, ◌∙◌, subst, arith, length-append, cond, ltb, Bool, true, false, inl, inr, ⊎_elim}
use Rattle.std.proofs.lemmas.List.{take-append-drop, length-take, length-drop, length-take-le, take-append-le, drop-append-le, take-take, drop-take, get_or-drop}
use Rattle.std.proofs.lemmas.Bool.{ltb-true, ltb-false, lt-ltb}
use Rattle.nv_value.specs.Content.{Tree, Trees, one}
use Rattle.nv_msgpack.specs.Spelling.{Size, Raw, of_list, of_map, Many, Form, unused, alone, raw, many, form, width, number_in, extra, raw_value, values, many_value, SpellsIn}
use Rattle.nv_msgpack.specs.Reading.{Reading, whole, more, flawed, Flaw, bad, too_deep, too_long, Inside, none, some, map_reading, after, reading_then, items_at, raw_at, many_at, read_by, read_with, value_at}
use Rattle.nv_msgpack.specs.Within.{Begins}
use Rattle.nv_msgpack.proofs.Lengths.{number_in-take, number_in-stays, number_in-grows}
use Rattle.nv_msgpack.proofs.Readings.{mapped-is_flawed, after-is_flawed, chained-is_flawed}
use Rattle.nv_msgpack.proofs.Complete.{ReadsAll, complete, many_at-inside}
use Rattle.nv_msgpack.proofs.Sound.{IsSound, sound}

-- what is whole is whole in each text with the same front
whole_front : (S : Tree → List ℕ → Type 0) (read : ℕ → List ℕ → Reading Tree) → ReadsAll S read → IsSound S read → (room : ℕ) (bytes other : List ℕ) (t : Tree) (k : ℕ) → 0 < room
    → read room bytes ≡ whole t k → take k other ≡ take k bytes → read room other ≡ whole t k
whole_front S read all is_sound room bytes other t k h e same =
    let w = is_sound room bytes t k h e in
    let a = w.within in
    let b = w.fits in
    let long : length (take k bytes) ≡ k = length-take-le k bytes a in
    let split : other ≡ take k bytes ++ drop k other = sym (take-append-drop k other) ∙ ap (λ (l : List ℕ). l ++ drop k other) same in
    ap (λ (l : List ℕ). read room l) split ∙ all t (take k bytes) (drop k other) room w.spelled (omega arith) ∙ ap (λ (n : ℕ). whole t n) long

whole_stays : (S : Tree → List ℕ → Type 0) (read : ℕ → List ℕ → Reading Tree) → ReadsAll S read → IsSound S read → (room : ℕ) (bytes tail : List ℕ) (t : Tree) (k : ℕ) → 0 < room
    → read room bytes ≡ whole t k → read room (bytes ++ tail) ≡ whole t k
whole_stays S read all is_sound room bytes tail t k h e =
    whole_front S read all is_sound room bytes (bytes ++ tail) t k h e (take-append-le k bytes tail (is_sound room bytes t k h e).within)

-- where two tests in a row give a flaw
abbrev Fails : {A : Type 0} → ℕ → ℕ → ℕ → ℕ → Reading A → Flaw → ℕ → Type 0
Fails room least len w v x k = ((room < least) × (x ≡ too_long) × (k ≡ 0)) ⊎ ((least ≤ room) × (w ≤ len) × (v ≡ flawed x k))

fails : {A : Type 0} (room least len w : ℕ) (v : Reading A) (x : Flaw) (k : ℕ) (a b : Bool) → ltb room least ≡ a → ltb len w ≡ b
    → cond a (flawed too_long 0) (cond b more v) ≡ flawed x k → Fails room least len w v x k
fails room least len w v x k true b p q e = inl (ltb-true room least p, cc, cc)
fails room least len w v x k false true p q e = cc
fails room least len w v x k false false p q e = inr (ltb-false room least p, ltb-false len w q, e)

raw_fails : (r : Raw) (s : Size) (room : ℕ) (rest : List ℕ) (x : Flaw) (k : ℕ) → raw_at r s room rest ≡ flawed x k → (room < 1 + width s + (number_in s rest + extra r)) × (x ≡ too_long) × (k ≡ 0)
raw_fails r s room rest x k e =
    let least = 1 + width s + (number_in s rest + extra r) in
    let v = whole (raw_value r (take (number_in s rest + extra r) (drop (width s) rest))) least in
    ⊎_elim (λ p. p) (λ p. let q = p.2 in cc) (fails room least (1 + length rest) least v x k (ltb room least) (ltb (1 + length rest) least) refl refl e)

-- a flaw of a list or map: it is too long itself, or a value inside has the flaw
record ManyInside (read : ℕ → ℕ → List ℕ → Reading Trees) (m : Many) (s : Size) (room : ℕ) (rest : List ℕ) (x : Flaw) (k : ℕ) : Type 0 where
  fits : 1 + width s + values m (number_in s rest) ≤ room
  within : width s ≤ length rest
  at : ℕ
  reads : read (values m (number_in s rest)) (room - (1 + width s)) (drop (width s) rest) ≡ flawed x at
  place : k ≡ 1 + width s + at

many_fails : (read : ℕ → ℕ → List ℕ → Reading Trees) (m : Many) (s : Size) (room : ℕ) (rest : List ℕ) (x : Flaw) (k : ℕ) → many_at read m s room rest ≡ flawed x k
    → ((room < 1 + width s + values m (number_in s rest)) × (x ≡ too_long) × (k ≡ 0)) ⊎ ManyInside read m s room rest x k
many_fails read m s room rest x k e =
    let n = values m (number_in s rest) in
    let inner = read n (room - (1 + width s)) (drop (width s) rest) in
    let v = after (1 + width s) (map_reading (many_value m) inner) in
    ⊎_elim (λ p. inl p)
    (λ p.
    let a = after-is_flawed (1 + width s) (map_reading (many_value m) inner) x k p.2 in
    let result : ManyInside read m s room rest x k = record { fits = p.0; within = p.1; at = a.0; reads = mapped-is_flawed (many_value m) inner x a.0 a.1; place = a.2 } in
    inr result)
    (fails room (1 + width s + n) (length rest) (width s) v x k (ltb room (1 + width s + n)) (ltb (length rest) (width s)) refl refl e)

-- a flaw inside, put where it lies in the whole
many_inside : (read : ℕ → ℕ → List ℕ → Reading Trees) (m : Many) (s : Size) (room : ℕ) (rest : List ℕ) (n : ℕ) (x : Flaw) (at k : ℕ) → values m (number_in s rest) ≡ n → 1 + width s + n ≤ room → width s ≤ length rest
    → read n (room - (1 + width s)) (drop (width s) rest) ≡ flawed x at → k ≡ 1 + width s + at → many_at read m s room rest ≡ flawed x k
many_inside read m s room rest n x at k e h l inner place =
    many_at-inside read m s room rest n e h l ∙ ap (λ (r : Reading Trees). after (1 + width s) (map_reading (many_value m) r)) inner ∙ ap (λ (y : ℕ). flawed x y) (sym place)

-- Whatever follows.

abbrev pub Stays : (ℕ → List ℕ → Reading Tree) → Type 0
Stays read = (room : ℕ) (bytes tail : List ℕ) (x : Flaw) (k : ℕ) → 0 < room → read room bytes ≡ flawed x k → read room (bytes ++ tail) ≡ flawed x k

abbrev StayItems : (ℕ → ℕ → List ℕ → Reading Trees) → Type 0
StayItems read = (n room : ℕ) (bytes tail : List ℕ) (x : Flaw) (k : ℕ) → n ≤ room → read n room bytes ≡ flawed x k → read n room (bytes ++ tail) ≡ flawed x k

abbrev StaysInside : Inside → Type 0
StaysInside none = Unit {0}
StaysInside (some read) = StayItems read

too_long_at : {A : Type 0} (room least : ℕ) (b : Bool) (v : Reading A) (x : Flaw) (k : ℕ) → room < least → x ≡ too_long → k ≡ 0 → cond (ltb room least) (flawed too_long 0) (cond b more v) ≡ flawed x k
too_long_at room least b v x k h p q =
    ap (λ (t : Bool). cond t (flawed too_long 0) (cond b more v)) (lt-ltb room least h) ∙ ap (λ (y : Flaw). flawed y 0) (sym p) ∙ ap (λ (y : ℕ). flawed x y) (sym q)

values-grows : (m : Many) (a b : ℕ) → a ≤ b → values m a ≤ values m b
values-grows of_list a b h = h
values-grows of_map a b h = omega arith

stays_by : (i : Inside) → StaysInside i → (f : Form) (room : ℕ) (rest tail : List ℕ) (x : Flaw) (k : ℕ) → read_by i f room rest ≡ flawed x k → read_by i f room (rest ++ tail) ≡ flawed x k
stays_by i law unused room rest tail x k e = e
stays_by i law (alone u) room rest tail x k e = cc
stays_by i law (raw r s) room rest tail x k e =
    let w = raw_fails r s room rest x k e in
    let g = number_in-grows s rest tail in
    let h = w.0 in
    let least = 1 + width s + (number_in s (rest ++ tail) + extra r) in
    too_long_at room least (ltb (1 + length (rest ++ tail)) least) (whole (raw_value r (take (number_in s (rest ++ tail) + extra r) (drop (width s) (rest ++ tail)))) least) x k (omega arith) w.1 w.2
stays_by none law (many m s) room rest tail x k e = e
stays_by (some read) law (many m s) room rest tail x k e =
    let n = values m (number_in s rest) in
    let grown = values m (number_in s (rest ++ tail)) in
    let g : n ≤ grown = values-grows m (number_in s rest) (number_in s (rest ++ tail)) (number_in-grows s rest tail) in
    ⊎_elim
    (λ p. let h = p.0 in
    too_long_at room (1 + width s + grown) (ltb (length (rest ++ tail)) (width s)) (after (1 + width s) (map_reading (many_value m) (read grown (room - (1 + width s)) (drop (width s) (rest ++ tail))))) x k (omega arith) p.1 p.2)
    (λ w. let within = w.within in
    let fits = w.fits in
    let inner : read n (room - (1 + width s)) (drop (width s) (rest ++ tail)) ≡ flawed x w.at =
    ap (λ (l : List ℕ). read n (room - (1 + width s)) l) (drop-append-le (width s) rest tail w.within)
    ∙ law n (room - (1 + width s)) (drop (width s) rest) tail x w.at (omega arith) w.reads in
    many_inside read m s room (rest ++ tail) n x w.at k (ap (λ (y : ℕ). values m y) (number_in-stays s rest tail w.within)) w.fits (omega (arith, length-append rest tail)) inner w.place)
    (many_fails read m s room rest x k e)

stays_with : (i : Inside) → StaysInside i → Stays (read_with i)
stays_with i law room [] tail x k h e = cc
stays_with i law room (b ∷ rest) tail x k h e = stays_by i law (form b) room rest tail x k e

stay_items : (S : Tree → List ℕ → Type 0) (read : ℕ → List ℕ → Reading Tree) → ReadsAll S read → IsSound S read → Stays read → StayItems (items_at read)
unfolding items_at
stay_items S read all is_sound law zero room bytes tail x k h e = cc
stay_items S read all is_sound law (suc n) room bytes tail x k h e =
    let next = λ (t : Tree) (j : ℕ). map_reading (one t) (items_at read n (room - j) (drop j bytes)) in
    let later = λ (t : Tree) (j : ℕ). map_reading (one t) (items_at read n (room - j) (drop j (bytes ++ tail))) in
    ⊎_elim
    (λ first. ap (λ (r : Reading Tree). reading_then r later) (law (room - n) bytes tail x k (omega arith) first))
    (λ other.
    let t = other.0 in
    let j = other.1 in
    let m = other.2 in
    let w = is_sound (room - n) bytes t j (omega arith) other.3 in
    let f1 = w.within in
    let f2 = w.fits in
    let behind : items_at read n (room - j) (drop j (bytes ++ tail)) ≡ flawed x m =
    ap (λ (l : List ℕ). items_at read n (room - j) l) (drop-append-le j bytes tail w.within)
    ∙ stay_items S read all is_sound law n (room - j) (drop j bytes) tail x m (omega arith) (mapped-is_flawed (one t) (items_at read n (room - j) (drop j bytes)) x m other.4) in
    ap (λ (r : Reading Tree). reading_then r later) (whole_stays S read all is_sound (room - n) bytes tail t j (omega arith) other.3)
    ∙ ap (λ (r : Reading Trees). after j (map_reading (one t) r)) behind ∙ ap (λ (y : ℕ). flawed x y) (sym other.5))
    (chained-is_flawed (read (room - n) bytes) next x k e)

pub stays : (depth : ℕ) → Stays (value_at depth)
unfolding value_at
stays zero = stays_with none tt
stays (suc depth) = stays_with (some (items_at (value_at depth))) (stay_items (SpellsIn depth) (value_at depth) (complete depth) (sound depth) (stays depth))

-- The cause.

abbrev pub Caused : List ℕ → Flaw → ℕ → Type 0
Caused bytes x k = (k < length bytes) × Begins x (form (get_or bytes k 0))

abbrev pub HasCause : (ℕ → List ℕ → Reading Tree) → Type 0
HasCause read = (room : ℕ) (bytes : List ℕ) (x : Flaw) (k : ℕ) → 0 < room → read room bytes ≡ flawed x k → Caused bytes x k

abbrev HaveCause : (ℕ → ℕ → List ℕ → Reading Trees) → Type 0
HaveCause read = (n room : ℕ) (bytes : List ℕ) (x : Flaw) (k : ℕ) → n ≤ room → read n room bytes ≡ flawed x k → Caused bytes x k

abbrev HasCauseInside : Inside → Type 0
HasCauseInside none = Unit {0}
HasCauseInside (some read) = HaveCause read

caused_behind : (bytes : List ℕ) (x : Flaw) (j m k : ℕ) → Caused (drop j bytes) x m → k ≡ j + m → Caused bytes x k
caused_behind bytes x j m k c e =
    let long = length-drop j bytes in
    let l = c.0 in
    (omega arith, subst (λ (y : ℕ). Begins x (form y)) (get_or-drop j bytes m 0 ∙ ap (λ (y : ℕ). get_or bytes y 0) (sym e)) c.1)

caused_here : (x y : Flaw) (f : Form) → x ≡ y → Begins y f → Begins x f
caused_here x y f e h = subst (λ (z : Flaw). Begins z f) (sym e) h

here : (b : ℕ) (rest : List ℕ) (x : Flaw) (k : ℕ) (f : Form) → k ≡ 0 → form b ≡ f → Begins x f → Caused (b ∷ rest) x k
here b rest x k f e q h =
    let first : (0 < suc (length rest)) × Begins x (form b) = (omega arith, subst (λ (g : Form). Begins x g) (sym q) h) in
    subst (λ (y : ℕ). Caused (b ∷ rest) x y) (sym e) first

cause_by : (i : Inside) → HasCauseInside i → (b : ℕ) (f : Form) (room : ℕ) (rest : List ℕ) (x : Flaw) (k : ℕ) → form b ≡ f → read_by i f room rest ≡ flawed x k → Caused (b ∷ rest) x k
cause_by i law b unused room rest x k q e =
    let k_is : k ≡ 0 = cc in
    let x_is : x ≡ bad = cc in
    here b rest x k unused k_is q (caused_here x bad unused x_is tt)
cause_by i law b (alone u) room rest x k q e = cc
cause_by i law b (raw r s) room rest x k q e =
    let w = raw_fails r s room rest x k e in
    here b rest x k (raw r s) w.2 q (caused_here x too_long (raw r s) w.1 tt)
cause_by none law b (many m s) room rest x k q e =
    let k_is : k ≡ 0 = cc in
    let x_is : x ≡ too_deep = cc in
    here b rest x k (many m s) k_is q (caused_here x too_deep (many m s) x_is tt)
cause_by (some read) law b (many m s) room rest x k q e =
    ⊎_elim
    (λ p. here b rest x k (many m s) p.2 q (caused_here x too_long (many m s) p.1 tt))
    (λ w. let fits = w.fits in
    caused_behind (b ∷ rest) x (suc (width s)) w.at k
    (law (values m (number_in s rest)) (room - (1 + width s)) (drop (width s) rest) x w.at (omega arith) w.reads)
    (w.place ∙ omega arith))
    (many_fails read m s room rest x k e)

cause_with : (i : Inside) → HasCauseInside i → HasCause (read_with i)
cause_with i law room [] x k h e = cc
cause_with i law room (b ∷ rest) x k h e = cause_by i law b (form b) room rest x k refl e

cause_items : (S : Tree → List ℕ → Type 0) (read : ℕ → List ℕ → Reading Tree) → IsSound S read → HasCause read → HaveCause (items_at read)
unfolding items_at
cause_items S read is_sound law zero room bytes x k h e = cc
cause_items S read is_sound law (suc n) room bytes x k h e =
    let next = λ (t : Tree) (j : ℕ). map_reading (one t) (items_at read n (room - j) (drop j bytes)) in
    ⊎_elim
    (λ first. law (room - n) bytes x k (omega arith) first)
    (λ other.
    let w = is_sound (room - n) bytes other.0 other.1 (omega arith) other.3 in
    let f = w.fits in
    caused_behind bytes x other.1 other.2 k
    (cause_items S read is_sound law n (room - other.1) (drop other.1 bytes) x other.2 (omega arith) (mapped-is_flawed (one other.0) (items_at read n (room - other.1) (drop other.1 bytes)) x other.2 other.4))
    other.5)
    (chained-is_flawed (read (room - n) bytes) next x k e)

pub cause : (depth : ℕ) → HasCause (value_at depth)
unfolding value_at
cause zero = cause_with none tt
cause (suc depth) = cause_with (some (items_at (value_at depth))) (cause_items (SpellsIn depth) (value_at depth) (sound depth) (cause depth))

-- The first byte at which it can be seen, but for a value that is too long.

abbrev pub IsSeenAtOnce : Flaw → Type 0
IsSeenAtOnce too_long = ⊥
IsSeenAtOnce _ = Unit {0}

not_too_long : (x : Flaw) → IsSeenAtOnce x → x ≡ too_long → ⊥
not_too_long x h e = subst IsSeenAtOnce e h

abbrev pub SeenAtOnce : (ℕ → List ℕ → Reading Tree) → Type 0
SeenAtOnce read = (room : ℕ) (bytes : List ℕ) (x : Flaw) (k : ℕ) → IsSeenAtOnce x → 0 < room → read room bytes ≡ flawed x k → read room (take (k + 1) bytes) ≡ flawed x k

abbrev SeeAtOnce : (ℕ → ℕ → List ℕ → Reading Trees) → Type 0
SeeAtOnce read = (n room : ℕ) (bytes : List ℕ) (x : Flaw) (k : ℕ) → IsSeenAtOnce x → n ≤ room → read n room bytes ≡ flawed x k → read n room (take (k + 1) bytes) ≡ flawed x k

abbrev SeenInside : Inside → Type 0
SeenInside none = Unit {0}
SeenInside (some read) = SeeAtOnce read

seen_by : (i : Inside) → SeenInside i → (f : Form) (room : ℕ) (rest : List ℕ) (x : Flaw) (k : ℕ) → IsSeenAtOnce x → read_by i f room rest ≡ flawed x k → read_by i f room (take k rest) ≡ flawed x k
seen_by i law unused room rest x k soon e = e
seen_by i law (alone u) room rest x k soon e = cc
seen_by i law (raw r s) room rest x k soon e = absurd (not_too_long x soon (raw_fails r s room rest x k e).1)
seen_by none law (many m s) room rest x k soon e = e
seen_by (some read) law (many m s) room rest x k soon e =
    let n = values m (number_in s rest) in
    ⊎_elim
    (λ p. absurd (not_too_long x soon p.1))
    (λ w. let within = w.within in
    let fits = w.fits in
    let place = w.place in
    let k_is : k ≡ width s + (w.at + 1) = omega arith in
    let inner : read n (room - (1 + width s)) (drop (width s) (take k rest)) ≡ flawed x w.at =
    ap (λ (y : ℕ). read n (room - (1 + width s)) (drop (width s) (take y rest))) k_is
    ∙ ap (λ (l : List ℕ). read n (room - (1 + width s)) l) (drop-take (width s) (w.at + 1) rest)
    ∙ law n (room - (1 + width s)) (drop (width s) rest) x w.at soon (omega arith) w.reads in
    many_inside read m s room (take k rest) n x w.at k (ap (λ (y : ℕ). values m y) (number_in-take s k rest (omega arith) w.within)) w.fits
    (omega (arith, length-take k rest)) inner w.place)
    (many_fails read m s room rest x k e)

seen_with : (i : Inside) → SeenInside i → SeenAtOnce (read_with i)
seen_with i law room [] x k soon h e = cc
seen_with i law room (b ∷ rest) x k soon h e =
    let one_more : k + 1 ≡ suc k = omega arith in
    ap (λ (y : ℕ). read_with i room (take y (b ∷ rest))) one_more ∙ seen_by i law (form b) room rest x k soon e

see_items : (S : Tree → List ℕ → Type 0) (read : ℕ → List ℕ → Reading Tree) → ReadsAll S read → IsSound S read → SeenAtOnce read → SeeAtOnce (items_at read)
unfolding items_at
see_items S read all is_sound law zero room bytes x k soon h e = cc
see_items S read all is_sound law (suc n) room bytes x k soon h e =
    let next = λ (t : Tree) (j : ℕ). map_reading (one t) (items_at read n (room - j) (drop j bytes)) in
    let later = λ (t : Tree) (j : ℕ). map_reading (one t) (items_at read n (room - j) (drop j (take (k + 1) bytes))) in
    ⊎_elim
    (λ first. ap (λ (r : Reading Tree). reading_then r later) (law (room - n) bytes x k soon (omega arith) first))
    (λ other.
    let t = other.0 in
    let j = other.1 in
    let m = other.2 in
    let w = is_sound (room - n) bytes t j (omega arith) other.3 in
    let f = w.fits in
    let place = other.5 in
    let k_is : k + 1 ≡ j + (m + 1) = omega arith in
    let behind : items_at read n (room - j) (drop j (take (k + 1) bytes)) ≡ flawed x m =
    ap (λ (y : ℕ). items_at read n (room - j) (drop j (take y bytes))) k_is
    ∙ ap (λ (l : List ℕ). items_at read n (room - j) l) (drop-take j (m + 1) bytes)
    ∙ see_items S read all is_sound law n (room - j) (drop j bytes) x m soon (omega arith) (mapped-is_flawed (one t) (items_at read n (room - j) (drop j bytes)) x m other.4) in
    ap (λ (r : Reading Tree). reading_then r later) (whole_front S read all is_sound (room - n) bytes (take (k + 1) bytes) t j (omega arith) other.3 (take-take j (k + 1) bytes (omega arith)))
    ∙ ap (λ (r : Reading Trees). after j (map_reading (one t) r)) behind ∙ ap (λ (y : ℕ). flawed x y) (sym other.5))
    (chained-is_flawed (read (room - n) bytes) next x k e)

pub seen_at_once : (depth : ℕ) → SeenAtOnce (value_at depth)
unfolding value_at
seen_at_once zero = seen_with none tt
seen_at_once (suc depth) = seen_with (some (items_at (value_at depth))) (see_items (SpellsIn depth) (value_at depth) (complete depth) (sound depth) (seen_at_once depth))

-- what is whole stays, whatever follows
pub stays_whole : (depth room : ℕ) (bytes tail : List ℕ) (t : Tree) (k : ℕ) → 0 < room → value_at depth room bytes ≡ whole t k → value_at depth room (bytes ++ tail) ≡ whole t k
stays_whole depth = whole_stays (SpellsIn depth) (value_at depth) (complete depth) (sound depth)
