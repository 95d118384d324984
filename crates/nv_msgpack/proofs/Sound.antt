-- What is read is spelled by the bytes that it takes.
use Rattle.std.proofs.Common.{◌≡◌, ℕ, ◌+◌, ◌-◌, ◌<◌, ◌≤◌, zero, suc, List, [], ◌∷◌, ◌++◌, length, take, drop, refl, sym, ap, ◌∙◌, subst, arith, cond, ltb, Bool, true, false}
use Rattle.std.proofs.lemmas.List.{length-drop, length-take-le}
use Rattle.std.proofs.Math.Seq.{take-add}
use Rattle.std.proofs.lemmas.Bool.{ltb-false}
use Rattle.nv_value.specs.Content.{Tree, Trees, no_more, one, count}
use Rattle.nv_msgpack.specs.Spelling.{Size, Raw, Many, Form, unused, alone, raw, many, form, width, number_in, extra, raw_value, values, many_value, SpelledBy, SpelledWith, Each, SpellsIn}
use Rattle.nv_msgpack.specs.Reading.{Reading, whole, more, flawed, too_long, Inside, none, some, map_reading, after, items_at, raw_at, many_at, read_by, read_with, value_at}
use Rattle.nv_msgpack.proofs.Lengths.{number_in-take}
use Rattle.nv_msgpack.proofs.Readings.{mapped-is_whole, after-is_whole, chained-is_whole}

-- the first k bytes spell t, within the room
pub record Takes (S : Tree → List ℕ → Type 0) (room : ℕ) (bytes : List ℕ) (t : Tree) (k : ℕ) : Type 0 where
  pub within : k ≤ length bytes
  pub fits : k ≤ room
  pub spelled : S t (take k bytes)

-- the first k bytes spell n values, within the room
pub record TakesItems (I : Trees → List ℕ → Type 0) (n room : ℕ) (bytes : List ℕ) (ts : Trees) (k : ℕ) : Type 0 where
  pub within : k ≤ length bytes
  pub fits : k ≤ room
  pub counted : count ts ≡ n
  pub spelled : I ts (take k bytes)

-- what is read is spelled by S
abbrev pub IsSound : (Tree → List ℕ → Type 0) → (ℕ → List ℕ → Reading Tree) → Type 0
IsSound S read = (room : ℕ) (bytes : List ℕ) (t : Tree) (k : ℕ) → 0 < room → read room bytes ≡ whole t k → Takes S room bytes t k

abbrev pub AreSound : (Trees → List ℕ → Type 0) → (ℕ → ℕ → List ℕ → Reading Trees) → Type 0
AreSound I read = (n room : ℕ) (bytes : List ℕ) (ts : Trees) (k : ℕ) → n ≤ room → read n room bytes ≡ whole ts k → TakesItems I n room bytes ts k

abbrev pub IsSoundInside : (Trees → List ℕ → Type 0) → Inside → Type 0
IsSoundInside I none = Unit {0}
IsSoundInside I (some read) = AreSound I read

-- what raw_at says where it is whole
pub record RawWhole (r : Raw) (s : Size) (room : ℕ) (rest : List ℕ) (t : Tree) (k : ℕ) : Type 0 where
  pub least : k ≡ 1 + width s + (number_in s rest + extra r)
  pub fits : k ≤ room
  pub within : width s + (number_in s rest + extra r) ≤ length rest
  pub tree : t ≡ raw_value r (take (number_in s rest + extra r) (drop (width s) rest))

ways : {A : Type 0} (room least len : ℕ) (v : A) (t : A) (k : ℕ) (a b : Bool) → ltb room least ≡ a → ltb len least ≡ b
    → cond a (flawed too_long 0) (cond b more (whole v least)) ≡ whole t k → (k ≡ least) × (least ≤ room) × (least ≤ len) × (t ≡ v)
ways room least len v t k true b p q e = cc
ways room least len v t k false true p q e = cc
ways room least len v t k false false p q e = (cc, ltb-false room least p, ltb-false len least q, cc)

two : {A : Type 0} (room least len w : ℕ) (v : Reading A) (t : A) (k : ℕ) (a b : Bool) → ltb room least ≡ a → ltb len w ≡ b
    → cond a (flawed too_long 0) (cond b more v) ≡ whole t k → (least ≤ room) × (w ≤ len) × (v ≡ whole t k)
two room least len w v t k true b p q e = cc
two room least len w v t k false true p q e = cc
two room least len w v t k false false p q e = (ltb-false room least p, ltb-false len w q, e)

two_ways : {A : Type 0} (room least len w : ℕ) (v : Reading A) (t : A) (k : ℕ)
    → cond (ltb room least) (flawed too_long 0) (cond (ltb len w) more v) ≡ whole t k → (least ≤ room) × (w ≤ len) × (v ≡ whole t k)
two_ways room least len w v t k e = two room least len w v t k (ltb room least) (ltb len w) refl refl e

three_ways : {A : Type 0} (room least len : ℕ) (v : A) (t : A) (k : ℕ)
    → cond (ltb room least) (flawed too_long 0) (cond (ltb len least) more (whole v least)) ≡ whole t k → (k ≡ least) × (least ≤ room) × (least ≤ len) × (t ≡ v)
three_ways room least len v t k e = ways room least len v t k (ltb room least) (ltb len least) refl refl e

pub raw_at-is_whole : (r : Raw) (s : Size) (room : ℕ) (rest : List ℕ) (t : Tree) (k : ℕ) → raw_at r s room rest ≡ whole t k → RawWhole r s room rest t k
raw_at-is_whole r s room rest t k e =
    let w = three_ways room (1 + width s + (number_in s rest + extra r)) (1 + length rest) (raw_value r (take (number_in s rest + extra r) (drop (width s) rest))) t k e in
    record { least = w.0; fits = omega arith; within = omega arith; tree = w.3 }

raw_sound : (r : Raw) (s : Size) (room : ℕ) (rest : List ℕ) (I : Trees → List ℕ → Type 0) (t : Tree) (k : ℕ) → RawWhole r s room rest t k → SpelledBy I (raw r s) t (take (k - 1) rest)
raw_sound r s room rest I t k w =
    let n = number_in s rest in
    let e : k - 1 ≡ width s + (n + extra r) = let a = w.least in omega arith in
    let l = w.within in
    let size = take (width s) rest in
    let size_long : length size ≡ width s = length-take-le (width s) rest (omega arith) in
    let same : number_in s size ≡ n = number_in-take s (width s) rest (omega arith) (omega arith) in
    let bytes = take (n + extra r) (drop (width s) rest) in
    let bytes_long : length bytes ≡ n + extra r = length-take-le (n + extra r) (drop (width s) rest) (omega (arith, length-drop (width s) rest)) in
    (size, bytes, size_long, bytes_long ∙ ap (λ (x : ℕ). x + extra r) (sym same), ap (λ (x : ℕ). take x rest) e ∙ take-add (width s) (n + extra r) rest, w.tree)

-- what many_at says where it is whole
pub record ManyWhole (read : ℕ → ℕ → List ℕ → Reading Trees) (m : Many) (s : Size) (room : ℕ) (rest : List ℕ) (t : Tree) (k : ℕ) : Type 0 where
  pub fits : 1 + width s + values m (number_in s rest) ≤ room
  pub within : width s ≤ length rest
  pub items : Trees
  pub taken : ℕ
  pub reads : read (values m (number_in s rest)) (room - (1 + width s)) (drop (width s) rest) ≡ whole items taken
  pub tree : t ≡ many_value m items
  pub length_is : k ≡ 1 + width s + taken

pub many_at-is_whole : (read : ℕ → ℕ → List ℕ → Reading Trees) (m : Many) (s : Size) (room : ℕ) (rest : List ℕ) (t : Tree) (k : ℕ) → many_at read m s room rest ≡ whole t k → ManyWhole read m s room rest t k
many_at-is_whole read m s room rest t k e =
    let inner = read (values m (number_in s rest)) (room - (1 + width s)) (drop (width s) rest) in
    let w = two_ways room (1 + width s + values m (number_in s rest)) (length rest) (width s) (after (1 + width s) (map_reading (many_value m) inner)) t k e in
    let a = after-is_whole (1 + width s) (map_reading (many_value m) inner) t k w.2 in
    let b = mapped-is_whole (many_value m) inner t a.0 a.1 in
    record { fits = w.0; within = w.1; items = b.0; taken = a.0; reads = b.1; tree = b.2; length_is = a.2 }

many_sound : (I : Trees → List ℕ → Type 0) (read : ℕ → ℕ → List ℕ → Reading Trees) → AreSound I read → (m : Many) (s : Size) (room : ℕ) (b : ℕ) (rest : List ℕ) (t : Tree) (k : ℕ)
    → ManyWhole read m s room rest t k → (k ≤ suc (length rest)) × (k ≤ room) × SpelledBy I (many m s) t (take (k - 1) rest)
many_sound I read law m s room b rest t k w =
    let n = values m (number_in s rest) in
    let f = w.fits in
    let l = w.within in
    let items = law n (room - (1 + width s)) (drop (width s) rest) w.items w.taken (omega arith) w.reads in
    let j = w.taken in
    let k_is : k ≡ 1 + width s + j = w.length_is in
    let e : k - 1 ≡ width s + j = omega arith in
    let size = take (width s) rest in
    let size_long : length size ≡ width s = length-take-le (width s) rest l in
    let same : number_in s size ≡ number_in s rest = number_in-take s (width s) rest (omega arith) l in
    let i = items.within in
    let i2 = items.fits in
    let long = length-drop (width s) rest in (
      omega arith,
      omega arith,
      (
        size,
        take j (drop (width s) rest),
        w.items,
        size_long,
        items.counted ∙ ap (λ (x : ℕ). values m x) (sym same),
        ap (λ (x : ℕ). take x rest) e ∙ take-add (width s) j rest,
        w.tree,
        items.spelled,
      ),
    )

sound_by : (I : Trees → List ℕ → Type 0) (i : Inside) → IsSoundInside I i → (f : Form) (room : ℕ) (b : ℕ) (rest : List ℕ) (t : Tree) (k : ℕ) → 0 < room
    → read_by i f room rest ≡ whole t k → (k ≤ suc (length rest)) × (k ≤ room) × (0 < k) × SpelledBy I f t (take (k - 1) rest)
sound_by I i law unused room b rest t k h e = cc
sound_by I i law (alone u) room b rest t k h e =
    let k_is : k ≡ 1 = cc in
    let t_is : t ≡ u = cc in
    let nothing : take (k - 1) rest ≡ [] = ap (λ (x : ℕ). take (x - 1) rest) k_is in
    (omega arith, omega arith, omega arith, (t_is, nothing))
sound_by I i law (raw r s) room b rest t k h e =
    let w = raw_at-is_whole r s room rest t k e in
    let a = w.least in
    let c = w.within in
    (omega arith, w.fits, omega arith, raw_sound r s room rest I t k w)
sound_by I none law (many m s) room b rest t k h e = cc
sound_by I (some read) law (many m s) room b rest t k h e =
    let w = many_at-is_whole read m s room rest t k e in
    let x = many_sound I read law m s room b rest t k w in
    let a = w.length_is in
    (x.0, x.1, omega arith, x.2)

take_cons : (k b : ℕ) (rest : List ℕ) → 0 < k → take k (b ∷ rest) ≡ b ∷ take (k - 1) rest
take_cons zero b rest h = absurd (omega arith)
take_cons (suc k) b rest h = let e : suc k - 1 ≡ k = omega arith in rw e refl

sound_with : (I : Trees → List ℕ → Type 0) (i : Inside) → IsSoundInside I i → IsSound (SpelledWith I) (read_with i)
sound_with I i law room [] t k h e = cc
sound_with I i law room (b ∷ rest) t k h e =
    let w = sound_by I i law (form b) room b rest t k h e in
    record { within = w.0; fits = w.1; spelled = subst (λ (l : List ℕ). SpelledWith I t l) (sym (take_cons k b rest w.2)) w.3 }

sound_items : (S : Tree → List ℕ → Type 0) (read : ℕ → List ℕ → Reading Tree) → IsSound S read → AreSound (Each S) (items_at read)
unfolding items_at
sound_items S read law zero room bytes ts k h e =
    let ts_is : ts ≡ no_more = cc in
    let k_is : k ≡ 0 = cc in
    subst (λ (x : Trees). TakesItems (Each S) 0 room bytes x k) (sym ts_is)
    (subst (λ (x : ℕ). TakesItems (Each S) 0 room bytes no_more x) (sym k_is) (record { within = omega arith; fits = omega arith; counted = refl; spelled = refl }))
sound_items S read law (suc n) room bytes ts k h e =
    let c = chained-is_whole (read (room - n) bytes) (λ (t : Tree) (j : ℕ). map_reading (one t) (items_at read n (room - j) (drop j bytes))) ts k e in
    let t = c.0 in
    let j = c.1 in
    let m = c.2 in
    let first = law (room - n) bytes t j (omega arith) c.3 in
    let others = mapped-is_whole (one t) (items_at read n (room - j) (drop j bytes)) ts m c.4 in
    let f1 = first.within in
    let f2 = first.fits in
    let rest = sound_items S read law n (room - j) (drop j bytes) others.0 m (omega arith) others.1 in
    let r1 = rest.within in
    let r2 = rest.fits in
    let k_is : k ≡ j + m = c.5 in
    let long = length-drop j bytes in
    let cut : take k bytes ≡ take j bytes ++ take m (drop j bytes) = ap (λ (x : ℕ). take x bytes) k_is ∙ take-add j m bytes in
    subst (λ (x : Trees). TakesItems (Each S) (suc n) room bytes x k) (sym others.2)
    (record {
      within = omega arith;
      fits = omega arith;
      counted = ap (λ (x : ℕ). suc x) rest.counted;
      spelled = (take j bytes, take m (drop j bytes), first.spelled, cut, rest.spelled);
    })

-- what is read is spelled by the bytes that it takes
pub sound : (depth : ℕ) → IsSound (SpellsIn depth) (value_at depth)
unfolding value_at
sound zero = sound_with (λ ts body. ⊥) none tt
sound (suc depth) = sound_with (Each (SpellsIn depth)) (some (items_at (value_at depth))) (sound_items (SpellsIn depth) (value_at depth) (sound depth))

pub items_sound : (depth : ℕ) → AreSound (Each (SpellsIn depth)) (items_at (value_at depth))
items_sound depth = sound_items (SpellsIn depth) (value_at depth) (sound depth)
