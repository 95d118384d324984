-- A value weighs no more than its spelling.
use Rattle.std.proofs.Common.{◌≡◌, ℕ, zero, suc, pos, ◌≤◌, Bool, true, false, cond, List, [], ◌∷◌, length, get_or, refl, sym, ap, ◌∙◌, arith, length-append}
use Rattle.std.specs.Prelude.{◌<◌, nat_lt, ◌-◌, ◌-ℤ◌}
use Rattle.nv_value.specs.Content.{Tree, Trees, nil, truth, integer, big, text, bin, list, pairs, ext, opaque, no_more, one}
use Rattle.nv_msgpack.specs.Spelling.{fixed, Raw, of_text, of_bin, of_ext, unsigned, signed, float, Many, of_list, of_map, Form, unused, alone, raw, many, form, middle, raw_value, many_value, SpelledBy, SpelledWith, Each, SpellsIn}
use Rattle.nv_args.specs.Weight.{weight, weights}

-- a value that is told by its first byte alone has no string in it
abbrev pub IsPlain : Form → Type 0
IsPlain (alone t) = weight t ≡ 0
IsPlain f = Unit {0}

record Plain (f : Form) : Type 0 where
  pub plain : IsPlain f

plain_if : (b : Bool) (f g : Form) → Plain f → Plain g → Plain (cond b f g)
plain_if true f g p q = p
plain_if false f g p q = q

abbrev pub ArePlain : List Form → Type 0
ArePlain [] = Unit {0}
ArePlain (f ∷ fs) = IsPlain f × ArePlain fs

plain_at : (fs : List Form) (k : ℕ) → ArePlain fs → Plain (get_or fs k unused)
plain_at [] k h = record { plain = tt }
plain_at (f ∷ fs) zero h = record { plain = h.0 }
plain_at (f ∷ fs) (suc k) h = plain_at fs k h.1

middle_plain : ArePlain middle
unfolding middle
middle_plain =
    (refl, (tt, (refl, (refl, (tt, (tt, (tt, (tt, (tt, (tt, (tt, (tt, (tt, (tt, (tt, (tt, (tt, (tt, (tt, (tt, (tt, (tt, (tt, (tt, (tt, (tt, (tt, (tt, (tt, (tt, (tt, (tt, tt))))))))))))))))))))))))))))))))

form_plain : (b : ℕ) → Plain (form b)
unfolding form
form_plain b =
    let negative : Form = cond (nat_lt b 0x100) (alone (integer (pos b -ℤ pos 0x100))) unused in
    let table : Form = cond (nat_lt b 0xe0) (get_or middle (b - 0xc0) unused) negative in
    let string : Form = cond (nat_lt b 0xc0) (raw of_text (fixed (b - 0xa0))) table in
    let array : Form = cond (nat_lt b 0xa0) (many of_list (fixed (b - 0x90))) string in
    let map : Form = cond (nat_lt b 0x90) (many of_map (fixed (b - 0x80))) array in
    plain_if (nat_lt b 0x80) (alone (integer (pos b))) map (record { plain = refl })
    (plain_if (nat_lt b 0x90) (many of_map (fixed (b - 0x80))) array (record { plain = tt })
    (plain_if (nat_lt b 0xa0) (many of_list (fixed (b - 0x90))) string (record { plain = tt })
    (plain_if (nat_lt b 0xc0) (raw of_text (fixed (b - 0xa0))) table (record { plain = tt })
    (plain_if (nat_lt b 0xe0) (get_or middle (b - 0xc0) unused) negative (plain_at middle (b - 0xc0) middle_plain)
    (plain_if (nat_lt b 0x100) (alone (integer (pos b -ℤ pos 0x100))) unused (record { plain = refl }) (record { plain = tt }))))))

unsigned_weight : (b : Bool) (n m : ℕ) → weight (cond b (integer (pos n)) (big m)) ≡ 0
unsigned_weight true n m = refl
unsigned_weight false n m = refl

made_weight : (r : Raw) (inner : List ℕ) → weight (raw_value r inner) ≤ length inner
made_weight of_text inner = omega arith
made_weight of_bin inner = omega arith
made_weight of_ext inner = omega arith
made_weight signed inner = omega arith
made_weight float inner = omega arith
made_weight unsigned inner = let e : weight (raw_value unsigned inner) ≡ 0 = unsigned_weight _ _ _ in omega arith

many_weight : (m : Many) (ts : Trees) → weight (many_value m ts) ≡ weights ts
many_weight of_list ts = refl
many_weight of_map ts = refl

-- what is spelled in these ways weighs no more than its spelling
abbrev pub IsLightly : (Trees → List ℕ → Type 0) → Type 0
IsLightly inside = (ts : Trees) (body : List ℕ) → inside ts body → weights ts ≤ length body

by_weight : (inside : Trees → List ℕ → Type 0) → IsLightly inside → (f : Form) (t : Tree) (rest : List ℕ) → IsPlain f → SpelledBy inside f t rest → weight t ≤ length rest
by_weight inside law unused t rest p s = absurd s
by_weight inside law (alone u) t rest p s = let e : weight t ≡ 0 = ap weight s.0 ∙ p in omega arith
by_weight inside law (raw r z) t rest p s =
    omega (arith, ap weight s.5, made_weight r s.1, ap (length {A = ℕ}) s.4, length-append s.0 s.1)
by_weight inside law (many m z) t rest p s =
    omega (arith, ap weight s.6, many_weight m s.2, law s.2 s.1 s.7, ap (length {A = ℕ}) s.5, length-append s.0 s.1)

with_weight : (inside : Trees → List ℕ → Type 0) → IsLightly inside → (t : Tree) (front : List ℕ) → SpelledWith inside t front → weight t ≤ length front
with_weight inside law t [] s = absurd s
with_weight inside law t (b ∷ rest) s = omega (arith, by_weight inside law (form b) t rest (form_plain b).plain s)

each_weight : (S : Tree → List ℕ → Type 0) → ((t : Tree) (front : List ℕ) → S t front → weight t ≤ length front) → IsLightly (Each S)
each_weight S law no_more body s = omega arith
each_weight S law (one t ts) body s =
    omega (arith, law t s.0 s.2, each_weight S law ts s.1 s.4, ap (length {A = ℕ}) s.3, length-append s.0 s.1)

-- a value weighs no more than its spelling
pub in_weight : (depth : ℕ) (t : Tree) (front : List ℕ) → SpellsIn depth t front → weight t ≤ length front
in_weight zero t front s = with_weight (λ ts body. ⊥) (λ ts body h. absurd h) t front s
in_weight (suc depth) t front s = with_weight (Each (SpellsIn depth)) (each_weight (SpellsIn depth) (in_weight depth)) t front s
