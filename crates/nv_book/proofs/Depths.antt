-- A value is no deeper than its spelling may be.
use Rattle.std.proofs.Common.{◌≡◌, ℕ, zero, suc, pos, ◌≤◌, Bool, true, false, cond, List, [], ◌∷◌, length, get_or, refl, sym, ap, ◌∙◌, arith, length-append}
use Rattle.std.specs.Prelude.{◌<◌, nat_lt, ◌-◌, ◌-ℤ◌}
use Rattle.nv_value.specs.Content.{Tree, Trees, nil, truth, integer, big, text, bin, list, pairs, ext, opaque, no_more, one}
use Rattle.nv_msgpack.specs.Spelling.{fixed, Raw, of_text, of_bin, of_ext, unsigned, signed, float, Many, of_list, of_map, Form, unused, alone, raw, many, form, middle, raw_value, many_value, SpelledBy, SpelledWith, Each, SpellsIn}
use Rattle.nv_msgpack.specs.Shortest.{depth, depths}

-- a value that is told by its first byte alone has none in it
abbrev pub IsPlain : Form → Type 0
IsPlain (alone t) = depth t ≡ 0
IsPlain f = Unit {0}

record Plain (f : Form) : Type 0 where
  pub plain : IsPlain f

plain_if : (b : Bool) (f g : Form) → Plain f → Plain g → Plain (cond b f g)
plain_if true f g p q = p
plain_if false f g p q = q

abbrev pub ArePlain : List Form → Type 0
ArePlain [] = Unit {0}
ArePlain (f ∷ fs) = IsPlain f × ArePlain fs

plain_at : (fs : List Form) (k : ℕ) → ArePlain fs → Plain (get_or fs k unused)
plain_at [] k h = record { plain = tt }
plain_at (f ∷ fs) zero h = record { plain = h.0 }
plain_at (f ∷ fs) (suc k) h = plain_at fs k h.1

middle_plain : ArePlain middle
unfolding middle
middle_plain =
    (refl, (tt, (refl, (refl, (tt, (tt, (tt, (tt, (tt, (tt, (tt, (tt, (tt, (tt, (tt, (tt, (tt, (tt, (tt, (tt, (tt, (tt, (tt, (tt, (tt, (tt, (tt, (tt, (tt, (tt, (tt, (tt, tt))))))))))))))))))))))))))))))))

form_plain : (b : ℕ) → Plain (form b)
unfolding form
form_plain b =
    let negative : Form = cond (nat_lt b 0x100) (alone (integer (pos b -ℤ pos 0x100))) unused in
    let table : Form = cond (nat_lt b 0xe0) (get_or middle (b - 0xc0) unused) negative in
    let string : Form = cond (nat_lt b 0xc0) (raw of_text (fixed (b - 0xa0))) table in
    let array : Form = cond (nat_lt b 0xa0) (many of_list (fixed (b - 0x90))) string in
    let map : Form = cond (nat_lt b 0x90) (many of_map (fixed (b - 0x80))) array in
    plain_if (nat_lt b 0x80) (alone (integer (pos b))) map (record { plain = refl })
    (plain_if (nat_lt b 0x90) (many of_map (fixed (b - 0x80))) array (record { plain = tt })
    (plain_if (nat_lt b 0xa0) (many of_list (fixed (b - 0x90))) string (record { plain = tt })
    (plain_if (nat_lt b 0xc0) (raw of_text (fixed (b - 0xa0))) table (record { plain = tt })
    (plain_if (nat_lt b 0xe0) (get_or middle (b - 0xc0) unused) negative (plain_at middle (b - 0xc0) middle_plain)
    (plain_if (nat_lt b 0x100) (alone (integer (pos b -ℤ pos 0x100))) unused (record { plain = refl }) (record { plain = tt }))))))

pub unsigned_depth : (b : Bool) (n m : ℕ) → depth (cond b (integer (pos n)) (big m)) ≡ 0
unsigned_depth true n m = refl
unsigned_depth false n m = refl

made_depth : (r : Raw) (inner : List ℕ) → depth (raw_value r inner) ≡ 0
made_depth of_text inner = refl
made_depth of_bin inner = refl
made_depth of_ext inner = refl
made_depth signed inner = refl
made_depth float inner = refl
made_depth unsigned inner = unsigned_depth _ _ _

many_depth : (m : Many) (ts : Trees) → depth (many_value m ts) ≡ suc (depths ts)
many_depth of_list ts = refl
many_depth of_map ts = refl

-- what is spelled in these ways is no deeper than this
abbrev pub IsShallow : ℕ → (Trees → List ℕ → Type 0) → Type 0
IsShallow d inside = (ts : Trees) (body : List ℕ) → inside ts body → suc (depths ts) ≤ d

by_depth : (d : ℕ) (inside : Trees → List ℕ → Type 0) → IsShallow d inside → (f : Form) (t : Tree) (rest : List ℕ) → IsPlain f → SpelledBy inside f t rest → depth t ≤ d
by_depth d inside law unused t rest p s = absurd s
by_depth d inside law (alone u) t rest p s = let e : depth t ≡ 0 = ap depth s.0 ∙ p in omega arith
by_depth d inside law (raw r z) t rest p s = omega (arith, ap depth s.5, made_depth r s.1)
by_depth d inside law (many m z) t rest p s = omega (arith, ap depth s.6, many_depth m s.2, law s.2 s.1 s.7)

with_depth : (d : ℕ) (inside : Trees → List ℕ → Type 0) → IsShallow d inside → (t : Tree) (front : List ℕ) → SpelledWith inside t front → depth t ≤ d
with_depth d inside law t [] s = absurd s
with_depth d inside law t (b ∷ rest) s = by_depth d inside law (form b) t rest (form_plain b).plain s

each_depth : (d : ℕ) (S : Tree → List ℕ → Type 0) → ((t : Tree) (front : List ℕ) → S t front → depth t ≤ d) → (ts : Trees) (body : List ℕ) → Each S ts body → depths ts ≤ d
each_depth d S law no_more body s = omega arith
each_depth d S law (one t ts) body s = omega (arith, law t s.0 s.2, each_depth d S law ts s.1 s.4)

-- a value is no deeper than this
pub in_depth : (d : ℕ) (t : Tree) (front : List ℕ) → SpellsIn d t front → depth t ≤ d
in_depth zero t front s = with_depth 0 (λ ts body. ⊥) (λ ts body h. absurd h) t front s
in_depth (suc d) t front s = with_depth (suc d) (Each (SpellsIn d)) (λ ts body h. let k = each_depth d (SpellsIn d) (in_depth d) ts body h in omega (arith, k)) t front s
