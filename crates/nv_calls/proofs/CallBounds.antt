-- A call that came in is short.
use Rattle.std.proofs.Common.{◌≡◌, ℕ, zero, suc, pos, ◌≤◌, Bool, true, false, cond, List, [], ◌∷◌, length, get_or, Option, Some, None, refl, sym, ap, ◌∙◌, subst, arith, length-append}
use Rattle.std.specs.Prelude.{nat_lt, ◌-◌, ◌-ℤ◌}
use Rattle.nv_value.specs.Content.{Tree, Trees, nil, truth, integer, big, text, bin, list, pairs, ext, opaque, no_more, one}
use Rattle.nv_msgpack.specs.Spelling.{fixed, Raw, of_text, of_bin, of_ext, unsigned, signed, float, Many, of_list, of_map, Form, unused, alone, raw, many, form, middle, raw_value, many_value, SpelledBy, SpelledWith, Each, SpellsIn}
use Rattle.nv_msgpack.specs.Within.{SpellsWithin}
use Rattle.nv_rpc.specs.Steps.{◌>>=◌}
use Rattle.nv_rpc.specs.Calls.{Call, request, notice, is_number, msgid_in, name_in, params_in, request_in, notice_in, call_in}
use Rattle.nv_args.specs.Weight.{weight, weights}
use Rattle.nv_calls.specs.Reading.{most_depth, most_bytes}
use Rattle.nv_calls.specs.Intakes.{IsShortCall}

-- a value that is told by its first byte alone has no string in it
abbrev pub IsPlain : Form → Type 0
IsPlain (alone t) = weight t ≡ 0
IsPlain f = Unit {0}

record Plain (f : Form) : Type 0 where
  pub plain : IsPlain f

plain_if : (b : Bool) (f g : Form) → Plain f → Plain g → Plain (cond b f g)
plain_if true f g p q = p
plain_if false f g p q = q

abbrev pub ArePlain : List Form → Type 0
ArePlain [] = Unit {0}
ArePlain (f ∷ fs) = IsPlain f × ArePlain fs

plain_at : (fs : List Form) (k : ℕ) → ArePlain fs → Plain (get_or fs k unused)
plain_at [] k h = record { plain = tt }
plain_at (f ∷ fs) zero h = record { plain = h.0 }
plain_at (f ∷ fs) (suc k) h = plain_at fs k h.1

middle_plain : ArePlain middle
unfolding middle
middle_plain =
    (refl, (tt, (refl, (refl, (tt, (tt, (tt, (tt, (tt, (tt, (tt, (tt, (tt, (tt, (tt, (tt, (tt, (tt, (tt, (tt, (tt, (tt, (tt, (tt, (tt, (tt, (tt, (tt, (tt, (tt, (tt, (tt, tt))))))))))))))))))))))))))))))))

form_plain : (b : ℕ) → Plain (form b)
unfolding form
form_plain b =
    let negative : Form = cond (nat_lt b 0x100) (alone (integer (pos b -ℤ pos 0x100))) unused in
    let table : Form = cond (nat_lt b 0xe0) (get_or middle (b - 0xc0) unused) negative in
    let string : Form = cond (nat_lt b 0xc0) (raw of_text (fixed (b - 0xa0))) table in
    let array : Form = cond (nat_lt b 0xa0) (many of_list (fixed (b - 0x90))) string in
    let map : Form = cond (nat_lt b 0x90) (many of_map (fixed (b - 0x80))) array in
    plain_if (nat_lt b 0x80) (alone (integer (pos b))) map (record { plain = refl })
    (plain_if (nat_lt b 0x90) (many of_map (fixed (b - 0x80))) array (record { plain = tt })
    (plain_if (nat_lt b 0xa0) (many of_list (fixed (b - 0x90))) string (record { plain = tt })
    (plain_if (nat_lt b 0xc0) (raw of_text (fixed (b - 0xa0))) table (record { plain = tt })
    (plain_if (nat_lt b 0xe0) (get_or middle (b - 0xc0) unused) negative (plain_at middle (b - 0xc0) middle_plain)
    (plain_if (nat_lt b 0x100) (alone (integer (pos b -ℤ pos 0x100))) unused (record { plain = refl }) (record { plain = tt }))))))

unsigned_weight : (b : Bool) (n m : ℕ) → weight (cond b (integer (pos n)) (big m)) ≡ 0
unsigned_weight true n m = refl
unsigned_weight false n m = refl

made_weight : (r : Raw) (inner : List ℕ) → weight (raw_value r inner) ≤ length inner
made_weight of_text inner = omega arith
made_weight of_bin inner = omega arith
made_weight of_ext inner = omega arith
made_weight signed inner = omega arith
made_weight float inner = omega arith
made_weight unsigned inner = let e : weight (raw_value unsigned inner) ≡ 0 = unsigned_weight _ _ _ in omega arith

many_weight : (m : Many) (ts : Trees) → weight (many_value m ts) ≡ weights ts
many_weight of_list ts = refl
many_weight of_map ts = refl

-- what is spelled in these ways weighs no more than its spelling
abbrev pub IsLight : (Trees → List ℕ → Type 0) → Type 0
IsLight inside = (ts : Trees) (body : List ℕ) → inside ts body → weights ts ≤ length body

by_weight : (inside : Trees → List ℕ → Type 0) → IsLight inside → (f : Form) (t : Tree) (rest : List ℕ) → IsPlain f → SpelledBy inside f t rest → weight t ≤ length rest
by_weight inside law unused t rest p s = absurd s
by_weight inside law (alone u) t rest p s = let e : weight t ≡ 0 = ap weight s.0 ∙ p in omega arith
by_weight inside law (raw r z) t rest p s =
    omega (arith, ap weight s.5, made_weight r s.1, ap (length {A = ℕ}) s.4, length-append s.0 s.1)
by_weight inside law (many m z) t rest p s =
    omega (arith, ap weight s.6, many_weight m s.2, law s.2 s.1 s.7, ap (length {A = ℕ}) s.5, length-append s.0 s.1)

with_weight : (inside : Trees → List ℕ → Type 0) → IsLight inside → (t : Tree) (front : List ℕ) → SpelledWith inside t front → weight t ≤ length front
with_weight inside law t [] s = absurd s
with_weight inside law t (b ∷ rest) s = omega (arith, by_weight inside law (form b) t rest (form_plain b).plain s)

each_weight : (S : Tree → List ℕ → Type 0) → ((t : Tree) (front : List ℕ) → S t front → weight t ≤ length front) → IsLight (Each S)
each_weight S law no_more body s = omega arith
each_weight S law (one t ts) body s =
    omega (arith, law t s.0 s.2, each_weight S law ts s.1 s.4, ap (length {A = ℕ}) s.3, length-append s.0 s.1)

-- a value weighs no more than its spelling
in_weight : (depth : ℕ) (t : Tree) (front : List ℕ) → SpellsIn depth t front → weight t ≤ length front
in_weight zero t front s = with_weight (λ ts body. ⊥) (λ ts body h. absurd h) t front s
in_weight (suc depth) t front s = with_weight (Each (SpellsIn depth)) (each_weight (SpellsIn depth) (in_weight depth)) t front s

-- the bytes of a name
name_weight : (t : Tree) (method : List ℕ) → name_in t ≡ Some method → length method ≡ weight t
name_weight (text x) method h = let e : x ≡ method = cc in ap (length {A = ℕ}) (sym e)
name_weight (bin x) method h = let e : x ≡ method = cc in ap (length {A = ℕ}) (sym e)
name_weight nil method h = cc
name_weight (truth x) method h = cc
name_weight (integer x) method h = cc
name_weight (big x) method h = cc
name_weight (list x) method h = cc
name_weight (pairs x) method h = cc
name_weight (ext k x) method h = cc
name_weight (opaque x) method h = cc

-- the bytes of the strings in the arguments
params_weight : (t : Tree) (params : Trees) → params_in t ≡ Some params → weights params ≡ weight t
params_weight (list x) params h = let e : x ≡ params = cc in ap weights (sym e)
params_weight (text x) params h = cc
params_weight (bin x) params h = cc
params_weight nil params h = cc
params_weight (truth x) params h = cc
params_weight (integer x) params h = cc
params_weight (big x) params h = cc
params_weight (pairs x) params h = cc
params_weight (ext k x) params h = cc
params_weight (opaque x) params h = cc

-- a call of this name and these arguments, if there is one, is short
abbrev pub IsShortIn : Option Call → Type 0
IsShortIn None = Unit {0}
IsShortIn (Some call) = IsShortCall call

short_if : (b : Bool) (o : Option Call) → IsShortIn o → IsShortIn (cond b o None)
short_if true o h = h
short_if false o h = tt

request_short : (id : Option ℕ) (method : Option (List ℕ)) (params : Option Trees)
    → ((m : List ℕ) → method ≡ Some m → length m ≤ most_bytes) → ((ts : Trees) → params ≡ Some ts → weights ts ≤ most_bytes)
    → IsShortIn (id >>= (λ i. method >>= (λ m. params >>= (λ ts. Some (request i m ts)))))
request_short None method params p q = tt
request_short (Some i) None params p q = tt
request_short (Some i) (Some m) None p q = tt
request_short (Some i) (Some m) (Some ts) p q = (p m refl, q ts refl)

notice_short : (method : Option (List ℕ)) (params : Option Trees)
    → ((m : List ℕ) → method ≡ Some m → length m ≤ most_bytes) → ((ts : Trees) → params ≡ Some ts → weights ts ≤ most_bytes)
    → IsShortIn (method >>= (λ m. params >>= (λ ts. Some (notice m ts))))
notice_short None params p q = tt
notice_short (Some m) None p q = tt
notice_short (Some m) (Some ts) p q = (p m refl, q ts refl)

in_short : (value : Tree) → weight value ≤ most_bytes → IsShortIn (call_in value)
unfolding call_in
in_short (list (one kind (one msgid (one name (one params no_more))))) w =
    short_if (is_number (pos 0) kind) (request_in msgid name params)
    (request_short (msgid_in msgid) (name_in name) (params_in params)
    (λ m e. omega (arith, name_weight name m e)) (λ ts e. omega (arith, params_weight params ts e)))
in_short (list (one kind (one name (one params no_more)))) w =
    short_if (is_number (pos 2) kind) (notice_in name params)
    (notice_short (name_in name) (params_in params)
    (λ m e. omega (arith, name_weight name m e)) (λ ts e. omega (arith, params_weight params ts e)))
in_short _ w = tt

-- a call that came in is short
pub call_short : (value : Tree) (front : List ℕ) (call : Call) → SpellsWithin most_depth most_bytes value front → call_in value ≡ Some call → IsShortCall call
call_short value front call h e =
    let light : weight value ≤ length front = in_weight most_depth value front h.0 in
    subst IsShortIn e (in_short value (omega (arith, h.1)))
