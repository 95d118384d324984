-- A handle is read exactly where there is one.
use Rattle.std.proofs.Common.{◌≡◌, ℕ, ◌+◌, ◌<◌, zero, suc, ℤ, List, [], ◌∷◌, length, take, drop, get_or, Option, Some, None, Bool, true, false, cond, ltb, eqb, refl, sym, ap, ◌∙◌, subst, arith, inl, inr, ⊎_elim}
use Rattle.std.specs.Ordering.{int_eq}
use Rattle.std.specs.Option.{IfSome, IfNone}
use Rattle.std.proofs.lemmas.Bool.{eqb-true, eq-eqb, lt-ltb, le-ltb, ne_eqb, cases_lt}
use Rattle.std.proofs.lemmas.Bool.Decides.{Decides-int_eq}
use Rattle.std.proofs.lemmas.List.{take_all, append-nil}
use Rattle.nv_value.specs.Content.{Tree, Trees, nil, truth, integer, big, text, bin, list, pairs, ext, opaque}
use Rattle.nv_msgpack.specs.Spelling.{Size, fixed, Raw, of_text, of_bin, of_ext, unsigned, signed, float, of_list, of_map, Form, unused, alone, raw, many, form, width, number_in, extra, raw_value, big_endian, two's_complement, unsigned_number, SpelledBy, SpelledWith, Each, SpellsIn, Spells}
use Rattle.nv_msgpack.specs.Reading.{Reading, whole, more, flawed, too_long, none, raw_at, read_by, value_at}
use Rattle.nv_msgpack.specs.Handle.{IsHandle, integer_of, whole_integer, integer_in, handle_in}
use Rattle.nv_msgpack.specs.inside.Integers.{integer_by}
use Rattle.nv_msgpack.specs.declared.first_bytes.Width.{Width}
use Rattle.nv_msgpack.specs.declared.first_bytes.FirstByte.{FirstByte}
use Rattle.nv_msgpack.specs.declared.first_bytes.FirstByte.TheVariants as begins
use Rattle.nv_msgpack.specs.FirstByte.{form_seen, bytes_of, size_of}
use Rattle.nv_msgpack.proofs.Exact.{empty_wants}
use Rattle.nv_msgpack.proofs.Loop.{value_flat}
use Rattle.nv_msgpack.proofs.Complete.{complete}
use Rattle.nv_msgpack.proofs.Sound.{sound}

-- an integer is spelled with no list or map
flat_by : (I J : Trees → List ℕ → Type 0) (f : Form) (n : ℤ) (rest : List ℕ) → SpelledBy I f (integer n) rest → SpelledBy J f (integer n) rest
flat_by I J unused n rest h = h
flat_by I J (alone u) n rest h = h
flat_by I J (raw r s) n rest h = h
flat_by I J (many of_list s) n rest h = let e = h.6 in absurd cc
flat_by I J (many of_map s) n rest h = let e = h.6 in absurd cc

flat_with : (I J : Trees → List ℕ → Type 0) (n : ℤ) (bytes : List ℕ) → SpelledWith I (integer n) bytes → SpelledWith J (integer n) bytes
flat_with I J n [] h = h
flat_with I J n (b ∷ rest) h = flat_by I J (form b) n rest h

flat : (depth : ℕ) (n : ℤ) (bytes : List ℕ) → SpellsIn depth (integer n) bytes → SpellsIn 0 (integer n) bytes
flat zero n bytes h = h
flat (suc depth) n bytes h = flat_with (Each (SpellsIn depth)) (λ ts body. ⊥) n bytes h

-- what is read whole
some_is : (m n : ℤ) → Some m ≡ Some n → m ≡ n
some_is m n e = cc

integer_is : (t : Tree) (n : ℤ) → integer_of t ≡ Some n → t ≡ integer n
integer_is nil n e = cc
integer_is (truth b) n e = cc
integer_is (integer m) n e = ap integer (some_is m n e)
integer_is (big m) n e = cc
integer_is (text b) n e = cc
integer_is (bin b) n e = cc
integer_is (list ts) n e = cc
integer_is (pairs ts) n e = cc
integer_is (ext k b) n e = cc
integer_is (opaque b) n e = cc

whole_by : (len : ℕ) (t : Tree) (k : ℕ) (n : ℤ) (b : Bool) → eqb k len ≡ b → cond b (integer_of t) None ≡ Some n → whole t k ≡ whole (integer n) len
whole_by len t k n true q e = ap (λ (u : Tree). whole u k) (integer_is t n e) ∙ ap (λ (j : ℕ). whole (integer n) j) (eqb-true k len q)
whole_by len t k n false q e = cc

whole_is : (len : ℕ) (r : Reading Tree) (n : ℤ) → whole_integer len r ≡ Some n → r ≡ whole (integer n) len
whole_is len (whole t k) n e = whole_by len t k n (eqb k len) refl e
whole_is len more n e = cc
whole_is len (flawed x k) n e = cc

by_length : (bytes : List ℕ) (n : ℤ) → value_at 0 (length bytes) bytes ≡ whole (integer n) (length bytes) → Spells (integer n) bytes
by_length [] n r = let c : more ≡ whole (integer n) 0 = sym (empty_wants 0 0) ∙ r in cc
by_length (b ∷ rest) n r =
    let w = sound 0 (suc (length rest)) (b ∷ rest) (integer n) (suc (length rest)) (omega arith) r in
    (0, subst (λ (l : List ℕ). SpellsIn 0 (integer n) l) (take_all (suc (length rest)) (b ∷ rest) (omega arith)) w.spelled)

-- the integer that is read is spelled by all the bytes
integer_spelled : (bytes : List ℕ) (n : ℤ) → integer_in bytes ≡ Some n → Spells (integer n) bytes
integer_spelled bytes n e =
    let r = whole_is (length bytes) (value_at 0 (length bytes) bytes) n e in
    by_length bytes n r

same_length : (n : ℤ) (len : ℕ) (b : Bool) → b ≡ true → cond b (Some n) None ≡ Some n
same_length n len true e = refl
same_length n len false e = cc

-- an integer that all the bytes spell is read
integer_read : (bytes : List ℕ) (n : ℤ) → Spells (integer n) bytes → integer_in bytes ≡ Some n
integer_read bytes n s =
    let h = flat s.0 n bytes s.1 in
    let e : value_at 0 (length bytes) bytes ≡ whole (integer n) (length bytes) =
    ap (λ (l : List ℕ). value_at 0 (length bytes) l) (sym (append-nil bytes)) ∙ complete 0 (integer n) bytes [] (length bytes) h (omega arith) in
    ap (λ (r : Reading Tree). whole_integer (length bytes) r) e ∙ same_length n (length bytes) (eqb (length bytes) (length bytes)) (eq-eqb (length bytes) (length bytes) refl)

ext_some : (kind k : ℤ) (bytes : List ℕ) (n : ℤ) (b : Bool) → int_eq k kind ≡ b → cond b (integer_in bytes) None ≡ Some n → IsHandle kind (ext k bytes) n
ext_some kind k bytes n true q e = inr (bytes, ap (λ (z : ℤ). ext z bytes) ((Decides-int_eq k kind).0 q), integer_spelled bytes n e)
ext_some kind k bytes n false q e = cc

-- a handle that is read is one
pub handle_some : (kind : ℤ) (t : Tree) (n : ℤ) → handle_in kind t ≡ Some n → IsHandle kind t n
handle_some kind nil n e = cc
handle_some kind (truth b) n e = cc
handle_some kind (integer m) n e = inl (ap integer (some_is m n e))
handle_some kind (big m) n e = cc
handle_some kind (text b) n e = cc
handle_some kind (bin b) n e = cc
handle_some kind (list ts) n e = cc
handle_some kind (pairs ts) n e = cc
handle_some kind (ext k bytes) n e = ext_some kind k bytes n (int_eq k kind) refl e
handle_some kind (opaque b) n e = cc

-- a handle is read
handle_read : (kind : ℤ) (t : Tree) (n : ℤ) → IsHandle kind t n → handle_in kind t ≡ Some n
handle_read kind t n h =
    ⊎_elim (λ e. ap (handle_in kind) e)
    (λ p. ap (handle_in kind) p.1 ∙ ap (λ (b : Bool). cond b (integer_in p.0) None) ((Decides-int_eq kind kind).1 refl) ∙ integer_read p.0 n p.2) h

pub handle_none : (kind : ℤ) (t : Tree) → handle_in kind t ≡ None → (n : ℤ) → IsHandle kind t n → ⊥
handle_none kind t e n h = let f = handle_read kind t n h in let g : Some n ≡ None = sym f ∙ e in cc

-- The first bytes, one by one.

tests : (room least len : ℕ) (t : Tree) → len ≡ room → whole_integer room (cond (ltb room least) (flawed too_long 0) (cond (ltb len least) more (whole t least))) ≡ cond (eqb least room) (integer_of t) None
tests room least len t e =
    ⊎_elim
    (λ l. let a : ltb room least ≡ true = lt-ltb room least l in
    let b : eqb least room ≡ false = ne_eqb least room (λ q. omega arith) in
    rw (a, b) refl)
    (λ l. let a : ltb room least ≡ false = le-ltb room least l in
    let c : ltb len least ≡ false = le-ltb len least (omega arith) in
    rw (a, c) refl)
    (cases_lt room least)

raw_is : (r : Raw) (s : Size) (rest : List ℕ) → whole_integer (suc (length rest)) (raw_at r s (suc (length rest)) rest)
    ≡ cond (eqb (1 + width s + (number_in s rest + extra r)) (suc (length rest))) (integer_of (raw_value r (take (number_in s rest + extra r) (drop (width s) rest)))) None
raw_is r s rest = tests (suc (length rest)) (1 + width s + (number_in s rest + extra r)) (1 + length rest) (raw_value r (take (number_in s rest + extra r) (drop (width s) rest))) (omega arith)

abbrev pub nothing : Option ℤ
nothing = None

never : (b : Bool) → cond b None None ≡ nothing
never true = refl
never false = refl

-- what is no integer is none
abbrev pub IsOther : Form → Type 0
IsOther (alone t) = integer_of t ≡ nothing
IsOther (raw unsigned s) = ⊥
IsOther (raw signed s) = ⊥
IsOther _ = Unit {0}

other_by : (f : Form) (rest : List ℕ) → IsOther f → whole_integer (suc (length rest)) (read_by none f (suc (length rest)) rest) ≡ nothing
other_by unused rest h = refl
other_by (alone t) rest h = ap (λ (o : Option ℤ). cond (eqb 1 (suc (length rest))) o None) h ∙ never (eqb 1 (suc (length rest)))
other_by (raw of_text s) rest h = raw_is of_text s rest ∙ never (eqb (1 + width s + (number_in s rest + 0)) (suc (length rest)))
other_by (raw of_bin s) rest h = raw_is of_bin s rest ∙ never (eqb (1 + width s + (number_in s rest + 0)) (suc (length rest)))
other_by (raw of_ext s) rest h = raw_is of_ext s rest ∙ never (eqb (1 + width s + (number_in s rest + 1)) (suc (length rest)))
other_by (raw unsigned s) rest h = absurd h
other_by (raw signed s) rest h = absurd h
other_by (raw float s) rest h = raw_is float s rest ∙ never (eqb (1 + width s + (number_in s rest + 0)) (suc (length rest)))
other_by (many m s) rest h = refl

-- a number of another length is none
raw_short : (r : Raw) (w : ℕ) (rest : List ℕ) → extra r ≡ 0 → (length rest ≡ w → ⊥) → whole_integer (suc (length rest)) (raw_at r (fixed w) (suc (length rest)) rest) ≡ nothing
raw_short r w rest x h =
    let b : eqb (1 + 0 + (w + extra r)) (suc (length rest)) ≡ false = ne_eqb (1 + 0 + (w + extra r)) (suc (length rest)) (λ q. h (omega arith)) in
    raw_is r (fixed w) rest ∙ ap (λ (t : Bool). cond t (integer_of (raw_value r (take (w + extra r) rest))) None) b

-- a number of its length is the number of all its bytes
raw_all : (r : Raw) (w : ℕ) (rest : List ℕ) → extra r ≡ 0 → length rest ≡ w → whole_integer (suc (length rest)) (raw_at r (fixed w) (suc (length rest)) rest) ≡ integer_of (raw_value r rest)
raw_all r w rest x h =
    let b : eqb (1 + 0 + (w + extra r)) (suc (length rest)) ≡ true = eq-eqb (1 + 0 + (w + extra r)) (suc (length rest)) (omega arith) in
    raw_is r (fixed w) rest ∙ ap (λ (t : Bool). cond t (integer_of (raw_value r (take (w + extra r) rest))) None) b
    ∙ ap (λ (l : List ℕ). integer_of (raw_value r l)) (take_all (w + extra r) rest (omega arith))

pub first_is : (bytes : List ℕ) (f : Form) → 0 < length bytes → f ≡ form (get_or bytes 0 0) → integer_in bytes ≡ integer_by f (drop 1 bytes)
first_is [] f h e = absurd (omega arith)
first_is (b ∷ rest) f h e = ap (λ (r : Reading Tree). whole_integer (suc (length rest)) r) (value_flat 0 (suc (length rest)) 0 (b ∷ rest) f refl (omega arith) e)

pub empty_is : (bytes : List ℕ) → length bytes ≡ 0 → integer_in bytes ≡ nothing
empty_is [] h = ap (λ (r : Reading Tree). whole_integer 0 r) (empty_wants 0 0)
empty_is (b ∷ rest) h = absurd (omega arith)

pub small_is : (n : ℤ) (rest : List ℕ) → length rest ≡ 0 → integer_by (alone (integer n)) rest ≡ Some n
small_is n rest h = same_length n 0 (eqb 1 (suc (length rest))) (eq-eqb 1 (suc (length rest)) (omega arith))

pub small_long : (n : ℤ) (rest : List ℕ) → (length rest ≡ 0 → ⊥) → integer_by (alone (integer n)) rest ≡ nothing
small_long n rest h = ap (λ (t : Bool). cond t (Some n) None) (ne_eqb 1 (suc (length rest)) (λ q. h (omega arith)))

pub unsigned_is : (w : ℕ) (rest : List ℕ) → length rest ≡ w → integer_by (raw unsigned (fixed w)) rest ≡ integer_of (unsigned_number (big_endian w rest))
unsigned_is w rest h = raw_all unsigned w rest refl h ∙ ap (λ (k : ℕ). integer_of (unsigned_number (big_endian k rest))) h

pub unsigned_other : (w : ℕ) (rest : List ℕ) → (length rest ≡ w → ⊥) → integer_by (raw unsigned (fixed w)) rest ≡ nothing
unsigned_other w rest h = raw_short unsigned w rest refl h

pub signed_is : (w : ℕ) (rest : List ℕ) → length rest ≡ w → integer_by (raw signed (fixed w)) rest ≡ Some (two's_complement w (big_endian w rest))
signed_is w rest h = raw_all signed w rest refl h ∙ ap (λ (k : ℕ). Some (two's_complement k (big_endian k rest))) h

pub signed_other : (w : ℕ) (rest : List ℕ) → (length rest ≡ w → ⊥) → integer_by (raw signed (fixed w)) rest ≡ nothing
signed_other w rest h = raw_short signed w rest refl h

-- what begins no integer
pub other_seen : (first : FirstByte) (rest : List ℕ) → ((n : ℤ) → first ≡ begins.Small n → ⊥) → ((w : Width) → first ≡ begins.Unsigned w → ⊥) → ((w : Width) → first ≡ begins.Signed w → ⊥)
    → integer_by (form_seen first) rest ≡ nothing
other_seen begins.Unused rest f g h = other_by unused rest tt
other_seen begins.Nil rest f g h = other_by (alone nil) rest refl
other_seen (begins.Truth b) rest f g h = other_by (alone (truth b)) rest refl
other_seen (begins.Small n) rest f g h = absurd (f n refl)
other_seen (begins.Text l) rest f g h = other_by (raw of_text (size_of l)) rest tt
other_seen (begins.Bin l) rest f g h = other_by (raw of_bin (size_of l)) rest tt
other_seen (begins.Ext l) rest f g h = other_by (raw of_ext (size_of l)) rest tt
other_seen (begins.Unsigned w) rest f g h = absurd (g w refl)
other_seen (begins.Signed w) rest f g h = absurd (h w refl)
other_seen (begins.Float w) rest f g h = other_by (raw float (fixed (bytes_of w))) rest tt
other_seen (begins.List l) rest f g h = other_by (many of_list (size_of l)) rest tt
other_seen (begins.Map l) rest f g h = other_by (many of_map (size_of l)) rest tt

-- the clauses of `handle_of`
pub found_some : (kind : ℤ) (t : Tree) (r : Option ℤ) → r ≡ handle_in kind t → IfSome r (IsHandle kind t)
found_some kind t (Some n) e = handle_some kind t n (sym e)
found_some kind t None e = tt

pub found_none : (kind : ℤ) (t : Tree) (r : Option ℤ) → r ≡ handle_in kind t → IfNone r ((n : ℤ) → IsHandle kind t n → ⊥)
found_none kind t (Some n) e = tt
found_none kind t None e = handle_none kind t (sym e)
