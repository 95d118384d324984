-- What is spelled is read, whatever follows it.
use Rattle.std.proofs.Common.{◌≡◌, ℕ, ◌+◌, ◌-◌, ◌<◌, ◌≤◌, zero, suc, List, [], ◌∷◌, ◌++◌, length, take, drop, refl, sym, ap, ◌∙◌, subst, arith, length-append}
use Rattle.std.proofs.lemmas.List.{append_assoc, take_at, drop_at}
use Rattle.std.proofs.lemmas.Bool.Decides.{nat_tests}
use Rattle.nv_value.specs.Content.{Tree, Trees, no_more, one, count}
use Rattle.nv_msgpack.specs.Spelling.{Size, Raw, Many, Form, unused, alone, raw, many, form, width, number_in, extra, raw_value, values, many_value, SpelledBy, SpelledWith, Each, SpellsIn}
use Rattle.nv_msgpack.specs.Reading.{Reading, whole, Inside, none, some, map_reading, after, reading_then, items_at, raw_at, many_at, read_by, read_with, value_at}
use Rattle.nv_msgpack.proofs.Lengths.{number_in-front}

-- what S spells is read
abbrev pub ReadsAll : (Tree → List ℕ → Type 0) → (ℕ → List ℕ → Reading Tree) → Type 0
ReadsAll S read = (t : Tree) (front tail : List ℕ) (room : ℕ) → S t front → length front ≤ room → read room (front ++ tail) ≡ whole t (length front)

abbrev pub ReadsAllItems : (Trees → List ℕ → Type 0) → (ℕ → ℕ → List ℕ → Reading Trees) → Type 0
ReadsAllItems I read = (ts : Trees) (front tail : List ℕ) (room : ℕ) → I ts front → length front ≤ room → read (count ts) room (front ++ tail) ≡ whole ts (length front)

-- values one after another have a byte each
abbrev pub HasBytes : (Trees → List ℕ → Type 0) → Type 0
HasBytes I = (ts : Trees) (bytes : List ℕ) → I ts bytes → count ts ≤ length bytes

abbrev pub ReadsInside : (Trees → List ℕ → Type 0) → Inside → Type 0
ReadsInside I none = (ts : Trees) (bytes : List ℕ) → I ts bytes → ⊥
ReadsInside I (some read) = HasBytes I × ReadsAllItems I read

raw_at-whole : (r : Raw) (s : Size) (room : ℕ) (rest bytes : List ℕ) (n : ℕ) → number_in s rest ≡ n → 1 + width s + (n + extra r) ≤ room → width s + (n + extra r) ≤ length rest
    → take (n + extra r) (drop (width s) rest) ≡ bytes → raw_at r s room rest ≡ whole (raw_value r bytes) (1 + width s + (n + extra r))
raw_at-whole r s room rest bytes n e h l t =
    subst (λ (x : ℕ). raw_at r s room rest ≡ whole (raw_value r bytes) (1 + width s + (x + extra r))) e
    (let u : take (number_in s rest + extra r) (drop (width s) rest) ≡ bytes = (ap (λ (x : ℕ). take (x + extra r) (drop (width s) rest)) e) ∙ t in
    let h2 : 1 + width s + (number_in s rest + extra r) ≤ room = omega arith in
    let l2 : width s + (number_in s rest + extra r) ≤ length rest = omega arith in
    rw u (grind (arith, nat_tests)))

raw_reads : (r : Raw) (s : Size) (t : Tree) (rest tail : List ℕ) (room : ℕ) (size bytes : List ℕ) → length size ≡ width s → length bytes ≡ number_in s size + extra r → rest ≡ size ++ bytes → t ≡ raw_value r bytes
    → suc (length rest) ≤ room → raw_at r s room (rest ++ tail) ≡ whole t (suc (length rest))
raw_reads r s t rest tail room size bytes a b c d h =
    let regrouped : rest ++ tail ≡ size ++ (bytes ++ tail) = ap (λ (l : List ℕ). l ++ tail) c ∙ append_assoc size bytes tail in
    let long : length rest ≡ length size + length bytes = ap (length {A = ℕ}) c ∙ length-append size bytes in
    let longer : length (rest ++ tail) ≡ length rest + length tail = length-append rest tail in
    let n : number_in s (rest ++ tail) ≡ number_in s size = ap (λ (l : List ℕ). number_in s l) regrouped ∙ number_in-front s size (bytes ++ tail) a in
    let cut : take (number_in s size + extra r) (drop (width s) (rest ++ tail)) ≡ bytes =
    ap (λ (l : List ℕ). take (number_in s size + extra r) (drop (width s) l)) regrouped
    ∙ ap (λ (l : List ℕ). take (number_in s size + extra r) l) (drop_at size (bytes ++ tail) (width s) a)
    ∙ take_at bytes tail (number_in s size + extra r) b in
    let sum : 1 + width s + (number_in s size + extra r) ≡ suc (length rest) = omega arith in
    raw_at-whole r s room (rest ++ tail) bytes (number_in s size) n (omega arith) (omega arith) cut
    ∙ ap (λ (k : ℕ). whole (raw_value r bytes) k) sum ∙ ap (λ (x : Tree). whole x (suc (length rest))) (sym d)

pub many_at-inside : (read : ℕ → ℕ → List ℕ → Reading Trees) (m : Many) (s : Size) (room : ℕ) (rest : List ℕ) (n : ℕ) → values m (number_in s rest) ≡ n → 1 + width s + n ≤ room → width s ≤ length rest
    → many_at read m s room rest ≡ after (1 + width s) (map_reading (many_value m) (read n (room - (1 + width s)) (drop (width s) rest)))
many_at-inside read m s room rest n e h l =
    subst (λ (x : ℕ). many_at read m s room rest ≡ after (1 + width s) (map_reading (many_value m) (read x (room - (1 + width s)) (drop (width s) rest)))) e
    (let h2 : 1 + width s + values m (number_in s rest) ≤ room = omega arith in
    grind (arith, nat_tests))

many_reads : (I : Trees → List ℕ → Type 0) (read : ℕ → ℕ → List ℕ → Reading Trees) → HasBytes I → ReadsAllItems I read
    → (m : Many) (s : Size) (t : Tree) (rest tail : List ℕ) (room : ℕ) (size body : List ℕ) (ts : Trees) → length size ≡ width s → count ts ≡ values m (number_in s size) → rest ≡ size ++ body → t ≡ many_value m ts → I ts body
    → suc (length rest) ≤ room → many_at read m s room (rest ++ tail) ≡ whole t (suc (length rest))
many_reads I read has reads m s t rest tail room size body ts a b c d i h =
    let regrouped : rest ++ tail ≡ size ++ (body ++ tail) = ap (λ (l : List ℕ). l ++ tail) c ∙ append_assoc size body tail in
    let long : length rest ≡ length size + length body = ap (length {A = ℕ}) c ∙ length-append size body in
    let longer : length (rest ++ tail) ≡ length rest + length tail = length-append rest tail in
    let n : values m (number_in s (rest ++ tail)) ≡ count ts = ap (λ (x : ℕ). values m x) (ap (λ (l : List ℕ). number_in s l) regrouped ∙ number_in-front s size (body ++ tail) a) ∙ sym b in
    let few : count ts ≤ length body = has ts body i in
    let behind : drop (width s) (rest ++ tail) ≡ body ++ tail = ap (λ (l : List ℕ). drop (width s) l) regrouped ∙ drop_at size (body ++ tail) (width s) a in
    let read_body : read (count ts) (room - (1 + width s)) (drop (width s) (rest ++ tail)) ≡ whole ts (length body) =
    ap (λ (l : List ℕ). read (count ts) (room - (1 + width s)) l) behind ∙ reads ts body tail (room - (1 + width s)) i (omega arith) in
    let sum : 1 + width s + length body ≡ suc (length rest) = omega arith in
    many_at-inside read m s room (rest ++ tail) (count ts) n (omega arith) (omega arith)
    ∙ ap (λ (r : Reading Trees). after (1 + width s) (map_reading (many_value m) r)) read_body
    ∙ ap (λ (k : ℕ). whole (many_value m ts) k) sum ∙ ap (λ (x : Tree). whole x (suc (length rest))) (sym d)

reads_by : (I : Trees → List ℕ → Type 0) (i : Inside) → ReadsInside I i → (f : Form) (t : Tree) (rest tail : List ℕ) (room : ℕ) → SpelledBy I f t rest → suc (length rest) ≤ room
    → read_by i f room (rest ++ tail) ≡ whole t (suc (length rest))
reads_by I i law unused t rest tail room h l = absurd h
reads_by I i law (alone u) t rest tail room h l = ap (λ (x : Tree). whole x 1) (sym h.0) ∙ ap (λ (y : List ℕ). whole t (suc (length y))) (sym h.1)
reads_by I i law (raw r s) t rest tail room h l = raw_reads r s t rest tail room h.0 h.1 h.2 h.3 h.4 h.5 l
reads_by I none law (many m s) t rest tail room h l = absurd (law h.2 h.1 h.7)
reads_by I (some read) law (many m s) t rest tail room h l = many_reads I read law.0 law.1 m s t rest tail room h.0 h.1 h.2 h.3 h.4 h.5 h.6 h.7 l

reads_with : (I : Trees → List ℕ → Type 0) (i : Inside) → ReadsInside I i → ReadsAll (SpelledWith I) (read_with i)
reads_with I i law t [] tail room h l = absurd h
reads_with I i law t (b ∷ rest) tail room h l = reads_by I i law (form b) t rest tail room h l

-- a spelling has a byte
abbrev pub HasByte : (Tree → List ℕ → Type 0) → Type 0
HasByte S = (t : Tree) (bytes : List ℕ) → S t bytes → 0 < length bytes

pub has_byte : (I : Trees → List ℕ → Type 0) → HasByte (SpelledWith I)
has_byte I t [] h = absurd h
has_byte I t (b ∷ rest) h = omega arith

pub has_bytes : (S : Tree → List ℕ → Type 0) → HasByte S → HasBytes (Each S)
has_bytes S one_byte no_more bytes h = omega arith
has_bytes S one_byte (one t ts) bytes h =
    let rest = has_bytes S one_byte ts h.1 h.4 in
    let first = one_byte t h.0 h.2 in
    omega (arith, length-append h.0 h.1, ap (length {A = ℕ}) h.3)

reads_items : (S : Tree → List ℕ → Type 0) (read : ℕ → List ℕ → Reading Tree) → HasByte S → ReadsAll S read → ReadsAllItems (Each S) (items_at read)
unfolding items_at
reads_items S read has law no_more front tail room h l = ap (λ (x : List ℕ). whole no_more (length x)) (sym h)
reads_items S read has law (one t ts) front tail room h l =
    let x = h.0 in
    let y = h.1 in
    let long : length front ≡ length x + length y = ap (length {A = ℕ}) h.3 ∙ length-append x y in
    let few : count ts ≤ length y = has_bytes S has ts y h.4 in
    let regrouped : front ++ tail ≡ x ++ (y ++ tail) = ap (λ (l : List ℕ). l ++ tail) h.3 ∙ append_assoc x y tail in
    let first : read (room - count ts) (front ++ tail) ≡ whole t (length x) =
    ap (λ (l : List ℕ). read (room - count ts) l) regrouped ∙ law t x (y ++ tail) (room - count ts) h.2 (omega arith) in
    let behind : drop (length x) (front ++ tail) ≡ y ++ tail = ap (λ (l : List ℕ). drop (length x) l) regrouped ∙ drop_at x (y ++ tail) (length x) refl in
    let others : items_at read (count ts) (room - length x) (drop (length x) (front ++ tail)) ≡ whole ts (length y) =
    ap (λ (l : List ℕ). items_at read (count ts) (room - length x) l) behind ∙ reads_items S read has law ts y tail (room - length x) h.4 (omega arith) in
    ap (λ (r : Reading Tree). reading_then r (λ (t : Tree) (k : ℕ). map_reading (one t) (items_at read (count ts) (room - k) (drop k (front ++ tail))))) first
    ∙ ap (λ (r : Reading Trees). after (length x) (map_reading (one t) r)) others
    ∙ ap (λ (k : ℕ). whole (one t ts) k) (sym long)

pub has_byte-in : (depth : ℕ) → HasByte (SpellsIn depth)
has_byte-in zero = has_byte (λ ts body. ⊥)
has_byte-in (suc depth) = has_byte (Each (SpellsIn depth))

-- a spelling at the front is read, whatever follows it
pub complete : (depth : ℕ) → ReadsAll (SpellsIn depth) (value_at depth)
unfolding value_at
complete zero = reads_with (λ ts body. ⊥) none (λ ts body h. h)
complete (suc depth) = reads_with (Each (SpellsIn depth)) (some (items_at (value_at depth)))
    (has_bytes (SpellsIn depth) (has_byte-in depth), reads_items (SpellsIn depth) (value_at depth) (has_byte-in depth) (complete depth))
