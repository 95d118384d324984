-- How a place inside an unfinished value moves.
use Rattle.std.proofs.Common.{◌≡◌, ℕ, ◌+◌, ◌-◌, ◌<◌, ◌≤◌, zero, suc, true, false, List, [], ◌∷◌, ◌++◌, length, take, drop, get_or, sum, refl, sym, ap, ◌∙◌, arith, add-one}
use Rattle.std.proofs.lemmas.List.{append_assoc, take-append-drop, length-take-le, length-drop, drop_all, drop-drop, drop_at, take-append-le}
use Rattle.std.proofs.lemmas.List.Sums.{sum_by-cons}
use Rattle.std.proofs.Math.Seq.{take-add, drop-cons}
use Rattle.nv_value.specs.Content.{Tree, Trees, one}
use Rattle.nv_msgpack.specs.Spelling.{Many, form, many_value}
use Rattle.nv_msgpack.specs.Reading.{Reading, Flaw, whole, more, flawed, map_reading, after, reading_then, items_at, value_at}
use Rattle.nv_stream.specs.inside.Scanning.{head_of, wants, wants_then, owed_want, KeepsWanting}
use Rattle.nv_stream.specs.declared.scan.Head.TheVariants.{Bytes, Values}
use Rattle.nv_stream.proofs.Heads.{bytes_wait, bytes_taken, values_wait, values_open}
use Rattle.nv_msgpack.proofs.Exact.{empty_wants}

-- readings of what is owed

none_owed : (depth n : ℕ) (ns : List ℕ) (room : ℕ) (rest : List ℕ) → owed_want depth (0 ∷ n ∷ ns) room rest ≡ owed_want (suc depth) (n ∷ ns) room rest
unfolding owed_want items_at
none_owed depth n ns room rest = ap (λ (k : ℕ). owed_want (suc depth) (n ∷ ns) k rest) (let e : room - 0 ≡ room = omega arith in e)

waits_here : (depth n : ℕ) (ns : List ℕ) (room : ℕ) (rest : List ℕ) → value_at depth ((room - sum ns) - n) rest ≡ more → owed_want depth (suc n ∷ ns) room rest ≡ true
unfolding owed_want items_at
waits_here depth n ns room rest e =
    ap (λ (r : Reading Tree). wants_then (reading_then r (λ t k. map_reading (one t) (items_at (value_at depth) n ((room - sum ns) - k) (drop k rest)))) (λ k. owed_want (suc depth) ns (room - k) (drop k rest))) e

-- what follows the values of a list, where its first value has these bytes
follows : (depth : ℕ) (ns : List ℕ) (room j : ℕ) (t : Tree) (rest : List ℕ) (r : Reading Trees)
    → wants_then (after j (map_reading (one t) r)) (λ k. owed_want (suc depth) ns (room - k) (drop k rest))
    ≡ wants_then r (λ k. owed_want (suc depth) ns ((room - j) - k) (drop k (drop j rest)))
follows depth ns room j t rest (whole ts k) =
    let a : room - (j + k) ≡ (room - j) - k = omega arith in
    ap (λ (x : ℕ). owed_want (suc depth) ns x (drop (j + k) rest)) a ∙ ap (λ (l : List ℕ). owed_want (suc depth) ns ((room - j) - k) l) (sym (drop-drop k j rest))
follows depth ns room j t rest more = refl
follows depth ns room j t rest (flawed x k) = refl

one_taken : (depth n : ℕ) (ns : List ℕ) (room j : ℕ) (t : Tree) (rest : List ℕ) → value_at depth ((room - sum ns) - n) rest ≡ whole t j
    → owed_want depth (suc n ∷ ns) room rest ≡ owed_want depth (n ∷ ns) (room - j) (drop j rest)
unfolding owed_want items_at
one_taken depth n ns room j t rest e =
    let a : (room - sum ns) - j ≡ (room - j) - sum ns = omega arith in
    ap (λ (r : Reading Tree). wants_then (reading_then r (λ t k. map_reading (one t) (items_at (value_at depth) n ((room - sum ns) - k) (drop k rest)))) (λ k. owed_want (suc depth) ns (room - k) (drop k rest))) e
    ∙ follows depth ns room j t rest (items_at (value_at depth) n ((room - sum ns) - j) (drop j rest))
    ∙ ap (λ (x : ℕ). wants_then (items_at (value_at depth) n x (drop j rest)) (λ k. owed_want (suc depth) ns ((room - j) - k) (drop k (drop j rest)))) a

flawed_here : (depth n : ℕ) (ns : List ℕ) (room : ℕ) (rest : List ℕ) (x : Flaw) (j : ℕ) → value_at depth ((room - sum ns) - n) rest ≡ flawed x j → owed_want depth (suc n ∷ ns) room rest ≡ false
unfolding owed_want items_at
flawed_here depth n ns room rest x j e =
    ap (λ (r : Reading Tree). wants_then (reading_then r (λ t k. map_reading (one t) (items_at (value_at depth) n ((room - sum ns) - k) (drop k rest)))) (λ k. owed_want (suc depth) ns (room - k) (drop k rest))) e

-- what follows an open list
opened_by : (depth n : ℕ) (ns : List ℕ) (room head : ℕ) (m : Many) (rest : List ℕ) (r : Reading Trees) → value_at (suc depth) ((room - sum ns) - n) rest ≡ after head (map_reading (many_value m) r)
    → owed_want (suc depth) (suc n ∷ ns) room rest ≡ wants_then r (λ k. owed_want (suc depth) (n ∷ ns) ((room - head) - k) (drop k (drop head rest)))
opened_by depth n ns room head m rest (whole ts k) e =
    let a : room - (head + k) ≡ (room - head) - k = omega arith in
    one_taken (suc depth) n ns room (head + k) (many_value m ts) rest e
    ∙ ap (λ (x : ℕ). owed_want (suc depth) (n ∷ ns) x (drop (head + k) rest)) a
    ∙ ap (λ (l : List ℕ). owed_want (suc depth) (n ∷ ns) ((room - head) - k) l) (sym (drop-drop k head rest))
opened_by depth n ns room head m rest more e = waits_here (suc depth) n ns room rest e
opened_by depth n ns room head m rest (flawed x k) e = flawed_here (suc depth) n ns room rest x (head + k) e

one_opened : (depth n : ℕ) (ns : List ℕ) (room head count : ℕ) (m : Many) (rest : List ℕ)
    → value_at (suc depth) ((room - sum ns) - n) rest ≡ after head (map_reading (many_value m) (items_at (value_at depth) count (((room - sum ns) - n) - head) (drop head rest)))
    → owed_want (suc depth) (suc n ∷ ns) room rest ≡ owed_want depth (count ∷ n ∷ ns) (room - head) (drop head rest)
unfolding owed_want
one_opened depth n ns room head count m rest e =
    let all : sum (n ∷ ns) ≡ n + sum ns = sum_by-cons (λ (x : ℕ). x) n ns in
    let a : ((room - sum ns) - n) - head ≡ (room - head) - sum (n ∷ ns) = omega arith in
    opened_by depth n ns room head m rest (items_at (value_at depth) count (((room - sum ns) - n) - head) (drop head rest)) e
    ∙ ap (λ (x : ℕ). wants_then (items_at (value_at depth) count x (drop head rest)) (λ k. owed_want (suc depth) (n ∷ ns) ((room - head) - k) (drop k (drop head rest)))) a

-- how the facts of a place move

-- a single value that is owed
from_one : (depth most : ℕ) (rest : List ℕ) (r : Reading Tree) → value_at depth most rest ≡ r → owed_want depth (1 ∷ []) (most - 0) rest ≡ true → wants (value_at depth most rest) ≡ true
unfolding owed_want items_at
from_one depth most rest (whole t k) e h =
    let room : ((most - 0) - sum []) - 0 ≡ most = omega arith in
    let f : value_at depth (((most - 0) - sum []) - 0) rest ≡ whole t k = ap (λ (x : ℕ). value_at depth x rest) room ∙ e in
    let none : owed_want depth (1 ∷ []) (most - 0) rest ≡ false = one_taken depth 0 [] (most - 0) k t rest f in
    let c : false ≡ true = sym none ∙ h in cc
from_one depth most rest more e h = ap (λ (r : Reading Tree). wants r) e
from_one depth most rest (flawed x k) e h =
    let room : ((most - 0) - sum []) - 0 ≡ most = omega arith in
    let f : value_at depth (((most - 0) - sum []) - 0) rest ≡ flawed x k = ap (λ (x : ℕ). value_at depth x rest) room ∙ e in
    let none : owed_want depth (1 ∷ []) (most - 0) rest ≡ false = flawed_here depth 0 [] (most - 0) rest x k f in
    let c : false ≡ true = sym none ∙ h in cc

pub starts : (depth most : ℕ) (bytes : List ℕ) → KeepsWanting depth most bytes 0 depth (1 ∷ [])
unfolding owed_want items_at
starts depth most bytes rest e = from_one depth most rest (value_at depth most rest) refl e

pub stays_fed : (depth most : ℕ) (bytes piece : List ℕ) (at inner : ℕ) (owed : List ℕ) → at ≤ length bytes → KeepsWanting depth most bytes at inner owed → KeepsWanting depth most (bytes ++ piece) at inner owed
stays_fed depth most bytes piece at inner owed h leads rest e =
    let same : take at (bytes ++ piece) ≡ take at bytes = take-append-le at bytes piece h in
    ap (λ (l : List ℕ). wants (value_at depth most (l ++ rest))) same ∙ leads rest e

pub closes : (depth most : ℕ) (bytes : List ℕ) (at inner n : ℕ) (ns : List ℕ) → KeepsWanting depth most bytes at inner (0 ∷ n ∷ ns) → KeepsWanting depth most bytes at (suc inner) (n ∷ ns)
closes depth most bytes at inner n ns leads rest e = leads rest (none_owed inner n ns (most - at) rest ∙ e)

-- the bytes between two places
between : (bytes rest : List ℕ) (at k : ℕ) → take (at + k) bytes ++ rest ≡ take at bytes ++ (take k (drop at bytes) ++ rest)
between bytes rest at k = ap (λ (l : List ℕ). l ++ rest) (take-add at k bytes) ∙ append_assoc (take at bytes) (take k (drop at bytes)) rest

moves : (depth most : ℕ) (bytes rest : List ℕ) (at k inner other : ℕ) (owed others : List ℕ) → at + k ≤ length bytes → KeepsWanting depth most bytes at inner owed
    → owed_want inner owed (most - at) (take k (drop at bytes) ++ rest) ≡ owed_want other others ((most - at) - k) (drop k (take k (drop at bytes) ++ rest))
    → owed_want other others (most - (at + k)) rest ≡ true → wants (value_at depth most (take (at + k) bytes ++ rest)) ≡ true
moves depth most bytes rest at k inner other owed others h leads e t =
    let size : length (take k (drop at bytes)) ≡ k = length-take-le k (drop at bytes) (omega (arith, length-drop at bytes)) in
    let room : (most - at) - k ≡ most - (at + k) = omega arith in
    let behind : drop k (take k (drop at bytes) ++ rest) ≡ rest = drop_at (take k (drop at bytes)) rest k size in
    let there : owed_want other others ((most - at) - k) (drop k (take k (drop at bytes) ++ rest)) ≡ owed_want other others (most - (at + k)) rest =
    ap (λ (x : ℕ). owed_want other others x (drop k (take k (drop at bytes) ++ rest))) room ∙ ap (λ (l : List ℕ). owed_want other others (most - (at + k)) l) behind in
    ap (λ (l : List ℕ). wants (value_at depth most l)) (between bytes rest at k) ∙ leads (take k (drop at bytes) ++ rest) (e ∙ there ∙ t)

-- the first bytes from a place on
here : (bytes rest : List ℕ) (at k : ℕ) → 1 ≤ k → at < length bytes → take k (drop at bytes) ++ rest ≡ get_or bytes at 0 ∷ (take (k - 1) (drop (at + 1) bytes) ++ rest)
here bytes rest at zero h l = absurd (omega arith)
here bytes rest at (suc k) h l =
    let one : suc k - 1 ≡ k = omega arith in
    rw (drop-cons bytes at 0 l, one, add-one) refl

-- a value that has all its bytes is behind
pub passes : (depth most : ℕ) (bytes : List ℕ) (at inner n : ℕ) (ns : List ℕ) (least : ℕ) → at < length bytes → head_of (form (get_or bytes at 0)) (drop (at + 1) bytes) ≡ Bytes least
    → least ≤ ((most - at) - sum ns) - n → at + least ≤ length bytes → KeepsWanting depth most bytes at inner (suc n ∷ ns) → KeepsWanting depth most bytes (at + least) inner (n ∷ ns)
passes depth most bytes at inner n ns least l head fits within leads rest e =
    let b = get_or bytes at 0 in
    let w = bytes_taken inner (((most - at) - sum ns) - n) (get_or bytes at 0) (drop (at + 1) bytes) rest least head fits (omega (arith, length-drop (at + 1) bytes)) in
    let reads : value_at inner (((most - at) - sum ns) - n) (take least (drop at bytes) ++ rest) ≡ whole w.1 least =
    ap (λ (l : List ℕ). value_at inner (((most - at) - sum ns) - n) l) (here bytes rest at least w.0 l) ∙ w.2 in
    moves depth most bytes rest at least inner inner (suc n ∷ ns) (n ∷ ns) within leads
    (one_taken inner n ns (most - at) least w.1 (take least (drop at bytes) ++ rest) reads) e

-- a list or map opens
pub opens : (depth most : ℕ) (bytes : List ℕ) (at inner n : ℕ) (ns : List ℕ) (head count : ℕ) → at < length bytes → head_of (form (get_or bytes at 0)) (drop (at + 1) bytes) ≡ Values head count
    → head + count ≤ ((most - at) - sum ns) - n → at + head ≤ length bytes → KeepsWanting depth most bytes at (suc inner) (suc n ∷ ns) → KeepsWanting depth most bytes (at + head) inner (count ∷ n ∷ ns)
opens depth most bytes at inner n ns head count l first fits within leads rest e =
    let room = ((most - at) - sum ns) - n in
    let w = values_open inner (((most - at) - sum ns) - n) (get_or bytes at 0) (drop (at + 1) bytes) rest head count first fits (omega (arith, length-drop (at + 1) bytes)) in
    let size : length (take head (drop at bytes)) ≡ head = length-take-le head (drop at bytes) (omega (arith, length-drop at bytes)) in
    let behind : drop head (take head (drop at bytes) ++ rest) ≡ rest = drop_at (take head (drop at bytes)) rest head size in
    let reads : value_at (suc inner) (((most - at) - sum ns) - n) (take head (drop at bytes) ++ rest)
    ≡ after head (map_reading (many_value w.1.0) (items_at (value_at inner) count ((((most - at) - sum ns) - n) - head) (drop head (take head (drop at bytes) ++ rest)))) =
    ap (λ (l : List ℕ). value_at (suc inner) (((most - at) - sum ns) - n) l) (here bytes rest at head w.0 l) ∙ w.1.1
    ∙ ap (λ (l : List ℕ). after head (map_reading (many_value w.1.0) (items_at (value_at inner) count ((((most - at) - sum ns) - n) - head) l))) (sym behind) in
    moves depth most bytes rest at head (suc inner) inner (suc n ∷ ns) (count ∷ n ∷ ns) within leads
    (one_opened inner n ns (most - at) head count w.1.0 (take head (drop at bytes) ++ rest) reads) e

is_more : (r : Reading Tree) → wants r ≡ true → r ≡ more
is_more (whole t k) e = cc
is_more more e = refl
is_more (flawed x k) e = cc

-- where the value at a place wants more, the value at the front does
waits_at : (depth most : ℕ) (bytes : List ℕ) (at inner n : ℕ) (ns : List ℕ) → value_at inner (((most - at) - sum ns) - n) (drop at bytes) ≡ more → KeepsWanting depth most bytes at inner (suc n ∷ ns) → value_at depth most bytes ≡ more
waits_at depth most bytes at inner n ns e leads =
    let w : wants (value_at depth most (take at bytes ++ drop at bytes)) ≡ true = leads (drop at bytes) (waits_here inner n ns (most - at) (drop at bytes) e) in
    is_more (value_at depth most bytes) (ap (λ (l : List ℕ). wants (value_at depth most l)) (sym (take-append-drop at bytes)) ∙ w)

starts_with : (bytes : List ℕ) (at : ℕ) → at < length bytes → drop at bytes ≡ get_or bytes at 0 ∷ drop (at + 1) bytes
starts_with bytes at l = rw add-one (drop-cons bytes at 0 l)

pub ends_here : (depth most : ℕ) (bytes : List ℕ) (at inner n : ℕ) (ns : List ℕ) → at ≡ length bytes → KeepsWanting depth most bytes at inner (suc n ∷ ns) → value_at depth most bytes ≡ more
ends_here depth most bytes at inner n ns e leads =
    let none : drop at bytes ≡ [] = drop_all at bytes (omega arith) in
    let wants_more : value_at inner (((most - at) - sum ns) - n) (drop at bytes) ≡ more =
    ap (λ (l : List ℕ). value_at inner (((most - at) - sum ns) - n) l) none ∙ empty_wants inner (((most - at) - sum ns) - n) in
    waits_at depth most bytes at inner n ns wants_more leads

pub bytes_wait_here : (depth most : ℕ) (bytes : List ℕ) (at inner n : ℕ) (ns : List ℕ) (least : ℕ) → at < length bytes → head_of (form (get_or bytes at 0)) (drop (at + 1) bytes) ≡ Bytes least
    → least ≤ ((most - at) - sum ns) - n → length bytes < at + least → KeepsWanting depth most bytes at inner (suc n ∷ ns) → value_at depth most bytes ≡ more
bytes_wait_here depth most bytes at inner n ns least l head fits short leads =
    let w : value_at inner (((most - at) - sum ns) - n) (get_or bytes at 0 ∷ drop (at + 1) bytes) ≡ more =
    bytes_wait inner (((most - at) - sum ns) - n) (get_or bytes at 0) (drop (at + 1) bytes) least head fits (omega (arith, length-drop (at + 1) bytes)) in
    waits_at depth most bytes at inner n ns (ap (λ (x : List ℕ). value_at inner (((most - at) - sum ns) - n) x) (starts_with bytes at l) ∙ w) leads

pub values_wait_here : (depth most : ℕ) (bytes : List ℕ) (at inner n : ℕ) (ns : List ℕ) (head count : ℕ) → at < length bytes → head_of (form (get_or bytes at 0)) (drop (at + 1) bytes) ≡ Values head count
    → head + count ≤ ((most - at) - sum ns) - n → length bytes < at + head → KeepsWanting depth most bytes at (suc inner) (suc n ∷ ns) → value_at depth most bytes ≡ more
values_wait_here depth most bytes at inner n ns head count l first fits short leads =
    let w : value_at (suc inner) (((most - at) - sum ns) - n) (get_or bytes at 0 ∷ drop (at + 1) bytes) ≡ more =
    values_wait inner (((most - at) - sum ns) - n) (get_or bytes at 0) (drop (at + 1) bytes) head count first fits (omega (arith, length-drop (at + 1) bytes)) in
    waits_at depth most bytes at (suc inner) n ns (ap (λ (x : List ℕ). value_at (suc inner) (((most - at) - sum ns) - n) x) (starts_with bytes at l) ∙ w) leads
