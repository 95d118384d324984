-- A list of four values of which the first is 0, read value by value.
use Rattle.std.proofs.Common.{◌≡◌, ℕ, pos, ◌+◌, ◌-◌, ◌<◌, ◌≤◌, List, length, drop, get_or, refl, sym, ap, ◌∙◌, arith, cond, ltb, Bool, true, false}
use Rattle.std.proofs.lemmas.Bool.Decides.{nat_tests}
use Rattle.nv_value.specs.Content.{Tree, Trees, no_more, one, integer, list}
use Rattle.nv_msgpack.specs.Spelling.{Form, unused, alone, raw, many, fixed, of_list, form}
use Rattle.nv_msgpack.specs.Reading.{Reading, whole, more, flawed, too_long, none, some, after, items_at, many_at, read_by, value_at, IsReadAt}
use Rattle.nv_msgpack.specs.inside.Steps.{head_at}
use Rattle.nv_msgpack.proofs.Loop.{IsPlain, owed_at, after-zero, head_then, value_inside, value_many, value_plain, value_small, item_more, none_read, all_read, body_whole}

-- a form that is whole where nothing is inside is no list or map
plain_whole : (f : Form) (room at : ℕ) (rest : List ℕ) (t : Tree) (end : ℕ) → after at (read_by none f room rest) ≡ whole t end → IsPlain f
plain_whole unused room at rest t end e = tt
plain_whole (alone u) room at rest t end e = tt
plain_whole (raw r s) room at rest t end e = tt
plain_whole (many m s) room at rest t end e = cc

-- what is no list or map stands there at each depth
pub stands_plain : (limit at : ℕ) (bytes : List ℕ) (f : Form) (t : Tree) (end : ℕ) → at < length bytes → f ≡ form (get_or bytes at 0)
    → after at (read_by none f (limit - at) (drop (at + 1) bytes)) ≡ whole t end → (depth : ℕ) → IsReadAt depth limit bytes at t end
stands_plain limit at bytes f t end l e h depth =
    ap (λ (r : Reading Tree). after at r) (value_plain depth (limit - at) at bytes f (λ d. plain_whole f (limit - at) at (drop (at + 1) bytes) t end h) l e) ∙ h

-- what stands there, one less deep inside
pub stands_inside : (depth limit at : ℕ) (bytes : List ℕ) (f : Form) (t : Tree) (end : ℕ) → 0 < depth → at < length bytes → f ≡ form (get_or bytes at 0)
    → after at (read_by (some (items_at (value_at (depth - 1)))) f (limit - at) (drop (at + 1) bytes)) ≡ whole t end → IsReadAt depth limit bytes at t end
stands_inside depth limit at bytes f t end d l e h =
    ap (λ (r : Reading Tree). after at r) (value_inside depth (limit - at) at bytes f d l e) ∙ h

fits_in : (limit : ℕ) → 5 ≤ limit → ltb limit 5 ≡ false
fits_in limit h = grind (arith, nat_tests)

head_by : (r : Reading ℕ) (a b : Bool) → a ≡ false → b ≡ false → cond a (flawed too_long 0) (cond b more r) ≡ r
head_by r true b e f = cc
head_by r false true e f = cc
head_by r false false e f = refl

never_less : (n : ℕ) → ltb n 0 ≡ false
never_less n = grind (arith, nat_tests)

head_is : (limit : ℕ) (rest : List ℕ) → 5 ≤ limit → head_at 1 (fixed 4) limit rest ≡ whole 4 1
head_is limit rest h = head_by (whole 4 1) (ltb limit 5) (ltb (length rest) 0) (fits_in limit h) (never_less (length rest))

form_of_four : many of_list (fixed 4) ≡ form 0x94
unfolding form
form_of_four = refl

-- where a list of four is whole
list_read : (depth limit : ℕ) (bytes : List ℕ) (ts : Trees) (end : ℕ) → 0 < depth → 5 ≤ limit → 0 < length bytes → get_or bytes 0 0 ≡ 0x94
    → owed_at (depth - 1) limit bytes 4 1 ≡ whole ts end → value_at depth limit bytes ≡ whole (list ts) end
list_read depth limit bytes ts end d h has first e =
    let begins : many of_list (fixed 4) ≡ form (get_or bytes 0 0) = form_of_four ∙ sym (ap form first) in
    let inside = items_at (value_at (depth - 1)) in
    let room : limit - 0 ≡ limit = omega arith in
    value_many depth limit 0 bytes of_list (fixed 4) d has begins
    ∙ ap (λ (x : ℕ). many_at inside of_list (fixed 4) x (drop 1 bytes)) (sym room)
    ∙ sym (after-zero (many_at inside of_list (fixed 4) (limit - 0) (drop 1 bytes)))
    ∙ body_whole of_list (after 0 (many_at inside of_list (fixed 4) (limit - 0) (drop 1 bytes))) (owed_at (depth - 1) limit bytes 4 1) ts end
    (head_then inside of_list 1 (fixed 4) limit 0 bytes 4 1 refl
    (ap (λ (x : ℕ). after 0 (head_at 1 (fixed 4) x (drop 1 bytes))) room ∙ ap (λ (r : Reading ℕ). after 0 r) (head_is limit (drop 1 bytes) h))) e

-- the four read one after another
pub request_read : (depth limit : ℕ) (bytes : List ℕ) (b c d : Tree) (m n end : ℕ) → 0 < depth → 5 ≤ limit → 2 ≤ length bytes → get_or bytes 0 0 ≡ 0x94 → get_or bytes 1 0 ≡ 0
    → IsReadAt (depth - 1) (limit - 2) bytes 2 b m → m < limit - 1 → IsReadAt (depth - 1) (limit - 1) bytes m c n → n < limit → IsReadAt (depth - 1) limit bytes n d end
    → value_at depth limit bytes ≡ whole (list (one (integer (pos 0)) (one b (one c (one d no_more))))) end
request_read depth limit bytes b c d m n end deep h two first second e l f k g =
    let total = owed_at (depth - 1) limit bytes 4 1 in
    let zero_at = value_small (depth - 1) (limit - 3) 1 bytes 0 (omega arith) (sym second) (omega arith) in
    let one_read = item_more (depth - 1) limit bytes 4 1 no_more (integer (pos 0)) 2 total (omega arith) (omega arith) zero_at (none_read total) in
    let two_read = item_more (depth - 1) limit bytes 3 2 (one (integer (pos 0)) no_more) b m total (omega arith) (omega arith) e one_read in
    let three_read = item_more (depth - 1) limit bytes 2 m (one (integer (pos 0)) (one b no_more)) c n total (omega arith) (omega arith) f two_read in
    let room : limit - (1 - 1) - n ≡ limit - n = omega arith in
    let last = ap (λ (x : ℕ). after n (value_at (depth - 1) x (drop n bytes))) room ∙ g in
    let four_read = item_more (depth - 1) limit bytes 1 n (one (integer (pos 0)) (one b (one c no_more))) d end total (omega arith) (omega arith) last three_read in
    list_read depth limit bytes (one (integer (pos 0)) (one b (one c (one d no_more)))) end deep h (omega arith) first
    (all_read (depth - 1) limit bytes end (one (integer (pos 0)) (one b (one c (one d no_more)))) total four_read)
