-- A request that was read part by part.
use Rattle.std.proofs.Common.{◌≡◌, ℕ, ◌^◌, ◌-◌, ◌<◌, ◌≤◌, pos, List, Some, None, length, get_or, Bool, true, false, refl, cond, ltb, arith}
use Rattle.std.proofs.lemmas.Bool.Decides.{nat_tests}
use Rattle.nv_value.specs.Content.{Tree, Trees, integer, text, list}
use Rattle.nv_msgpack.specs.Reading.{IsReadAt}
use Rattle.nv_msgpack.proofs.Again.{whole_has_spelling}
use Rattle.nv_msgpack.proofs.Requests.{request_read}
use Rattle.nv_rpc.specs.inside.Parts.{four}
use Rattle.nv_rpc.specs.Arrivals.{BeginsWithCall}
use Rattle.nv_rpc.specs.Steps.{◌>>=◌}
use Rattle.nv_rpc.specs.Calls.{Call, request, call_in}

-- the request of a number
request_by : (msgid : ℕ) (name : List ℕ) (ts : Trees) (b : Bool) → b ≡ true → (cond b (Some msgid) None >>= (λ id. Some (request id name ts))) ≡ Some (request msgid name ts)
request_by msgid name ts true e = refl
request_by msgid name ts false e = cc

small_number : (n : ℕ) → n < 2 ^ 32 → ltb n (2 ^ 32) ≡ true
small_number n h = grind (arith, nat_tests)

pub is_request : (msgid : ℕ) (name : List ℕ) (ts : Trees) → msgid < 2 ^ 32 → call_in (list (four (integer (pos 0)) (integer (pos msgid)) (text name) (list ts))) ≡ Some (request msgid name ts)
unfolding call_in
is_request msgid name ts h = request_by msgid name ts (ltb msgid (2 ^ 32)) (small_number msgid h)

-- its parts stand one behind another
pub begins_with_request : (depth most : ℕ) (bytes : List ℕ) (b c d : Tree) (call : Call) (m n end : ℕ) → 1 ≤ depth → 5 ≤ most → 2 ≤ length bytes → get_or bytes 0 0 ≡ 0x94 → get_or bytes 1 0 ≡ 0
    → ((k : ℕ) → k < length bytes → get_or bytes k 0 < 256) → m ≤ most - 2 → n ≤ most - 1
    → IsReadAt (depth - 1) (most - 2) bytes 2 b m → IsReadAt (depth - 1) (most - 1) bytes m c n → IsReadAt (depth - 1) most bytes n d end
    → call_in (list (four (integer (pos 0)) b c d)) ≡ Some call → BeginsWithCall depth most bytes call end
begins_with_request depth most bytes b c d call m n end deep h two first second each f g p q r is =
    let e = request_read depth most bytes b c d m n end (omega arith) h two first second p (omega arith) q (omega arith) r in
    let t = list (four (integer (pos 0)) b c d) in
    (t, e, whole_has_spelling depth most bytes t end (omega arith) each e, is)
