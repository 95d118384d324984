-- The content of a value made by each variant, and of values and pairs in a row.
use Rattle.std.proofs.Common.{◌≡◌, ℕ, ℤ, ◌*◌, Bool, List, [], ◌∷◌, length, Vec, Global, refl, ap, arith, rules}
use Rattle.nv_value.specs.Content.{nil, truth, integer, big, text, bin, list, pairs, ext, opaque, one, count}
use Rattle.nv_value.specs.View.{content, pair_content, contents, pair_contents}
use Rattle.nv_value.specs.declared.value.Pair.{Pair}
use Rattle.nv_value.specs.declared.value.Value.{Value, Nil, Truth, Int, Big, Text, Bin, List as ListOf, Pairs, Ext, Opaque, the_lemmas}

pub content-Nil : content Nil ≡ nil
content-Nil = search (rules, the_lemmas)

pub content-Truth : (b : Bool) → content (Truth b) ≡ truth b
content-Truth b = search (rules, the_lemmas)

pub content-Int : (n : ℤ) → content (Int n) ≡ integer n
content-Int n = search (rules, the_lemmas)

pub content-Big : (n : ℕ) → content (Big n) ≡ big n
content-Big n = search (rules, the_lemmas)

pub content-Text : (bytes : List ℕ) → content (Text bytes) ≡ text bytes
content-Text bytes = search (rules, the_lemmas)

pub content-Bin : (bytes : List ℕ) → content (Bin bytes) ≡ bin bytes
content-Bin bytes = search (rules, the_lemmas)

pub content-List : (items : Vec Value Global) → content (ListOf items) ≡ list (contents items.items)
content-List items = search (rules, the_lemmas)

pub content-Pairs : (fields : Vec Pair Global) → content (Pairs fields) ≡ pairs (pair_contents fields.items)
content-Pairs fields = search (rules, the_lemmas)

pub content-Ext : (kind : ℤ) (bytes : List ℕ) → content (Ext kind bytes) ≡ ext kind bytes
content-Ext kind bytes = search (rules, the_lemmas)

pub content-Opaque : (bytes : List ℕ) → content (Opaque bytes) ≡ opaque bytes
content-Opaque bytes = search (rules, the_lemmas)

pub pair_content_is : (p : Pair) → pair_content p ≡ (content p.key, content p.value)
pair_content_is p = search (rules, the_lemmas)

-- The two trees of a pair, in turn.
pub pair_contents_is : (p : Pair) (ps : List Pair) → pair_contents (p ∷ ps) ≡ one (content p.key) (one (content p.value) (pair_contents ps))
pair_contents_is p ps = ap (λ q. one q.0 (one q.1 (pair_contents ps))) (pair_content_is p)

pub count-contents : (vs : List Value) → count (contents vs) ≡ length vs
count-contents [] = refl
count-contents (v ∷ vs) = let e : count (contents vs) ≡ length vs = count-contents vs in omega (arith, e)

pub count-pair_contents : (ps : List Pair) → count (pair_contents ps) ≡ 2 * length ps
count-pair_contents [] = refl
count-pair_contents (p ∷ ps) = let e : count (pair_contents ps) ≡ 2 * length ps = count-pair_contents ps in omega (arith, e)
