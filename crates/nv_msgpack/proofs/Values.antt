-- When a value made by each variant has a spelling, for those who make values.
use Rattle.std.proofs.Common.{ℕ, ℤ, ◌^◌, ◌<◌, ◌≤◌, Bool, List, length, Vec, Global, sym, subst, arith}
use Rattle.nv_value.specs.View.{content, contents, pair_contents}
use Rattle.nv_value.specs.declared.value.Pair.{Pair}
use Rattle.nv_value.specs.declared.value.Value.{Value, Nil, Truth, Int, Big, Text, Bin, List as ListOf, Pairs, Ext}
use Rattle.nv_value.proofs.Contents.{content-Nil, content-Truth, content-Int, content-Big, content-Text, content-Bin, content-List, content-Pairs, content-Ext, count-contents, count-pair_contents}
use Rattle.nv_msgpack.specs.Shortest.{HasSpelling, HaveSpellings}

pub HasSpelling-Nil : HasSpelling (content Nil)
HasSpelling-Nil = subst HasSpelling (sym content-Nil) tt

pub HasSpelling-Truth : (b : Bool) → HasSpelling (content (Truth b))
HasSpelling-Truth b = subst HasSpelling (sym (content-Truth b)) tt

pub HasSpelling-Int : (n : ℤ) → HasSpelling (content (Int n))
HasSpelling-Int n = subst HasSpelling (sym (content-Int n)) tt

pub HasSpelling-Big : (n : ℕ) → 2 ^ 63 ≤ n → HasSpelling (content (Big n))
HasSpelling-Big n h = subst HasSpelling (sym (content-Big n)) h

pub HasSpelling-Text : (bytes : List ℕ) → length bytes < 2 ^ 32 → HasSpelling (content (Text bytes))
HasSpelling-Text bytes h = subst HasSpelling (sym (content-Text bytes)) h

pub HasSpelling-Bin : (bytes : List ℕ) → length bytes < 2 ^ 32 → HasSpelling (content (Bin bytes))
HasSpelling-Bin bytes h = subst HasSpelling (sym (content-Bin bytes)) h

pub HasSpelling-Ext : (kind : ℤ) (bytes : List ℕ) → length bytes < 2 ^ 32 → HasSpelling (content (Ext kind bytes))
HasSpelling-Ext kind bytes h = subst HasSpelling (sym (content-Ext kind bytes)) h

pub HasSpelling-List : (items : Vec Value Global) → length items.items < 2 ^ 32 → HaveSpellings (contents items.items) → HasSpelling (content (ListOf items))
HasSpelling-List items h each = subst HasSpelling (sym (content-List items)) (omega (arith, count-contents items.items), each)

pub HasSpelling-Pairs : (fields : Vec Pair Global) → length fields.items < 2 ^ 32 → HaveSpellings (pair_contents fields.items) → HasSpelling (content (Pairs fields))
HasSpelling-Pairs fields h each = subst HasSpelling (sym (content-Pairs fields)) (omega (arith, count-pair_contents fields.items), each)
