-- What values of a book tell, told back.
use Rattle.std.proofs.Common.{◌≡◌, ℕ, zero, suc, pos, negsuc, ◌≤◌, Bool, true, false, List, [], ◌∷◌, length, Option, Some, None, refl, sym, ap, ap₂, ◌∙◌, subst, arith}
use Rattle.std.specs.Prelude.{◌<◌, ◌^◌, ◌&&◌, ◌==◌, nat_lt, nat_le, if◌then◌else◌, bytes_eq, option_and_then}
use Rattle.std.specs.Option.{option_or}
use Rattle.std.proofs.lemmas.Option.{same_Some}
use Rattle.std.proofs.lemmas.Bool.{eqb-true, leb-true, ltb-true}
use Rattle.nv_value.specs.Content.{Tree, Trees, no_more, one, nil, truth, integer, big, text, bin, list, pairs, ext, opaque, trees_of}
use Rattle.nv_msgpack.specs.Spelling.{unsigned_number}
use Rattle.nv_rpc.specs.Calls.{Call, request, notice, params_in}
use Rattle.nv_rpc.specs.Received.{text_in}
use Rattle.nv_history.specs.Events.{Event, open_session, request_of, take_of, close_of}
use Rattle.nv_book.specs.Books.{letter, msgid_tree, method_tree, params_tree, event_values, entry_head, book_name, book_head, book_end, output_pieces, piece_count, IsOutputOf, HasSmallMsgid, HasSmallCall}
use Rattle.nv_book.specs.Headings.{Heading, heading, if_small, unsigned_in, unsigned32_in, is_text, is_letter, call_in_parts, opening_in, closing_in, taking_in, asking_in, short_in, asked_in, heading_in, entry_count_in, if_fair, if_first_version, outbox_in_parts, outbox_in}
use Rattle.nv_book.specs.inside.Pieces.{IsCountOf}
use Rattle.std.proofs.lemmas.Slice.Eq.{bytes_eq-Decides}

-- ---- steps that may find nothing

record Found {A B : Type 0} (o : Option A) (f : A → Option B) (y : B) : Type 0 where
  pub item : A
  pub is : o ≡ Some item
  pub then_is : f item ≡ Some y

found : {A B : Type 0} (o : Option A) (f : A → Option B) (y : B) → option_and_then f o ≡ Some y → Found o f y
found None f y e = cc
found (Some x) f y e = record { item = x; is = refl; then_is = e }

if_found : {B : Type 0} (b : Bool) (o : Option B) (y : B) → (if b then o else None) ≡ Some y → (b ≡ true) × (o ≡ Some y)
if_found true o y e = (refl, e)
if_found false o y e = cc

-- ---- numbers

int_back : (b : Bool) (m n : ℕ) → (if b then Some m else None) ≡ Some n → (b ≡ true) × (m ≡ n)
int_back true m n e = (refl, same_Some m n e)
int_back false m n e = cc

big_back : (b : Bool) (m n : ℕ) → (if b then None else Some m) ≡ Some n → (b ≡ false) × (m ≡ n)
big_back true m n e = cc
big_back false m n e = (refl, same_Some m n e)

unsigned_back : (t : Tree) (n : ℕ) → unsigned_in t ≡ Some n → t ≡ unsigned_number n
unsigned_back (integer (pos m)) n e =
    let p = int_back (nat_lt m (2 ^ 63)) m n e in
    sym (ap (λ (b : Bool). if b then integer (pos m) else big m) p.0) ∙ ap unsigned_number p.1
unsigned_back (integer (negsuc m)) n e = cc
unsigned_back (big m) n e =
    let p = big_back (nat_lt m (2 ^ 63)) m n e in
    sym (ap (λ (b : Bool). if b then integer (pos m) else big m) p.0) ∙ ap unsigned_number p.1
unsigned_back nil n e = cc
unsigned_back (truth b) n e = cc
unsigned_back (text b) n e = cc
unsigned_back (bin b) n e = cc
unsigned_back (list ts) n e = cc
unsigned_back (pairs ts) n e = cc
unsigned_back (ext k b) n e = cc
unsigned_back (opaque b) n e = cc

small_back : (t : Tree) (n : ℕ) → unsigned32_in t ≡ Some n → t ≡ unsigned_number n
small_back t n e =
    let p = found (unsigned_in t) if_small n e in
    unsigned_back t p.item p.is ∙ ap unsigned_number (int_back (nat_lt p.item (2 ^ 32)) p.item n p.then_is).1

pub small_is : (t : Tree) (n : ℕ) → unsigned32_in t ≡ Some n → n < 2 ^ 32
small_is t n e =
    let p = found (unsigned_in t) if_small n e in
    let q = int_back (nat_lt p.item (2 ^ 32)) p.item n p.then_is in
    omega (arith, ltb-true p.item (2 ^ 32) q.0, q.1)

-- ---- strings and lists

text_back : (wanted : List ℕ) (t : Tree) → is_text wanted t ≡ true → t ≡ text wanted
text_back wanted (text bytes) e = ap text ((bytes_eq-Decides bytes wanted).0 e)
text_back wanted nil e = cc
text_back wanted (truth b) e = cc
text_back wanted (integer n) e = cc
text_back wanted (big n) e = cc
text_back wanted (bin b) e = cc
text_back wanted (list ts) e = cc
text_back wanted (pairs ts) e = cc
text_back wanted (ext k b) e = cc
text_back wanted (opaque b) e = cc

method_back : (t : Tree) (m : List ℕ) → text_in t ≡ Some m → t ≡ text m
method_back (text bytes) m e = ap text (same_Some bytes m e)
method_back nil m e = cc
method_back (truth b) m e = cc
method_back (integer n) m e = cc
method_back (big n) m e = cc
method_back (bin b) m e = cc
method_back (list ts) m e = cc
method_back (pairs ts) m e = cc
method_back (ext k b) m e = cc
method_back (opaque b) m e = cc

list_back : (t : Tree) (ts : Trees) → params_in t ≡ Some ts → t ≡ list ts
list_back (list us) ts e = ap list (same_Some us ts e)
list_back nil ts e = cc
list_back (truth b) ts e = cc
list_back (integer n) ts e = cc
list_back (big n) ts e = cc
list_back (text b) ts e = cc
list_back (bin b) ts e = cc
list_back (pairs us) ts e = cc
list_back (ext k b) ts e = cc
list_back (opaque b) ts e = cc

-- ---- a heading

pub record TellsHeading (t : Tree) (h : Heading) : Type 0 where
  pub tree_is : t ≡ entry_head h.entry h.count
  pub count_is : IsCountOf h.entry.event h.count
  pub caller_is : h.entry.caller < 2 ^ 32
  pub call_is : HasSmallCall h.entry.event

tells_by : (t : Tree) (g h : Heading) → g ≡ h → t ≡ entry_head g.entry g.count → IsCountOf g.entry.event g.count → g.entry.caller < 2 ^ 32 → HasSmallCall g.entry.event → TellsHeading t h
tells_by t g h e s c k m = subst (λ (x : Heading). TellsHeading t x) e (record { tree_is = s; count_is = c; caller_is = k; call_is = m })

opened_back : (k c : Tree) (h : Heading) → (if is_letter 111 k then opening_in c else None) ≡ Some h → TellsHeading (list (one k (one c no_more))) h
opened_back k c h e =
    let p = if_found (is_letter 111 k) (opening_in c) h e in
    let a = found (unsigned32_in c) _ h p.1 in
    tells_by (list (one k (one c no_more))) (heading a.item 0 open_session) h (same_Some _ h a.then_is)
    (ap₂ (λ (x y : Tree). list (one x (one y no_more))) (text_back (111 ∷ []) k p.0) (small_back c a.item a.is)) refl (small_is c a.item a.is) tt

closed_back : (k c s : Tree) (h : Heading) → (if is_letter 99 k then closing_in c s else None) ≡ Some h → TellsHeading (list (one k (one c (one s no_more)))) h
closed_back k c s h e =
    let p = if_found (is_letter 99 k) (closing_in c s) h e in
    let a = found (unsigned32_in c) _ h p.1 in
    let b = found (unsigned_in s) _ h a.then_is in
    tells_by (list (one k (one c (one s no_more)))) (heading a.item 0 (close_of b.item)) h (same_Some _ h b.then_is)
    (ap₂ (λ (x y : Tree). list (one x (one y (one s no_more)))) (text_back (99 ∷ []) k p.0) (small_back c a.item a.is)
    ∙ ap (λ (x : Tree). list (one (letter 99) (one (unsigned_number a.item) (one x no_more)))) (unsigned_back s b.item b.is)) refl (small_is c a.item a.is) tt

taken_back : (k c s n : Tree) (h : Heading) → (if is_letter 116 k then taking_in c s n else None) ≡ Some h → TellsHeading (list (one k (one c (one s (one n no_more))))) h
taken_back k c s n h e =
    let p = if_found (is_letter 116 k) (taking_in c s n) h e in
    let a = found (unsigned32_in c) _ h p.1 in
    let b = found (unsigned_in s) _ h a.then_is in
    let d = found (unsigned_in n) _ h b.then_is in
    tells_by (list (one k (one c (one s (one n no_more))))) (heading a.item d.item (take_of b.item)) h (same_Some _ h d.then_is)
    (ap₂ (λ (x y : Tree). list (one x (one y (one s (one n no_more))))) (text_back (116 ∷ []) k p.0) (small_back c a.item a.is)
    ∙ ap₂ (λ (x y : Tree). list (one (letter 116) (one (unsigned_number a.item) (one x (one y no_more))))) (unsigned_back s b.item b.is) (unsigned_back n d.item d.is)) tt (small_is c a.item a.is) tt

call_back_by : (t : Tree) (m : List ℕ) (ps : Trees) (call : Call) → option_and_then (λ id. Some (request id m ps)) (unsigned32_in t) ≡ Some call
    → (t ≡ msgid_tree call) × (text m ≡ method_tree call) × (list ps ≡ params_tree call) × HasSmallMsgid call
call_back_by t m ps call e =
    let a = found (unsigned32_in t) (λ id. Some (request id m ps)) call e in
    let is : request a.item m ps ≡ call = same_Some (request a.item m ps) call a.then_is in
    (small_back t a.item a.is ∙ ap msgid_tree is, ap method_tree is, ap params_tree is, subst HasSmallMsgid is (small_is t a.item a.is))

call_back : (t : Tree) (m : List ℕ) (ps : Trees) (call : Call) → call_in_parts t m ps ≡ Some call → (t ≡ msgid_tree call) × (text m ≡ method_tree call) × (list ps ≡ params_tree call) × HasSmallMsgid call
call_back nil m ps call e =
    let is : notice m ps ≡ call = same_Some (notice m ps) call e in
    (ap msgid_tree is, ap method_tree is, ap params_tree is, subst HasSmallMsgid is tt)
call_back (truth b) m ps call e = call_back_by (truth b) m ps call e
call_back (integer n) m ps call e = call_back_by (integer n) m ps call e
call_back (big n) m ps call e = call_back_by (big n) m ps call e
call_back (text b) m ps call e = call_back_by (text b) m ps call e
call_back (bin b) m ps call e = call_back_by (bin b) m ps call e
call_back (list ts) m ps call e = call_back_by (list ts) m ps call e
call_back (pairs ts) m ps call e = call_back_by (pairs ts) m ps call e
call_back (ext k b) m ps call e = call_back_by (ext k b) m ps call e
call_back (opaque b) m ps call e = call_back_by (opaque b) m ps call e

asked_back : (k c s i m ps : Tree) (h : Heading) → (if is_letter 114 k then asking_in c s i m ps else None) ≡ Some h
    → TellsHeading (list (one k (one c (one s (one i (one m (one ps no_more))))))) h
asked_back k c s i m ps h e =
    let p = if_found (is_letter 114 k) (asking_in c s i m ps) h e in
    let a = found (unsigned32_in c) _ h p.1 in
    let b = found (unsigned_in s) _ h a.then_is in
    let x = found (text_in m) _ h b.then_is in
    let y = found (params_in ps) _ h x.then_is in
    let z = found (call_in_parts i x.item y.item) _ h y.then_is in
    let w = call_back i x.item y.item z.item z.is in
    tells_by (list (one k (one c (one s (one i (one m (one ps no_more))))))) (heading a.item 0 (request_of b.item z.item)) h (same_Some _ h z.then_is)
    (ap₂ (λ (u v : Tree). list (one u (one v (one s (one i (one m (one ps no_more))))))) (text_back (114 ∷ []) k p.0) (small_back c a.item a.is)
    ∙ ap₂ (λ (u v : Tree). list (one (letter 114) (one (unsigned_number a.item) (one u (one v (one m (one ps no_more))))))) (unsigned_back s b.item b.is) w.0
    ∙ ap₂ (λ (u v : Tree). list (one (letter 114) (one (unsigned_number a.item) (one (unsigned_number b.item) (one (msgid_tree z.item) (one u (one v no_more)))))))
    (method_back m x.item x.is ∙ w.1) (list_back ps y.item y.is ∙ w.2)) refl (small_is c a.item a.is) w.3

asked_whole : (t : Tree) (h : Heading) → asked_in t ≡ Some h → TellsHeading t h
unfolding asked_in
asked_whole (list (one k (one c (one s (one i (one m (one ps no_more))))))) h e = asked_back k c s i m ps h e
asked_whole _ h e = cc

short_whole : (t : Tree) (h : Heading) → short_in t ≡ Some h → TellsHeading t h
unfolding short_in
short_whole (list (one k (one c no_more))) h e = opened_back k c h e
short_whole (list (one k (one c (one s no_more)))) h e = closed_back k c s h e
short_whole (list (one k (one c (one s (one n no_more))))) h e = taken_back k c s n h e
short_whole _ h e = cc

either_back : (t : Tree) (h : Heading) (a b : Option Heading) → (a ≡ Some h → TellsHeading t h) → (b ≡ Some h → TellsHeading t h) → option_or a b ≡ Some h → TellsHeading t h
either_back t h None b f g e = g e
either_back t h (Some x) b f g e = f e

-- the heading that a value tells is told by that value alone
pub heading_told : (t : Tree) (h : Heading) → heading_in t ≡ Some h → TellsHeading t h
heading_told t h e = either_back t h (short_in t) (asked_in t) (short_whole t h) (asked_whole t h) e

-- ---- the first and the last value

end_by : (k c : Tree) (n : ℕ) → (if is_text (101 ∷ 110 ∷ 100 ∷ []) k then unsigned_in c else None) ≡ Some n → list (one k (one c no_more)) ≡ book_end n
end_by k c n e =
    let p = if_found (is_text (101 ∷ 110 ∷ 100 ∷ []) k) (unsigned_in c) n e in
    ap₂ (λ (x y : Tree). list (one x (one y no_more))) (text_back (101 ∷ 110 ∷ 100 ∷ []) k p.0) (unsigned_back c n p.1)

pub end_told : (t : Tree) (n : ℕ) → entry_count_in t ≡ Some n → t ≡ book_end n
unfolding entry_count_in
end_told (list (one k (one c no_more))) n e = end_by k c n e
end_told _ n e = cc

fair_by : (b c : Bool) (m n : ℕ) → (if b && c then Some m else None) ≡ Some n → (b ≡ true) × (c ≡ true) × (m ≡ n)
fair_by true true m n e = (refl, refl, same_Some m n e)
fair_by true false m n e = cc
fair_by false c m n e = cc

fair_back : (m n : ℕ) → if_fair m ≡ Some n → (m ≡ n) × ((16 ≤ n) × (n ≤ 1048576))
fair_back m n e =
    let p = fair_by (nat_le 16 m) (nat_le m 1048576) m n e in
    (p.2, (omega (arith, leb-true 16 m p.0, p.2), omega (arith, leb-true m 1048576 p.1, p.2)))

pub record TellsOutbox (t : Tree) (n : ℕ) : Type 0 where
  pub tree_is : t ≡ book_head n
  pub fair : (16 ≤ n) × (n ≤ 1048576)

outbox_by : (k v o : Tree) (n : ℕ) → (if is_text book_name k then outbox_in_parts v o else None) ≡ Some n → TellsOutbox (list (one k (one v (one o no_more)))) n
outbox_by k v o n e =
    let p = if_found (is_text book_name k) (outbox_in_parts v o) n e in
    let a = found (unsigned_in v) _ n p.1 in
    let b = found (unsigned_in o) (λ m. if_first_version a.item (if_fair m)) n a.then_is in
    let c = if_found (a.item == 1) (if_fair b.item) n b.then_is in
    let d = fair_back b.item n c.1 in
    record {
      tree_is =
          ap₂ (λ (x y : Tree). list (one x (one y (one o no_more)))) (text_back book_name k p.0) (unsigned_back v a.item a.is ∙ ap unsigned_number (eqb-true a.item 1 c.0))
          ∙ ap (λ (x : Tree). list (one (text book_name) (one (unsigned_number 1) (one x no_more)))) (unsigned_back o b.item b.is ∙ ap unsigned_number d.0);
      fair = d.1;
    }

pub outbox_told : (t : Tree) (n : ℕ) → outbox_in t ≡ Some n → TellsOutbox t n
unfolding outbox_in
outbox_told (list (one k (one v (one o no_more)))) n e = outbox_by k v o n e
outbox_told _ n e = cc
