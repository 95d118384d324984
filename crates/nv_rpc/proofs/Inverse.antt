-- The message that a value tells is the message whose value it is.
use Rattle.std.proofs.Common.{◌≡◌, ℕ, ◌^◌, ◌<◌, Bool, true, false, nat_lt, if◌then◌else◌, ℤ, pos, FitsSigned, List, [], ◌∷◌, bytes_eq, Option, Some, None, option_map, option_and_then, ◌⊎◌, inl, inr, refl, ap, sym, subst, ◌∙◌, rules, tests}
use Rattle.std.specs.Int.{w64}
use Rattle.std.specs.Ordering.{int_eq}
use Rattle.std.proofs.lemmas.Bool.Decides.{Decides-int_eq}
use Rattle.std.proofs.lemmas.Slice.Eq.{bytes_eq-Decides}
use Rattle.nv_msgpack.specs.Spelling.{Spells}
use Rattle.nv_msgpack.specs.Handle.{handle_in, integer_in as integer_in_bytes, integer_of}
use Rattle.nv_rpc.proofs.HandleRead.{handle_read, integer_spelled}
use Rattle.nv_value.specs.Content.{Tree, Trees, no_more, one, nil, truth, integer, text, list, ext}
use Rattle.nv_value.specs.declared.fault.ApiFault.{ApiFault}
use Rattle.nv_msgpack.specs.Shortest.{shortest}
use Rattle.nv_rpc.specs.Steps.{◌>>=◌}
use Rattle.nv_rpc.specs.Calls.{is_number, msgid_in, params_in}
use Rattle.nv_rpc.specs.Messages.{Sent, reply, lines_event, tick_event, detach_event, fault_event, lines_name, tick_name, detach_name, fault_name, message_tree, buffer_handle, error, items, response, notification}
use Rattle.nv_rpc.specs.Received.{if_shortest, buffer_in, message_in, message_as_read, IsTyped, ToldIsRead, ReadIsTold, kind_in, text_in, fault_in, error_in, outcome_in, reply_in, lines_in, tick_in, event_of_two, event_of, event_in, is_false}

-- The handle of a buffer is read.
buffer_read : (z : ℤ) → FitsSigned w64 z → buffer_in (buffer_handle z) ≡ Some z
buffer_read z fits =
    let spelled : Spells (integer z) (shortest (integer z)) = integer_spelled z fits in
    let h : handle_in (pos 0) (buffer_handle z) ≡ Some z = handle_read (pos 0) (buffer_handle z) z (inr (shortest (integer z), refl, spelled)) in
    let same : bytes_eq (shortest (integer z)) (shortest (integer z)) ≡ true = (bytes_eq-Decides (shortest (integer z)) (shortest (integer z))).1 refl in
    ap (option_and_then (if_shortest (shortest (integer z)))) h ∙ ap (λ b. if b then Some z else None) same

msgid_in_range : (n : ℕ) → n < 2 ^ 32 → msgid_in (integer (pos n)) ≡ Some n
msgid_in_range n h = search (rules, tests)

kind_in_range : (n : ℕ) → n < 256 → kind_in (integer (pos n)) ≡ Some n
kind_in_range n h = search (rules, tests)

pub told_is_read : ToldIsRead
unfolding message_tree message_in
told_is_read (reply msgid None result) h = rw (msgid_in_range msgid h)
told_is_read (reply msgid (Some fault) result) h = rw (msgid_in_range msgid h.0, kind_in_range fault.kind h.1)
told_is_read (lines_event buffer tick first last lines) h = rw (buffer_read buffer h)
told_is_read (tick_event buffer tick) h = rw (buffer_read buffer h)
told_is_read (detach_event buffer) h = rw (buffer_read buffer h)
told_is_read (fault_event fault) h = rw (kind_in_range fault.kind h)

-- The steps of a reading that found something.
pub step_is : {A B : Type 0} (o : Option A) (f : A → Option B) (b : B) → (o >>= f) ≡ Some b → (a : A) × (o ≡ Some a) × (f a ≡ Some b)
step_is (Some a) f b h = (a, refl, h)
step_is None f b h = (cc)

test_is : {A : Type 0} (c : Bool) (o : Option A) (a : A) → (if c then o else None) ≡ Some a → (c ≡ true) × (o ≡ Some a)
test_is true o a h = (refl, h)
test_is false o a h = (cc)

choice_is : {A : Type 0} (c : Bool) (o p : Option A) (a : A) → (if c then o else p) ≡ Some a → ((c ≡ true) × (o ≡ Some a)) ⊎ (p ≡ Some a)
choice_is true o p a h = inl (refl, h)
choice_is false o p a h = inr h

pub map_is : {A B : Type 0} (f : A → B) (o : Option A) (b : B) → option_map f o ≡ Some b → (a : A) × (o ≡ Some a) × (f a ≡ b)
map_is f (Some a) b h = (a, refl, (cc))
map_is f None b h = (cc)

number_is : (n : ℤ) (t : Tree) → is_number n t ≡ true → t ≡ integer n
number_is n (integer z) h = ap integer ((Decides-int_eq z n).0 h)
number_is n _ h = (cc)

msgid_is : (t : Tree) (n : ℕ) → msgid_in t ≡ Some n → t ≡ integer (pos n)
msgid_is (integer (pos m)) n h = let e = test_is (nat_lt m (2 ^ 32)) (Some m) n h in (cc)
msgid_is _ n h = (cc)

kind_is : (t : Tree) (n : ℕ) → kind_in t ≡ Some n → t ≡ integer (pos n)
kind_is (integer (pos m)) n h = let e = test_is (nat_lt m 256) (Some m) n h in (cc)
kind_is _ n h = (cc)

integer_is : (t : Tree) (z : ℤ) → integer_of t ≡ Some z → t ≡ integer z
integer_is (integer x) z h = (cc)
integer_is _ z h = (cc)

text_is : (t : Tree) (bytes : List ℕ) → text_in t ≡ Some bytes → t ≡ text bytes
text_is (text x) bytes h = (cc)
text_is _ bytes h = (cc)

params_is : (t : Tree) (ts : Trees) → params_in t ≡ Some ts → t ≡ list ts
params_is (list x) ts h = (cc)
params_is _ ts h = (cc)

false_is : (t : Tree) → is_false t ≡ true → t ≡ truth false
false_is (truth false) h = refl
false_is _ h = (cc)

buffer_is : (t : Tree) (z : ℤ) → buffer_in t ≡ Some z → t ≡ buffer_handle z
buffer_is (ext kind bytes) z h =
    let a = step_is (handle_in (pos 0) (ext kind bytes)) (if_shortest bytes) z h in
    let k = test_is (int_eq kind (pos 0)) (integer_in_bytes bytes) a.0 a.1 in
    let e = test_is (bytes_eq bytes (shortest (integer a.0))) (Some a.0) z a.2 in
    let f : a.0 ≡ z = (cc) in
    let g : bytes ≡ shortest (integer z) = (bytes_eq-Decides bytes (shortest (integer a.0))).0 e.0 ∙ ap (λ y. shortest (integer y)) f in
    ap (λ k. ext k bytes) ((Decides-int_eq kind (pos 0)).0 k.0) ∙ ap (ext (pos 0)) g
buffer_is _ z h = (cc)

-- What is read of an error: its kind and its words, with the code 0.
record IsFault (kind words : Tree) (fault : ApiFault) : Type 0 where
  kind_read : kind ≡ integer (pos fault.kind)
  words_read : words ≡ text fault.words
  no_code : record fault { code = 0 } ≡ fault

fault_made : (kind words : Tree) (k : ℕ) (w : List ℕ) (fault : ApiFault) → kind_in kind ≡ Some k → text_in words ≡ Some w →
    Some (record { kind = k; code = 0; words = w }) ≡ Some fault → IsFault kind words fault
fault_made kind words k w fault e f h =
    let g : record { kind = k; code = 0; words = w } ≡ fault = (cc) in
    let P : ApiFault → Type 0 = λ x. IsFault kind words x in
    subst P g (record { kind_read = kind_is kind k e; words_read = text_is words w f; no_code = refl })

fault_is : (kind words : Tree) (fault : ApiFault) → fault_in kind words ≡ Some fault → IsFault kind words fault
fault_is kind words fault h =
    let k = step_is (kind_in kind) _ fault h in
    let w = step_is (text_in words) _ fault k.2 in
    fault_made kind words k.0 w.0 fault k.1 w.1 w.2

-- What is read of a value is told by that value.
abbrev IsTold : Tree → Sent → Type 0
IsTold t s = (message_tree s ≡ t) × (message_as_read s ≡ s)

error_is : (cause : Tree) (fault : ApiFault) → error_in cause ≡ Some fault → (cause ≡ error fault) × (record fault { code = 0 } ≡ fault)
error_is (list (one kind (one words no_more))) fault h =
    let f = fault_is kind words fault h in
    (ap (λ k. list (one k (one words no_more))) f.kind_read ∙ ap (λ w. list (one (integer (pos fault.kind)) (one w no_more))) f.words_read, f.no_code)
error_is _ fault h = (cc)

outcome_is : (msgid : ℕ) (cause result : Tree) (s : Sent) → outcome_in msgid cause result ≡ Some s → IsTold (response msgid cause result) s
unfolding message_tree
outcome_is msgid nil result s h =
    let e : reply msgid None result ≡ s = (cc) in
    let P : Sent → Type 0 = λ x. IsTold (response msgid nil result) x in
    subst P e (refl, refl)
outcome_is msgid cause nil s h =
    let f = map_is (λ fault. reply msgid (Some fault) nil) (error_in cause) s h in
    let e = error_is cause f.0 f.1 in
    let P : Sent → Type 0 = λ x. IsTold (response msgid cause nil) x in
    subst P f.2 (ap (λ c. response msgid c nil) (sym e.0), ap (λ x. reply msgid (Some x) nil) e.1)
outcome_is msgid cause result s h = (cc)

reply_is : (msgid cause result : Tree) (s : Sent) → reply_in msgid cause result ≡ Some s → IsTold (items (integer (pos 1) ∷ msgid ∷ cause ∷ result ∷ [])) s
reply_is msgid cause result s h =
    let n = step_is (msgid_in msgid) _ s h in
    let P : Tree → Type 0 = λ m. IsTold (items (integer (pos 1) ∷ m ∷ cause ∷ result ∷ [])) s in
    subst P (sym (msgid_is msgid n.0 n.1)) (outcome_is n.0 cause result s n.2)

lines_made : (buffer tick first last lines : Tree) (b t f l : ℤ) (ls : Trees) (s : Sent) →
    buffer ≡ buffer_handle b → tick ≡ integer t → first ≡ integer f → last ≡ integer l → lines ≡ list ls → Some (lines_event b t f l ls) ≡ Some s →
    IsTold (notification lines_name (buffer ∷ tick ∷ first ∷ last ∷ lines ∷ truth false ∷ [])) s
unfolding message_tree
lines_made buffer tick first last lines b t f l ls s eb et ef el els h =
    let e : lines_event b t f l ls ≡ s = (cc) in
    let P : Sent → Type 0 = λ x. IsTold (notification lines_name (buffer ∷ tick ∷ first ∷ last ∷ lines ∷ truth false ∷ [])) x in
    let k : message_tree (lines_event b t f l ls) ≡ notification lines_name (buffer ∷ tick ∷ first ∷ last ∷ lines ∷ truth false ∷ []) = (cc) in
    subst P e (k, refl)

lines_are : (buffer tick first last lines : Tree) (s : Sent) → lines_in buffer tick first last lines ≡ Some s →
    IsTold (notification lines_name (buffer ∷ tick ∷ first ∷ last ∷ lines ∷ truth false ∷ [])) s
lines_are buffer tick first last lines s h =
    let b = step_is (buffer_in buffer) _ s h in
    let t = step_is (integer_of tick) _ s b.2 in
    let f = step_is (integer_of first) _ s t.2 in
    let l = step_is (integer_of last) _ s f.2 in
    let ls = step_is (params_in lines) _ s l.2 in
    lines_made buffer tick first last lines b.0 t.0 f.0 l.0 ls.0 s (buffer_is buffer b.0 b.1) (integer_is tick t.0 t.1) (integer_is first f.0 f.1) (integer_is last l.0 l.1) (params_is lines ls.0 ls.1) ls.2

tick_made : (buffer tick : Tree) (b t : ℤ) (s : Sent) → buffer ≡ buffer_handle b → tick ≡ integer t → Some (tick_event b t) ≡ Some s →
    IsTold (notification tick_name (buffer ∷ tick ∷ [])) s
unfolding message_tree
tick_made buffer tick b t s eb et h =
    let e : tick_event b t ≡ s = (cc) in
    let P : Sent → Type 0 = λ x. IsTold (notification tick_name (buffer ∷ tick ∷ [])) x in
    let k : message_tree (tick_event b t) ≡ notification tick_name (buffer ∷ tick ∷ []) = (cc) in
    subst P e (k, refl)

tick_is : (buffer tick : Tree) (s : Sent) → tick_in buffer tick ≡ Some s → IsTold (notification tick_name (buffer ∷ tick ∷ [])) s
tick_is buffer tick s h =
    let b = step_is (buffer_in buffer) _ s h in
    let t = step_is (integer_of tick) _ s b.2 in
    tick_made buffer tick b.0 t.0 s (buffer_is buffer b.0 b.1) (integer_is tick t.0 t.1) t.2

detach_is : (buffer : Tree) (s : Sent) → option_map detach_event (buffer_in buffer) ≡ Some s → IsTold (notification detach_name (buffer ∷ [])) s
unfolding message_tree
detach_is buffer s h =
    let b = map_is detach_event (buffer_in buffer) s h in
    let P : Sent → Type 0 = λ x. IsTold (notification detach_name (buffer ∷ [])) x in
    subst P b.2 (ap (λ x. notification detach_name (x ∷ [])) (sym (buffer_is buffer b.0 b.1)), refl)

fault_event_is : (kind words : Tree) (s : Sent) → option_map fault_event (fault_in kind words) ≡ Some s → IsTold (notification fault_name (kind ∷ words ∷ [])) s
unfolding message_tree
fault_event_is kind words s h =
    let f = map_is fault_event (fault_in kind words) s h in
    let e = fault_is kind words f.0 f.1 in
    let P : Sent → Type 0 = λ x. IsTold (notification fault_name (kind ∷ words ∷ [])) x in
    subst P f.2
    (ap (λ x. notification fault_name (x ∷ text f.0.words ∷ [])) (sym e.kind_read) ∙ ap (λ x. notification fault_name (kind ∷ x ∷ [])) (sym e.words_read), ap fault_event e.no_code)

named : (name known : List ℕ) (ts : List Tree) (s : Sent) → bytes_eq name known ≡ true → IsTold (notification known ts) s → IsTold (notification name ts) s
named name known ts s h told_so =
    let P : List ℕ → Type 0 = λ n. IsTold (notification n ts) s in
    subst P (sym ((bytes_eq-Decides name known).0 h)) told_so

event_of_two_is : (name : List ℕ) (a b : Tree) (s : Sent) → event_of_two name a b ≡ Some s → IsTold (notification name (a ∷ b ∷ [])) s
event_of_two_is name a b s h =
    elim (choice_is (bytes_eq name tick_name) (tick_in a b) _ s h) [
      | inl x ↦ named name tick_name (a ∷ b ∷ []) s x.0 (tick_is a b s x.1)
      | inr y ↦ let z = test_is (bytes_eq name fault_name) (option_map fault_event (fault_in a b)) s y in
          named name fault_name (a ∷ b ∷ []) s z.0 (fault_event_is a b s z.1)
    ]

event_is : (name : List ℕ) (ts : Trees) (s : Sent) → event_of name ts ≡ Some s → IsTold (list (one (integer (pos 2)) (one (text name) (one (list ts) no_more)))) s
event_is name (one a (one b (one c (one d (one e (one more no_more)))))) s h =
    let x = test_is (is_false more) (if bytes_eq name lines_name then lines_in a b c d e else None) s h in
    let y = test_is (bytes_eq name lines_name) (lines_in a b c d e) s x.1 in
    let P : Tree → Type 0 = λ m. IsTold (notification name (a ∷ b ∷ c ∷ d ∷ e ∷ m ∷ [])) s in
    subst P (sym (false_is more x.0)) (named name lines_name (a ∷ b ∷ c ∷ d ∷ e ∷ truth false ∷ []) s y.0 (lines_are a b c d e s y.1))
event_is name (one a (one b no_more)) s h = event_of_two_is name a b s h
event_is name (one a no_more) s h =
    let x = test_is (bytes_eq name detach_name) (option_map detach_event (buffer_in a)) s h in
    named name detach_name (a ∷ []) s x.0 (detach_is a s x.1)
event_is name _ s h = (cc)

notification_is : (name arguments : Tree) (s : Sent) → event_in name arguments ≡ Some s → IsTold (items (integer (pos 2) ∷ name ∷ arguments ∷ [])) s
notification_is name arguments s h =
    let n = step_is (text_in name) _ s h in
    let ts = step_is (params_in arguments) _ s n.2 in
    let P : Tree → Type 0 = λ x. IsTold (items (integer (pos 2) ∷ x ∷ arguments ∷ [])) s in
    let Q : Tree → Type 0 = λ x. IsTold (items (integer (pos 2) ∷ text n.0 ∷ x ∷ [])) s in
    subst P (sym (text_is name n.0 n.1)) (subst Q (sym (params_is arguments ts.0 ts.1)) (event_is n.0 ts.0 s ts.2))

pub read_is_told : ReadIsTold
unfolding message_in
read_is_told (list (one kind (one msgid (one cause (one result no_more))))) s h =
    let x = test_is (is_number (pos 1) kind) (reply_in msgid cause result) s h in
    let P : Tree → Type 0 = λ k. IsTold (items (k ∷ msgid ∷ cause ∷ result ∷ [])) s in
    subst P (sym (number_is (pos 1) kind x.0)) (reply_is msgid cause result s x.1)
read_is_told (list (one kind (one name (one arguments no_more)))) s h =
    let x = test_is (is_number (pos 2) kind) (event_in name arguments) s h in
    let P : Tree → Type 0 = λ k. IsTold (items (k ∷ name ∷ arguments ∷ [])) s in
    subst P (sym (number_is (pos 2) kind x.0)) (notification_is name arguments s x.1)
read_is_told _ s h = (cc)

-- The value of a message that was read is the value that it was read from.
pub told_by : (t : Tree) (s : Sent) → message_in t ≡ Some s → message_tree s ≡ t
told_by t s h = (read_is_told t s h).0

-- A value that isn't read as a message is no message's value.
pub none_tells : (t : Tree) → message_in t ≡ None → (s : Sent) → IsTyped s → message_tree s ≡ t → ⊥
none_tells t h s typed e =
    let k : Some (message_as_read s) ≡ None = sym (told_is_read s typed) ∙ (ap message_in e ∙ h) in
    (cc)
