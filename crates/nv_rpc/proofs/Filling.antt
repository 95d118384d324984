-- Where a value has what the message that it tells holds.
use Rattle.std.proofs.Common.{◌≡◌, ℕ, zero, suc, ◌<◌, ℤ, List, [], ◌∷◌, length, slice_index_or, Option, Some, None, option_map, IsSome, Vec, Global, refl, ap, sym, subst, ◌∙◌, arith, rules}
use Rattle.nv_value.specs.Content.{Tree, Trees, nil, text, list}
use Rattle.nv_value.specs.View.{content, contents}
use Rattle.nv_value.specs.declared.value.Value.{Value, List as ListOf}
use Rattle.nv_value.proofs.Contents.{content-List}
use Rattle.nv_rpc.specs.Messages.{Sent, reply, lines_event, tick_event, detach_event, fault_event, message_tree}
use Rattle.nv_rpc.specs.inside.Outlines.{outline_of, tree_at, item_at, argument_at}
use Rattle.nv_rpc.specs.Received.{message_in, message_as_read, text_in}
use Rattle.nv_rpc.specs.Calls.{params_in}
use Rattle.nv_rpc.specs.declared.receiving.Outline.{Outline}
use Rattle.nv_rpc.specs.declared.receiving.Outline.TheVariants.{Success, Failure, Lines, Fault}
use Rattle.nv_rpc.proofs.Inverse.{map_is, read_is_told}

pub tree_at_is : (vs : List Value) (n : ℕ) (v : Value) → n < length vs → v ≡ slice_index_or vs n v → tree_at (contents vs) n ≡ Some (content v)
tree_at_is [] n v h e = absurd (omega arith)
tree_at_is (w ∷ vs) zero v h e = ap (λ x. Some (content x)) (sym e)
tree_at_is (w ∷ vs) (suc n) v h e = tree_at_is vs n v (omega arith) e

pub tree_at_within : (vs : List Value) (n : ℕ) → IsSome (tree_at (contents vs) n) → n < length vs
tree_at_within [] n h = absurd (search (rules, h))
tree_at_within (w ∷ vs) zero h = omega arith
tree_at_within (w ∷ vs) (suc n) h = let k : n < length vs = tree_at_within vs n h in omega arith

pub is_there : (o : Option Tree) (x : Tree) → o ≡ Some x → IsSome o
is_there o x e = let P : Option Tree → Type 0 = λ p. IsSome p in subst P (sym e) (search rules)

pub same_there : (o : Option Tree) (x y : Tree) → o ≡ Some x → o ≡ Some y → x ≡ y
same_there o x y e f = let k : Some x ≡ Some y = sym e ∙ f in (cc)

-- The value has a part at a place of its third item, and tells the message.
pub record Holds (t : Tree) (place : ℕ) (part : Tree) (s : Sent) : Type 0 where
  pub there : argument_at t place ≡ Some part
  pub read : message_in t ≡ Some s

pub has_part : (t : Tree) (place : ℕ) (part : Tree) (s : Sent) → Holds t place part s → IsSome (argument_at t place)
has_part t place part s h = is_there (argument_at t place) part h.there

pub part_is : (t : Tree) (place : ℕ) (part : Tree) (s : Sent) → Holds t place part s → (x : Tree) → argument_at t place ≡ Some x → x ≡ part
part_is t place part s h x e = same_there (argument_at t place) x part e h.there

pub is_text_of : (x : Tree) (words : List ℕ) → x ≡ text words → IsSome (text_in x)
is_text_of x words e = let P : Tree → Type 0 = λ y. IsSome (text_in y) in subst P (sym e) (search rules)

pub is_list_of : (x : Tree) (ts : Trees) → x ≡ list ts → IsSome (params_in x)
is_list_of x ts e = let P : Tree → Type 0 = λ y. IsSome (params_in y) in subst P (sym e) (search rules)

pub words_are : (x : Tree) (words found : List ℕ) → x ≡ text words → text_in x ≡ Some found → words ≡ found
words_are x words found e h = let k : Some found ≡ Some words = sym h ∙ ap text_in e in (cc)

pub lines_are : (x : Tree) (ts found : Trees) → x ≡ list ts → params_in x ≡ Some found → ts ≡ found
lines_are x ts found e h = let k : Some found ≡ Some ts = sym h ∙ ap params_in e in (cc)

-- The items of a value that is a list.
pub list_content : (v : Value) (items : Vec Value Global) → v ≡ ListOf items → content v ≡ list (contents items.items)
list_content v items e = ap content e ∙ content-List items

pub item_within : (v : Value) (items : Vec Value Global) (n : ℕ) → v ≡ ListOf items → IsSome (item_at (content v) n) → n < length items.items
item_within v items n e h =
    let P : Tree → Type 0 = λ t. IsSome (item_at t n) in
    tree_at_within items.items n (subst P (list_content v items e) h)

pub item_is : (v : Value) (items : Vec Value Global) (n : ℕ) (x : Value) → v ≡ ListOf items → n < length items.items → x ≡ slice_index_or items.items n x →
    item_at (content v) n ≡ Some (content x)
item_is v items n x e h f = ap (λ t. item_at t n) (list_content v items e) ∙ tree_at_is items.items n x h f

-- What the value of a reply with an error holds.
failure_of : (t : Tree) (s : Sent) (msgid kind : ℕ) → message_in t ≡ Some s → outline_of s ≡ Failure msgid kind →
    (words : List ℕ) × Holds t 1 (text words) (reply msgid (Some (record { kind = kind; code = 0; words = words })) nil)
unfolding message_tree
failure_of t (reply m None result) msgid kind h e = (cc)
failure_of t (reply m (Some fault) result) msgid kind h e =
    let k = read_is_told t (reply m (Some fault) result) h in
    let m_is : m ≡ msgid = (cc) in
    let kind_is : fault.kind ≡ kind = (cc) in
    let P : Tree → Type 0 = λ x. argument_at x 1 ≡ Some (text fault.words) in
    let same : message_as_read (reply m (Some fault) result) ≡ reply msgid (Some (record { kind = kind; code = 0; words = fault.words })) nil =
    ap (λ x. reply x (Some (record { kind = fault.kind; code = 0; words = fault.words })) nil) m_is
    ∙ ap (λ x. reply msgid (Some (record { kind = x; code = 0; words = fault.words })) nil) kind_is in
    (fault.words, record { there = subst P k.0 refl; read = h ∙ ap (λ x. Some x) (sym k.1 ∙ same) })
failure_of t (lines_event b c f l ls) msgid kind h e = (cc)
failure_of t (tick_event b c) msgid kind h e = (cc)
failure_of t (detach_event b) msgid kind h e = (cc)
failure_of t (fault_event fault) msgid kind h e = (cc)

-- What the value of an error event holds.
fault_of : (t : Tree) (s : Sent) (kind : ℕ) → message_in t ≡ Some s → outline_of s ≡ Fault kind →
    (words : List ℕ) × Holds t 1 (text words) (fault_event (record { kind = kind; code = 0; words = words }))
unfolding message_tree
fault_of t (reply m None result) kind h e = (cc)
fault_of t (reply m (Some fault) result) kind h e = (cc)
fault_of t (lines_event b c f l ls) kind h e = (cc)
fault_of t (tick_event b c) kind h e = (cc)
fault_of t (detach_event b) kind h e = (cc)
fault_of t (fault_event fault) kind h e =
    let k = read_is_told t (fault_event fault) h in
    let kind_is : fault.kind ≡ kind = (cc) in
    let P : Tree → Type 0 = λ x. argument_at x 1 ≡ Some (text fault.words) in
    let same : message_as_read (fault_event fault) ≡ fault_event (record { kind = kind; code = 0; words = fault.words }) =
    ap (λ x. fault_event (record { kind = x; code = 0; words = fault.words })) kind_is in
    (fault.words, record { there = subst P k.0 refl; read = h ∙ ap (λ x. Some x) (sym k.1 ∙ same) })

-- What the value of a lines event holds.
lines_of : (t : Tree) (s : Sent) (buffer tick first last : ℤ) → message_in t ≡ Some s → outline_of s ≡ Lines buffer tick first last →
    (ls : Trees) × Holds t 4 (list ls) (lines_event buffer tick first last ls)
unfolding message_tree
lines_of t (reply m None result) buffer tick first last h e = (cc)
lines_of t (reply m (Some fault) result) buffer tick first last h e = (cc)
lines_of t (lines_event b c f l ls) buffer tick first last h e =
    let k = read_is_told t (lines_event b c f l ls) h in
    let P : Tree → Type 0 = λ x. argument_at x 4 ≡ Some (list ls) in
    let same : lines_event b c f l ls ≡ lines_event buffer tick first last ls = (cc) in
    (ls, record { there = subst P k.0 refl; read = h ∙ ap (λ x. Some x) same })
lines_of t (tick_event b c) buffer tick first last h e = (cc)
lines_of t (detach_event b) buffer tick first last h e = (cc)
lines_of t (fault_event fault) buffer tick first last h e = (cc)

-- The same from the outline that was read.
pub failure_holds : (t : Tree) (outline : Outline) (msgid kind : ℕ) → option_map outline_of (message_in t) ≡ Some outline → outline ≡ Failure msgid kind →
    (words : List ℕ) × Holds t 1 (text words) (reply msgid (Some (record { kind = kind; code = 0; words = words })) nil)
failure_holds t outline msgid kind h e = let s = map_is outline_of (message_in t) outline h in failure_of t s.0 msgid kind s.1 (s.2 ∙ e)

pub fault_holds : (t : Tree) (outline : Outline) (kind : ℕ) → option_map outline_of (message_in t) ≡ Some outline → outline ≡ Fault kind →
    (words : List ℕ) × Holds t 1 (text words) (fault_event (record { kind = kind; code = 0; words = words }))
fault_holds t outline kind h e = let s = map_is outline_of (message_in t) outline h in fault_of t s.0 kind s.1 (s.2 ∙ e)

pub lines_hold : (t : Tree) (outline : Outline) (buffer tick first last : ℤ) → option_map outline_of (message_in t) ≡ Some outline →
    outline ≡ Lines buffer tick first last → (ls : Trees) × Holds t 4 (list ls) (lines_event buffer tick first last ls)
lines_hold t outline buffer tick first last h e =
    let s = map_is outline_of (message_in t) outline h in lines_of t s.0 buffer tick first last s.1 (s.2 ∙ e)

pub lines_same : (b t f l b' t' f' l' : ℤ) (x y : Trees) → b' ≡ b → t' ≡ t → f' ≡ f → l' ≡ l → x ≡ y →
    Some (lines_event b t f l x) ≡ Some (lines_event b' t' f' l' y)
lines_same b t f l b' t' f' l' x y eb et ef el e = (cc)

-- What the value of a reply without an error holds.
success_of : (t : Tree) (s : Sent) (msgid : ℕ) → message_in t ≡ Some s → outline_of s ≡ Success msgid →
    (result : Tree) × (item_at t 3 ≡ Some result) × (message_in t ≡ Some (reply msgid None result))
unfolding message_tree
success_of t (reply m None result) msgid h e =
    let k = read_is_told t (reply m None result) h in
    let m_is : m ≡ msgid = (cc) in
    let P : Tree → Type 0 = λ x. item_at x 3 ≡ Some result in
    (result, subst P k.0 refl, h ∙ ap (λ x. Some (reply x None result)) m_is)
success_of t (reply m (Some fault) result) msgid h e = (cc)
success_of t (lines_event b c f l ls) msgid h e = (cc)
success_of t (tick_event b c) msgid h e = (cc)
success_of t (detach_event b) msgid h e = (cc)
success_of t (fault_event fault) msgid h e = (cc)

pub success_holds : (t : Tree) (outline : Outline) (msgid : ℕ) → option_map outline_of (message_in t) ≡ Some outline → outline ≡ Success msgid →
    (result : Tree) × (item_at t 3 ≡ Some result) × (message_in t ≡ Some (reply msgid None result))
success_holds t outline msgid h e = let s = map_is outline_of (message_in t) outline h in success_of t s.0 msgid s.1 (s.2 ∙ e)

-- Where no outline was read, no message is.
pub not_read : (found : Option Outline) (s : Option Sent) → found ≡ None → found ≡ option_map outline_of s → s ≡ None
not_read found (Some s) e f = let k : Some (outline_of s) ≡ None = sym f ∙ e in (cc)
not_read found None e f = refl
