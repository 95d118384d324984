-- A reply without a fault is spelled piece by piece.
use Rattle.std.proofs.Common.{◌≡◌, ℕ, ◌<◌, ◌^◌, List, [], ◌∷◌, ◌++◌, length, map, refl, ap, sym, ◌∙◌, pos, Option, Some, None, Result, Ok, Err, is_ok, OnOk, if◌then◌else◌, arith}
use Rattle.std.proofs.lemmas.List.{append_assoc, append-nil}
use Rattle.nv_value.specs.Content.{Tree, nil, integer, trees_of}
use Rattle.nv_value.specs.View.{content}
use Rattle.nv_msgpack.specs.Shortest.{shortest, all_shortest, list_head, unsigned_spelling, HasSpelling}
use Rattle.nv_rpc.specs.Messages.{items, response}
use Rattle.nv_rpc.specs.Outcomes.{AreSpellable, atomic_content, bytes_left, call_result_content}
use Rattle.nv_rpc.specs.inside.Fronts.{atomic_head, response_head}
use Rattle.nv_rpc.specs.declared.outcome.AtomicResults.{AtomicResults}
use Rattle.nv_rpc.proofs.Puts.{all_spelled, count-map}

-- what a response without an error begins with
response_begins : (msgid : ℕ) (t : Tree) → shortest (response msgid nil t)
    ≡ (0x94 ∷ 1 ∷ []) ++ (shortest (integer (pos msgid)) ++ ((0xc0 ∷ []) ++ (shortest t ++ [])))
unfolding list_head unsigned_spelling
response_begins msgid t = refl

pub response_is : (msgid : ℕ) (t : Tree) → shortest (response msgid nil t) ≡ response_head msgid ++ shortest t
response_is msgid t =
    let id = shortest (integer (pos msgid)) in
    response_begins msgid t
    ∙ ap (λ (l : List ℕ). 0x94 ∷ 1 ∷ (id ++ ((0xc0 ∷ []) ++ l))) (append-nil (shortest t))
    ∙ ap (λ (l : List ℕ). 0x94 ∷ 1 ∷ l) (sym (append_assoc id (0xc0 ∷ []) (shortest t)))

-- its head was put
pub response_head_put : {T E : Type 0} (r : Result T E) (old head middle new : List ℕ) (msgid number : ℕ) → number ≡ msgid
    → head ≡ old ++ (0x94 ∷ 1 ∷ []) → middle ≡ head ++ unsigned_spelling number → new ≡ (if is_ok r then middle ++ (0xc0 ∷ []) else middle)
    → OnOk r (new ≡ old ++ response_head msgid)
response_head_put (Err e) old head middle new msgid number is h m n = tt
response_head_put (Ok x) old head middle new msgid number is h m n =
    let id = unsigned_spelling msgid in
    n
    ∙ ap (λ (l : List ℕ). l ++ (0xc0 ∷ [])) (m ∙ ap (λ (i : ℕ). head ++ unsigned_spelling i) is ∙ ap (λ (l : List ℕ). l ++ id) h)
    ∙ append_assoc (old ++ (0x94 ∷ 1 ∷ [])) id (0xc0 ∷ [])
    ∙ append_assoc old (0x94 ∷ 1 ∷ []) (id ++ (0xc0 ∷ []))

-- its result was put behind that
pub response_put : (old head new : List ℕ) (msgid : ℕ) (t : Tree) → head ≡ old ++ response_head msgid → new ≡ head ++ shortest t
    → new ≡ old ++ shortest (response msgid nil t)
response_put old head new msgid t h n =
    n
    ∙ ap (λ (l : List ℕ). l ++ shortest t) h
    ∙ append_assoc old (response_head msgid) (shortest t)
    ∙ ap (λ (l : List ℕ). old ++ l) (sym (response_is msgid t))

-- what results of calls one after another begin with
atomic_begins : (rs : List Tree) (stop : Tree) → shortest (items (items rs ∷ stop ∷ []))
    ≡ (0x92 ∷ []) ++ (shortest (items rs) ++ (shortest stop ++ []))
unfolding list_head
atomic_begins rs stop = refl

pub atomic_is : (a : AtomicResults) → shortest (atomic_content a)
    ≡ atomic_head (length a.results.items) ++ (all_spelled call_result_content a.results.items ++ shortest (content a.stop))
atomic_is a =
    let rs = map call_result_content a.results.items in
    let all = all_shortest (trees_of rs) in
    let n = length a.results.items in
    let s = shortest (content a.stop) in
    atomic_begins rs (content a.stop)
    ∙ ap (λ (k : ℕ). 0x92 ∷ ((list_head k ++ all) ++ (s ++ []))) (count-map call_result_content a.results.items)
    ∙ ap (λ (l : List ℕ). 0x92 ∷ ((list_head n ++ all) ++ l)) (append-nil s)
    ∙ ap (λ (l : List ℕ). 0x92 ∷ l) (append_assoc (list_head n) all s)

pub atomic_head_put : (old head new : List ℕ) (n : ℕ) → head ≡ old ++ (0x92 ∷ []) → new ≡ head ++ list_head n → new ≡ old ++ atomic_head n
atomic_head_put old head new n h e = e ∙ ap (λ (l : List ℕ). l ++ list_head n) h ∙ append_assoc old (0x92 ∷ []) (list_head n)

-- they were put
pub atomic_put : (a : AtomicResults) (old head middle new : List ℕ) → head ≡ old ++ atomic_head (length a.results.items)
    → middle ≡ head ++ all_spelled call_result_content a.results.items → new ≡ middle ++ shortest (content a.stop) → new ≡ old ++ shortest (atomic_content a)
atomic_put a old head middle new h m n =
    let all = all_spelled call_result_content a.results.items in
    let s = shortest (content a.stop) in
    n
    ∙ ap (λ (l : List ℕ). l ++ s) (m ∙ ap (λ (l : List ℕ). l ++ all) h)
    ∙ append_assoc (old ++ atomic_head (length a.results.items)) all s
    ∙ append_assoc old (atomic_head (length a.results.items)) (all ++ s)
    ∙ ap (λ (l : List ℕ). old ++ l) (sym (atomic_is a))

-- the front of a reply of them was put
pub atomic_front : (a : AtomicResults) (old head new : List ℕ) (msgid : ℕ) → head ≡ old ++ response_head msgid → new ≡ head ++ atomic_head (length a.results.items)
    → new ++ bytes_left (Some a) ≡ old ++ shortest (response msgid nil (atomic_content a))
atomic_front a old head new msgid h n =
    let rest = bytes_left (Some a) in
    ap (λ (l : List ℕ). l ++ rest) (n ∙ ap (λ (l : List ℕ). l ++ atomic_head (length a.results.items)) h)
    ∙ append_assoc (old ++ response_head msgid) (atomic_head (length a.results.items)) rest
    ∙ append_assoc old (response_head msgid) (atomic_head (length a.results.items) ++ rest)
    ∙ ap (λ (l : List ℕ). old ++ (response_head msgid ++ l)) (sym (atomic_is a))
    ∙ ap (λ (l : List ℕ). old ++ l) (sym (response_is msgid (atomic_content a)))

-- all of it was put
pub none_left : (old new all : List ℕ) → new ≡ old ++ all → new ++ bytes_left None ≡ old ++ all
none_left old new all e = append-nil new ∙ e

-- each of the results can be spelled
pub are_spellable : (a : AtomicResults) → HasSpelling (atomic_content a) → AreSpellable a
are_spellable a h = record { results = h.1.0.1; stop = h.1.1.0 }

pub few_results : (a : AtomicResults) → HasSpelling (atomic_content a) → length a.results.items < 2 ^ 32
few_results a h = omega (arith, h.1.0.0, count-map call_result_content a.results.items)
