-- Laws of answers, of events and of inverses.
use Rattle.std.proofs.Common.{◌≡◌, ℕ, pos, ◌+◌, ◌-◌, List, [], ◌∷◌, ◌++◌, length, take, drop, fold, refl, ap, sym, ◌∙◌, arith, Bool, false}
use Rattle.std.proofs.lemmas.List.{take_at, drop_at, take-append-drop, length-take-le, drop-drop}
use Rattle.std.proofs.lemmas.List.Elements.{All-head, All-tail}
use Rattle.nv_value.specs.declared.fault.ApiFault.{ApiFault}
use Rattle.nv_model.specs.Buffers.{Splice, text_after, inverse_splice, inverse_splices}
use Rattle.nv_model.specs.Standing.{IsWithin}
use Rattle.nv_model.specs.Laws.{RefusedKeepsEditor, FirstIsAnswered, EventsCountUp, InversesTakeBack}

pub refused_keeps_editor : RefusedKeepsEditor
refused_keeps_editor fault m = refl

abbrev Fails : Bool × ApiFault → Type 0
Fails f = f.0 ≡ false

pub first_is_answered : FirstIsAnswered
first_is_answered [] behind fault answer none = (refl, refl)
first_is_answered (f ∷ fs) behind fault answer none =
    let fails : f.0 ≡ false = All-head Fails f fs none in
    let rest = first_is_answered fs behind fault answer (All-tail Fails f fs none) in
    (rw fails rest.0, rw fails rest.1)

pub events_count_up : EventsCountUp
events_count_up text tick [] = refl
events_count_up text tick (s ∷ ss) = ap (λ (ts : List _). pos (tick + 1) ∷ ts) (events_count_up (text_after text s) (tick + 1) ss)

pub fold-append : {A B : Type 0} (f : B → A → B) (b : B) (xs ys : List A) → fold f b (xs ++ ys) ≡ fold f (fold f b xs) ys
fold-append f b [] ys = refl
fold-append f b (x ∷ xs) ys = fold-append f (f b x) xs ys

-- a text after a splice and its inverse
pub taken_back : (text : List ℕ) (s : Splice) → IsWithin text s → text_after (text_after text s) (inverse_splice text s) ≡ text
taken_back text s is =
    let front : take s.from (text_after text s) ≡ take s.from text =
    take_at (take s.from text) (s.bytes ++ drop s.until text) s.from (length-take-le s.from text (omega (arith, is.order, is.within))) in
    let rest : drop s.from (text_after text s) ≡ s.bytes ++ drop s.until text =
    drop_at (take s.from text) (s.bytes ++ drop s.until text) s.from (length-take-le s.from text (omega (arith, is.order, is.within))) in
    let behind : drop (s.from + length s.bytes) (text_after text s) ≡ drop s.until text =
    sym (drop-drop (length s.bytes) s.from (text_after text s))
    ∙ ap (drop (length s.bytes)) rest
    ∙ drop_at s.bytes (drop s.until text) (length s.bytes) refl in
    let removed : take (s.until - s.from) (drop s.from text) ++ drop s.until text ≡ drop s.from text =
    ap (λ (bs : List ℕ). take (s.until - s.from) (drop s.from text) ++ bs) (ap (λ (n : ℕ). drop n text) (omega (arith, is.order)) ∙ sym (drop-drop (s.until - s.from) s.from text))
    ∙ take-append-drop (s.until - s.from) (drop s.from text) in
    ap (λ (bs : List ℕ). bs ++ (take (s.until - s.from) (drop s.from text) ++ drop (s.from + length s.bytes) (text_after text s))) front
    ∙ ap (λ (bs : List ℕ). take s.from text ++ (take (s.until - s.from) (drop s.from text) ++ bs)) behind
    ∙ ap (λ (bs : List ℕ). take s.from text ++ bs) removed
    ∙ take-append-drop s.from text

pub inverses_take_back : InversesTakeBack
inverses_take_back text [] are = refl
inverses_take_back text (s ∷ ss) are =
    fold-append text_after (fold text_after (text_after text s) ss) (inverse_splices (text_after text s) ss) (inverse_splice text s ∷ [])
    ∙ ap (λ (t : List ℕ). text_after t (inverse_splice text s)) (inverses_take_back (text_after text s) ss are.1)
    ∙ taken_back text s are.0
