-- Lists of so many values are no parts of a book.
use Rattle.std.proofs.Common.{◌≡◌, ℕ, ◌<◌, ◌≤◌, Bool, false, List, [], ◌∷◌, length, get_or, Option, None, refl, sym, ap, ap₂, ◌∙◌, arith}
use Rattle.std.specs.Prelude.{if◌then◌else◌}
use Rattle.nv_value.specs.Content.{list}
use Rattle.nv_value.specs.View.{content, contents}
use Rattle.nv_value.specs.declared.value.Value.{Value}
use Rattle.nv_book.specs.Headings.{Heading, is_letter, opening_in, closing_in, taking_in, asking_in, short_in, asked_in, entry_count_in, outbox_in}

pub no_end_below : (vs : List Value) → length vs < 2 → None ≡ entry_count_in (list (contents vs))
unfolding entry_count_in
no_end_below [] h = refl
no_end_below (a ∷ []) h = refl
no_end_below (a ∷ b ∷ vs) h = absurd (omega arith)

pub no_end_above : (vs : List Value) → 3 ≤ length vs → None ≡ entry_count_in (list (contents vs))
unfolding entry_count_in
no_end_above [] h = absurd (omega arith)
no_end_above (a ∷ []) h = absurd (omega arith)
no_end_above (a ∷ b ∷ []) h = absurd (omega arith)
no_end_above (a ∷ b ∷ c ∷ vs) h = refl

pub no_outbox_below : (vs : List Value) → length vs < 3 → None ≡ outbox_in (list (contents vs))
unfolding outbox_in
no_outbox_below [] h = refl
no_outbox_below (a ∷ []) h = refl
no_outbox_below (a ∷ b ∷ []) h = refl
no_outbox_below (a ∷ b ∷ c ∷ vs) h = absurd (omega arith)

pub no_outbox_above : (vs : List Value) → 4 ≤ length vs → None ≡ outbox_in (list (contents vs))
unfolding outbox_in
no_outbox_above [] h = absurd (omega arith)
no_outbox_above (a ∷ []) h = absurd (omega arith)
no_outbox_above (a ∷ b ∷ []) h = absurd (omega arith)
no_outbox_above (a ∷ b ∷ c ∷ []) h = absurd (omega arith)
no_outbox_above (a ∷ b ∷ c ∷ d ∷ vs) h = refl

-- ---- lists of a length, by their items

pub two_are : (vs : List Value) (a b : Value) → length vs ≡ 2 → a ≡ get_or vs 0 a → b ≡ get_or vs 1 b → vs ≡ a ∷ b ∷ []
two_are [] a b l p q = absurd (omega (arith, l))
two_are (u ∷ []) a b l p q = absurd (omega (arith, l))
two_are (u ∷ v ∷ []) a b l p q = ap₂ (λ (x y : Value). x ∷ y ∷ []) (sym p) (sym q)
two_are (u ∷ v ∷ w ∷ vs) a b l p q = absurd (omega (arith, l))

pub three_are : (vs : List Value) (a b c : Value) → length vs ≡ 3 → a ≡ get_or vs 0 a → b ≡ get_or vs 1 b → c ≡ get_or vs 2 c → vs ≡ a ∷ b ∷ c ∷ []
three_are [] a b c l p q r = absurd (omega (arith, l))
three_are (u ∷ vs) a b c l p q r = ap₂ (λ (x : Value) (xs : List Value). x ∷ xs) (sym p) (two_are vs b c (omega (arith, l)) q r)

pub four_are : (vs : List Value) (a b c d : Value) → length vs ≡ 4 → a ≡ get_or vs 0 a → b ≡ get_or vs 1 b → c ≡ get_or vs 2 c → d ≡ get_or vs 3 d → vs ≡ a ∷ b ∷ c ∷ d ∷ []
four_are [] a b c d l p q r s = absurd (omega (arith, l))
four_are (u ∷ vs) a b c d l p q r s = ap₂ (λ (x : Value) (xs : List Value). x ∷ xs) (sym p) (three_are vs b c d (omega (arith, l)) q r s)

six_are : (vs : List Value) (a b c d e f : Value) → length vs ≡ 6 → a ≡ get_or vs 0 a → b ≡ get_or vs 1 b → c ≡ get_or vs 2 c → d ≡ get_or vs 3 d → e ≡ get_or vs 4 e → f ≡ get_or vs 5 f
    → vs ≡ a ∷ b ∷ c ∷ d ∷ e ∷ f ∷ []
six_are [] a b c d e f l p q r s t o = absurd (omega (arith, l))
six_are (u ∷ []) a b c d e f l p q r s t o = absurd (omega (arith, l))
six_are (u ∷ v ∷ vs) a b c d e f l p q r s t o =
    ap₂ (λ (x y : Value). x ∷ y ∷ vs) (sym p) (sym q) ∙ ap (λ (xs : List Value). a ∷ b ∷ xs) (four_are vs c d e f (omega (arith, l)) r s t o)

pub opening_items : (vs : List Value) (a b : Value) → length vs ≡ 2 → a ≡ get_or vs 0 a → b ≡ get_or vs 1 b
    → short_in (list (contents vs)) ≡ (if is_letter 111 (content a) then opening_in (content b) else None)
unfolding short_in
opening_items vs a b l p q = ap (λ (xs : List Value). short_in (list (contents xs))) (two_are vs a b l p q)

pub closing_items : (vs : List Value) (a b c : Value) → length vs ≡ 3 → a ≡ get_or vs 0 a → b ≡ get_or vs 1 b → c ≡ get_or vs 2 c
    → short_in (list (contents vs)) ≡ (if is_letter 99 (content a) then closing_in (content b) (content c) else None)
unfolding short_in
closing_items vs a b c l p q r = ap (λ (xs : List Value). short_in (list (contents xs))) (three_are vs a b c l p q r)

pub taking_items : (vs : List Value) (a b c d : Value) → length vs ≡ 4 → a ≡ get_or vs 0 a → b ≡ get_or vs 1 b → c ≡ get_or vs 2 c → d ≡ get_or vs 3 d
    → short_in (list (contents vs)) ≡ (if is_letter 116 (content a) then taking_in (content b) (content c) (content d) else None)
unfolding short_in
taking_items vs a b c d l p q r s = ap (λ (xs : List Value). short_in (list (contents xs))) (four_are vs a b c d l p q r s)

pub no_short_items : (vs : List Value) → (length vs ≡ 2 → ⊥) → (length vs ≡ 3 → ⊥) → (length vs ≡ 4 → ⊥) → None ≡ short_in (list (contents vs))
unfolding short_in
no_short_items [] p q r = refl
no_short_items (a ∷ []) p q r = refl
no_short_items (a ∷ b ∷ []) p q r = absurd (p refl)
no_short_items (a ∷ b ∷ c ∷ []) p q r = absurd (q refl)
no_short_items (a ∷ b ∷ c ∷ d ∷ []) p q r = absurd (r refl)
no_short_items (a ∷ b ∷ c ∷ d ∷ e ∷ vs) p q r = refl

pub asking_items : (vs : List Value) (a b c d e f : Value) → length vs ≡ 6 → a ≡ get_or vs 0 a → b ≡ get_or vs 1 b → c ≡ get_or vs 2 c → d ≡ get_or vs 3 d → e ≡ get_or vs 4 e → f ≡ get_or vs 5 f
    → asked_in (list (contents vs)) ≡ (if is_letter 114 (content a) then asking_in (content b) (content c) (content d) (content e) (content f) else None)
unfolding asked_in
asking_items vs a b c d e f l p q r s t o = ap (λ (xs : List Value). asked_in (list (contents xs))) (six_are vs a b c d e f l p q r s t o)

-- a list that begins with another letter
pub no_asking_items : (vs : List Value) (a : Value) → length vs ≡ 6 → a ≡ get_or vs 0 a → is_letter 114 (content a) ≡ false → None ≡ asked_in (list (contents vs))
unfolding asked_in
no_asking_items [] a l p n = absurd (omega (arith, l))
no_asking_items (u ∷ []) a l p n = absurd (omega (arith, l))
no_asking_items (u ∷ v ∷ []) a l p n = absurd (omega (arith, l))
no_asking_items (u ∷ v ∷ w ∷ []) a l p n = absurd (omega (arith, l))
no_asking_items (u ∷ v ∷ w ∷ x ∷ []) a l p n = absurd (omega (arith, l))
no_asking_items (u ∷ v ∷ w ∷ x ∷ y ∷ []) a l p n = absurd (omega (arith, l))
no_asking_items (u ∷ v ∷ w ∷ x ∷ y ∷ z ∷ []) a l p n =
    sym (ap (λ (b : Bool). if b then asking_in (content v) (content w) (content x) (content y) (content z) else None) (ap (λ (k : Value). is_letter 114 (content k)) (sym p) ∙ n))
no_asking_items (u ∷ v ∷ w ∷ x ∷ y ∷ z ∷ k ∷ vs) a l p n = absurd (omega (arith, l))

pub no_asked_items : (vs : List Value) → (length vs ≡ 6 → ⊥) → None ≡ asked_in (list (contents vs))
unfolding asked_in
no_asked_items [] h = refl
no_asked_items (a ∷ []) h = refl
no_asked_items (a ∷ b ∷ []) h = refl
no_asked_items (a ∷ b ∷ c ∷ []) h = refl
no_asked_items (a ∷ b ∷ c ∷ d ∷ []) h = refl
no_asked_items (a ∷ b ∷ c ∷ d ∷ e ∷ []) h = refl
no_asked_items (a ∷ b ∷ c ∷ d ∷ e ∷ f ∷ []) h = absurd (h refl)
no_asked_items (a ∷ b ∷ c ∷ d ∷ e ∷ f ∷ g ∷ vs) h = refl
